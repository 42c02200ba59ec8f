-- [01 §2], [02 §1, §3] The table of fields: their names by index, counted from 0, and the numbers allowed in each. Definitions only.
use Rattle.std.specs.Prelude.{Bool, ◌&&◌, List, [], ◌∷◌, ℕ, ◌+◌, ◌*◌, leb, get_or}

-- the fields by their index; index 0 is the row's own number
abbrev pub at_feeder : ℕ
at_feeder = 1

abbrev pub at_kind : ℕ
at_kind = 2

abbrev pub at_volts : ℕ
at_volts = 3

abbrev pub at_work : ℕ
at_work = 4

abbrev pub at_selfstart : ℕ
at_selfstart = 5

abbrev pub at_return : ℕ
at_return = 6

abbrev pub at_far : ℕ
at_far = 7

abbrev pub at_clear : ℕ
at_clear = 8

abbrev pub at_near : ℕ
at_near = 9

abbrev pub at_factor : ℕ
at_factor = 10

abbrev pub at_low : ℕ
at_low = 11

abbrev pub at_high : ℕ
at_high = 12

abbrev pub at_step : ℕ
at_step = 13

abbrev pub at_device : ℕ
at_device = 14

abbrev pub at_floor : ℕ
at_floor = 15

abbrev pub at_ceiling : ℕ
at_ceiling = 16

abbrev pub at_backed : ℕ
at_backed = 17

-- the rated primary and the rated secondary of the row's current transformer
abbrev pub at_primary : ℕ
at_primary = 18

abbrev pub at_secondary : ℕ
at_secondary = 19

-- the law of the row's time, and the greatest current at its near end
abbrev pub at_law : ℕ
at_law = 20

abbrev pub at_greatest : ℕ
at_greatest = 21

-- the least and the greatest number allowed in each field, in the order of section 2's table, then two of request §1 and two of §3; low, high
-- and step go to `most`
abbrev pub bounds_to : ℕ → List ℕ
bounds_to most =
    1 ∷ 256 ∷  -- row
    0 ∷ 256 ∷  -- feeds_from
    1 ∷ 3 ∷  -- kind
    100 ∷ 500000 ∷  -- volts
    1 ∷ 100000000 ∷  -- work
    1000 ∷ 10000 ∷  -- selfstart
    800 ∷ 1000 ∷  -- return
    1 ∷ 100000000 ∷  -- far
    1 ∷ 100000000 ∷  -- clear
    1 ∷ 100000000 ∷  -- near
    1000 ∷ 2000 ∷  -- factor
    1 ∷ most ∷  -- low
    1 ∷ most ∷  -- high
    1 ∷ most ∷  -- step
    1 ∷ 3 ∷  -- device
    0 ∷ 100000 ∷  -- floor
    0 ∷ 100000 ∷  -- ceiling
    0 ∷ 1 ∷  -- backed
    0 ∷ 20000 ∷  -- rated_primary
    0 ∷ 5 ∷  -- rated_secondary
    0 ∷ 2 ∷  -- law
    1 ∷ 100000000 ∷  -- near_greatest
    []

-- the least and the greatest number of entry k of such a table, and a number between them
abbrev pub least_in : List ℕ → ℕ → ℕ
least_in table k = get_or table (2 * k) 0

abbrev pub greatest_in : List ℕ → ℕ → ℕ
greatest_in table k = get_or table (2 * k + 1) 0

unfoldable pub in_bounds : List ℕ → ℕ → ℕ → Bool
in_bounds table k x = leb (least_in table k) x && leb x (greatest_in table k)
