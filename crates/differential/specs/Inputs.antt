-- [02 §11] The eight inputs in the order of their places, and the whole hundredths allowed in each. Inputs are counted from 0 here.
-- Definitions only.
use Rattle.std.specs.Prelude.{Bool, not, List, [], ◌∷◌, ℕ, get_or, Option}
use Rattle.fold.specs.First.{first}
use Rattle.layout.specs.Fields.{in_bounds}
use Rattle.differential.specs.declared.Inputs.{Inputs}

-- 1, the rated current
abbrev pub one : ℕ
one = 100

abbrev pub input_count : ℕ
input_count = 8

-- start, blocking, cutoff, through; first side, second side, differential, restraint
abbrev pub inputs_of : ℕ → ℕ → ℕ → ℕ → ℕ → ℕ → ℕ → ℕ → Inputs
inputs_of s b c t f g d r =
    record { start = s; blocking = b; cutoff = c; through = t; first = f; second = g; differential = d; restraint = r }

-- the least and the greatest number allowed in each
abbrev pub ranges : List ℕ
ranges =
    20 ∷ 100 ∷  -- start: 0.2 to 1.0
    150 ∷ 300 ∷  -- blocking: 1.5 to 3.0
    650 ∷ 1200 ∷  -- cutoff: 6.5 to 12.0
    100 ∷ 2000 ∷  -- through
    0 ∷ 10000 ∷  -- first side
    0 ∷ 10000 ∷  -- second side
    0 ∷ 10000 ∷  -- differential
    0 ∷ 10000 ∷  -- restraint
    []

abbrev pub values_of : Inputs → List ℕ
values_of x = x.start ∷ x.blocking ∷ x.cutoff ∷ x.through ∷ x.first ∷ x.second ∷ x.differential ∷ x.restraint ∷ []

-- number k of these is out of its range in the table
abbrev pub outside : List ℕ → List ℕ → ℕ → Bool
outside table values k = not (in_bounds table k (get_or values k 0))

-- "place, lowest first"
abbrev pub first_outside : Inputs → Option ℕ
first_outside x = first (outside ranges (values_of x)) 0 input_count
