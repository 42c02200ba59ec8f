-- [01 §2, §4], [02 §1] A list of the right size, in range, its rows feeding as section 2 says, by inequalities; and where it is not, the first
-- row and field that is named. The tests of specs/Tests.antt are proved to say exactly this. Rows and fields are counted from 0.
-- Definitions only.
use Rattle.answers.specs.declared.Refusal.TheVariants.{Count, Room, Field, Tree}
use Rattle.answers.specs.Answer.{Answer, done}
use Rattle.std.specs.Prelude.{◌≡◌, ◌⊎◌, List, ℕ, ◌+◌, ◌-◌, ◌*◌, ◌≤◌, ◌<◌, length, Err}
use Rattle.layout.specs.Counts.{field_count, column_count, rows_most}
use Rattle.layout.specs.Fields.{at_primary, at_secondary}
use Rattle.layout.specs.List.{rows, field, row_at, bounds_at}
use Rattle.layout.specs.Range.{Within, named_count, Bounded}
use Rattle.sides.specs.Sides.{RatingsFit}

-- a list of 1 to 256 whole rows of 22 numbers
pub record RightSize (l : List ℕ) : Type 0 where
  pub count : ℕ
  pub whole-rows : length l ≡ count * field_count
  pub some : 1 ≤ count
  pub most : count ≤ rows_most

-- a lent card of so many numbers has 5 for each row
abbrev pub HasRoom : List ℕ → ℕ → Type 0
HasRoom l room = rows l * column_count ≤ room

-- row i is in range: its first field is its own number, the others lie within the table (those that are not named yet: there is none
-- today), low is at most high, and high at most 100,000,000 mA primary: high × primary / secondary, multiplied out
pub record RowInRange (l : List ℕ) (i : ℕ) : Type 0 where
  pub own-number : field l i 0 ≡ i + 1
  pub bounded : Bounded (row_at l i)
  pub not_named : (k : ℕ) → named_count ≤ k → k < field_count → Within (bounds_at l i) k (field l i k)
  pub low-at-most-high : (row_at l i).low.0 ≤ (row_at l i).high.0
  pub high-at-most : (row_at l i).high.0 * (row_at l i).ratio.primary ≤ 100000000 * (row_at l i).ratio.secondary

abbrev pub InRange : List ℕ → Type 0
InRange l = (i : ℕ) → i < rows l → RowInRange l i

-- each row but the last is fed by a row with a greater number, which is no motor (kind 3); the last has 0
pub record FedRightly (l : List ℕ) (i : ℕ) : Type 0 where
  pub last-has-0 : i + 1 ≡ rows l → (row_at l i).feeder ≡ 0
  pub by-a-greater : i + 1 < rows l → i + 1 < (row_at l i).feeder
  pub by-a-row : i + 1 < rows l → (row_at l i).feeder ≤ rows l
  pub by-no-motor : i + 1 < rows l → (row_at l ((row_at l i).feeder - 1)).kind ≡ 3 → ⊥

abbrev pub Feeds : List ℕ → Type 0
Feeds l = (i : ℕ) → i < rows l → FedRightly l i

-- field k of row i is right by itself: the first is the row's own number, the others lie within the table, and field 20 fits field 19
pub record FieldInRange (l : List ℕ) (i k : ℕ) : Type 0 where
  pub own-number : k ≡ 0 → field l i k ≡ i + 1
  pub within : 1 ≤ k → Within (bounds_at l i) k (field l i k)
  pub rating : k ≡ at_secondary → RatingsFit (field l i at_primary) (field l i k)

-- field k is the first of row i that is not right by itself; or all are, but low is above high, and k is field 12; or it is not, but high
-- is above its most, and k is field 13
pub record FirstWrong (l : List ℕ) (i k : ℕ) : Type 0 where
  pub inside : k < field_count
  pub fields-before : (m : ℕ) → m < k → FieldInRange l i m
  pub wrong : FieldInRange l i k → ⊥

pub record LowAboveHigh (l : List ℕ) (i k : ℕ) : Type 0 where
  pub fields-right : (m : ℕ) → m < field_count → FieldInRange l i m
  pub above : (row_at l i).high.0 < (row_at l i).low.0
  pub named : k + 1 ≡ 12

pub record HighAboveMost (l : List ℕ) (i k : ℕ) : Type 0 where
  pub fields-right : (m : ℕ) → m < field_count → FieldInRange l i m
  pub low-at-most-high : (row_at l i).low.0 ≤ (row_at l i).high.0
  pub above : 100000000 * (row_at l i).ratio.secondary < (row_at l i).high.0 * (row_at l i).ratio.primary
  pub named : k + 1 ≡ 13

-- 4 FIELD: row i is the first that is not in range, and field k is named
pub record FirstOutOfRange (l : List ℕ) (i k : ℕ) : Type 0 where
  pub inside : i < rows l
  pub rows_before : (j : ℕ) → j < i → RowInRange l j
  pub fault : FirstWrong l i k ⊎ (LowAboveHigh l i k ⊎ HighAboveMost l i k)

-- 5 TREE: row i is the first that is not fed as it must be
pub record FirstMisfed (l : List ℕ) (i : ℕ) : Type 0 where
  pub inside : i < rows l
  pub rows_before : (j : ℕ) → j < i → FedRightly l j
  pub misfed : FedRightly l i → ⊥

-- what the tests 2 and 3 say of a list, and on a list of the right size 4 and 5
pub data SizeGets (l : List ℕ) (room : ℕ) : Answer → Type 0 where
  passed : RightSize l → HasRoom l room → SizeGets l room done
  COUNT : (RightSize l → ⊥) → SizeGets l room (Err Count)
  ROOM : RightSize l → (HasRoom l room → ⊥) → SizeGets l room (Err Room)

pub data RowsGet (l : List ℕ) : Answer → Type 0 where
  passed : InRange l → Feeds l → RowsGet l done
  FIELD : (i k : ℕ) → FirstOutOfRange l i k → RowsGet l (Err (Field (i + 1) (k + 1)))
  TREE : (i : ℕ) → InRange l → FirstMisfed l i → RowsGet l (Err (Tree (i + 1)))
