-- [01 §4], [02 §1, §3] 9 CARD: the numbers of a lent card that a replacement may start from, and the first row that is named where one is
-- out of range: as a reader would say it, and as the test that is proved to say exactly that. l is the list as it would be, i the replaced row.
-- Rows are counted from 0. Definitions only.
use Rattle.answers.specs.declared.Refusal.TheVariants.{Card}
use Rattle.answers.specs.Answer.{Answer, done}
use Rattle.std.specs.Prelude.{Bool, not, cond, List, ℕ, ◌+◌, ◌<◌, eqb, Option, Some, None, Err}
use Rattle.fold.specs.First.{first}
use Rattle.fold.specs.Fold.{every}
use Rattle.layout.specs.Card.{column, card_row_at, column_bounds_to}
use Rattle.layout.specs.Counts.{column_count}
use Rattle.layout.specs.Fields.{at_primary, in_bounds}
use Rattle.layout.specs.List.{rows, field}
use Rattle.layout.specs.Range.{CardRowInRange}
use Rattle.sides.specs.Sides.{setting_most}

-- "CARD holds lent pickups and cutoffs of secondary rows to 500,000, but those of the replaced row only to document 01's limits"
unfoldable pub lent_most : List ℕ → ℕ → ℕ → ℕ
lent_most l i j = cond (eqb j i) 100000000 (setting_most (field l j at_primary))

-- the card rows of all rows of the list are in range: pickups and cutoffs as above, delays to document 01's limit; "CARD also for a lent law not
-- of the three or a lent multiplier over 1,500 thousandths", so that a multiplier of 0 to 9, which is not available, may be lent
abbrev pub CardInRange : List ℕ → ℕ → List ℕ → Type 0
CardInRange l i c = (j : ℕ) → j < rows l → CardRowInRange (lent_most l i j) (card_row_at c j)

-- row j is the first whose card row is not
pub record FirstCardOut (l : List ℕ) (i : ℕ) (c : List ℕ) (j : ℕ) : Type 0 where
  pub inside : j < rows l
  pub rows_before : (m : ℕ) → m < j → CardRowInRange (lent_most l i m) (card_row_at c m)
  pub out : CardRowInRange (lent_most l i j) (card_row_at c j) → ⊥

-- what the test says of a list, its replaced row and a card
pub data CardGets (l : List ℕ) (i : ℕ) (c : List ℕ) : Answer → Type 0 where
  passed : CardInRange l i c → CardGets l i c done
  CARD : (j : ℕ) → FirstCardOut l i c j → CardGets l i c (Err (Card (j + 1)))

-- column k of card row j is within its bounds in a table; every column of it is; and in the row's own table
abbrev pub column_right : List ℕ → List ℕ → ℕ → ℕ → Bool
column_right table c j k = in_bounds table k (column c j k)

unfoldable pub within_table : List ℕ → List ℕ → ℕ → Bool
within_table table c j = every column_count (column_right table c j)

abbrev pub card_right : List ℕ → ℕ → List ℕ → ℕ → Bool
card_right l i c j = within_table (column_bounds_to (lent_most l i j)) c j

unfoldable pub card_answer : Option ℕ → Answer
card_answer (Some j) = Err (Card (j + 1))
card_answer None = done

unfoldable pub card_test : List ℕ → ℕ → List ℕ → Answer
card_test l i c = card_answer (first (λ j. not (card_right l i c j)) 0 (rows l))
