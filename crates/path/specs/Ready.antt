-- What the functions of a path ask of their callers, and the shape of their promises. Definitions only.
use Rattle.settle.specs.declared.Fed.{Fed}
use Rattle.answers.specs.Answer.{done}
use Rattle.answers.specs.declared.Refusal.{Refusal}
use Rattle.std.specs.Prelude.{◌≡◌, not, List, ℕ, ◌+◌, ◌*◌, ◌<◌, ◌≤◌, length, Result, Ok, Err}
use Rattle.layout.specs.Card.{card_row_at, column_bounds_to}
use Rattle.layout.specs.Counts.{field_count, column_count, rows_most}
use Rattle.layout.specs.List.{rows, row_at}
use Rattle.rows.specs.Tests.{rows_test}
use Rattle.rowwise.specs.Ready.{PushReady}
use Rattle.rowwise.specs.WorkOut.{Worked, finished, refused, work_out}
use Rattle.rowwise.specs.Working.{Unworked, Working}
use Rattle.path.specs.Path.{on_path}
use Rattle.path.specs.CardTest.{card_test}

-- card row j can be tested: it is a row of the list, and the tables of a row without a ratio and of one with a ratio are at hand
pub record RowReady (l c unrated rated : List ℕ) (j : ℕ) : Type 0 where
  pub is_row : j < rows l
  pub in-card : j * column_count + column_count ≤ length c
  pub unrated-is : unrated ≡ column_bounds_to 100000000
  pub rated-is : rated ≡ column_bounds_to 500000

-- every row off the path of row i is done and none on it, and the sums hold what is asked of the rows on it
pub record ClimbReady (l : List ℕ) (i : ℕ) (c : List ℕ) (s : List Fed) : Type 0 where
  pub is_row : i < rows l
  pub working : Working l (λ j. not (on_path l i j)) (on_path l i) c s

-- what row j asks with the numbers found on the card can be added
pub record FoundReady (l : List ℕ) (j : ℕ) (c : List ℕ) (s : List Fed) : Type 0 where
  pub in_list : j * field_count + field_count ≤ length l
  pub in-card : j * column_count + column_count ≤ length c
  pub push : PushReady (row_at l j) (card_row_at c j) s

-- row i of a list of the right size, with room on the card
pub record ReworkReady (l : List ℕ) (i : ℕ) (c : List ℕ) : Type 0 where
  pub is_row : i < rows l
  pub rows-to : rows l ≤ rows_most
  pub card-room : rows l * column_count ≤ length c

-- the same, list and card tested
pub record PathReady (l : List ℕ) (i : ℕ) (c : List ℕ) : Type 0 where
  pub rework : ReworkReady l i c
  pub rows-tested : rows_test l ≡ done
  pub card-tested : card_test l i c ≡ done

-- the same, with sums that ask nothing
pub record RestReady (l : List ℕ) (i : ℕ) (c : List ℕ) (s : List Fed) : Type 0 where
  pub is_row : i < rows l
  pub card-tested : card_test l i c ≡ done
  pub unworked : Unworked l c s

-- how far a working out went: so many rows, or refused
abbrev pub HowFar : Type 0
HowFar = Result ℕ Refusal

-- how far the rows `is` went, worked out from the card c, and the card after it: refused, it is the card as it was
unfoldable pub far_of : List ℕ → Worked → HowFar
far_of is (finished c') = Ok (length is)
far_of is (refused a) = Err a

unfoldable pub card_of : List ℕ → Worked → List ℕ
card_of c (finished c') = c'
card_of c (refused a) = c

pub record Reworked (is : List ℕ) (w : Worked) (c : List ℕ) (f : HowFar) (c' : List ℕ) : Type 0 where
  pub far : f ≡ far_of is w
  pub card : c' ≡ card_of c w

-- the rows `is` worked out on the card c
abbrev pub WorkedOut : List ℕ → List ℕ → List ℕ → HowFar → List ℕ → Type 0
WorkedOut l is c f c' = Reworked is (work_out l is c) c f c'
