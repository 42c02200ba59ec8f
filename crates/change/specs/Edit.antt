-- [01 §4] 10 EDIT: which new rows fit into a list, as a reader would say it and as the test that is proved to say exactly that;
-- and the list with one in its place. Definitions only.
use Rattle.answers.specs.declared.Refusal.TheVariants.{Edit}
use Rattle.answers.specs.Answer.{Answer, done}
use Rattle.std.specs.Prelude.{◌≡◌, Bool, cond, ◌&&◌, List, ◌++◌, ℕ, ◌+◌, ◌-◌, ◌*◌, ◌≤◌, leb, eqb, length, get_or, take, drop, Err}
use Rattle.layout.specs.Counts.{field_count}
use Rattle.layout.specs.Fields.{at_feeder}
use Rattle.layout.specs.List.{rows, field}

-- the list with a new row in the place of row i, counted from 0
unfoldable pub put_list : List ℕ → ℕ → List ℕ → List ℕ
put_list l i row = take (i * field_count) l ++ row ++ drop (i * field_count + field_count) l

-- EDIT does not apply: the place is that of a row, the new row is 22 numbers, its field 1 is the place, its field 2 the list's there
pub record EditFits (l : List ℕ) (place : ℕ) (row : List ℕ) : Type 0 where
  pub from : 1 ≤ place
  pub to : place ≤ rows l
  pub row-length : length row ≡ field_count
  pub own-number : get_or row 0 0 ≡ place
  pub same-feeder : get_or row at_feeder 0 ≡ field l (place - 1) at_feeder

-- the test of it
unfoldable pub edit_right : List ℕ → ℕ → List ℕ → Bool
edit_right l place row =
    (leb 1 place && leb place (rows l)) && (eqb (length row) field_count &&
    (eqb (get_or row 0 0) place && eqb (get_or row at_feeder 0) (field l (place - 1) at_feeder)))

unfoldable pub edit_test : List ℕ → ℕ → List ℕ → Answer
edit_test l place row = cond (edit_right l place row) done (Err Edit)

-- row i of the list can be written: 22 numbers in the place of 22
pub record PutReady (l : List ℕ) (i : ℕ) (row : List ℕ) : Type 0 where
  pub in_list : i * field_count + field_count ≤ length l
  pub row-length : length row ≡ field_count
