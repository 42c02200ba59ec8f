-- [01 §4], [02 §2, §8] The replacement of one row of a list lent as numbers, on a card lent as numbers: the answer, the list and the
-- card afterwards, and how many rows were worked out. The order is 2, 3, 10, then 4 and 5 over the list as it would be, then 9 over
-- all rows, then 11, 12 or 13 before 14 and 14 before 7 along the path as far as the change goes, the other card rows read as they are found. A
-- refusal leaves list and card, and counts no row. Definitions only.
use Rattle.answers.specs.Answer.{Answer, done}
use Rattle.std.specs.Prelude.{List, ℕ, ◌-◌, length, Err}
use Rattle.rows.specs.Tests.{size_test, rows_test}
use Rattle.rowwise.specs.WorkOut.{Worked, finished, refused, work_out, on_passed}
use Rattle.change.specs.Edit.{put_list, edit_test}
use Rattle.path.specs.CardTest.{card_test}
use Rattle.path.specs.Reach.{reach}

-- row i of the list l is new: 4, 5, 9, then 11, 12 or 13, 14, 7 along the rows worked out
unfoldable pub reworked : List ℕ → ℕ → List ℕ → Worked
reworked l i c = on_passed (rows_test l) (on_passed (card_test l i c) (work_out l (reach l i c) c))

pub record Replaced : Type 0 where
  pub answer : Answer
  pub list : List ℕ
  pub card : List ℕ
  pub count : ℕ

-- how it ends, row i of l' being the new one: with the new list and card and the count of the rows worked out, or with a refusal and
-- the old ones
unfoldable pub outcome : List ℕ → List ℕ → List ℕ → ℕ → Worked → Replaced
outcome l c l' i (finished c') = record { answer = done; list = l'; card = c'; count = length (reach l' i c) }
outcome l c l' i (refused a) = record { answer = Err a; list = l; card = c; count = 0 }

unfoldable pub replaced : List ℕ → List ℕ → ℕ → List ℕ → Replaced
replaced l c place row =
    let l' = put_list l (place - 1) row in
    outcome l c l' (place - 1) (on_passed (size_test (length l) (length c)) (on_passed (edit_test l place row) (reworked l' (place - 1) c)))
