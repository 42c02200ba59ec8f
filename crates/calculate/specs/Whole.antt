-- [01 §4], [02 §2, §3] The whole calculation of a list lent as numbers, on a card lent as numbers: the answer, and the card afterwards.
-- The order is 2, 3, then 4 over all rows, then 5 over all rows, then row by row 11, 12 or 13 before 14, and 14 before 7. On a refusal the
-- card is unchanged.
-- Definitions only.
use Rattle.answers.specs.Answer.{Answer, done}
use Rattle.std.specs.Prelude.{List, ℕ, length, Ok, Err}
use Rattle.layout.specs.List.{rows}
use Rattle.rows.specs.Tests.{size_test, rows_test}
use Rattle.rowwise.specs.WorkOut.{Worked, finished, refused, work_out, up_from, on_passed}

pub record Result : Type 0 where
  pub answer : Answer
  pub card : List ℕ

-- how working out ends, the card being c before it
unfoldable pub ending : List ℕ → Worked → Result
ending c (finished c') = record { answer = done; card = c' }
ending c (refused a) = record { answer = Err a; card = c }

-- every row worked out, in ascending order
unfoldable pub calculation : List ℕ → List ℕ → Worked
calculation l c = work_out l (up_from 0 (rows l)) c

-- rows worked out with this answer, leaving this card
unfoldable pub worked_as : Answer → List ℕ → Worked
worked_as (Ok _) c = finished c
worked_as (Err a) c = refused a

unfoldable pub whole : List ℕ → List ℕ → Result
whole l c = ending c (on_passed (size_test (length l) (length c)) (on_passed (rows_test l) (calculation l c)))
