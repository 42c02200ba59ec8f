-- [01 §4], [02 §2, §3] DEMAND 1, for a list lent as numbers: the answer that it gets, each number exactly where it is due, all that comes before it
-- in the order (2, 3, 4 over all rows, 5 over all rows, then row by row 11, 12 or 13 before 14, and 14 before 7) absent. Definitions only.
use Rattle.answers.specs.declared.Refusal.TheVariants.{Count, Room, Field, Tree}
use Rattle.answers.specs.Answer.{Answer, done}
use Rattle.std.specs.Prelude.{List, ℕ, ◌+◌, length, Err}
use Rattle.layout.specs.View.{view_of, Settings}
use Rattle.rows.specs.InRange.{RightSize, HasRoom, InRange, FirstOutOfRange, Feeds, FirstMisfed}
use Rattle.calculate.specs.Meets.{Meets}
use Rattle.calculate.specs.Refused.{RefusedAt}

-- the list l with the lent card c
pub data Gets (l c : List ℕ) : Answer → Type 0 where
  COUNT : (RightSize l → ⊥) → Gets l c (Err Count)
  ROOM : RightSize l → (HasRoom l (length c) → ⊥) → Gets l c (Err Room)
  FIELD : RightSize l → HasRoom l (length c) → (i k : ℕ) → FirstOutOfRange l i k → Gets l c (Err (Field (i + 1) (k + 1)))
  TREE : RightSize l → HasRoom l (length c) → InRange l → (i : ℕ) → FirstMisfed l i → Gets l c (Err (Tree (i + 1)))
  UNSETTLED : {a : Answer} → RightSize l → HasRoom l (length c) → InRange l → Feeds l → RefusedAt (view_of l) a → Gets l c a
  DONE : RightSize l → HasRoom l (length c) → InRange l → Feeds l → (k : Settings) → Meets (view_of l) k → Gets l c done
