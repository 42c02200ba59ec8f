-- Which numbers the whole calculation gives a text's rows [01 §4]: 0 where it is done, never TEXT, and never ROOM, as the card has room for 256 rows.
use Rattle.answers.specs.declared.Refusal.TheVariants.{Text, Count, Room, Field, Tree, Unsettled, Study, Card, Edit, Input, Slope}
use Rattle.std.specs.Prelude.{Ok, Err}
use mathlib.Core.Path.{◌≡◌, refl}
use mathlib.Core.Bool.{true, false≢true}
use mathlib.Core.List.{List}
use Prim.Native.Nat.{ℕ, ◌+◌, ◌≤◌, ◌<◌}
use native.Mathlib.Omega.{arith}
use lib.Dec.{lit≤}
use lib.ListN.{length, get_or}
use Rattle.fold.proofs.BoolLaws.{not-both}
use Rattle.answers.specs.declared.Reason.TheVariants.{Pickup}
use Rattle.answers.specs.Answer.{given_by, Answer, done as all_well}
use Rattle.answers.proofs.AnswerLaws.{unsettled-above, unsettled-not-0}
use Rattle.layout.specs.Counts.{card_most}
use Rattle.layout.specs.View.{View}
use Rattle.rows.specs.InRange.{RightSize}
use Rattle.rows.proofs.ExactLaws.{size-rows}
use Rattle.calculate.specs.Gets.{Gets}
use Rattle.calculate.specs.Refused.{RefusedAt}
use Rattle.calculate.specs.Whole.{whole}
use Rattle.calculate.proofs.Demand1.{every-list-gets}
use Rattle.sheet.specs.Sheet.{blank_card, done}

-- an answer with the number 0 is done
pub given-done : (a : Answer) → done (given_by a) ≡ true → a ≡ all_well
given-done (Ok _) h = refl
given-done (Err (Text line)) h = absurd (false≢true h)
given-done (Err Count) h = absurd (false≢true h)
given-done (Err Room) h = absurd (false≢true h)
given-done (Err (Field row k)) h = absurd (false≢true h)
given-done (Err (Tree row)) h = absurd (false≢true h)
given-done (Err (Unsettled row why)) h = absurd (not-both h (unsettled-not-0 row why))
given-done (Err (Study place)) h = absurd (false≢true h)
given-done (Err (Card row)) h = absurd (false≢true h)
given-done (Err Edit) h = absurd (false≢true h)
given-done (Err (Input place)) h = absurd (false≢true h)
given-done (Err Slope) h = absurd (false≢true h)

pub blank-room : card_most ≤ length blank_card
unfolding blank_card
blank-room = lit≤ tt

-- a number that is neither 1 nor 3
pub record NoText (a : Answer) : Type 0 where
  pub not-text : get_or (given_by a) 0 0 ≡ 1 → ⊥
  pub not-room : get_or (given_by a) 0 0 ≡ 3 → ⊥

above-room : (a : Answer) → 3 < get_or (given_by a) 0 0 → NoText a
above-room a h = record { not-text = λ e. omega arith; not-room = λ e. omega arith }

refused-above : {v : View} {a : Answer} → RefusedAt v a → 3 < get_or (given_by a) 0 0
refused-above (RefusedAt.NO-PICKUP k i why u n) = omega (arith, unsettled-above (i + 1) (Pickup why))
refused-above (RefusedAt.CURVE k i x place u p n) = omega arith
refused-above (RefusedAt.DELAY k i x u p r n) = omega arith

pub whole-no-text : (l : List ℕ) → NoText (whole l blank_card).answer
whole-no-text l = of-gets ((every-list-gets l blank_card (whole l blank_card).answer).0 refl)
  where
    of-gets : {a : Answer} → Gets l blank_card a → NoText a
    of-gets (Gets.COUNT n) = record { not-text = λ e. omega arith; not-room = λ e. omega arith }
    of-gets (Gets.ROOM s n) = absurd (n (omega (arith, size-rows l s, blank-room)))
    of-gets (Gets.FIELD s r i k f) = above-room (Err (Field (i + 1) (k + 1))) (omega arith)
    of-gets (Gets.TREE s r a i f) = above-room (Err (Tree (i + 1))) (omega arith)
    of-gets (Gets.UNSETTLED {a = x} s r a b z) = above-room x (refused-above z)
    of-gets (Gets.DONE s r a b k m) = record { not-text = λ e. omega arith; not-room = λ e. omega arith }

-- COUNT says that the size is not right
pub count-size : {l c : List ℕ} {a : Answer} → Gets l c a → get_or (given_by a) 0 0 ≡ 2 → RightSize l → ⊥
count-size (Gets.COUNT n) e = n
count-size (Gets.ROOM s n) e = absurd (omega arith)
count-size (Gets.FIELD s r i k f) e = absurd (omega arith)
count-size (Gets.TREE s r a i f) e = absurd (omega arith)
count-size (Gets.UNSETTLED s r a b z) e = absurd (let h = refused-above z in omega arith)
count-size (Gets.DONE s r a b k m) e = absurd (omega arith)
