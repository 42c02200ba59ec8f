-- One replacement on an accepted list and its card, beside one entry of the ledger: the same answer, the same list, and list
-- and card accepted again.
use Rattle.answers.specs.declared.Refusal.{Refusal}
use Rattle.answers.specs.declared.Refusal.TheVariants.{Edit}
use Rattle.answers.specs.Answer.{Answer, done}
use Rattle.std.proofs.Common.{Ok, Err}
use mathlib.Core.Path.{◌≡◌, refl, sym, ap, ◌∙◌}
use mathlib.Core.Bool.{true, false}
use mathlib.Core.Logic.{⊎_elim}
use mathlib.Core.List.{List}
use Prim.Native.Nat.{ℕ, ◌-◌, ◌*◌}
use native.Mathlib.Omega.{arith}
use lib.ListN.{length, replicate, length-replicate}
use Rattle.layout.specs.Counts.{column_count}
use Rattle.fold.proofs.BoolLaws.{passes-or-fails, not-both}
use Rattle.layout.specs.List.{rows}
use Rattle.rows.specs.Tests.{size_test, rows_test}
use Rattle.rows.proofs.InRangeLaws.{passed-feeds}
use Rattle.rows.proofs.TestLaws.{size-passed, size-right}
use Rattle.rowwise.specs.WorkOut.{Worked, finished, refused, on_passed}
use Rattle.calculate.specs.Whole.{Result, ending, calculation, whole}
use Rattle.calculate.proofs.FrameLaws.{framed, calculation-frame}
use Rattle.change.specs.Edit.{put_list, EditFits, edit_right}
use Rattle.change.specs.Replace.{reworked, Replaced, outcome, replaced}
use Rattle.change.specs.Series.{Entry, calculated, kept, entered}
use Rattle.change.proofs.AcceptLaws.{whole-as, calculation-later, Accepts, accepts, accepted-length}
use Rattle.change.proofs.EditedLaws.{edited-length}
use Rattle.change.proofs.RefusalLaws.{Refuses}
use Rattle.change.proofs.ReworkLaws.{reworked-whole}
use Rattle.change.proofs.EditLaws.{edit-fits, fits-edit, edit-passes, edit-refuses}

-- the answer of the whole calculation does not depend on the card, where it has room
answer-same :
    (l c c' : List ℕ) → size_test (length l) (length c) ≡ done → size_test (length l) (length c') ≡ done → (whole l c).answer ≡
    (whole l c').answer
unfolding ending on_passed framed
answer-same l c c' s s' =
    ap (λ (r : Result). r.answer) (whole-as l c s) ∙ by_cases (rows_test l) refl ∙
    sym (ap (λ (r : Result). r.answer) (whole-as l c' s'))
  where
    by-work : (w : Worked) → (ending c w).answer ≡ (ending c' (framed (rows l * column_count) c' w)).answer
    by-work (finished d) = refl
    by-work (refused a) = refl

    by_cases :
        (t : Answer) → rows_test l ≡ t →
        (ending c (on_passed (rows_test l) (calculation l c))).answer ≡ (ending c' (on_passed (rows_test l) (calculation l c'))).answer
    by_cases (Ok _) e =
        let k = size-passed (length l) (length c) s in
        let k' = size-passed (length l) (length c') s' in
        rw (e, calculation-frame l (passed-feeds l e) c c' (omega (arith, k.card-room)) (omega (arith, k'.card-room))) (by-work (calculation l c))
    by_cases (Err a) e = rw e

pub edit-cases :
    {P : Type 0} (l : List ℕ) (place : ℕ) (row : List ℕ) → (EditFits l place row → edit_right l place row ≡ true → P) →
    (edit_right l place row ≡ false → P) → P
edit-cases l place row f g = ⊎_elim (λ e. f (edit-fits l place row e) e) g (passes-or-fails (edit_right l place row))

-- EDIT applies
pub replaced-edit :
    (l c : List ℕ) (place : ℕ) (row : List ℕ) → size_test (length l) (length c) ≡ done → edit_right l place row ≡ false →
    replaced l c place row ≡ record { answer = Err Edit; list = l; card = c; count = 0 }
unfolding replaced on_passed outcome
replaced-edit l c place row s e = rw (s, sym (edit-refuses l place row (λ f. not-both (fits-edit l place row f) e)))

-- EDIT does not apply
pub replaced-edited :
    (l c : List ℕ) (place : ℕ) (row : List ℕ) → size_test (length l) (length c) ≡ done → EditFits l place row →
    replaced l c place row ≡ outcome l c (put_list l (place - 1) row) (place - 1) (reworked (put_list l (place - 1) row) (place - 1) c)
unfolding replaced on_passed
replaced-edited l c place row s f = rw (s, sym (edit-passes l place row f))

module _ (l c₀ c : List ℕ) (x : Accepts l c₀ c) where
  pub size-again : size_test (length l) (length c) ≡ done
  size-again = rw (accepted-length l c₀ c x) x.size

  module _ (place : ℕ) (row : List ℕ) (f : EditFits l place row) where
    -- the whole calculation of the new list
    abbrev pub made : Worked
    made = on_passed (rows_test (put_list l (place - 1) row)) (calculation (put_list l (place - 1) row) c₀)

    made-size : size_test (length (put_list l (place - 1) row)) (length c₀) ≡ done
    made-size = rw (edited-length l place row f) x.size

    pub replaced-made : replaced l c place row ≡ outcome l c (put_list l (place - 1) row) (place - 1) made
    replaced-made = replaced-edited l c place row size-again f ∙ ap (outcome l c (put_list l (place - 1) row) (place - 1)) (reworked-whole l c₀ c x place row f)

    pub whole-made : whole (put_list l (place - 1) row) c₀ ≡ ending c₀ made
    whole-made = whole-as (put_list l (place - 1) row) c₀ made-size

    -- on the card as it stands the answer is the same
    pub made-answer : (whole (put_list l (place - 1) row) c₀).answer ≡ (whole (put_list l (place - 1) row) c).answer
    made-answer = answer-same (put_list l (place - 1) row) c₀ c made-size (rw (edited-length l place row f) size-again)

    pub made-refuses : (a : Refusal) → made ≡ refused a → Refuses a
    made-refuses a e = (calculation-later (put_list l (place - 1) row) c₀ a e).refuses

    -- the ledger's own room serves as well
    calculated-made : calculated (put_list l (place - 1) row) ≡ (ending c₀ made).answer
    unfolding calculated
    calculated-made =
        let l' = put_list l (place - 1) row in
        let k = size-passed (length l') (length c₀) made-size in
        let n : length (replicate {A = ℕ} (rows l' * column_count) 0) ≡ rows l' * column_count = length-replicate (rows l' * column_count) 0 in
        answer-same l' (replicate (rows l' * column_count) 0) c₀
        (sym (size-right (length l') (length (replicate {A = ℕ} (rows l' * column_count) 0)) k.whole-rows k.some-rows k.most-rows
        (omega arith))) made-size ∙
        ap (λ (r : Result). r.answer) whole-made

-- a replacement and an entry of the ledger
pub record Agrees (c₀ : List ℕ) (r : Replaced) (e : Entry) : Type 0 where
  pub answer : r.answer ≡ e.answer
  pub list : r.list ≡ e.list
  pub accepted : whole r.list c₀ ≡ record { answer = done; card = r.card }

pub one-agrees :
    (l c₀ c : List ℕ) → whole l c₀ ≡ record { answer = done; card = c } → (place : ℕ) (row : List ℕ) →
    Agrees c₀ (replaced l c place row) (entered l place row)
unfolding entered kept outcome ending
one-agrees l c₀ c g place row =
    edit-cases l place row
    (λ f e. rw (e, replaced-made l c₀ c x place row f, calculated-made l c₀ c x place row f) (by_cases f (made l c₀ c x place row f) refl))
    (λ e. rw (e, replaced-edit l c place row (size-again l c₀ c x) e) (record { answer = refl; list = refl; accepted = g }))
  where
    x : Accepts l c₀ c
    x = accepts l c₀ c g

    by_cases :
        (f : EditFits l place row) (w : Worked) → made l c₀ c x place row f ≡ w →
        Agrees c₀ (outcome l c (put_list l (place - 1) row) (place - 1) w) (kept l (put_list l (place - 1) row) (ending c₀ w).answer)
    by_cases f (finished d) q = record { answer = refl; list = refl; accepted = whole-made l c₀ c x place row f ∙ ap (ending c₀) q }
    by_cases f (refused a) q = record { answer = refl; list = rw (made-refuses l c₀ c x place row f a q).not_done; accepted = g }
