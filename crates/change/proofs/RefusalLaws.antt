-- What a refusal is: none has the number of DONE, and only EDIT's own test gives that of EDIT.
use Rattle.answers.specs.declared.Refusal.{Refusal}
use Rattle.settle.specs.Outcomes.{Settled}
use Rattle.answers.specs.declared.Refusal.TheVariants.{Count, Room, Edit}
use Rattle.std.proofs.Common.{Option, Some, None, Ok, Err}
use mathlib.Core.Path.{◌≡◌, refl, sym, ap, ◌∙◌, subst}
use mathlib.Core.Bool.{Bool, true, false, cond, ◌&&◌}
use mathlib.Core.List.{List, [], ◌∷◌}
use Prim.Native.Nat.{ℕ, ◌+◌, ◌*◌, ◌/◌, ◌%◌}
use lib.Dec.{eqb, leb}
use Rattle.fold.specs.First.{first}
use Rattle.answers.specs.Answer.{number_of, Answer, done}
use Rattle.answers.proofs.AnswerLaws.{unsettled-not-0, unsettled-not-10}
use Rattle.layout.specs.declared.CardRow.{CardRow}
use Rattle.layout.specs.Card.{card_row_at, put_card_row}
use Rattle.layout.specs.Counts.{field_count, column_count, list_most}
use Rattle.layout.specs.View.{view_of}
use Rattle.rows.specs.Tests.{size_test, rows_test, field_answer, tree_test, tree_answer}
use Rattle.settle.specs.Settle.{shown, settled}
use Rattle.rowwise.specs.WorkOut.{Worked, finished, refused, on_settled, work_out, on_passed}
use Rattle.rowwise.proofs.EndLaws.{never-passed, never-finished, same_answer, same-refusal}
use Rattle.change.specs.Edit.{edit_right, edit_test}
use Rattle.change.specs.Replace.{reworked}
use Rattle.path.specs.CardTest.{card_test, card_answer}

-- a refusal: its number is not 0
pub record Refuses (a : Refusal) : Type 0 where
  pub not_done : eqb (number_of (Err a)) 0 ≡ false

-- a refusal other than EDIT
pub record Later (a : Refusal) : Type 0 where
  pub refuses : Refuses a
  pub not-edit : eqb (number_of (Err a)) 10 ≡ false

pub refuses-done : {a : Refusal} → Refuses a → Err a ≡ done → ⊥
refuses-done r e =
    let z : true ≡ false = sym (ap (λ (a : Answer). eqb (number_of a) 0) e) ∙ r.not_done in
    mathlib.Core.Bool.true≢false z

pub later-edit : {a : Refusal} → Later a → ◌≡◌ {A = Answer} (Err a) (Err Edit) → ⊥
later-edit r e =
    let z : true ≡ false = sym (ap (λ (a : Answer). eqb (number_of a) 10) e) ∙ r.not-edit in
    mathlib.Core.Bool.true≢false z

pub size-refuses : (len room : ℕ) (a : Refusal) → size_test len room ≡ Err a → Refuses a
unfolding size_test
size-refuses len room a = by_cases (eqb (len % field_count) 0 && (leb field_count len && leb len list_most)) (leb (column_count * (len / field_count)) room)
  where
    by_cases : (x y : Bool) → cond x (cond y done (Err Room)) (Err Count) ≡ Err a → Refuses a
    by_cases true true e = absurd (never-passed e)
    by_cases true false e = subst Refuses (same_answer e) (record { not_done = refl })
    by_cases false y e = subst Refuses (same_answer e) (record { not_done = refl })

pub edit-refuses : (l : List ℕ) (place : ℕ) (row : List ℕ) (a : Refusal) → edit_test l place row ≡ Err a → Refuses a
unfolding edit_test
edit-refuses l place row a = by_cases (edit_right l place row)
  where
    by_cases : (x : Bool) → cond x done (Err Edit) ≡ Err a → Refuses a
    by_cases true e = absurd (never-passed e)
    by_cases false e = subst Refuses (same_answer e) (record { not_done = refl })

pub rows-later : (l : List ℕ) (a : Refusal) → rows_test l ≡ Err a → Later a
unfolding rows_test tree_test field_answer tree_answer
rows-later l a = by_cases (first _ 0 _) (first _ 0 _)
  where
    by_cases : (f g : Option ℕ) → field_answer l (tree_answer g) f ≡ Err a → Later a
    by_cases (Some i) g e = subst Later (same_answer e) (record { refuses = record { not_done = refl }; not-edit = refl })
    by_cases None (Some i) e = subst Later (same_answer e) (record { refuses = record { not_done = refl }; not-edit = refl })
    by_cases None None e = absurd (never-passed e)

card-later : (l : List ℕ) (i : ℕ) (c : List ℕ) (a : Refusal) → card_test l i c ≡ Err a → Later a
unfolding card_test card_answer
card-later l i c a = by_cases (first _ 0 _)
  where
    by_cases : (f : Option ℕ) → card_answer f ≡ Err a → Later a
    by_cases (Some i) e = subst Later (same_answer e) (record { refuses = record { not_done = refl }; not-edit = refl })
    by_cases None e = absurd (never-passed e)

pub work-later : (l is c : List ℕ) (a : Refusal) → work_out l is c ≡ refused a → Later a
unfolding work_out on_settled
work-later l [] c a e = absurd (never-finished (sym e))
work-later l (i ∷ is) c a e = by_cases (settled (view_of l) (card_row_at c) i) e (λ k. work-later l is (put_card_row c i k) a)
  where
    by_cases :
        (s : Settled) → on_settled i s (λ k. work_out l is (put_card_row c i k)) ≡ refused a →
        ((k : CardRow) → work_out l is (put_card_row c i k) ≡ refused a → Later a) → Later a
    by_cases (Ok o) e ih = ih (shown o) e
    by_cases (Err why) e ih =
        subst Later (same-refusal e) (record { refuses = record { not_done = unsettled-not-0 (i + 1) why }; not-edit = unsettled-not-10 (i + 1) why })

-- a refusal after a test is the test's or what comes next's
module _ (t : Answer) (w : Worked) where
  pub passed-refused :
      (P : Refusal → Type 0) → ((a : Refusal) → t ≡ Err a → P a) → ((a : Refusal) → w ≡ refused a → P a) → (a : Refusal) →
      on_passed t w ≡ refused a →
      P a
  unfolding on_passed
  passed-refused P f g a = by_cases t refl
    where
      by_cases : (t' : Answer) → t ≡ t' → on_passed t' w ≡ refused a → P a
      by_cases (Ok _) q e = g a e
      by_cases (Err b) q e = f a (q ∙ ap Err (same-refusal e))

  pub passed-finished : (c : List ℕ) → on_passed t w ≡ finished c → (t ≡ done) × (w ≡ finished c)
  unfolding on_passed
  passed-finished c = by_cases t
    where
      by_cases : (t' : Answer) → on_passed t' w ≡ finished c → (t' ≡ done) × (w ≡ finished c)
      by_cases (Ok _) e = (refl, e)
      by_cases (Err b) e = absurd (never-finished e)

pub reworked-later : (l : List ℕ) (i : ℕ) (c : List ℕ) (a : Refusal) → reworked l i c ≡ refused a → Later a
unfolding reworked
reworked-later l i c =
    passed-refused _ _ Later (rows-later l) (passed-refused _ _ Later (card-later l i c) (work-later l _ c))
