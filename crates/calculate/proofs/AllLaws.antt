-- The loop over all rows: the rows below i are done, and what is left of the calculation is that of the rows from i on.
use Rattle.answers.specs.declared.Refusal.{Refusal}
use Rattle.settle.specs.declared.Fed.{Fed}
use Rattle.settle.specs.Outcomes.{Settled}
use Rattle.answers.specs.Answer.{Answer, done}
use Rattle.std.proofs.Common.{Ok, Err}
use mathlib.Core.Path.{◌≡◌, refl, sym, ap, ◌∙◌, subst}
use mathlib.Core.Bool.{Bool, true, ◌||◌}
use mathlib.Core.Logic.{⊎_elim}
use mathlib.Core.List.{List, ◌++◌}
use Prim.Native.Nat.{ℕ, zero, suc, ◌+◌, ◌-◌, ◌≤◌, ◌<◌}
use native.Mathlib.Nat.{sub-zero, zero-add}
use native.Mathlib.Numerals.{add-one}
use native.Mathlib.Omega.{arith}
use lib.Dec.{ltb, eqb}
use lib.ListN.{length, take, drop}
use lib.Seq.{paste, take-length, length-take-le}
use borrow.Author.Tests.{lt-ltb, le-ltb, ltb-true, eqb-true, eqb-false}
use Rattle.fold.proofs.BoolLaws.{passes-or-fails, same_test}
use Rattle.layout.specs.declared.CardRow.{CardRow}
use Rattle.layout.specs.Card.{card_row_at, put_card_row}
use Rattle.layout.specs.List.{rows}
use Rattle.layout.specs.View.{view_of}
use Rattle.settle.specs.Conditions.{fed}
use Rattle.settle.specs.Settle.{shown, settled}
use Rattle.settle.proofs.SameLaws.{fed-below}
use Rattle.rowwise.specs.Ready.{WorkReady, RowsReady, Stepped}
use Rattle.rowwise.specs.Sums.{Step, step_by, settled_at, step, steps}
use Rattle.rowwise.specs.WorkOut.{Worked, refused, on_settled, work_out, up_from}
use Rattle.rowwise.specs.Working.{Working, Unworked, every_row}
use Rattle.rowwise.proofs.EndLaws.{never-passed, same_answer}
use Rattle.rowwise.proofs.StartLaws.{work_start}
use Rattle.rowwise.proofs.StepsLaws.{steps_next, steps-over}
use Rattle.rowwise.proofs.WorkingLaws.{work-ready, work-settles, settled-to, work-next}
use Rattle.calculate.specs.Whole.{calculation, worked_as}

-- the rows below i are done
abbrev pub below : ℕ → ℕ → Bool
below i j = ltb j i

pub record Passing (l c₀ c : List ℕ) (s : List Fed) (i : ℕ) : Type 0 where
  pub within : i ≤ rows l
  pub working : Working l (below i) every_row c s
  pub left : work_out l (up_from i (rows l - i)) c ≡ calculation l c₀

all_start : (l c : List ℕ) (s : List Fed) → Unworked l c s → Passing l c c s 0
unfolding calculation
all_start l c s a =
    record {
      within = omega arith;
      working = work_start l c s a (below 0) every_row (λ j. le-ltb j 0 (omega arith));
      left = rw sub-zero;
    }

-- a row below i + 1 is below i or i
below_next : (i j : ℕ) → below (i + 1) j ≡ (below i j || eqb j i)
below_next i j =
    ⊎_elim
    (λ (t : eqb j i ≡ true). rw (t, mathlib.Core.Bool.or-true (below i j)) (let e = eqb-true j i t in lt-ltb j (i + 1) (omega arith)))
    (λ t.
    let n = eqb-false j i t in
    rw (t, mathlib.Core.Bool.or-false (below i j))
    (same_test _ _ (λ b. let l = ltb-true j (i + 1) b in lt-ltb j i (omega arith)) (λ b. let l = ltb-true j i b in lt-ltb j (i + 1) (omega arith))))
    (passes-or-fails (eqb j i))

-- row i is the next to be worked out
module _ (l c₀ c : List ℕ) (s : List Fed) (i : ℕ) (v : Passing l c₀ c s i) (h : i < rows l) where
  fed-done : (j : ℕ) → j < rows l → fed (view_of l) i j ≡ true → below i j ≡ true
  fed-done j b g = lt-ltb j i (fed-below l v.working.feeds i j b g)

  all-ready : WorkReady l i c s
  all-ready = work-ready l (below i) every_row c s v.working i h (λ f. refl) refl fed-done

  settles : settled_at l i c s ≡ settled (view_of l) (card_row_at c) i
  settles = work-settles l (below i) every_row c s v.working i h refl fed-done

  -- what follows row i's settings
  abbrev rest : CardRow → Worked
  rest k = work_out l (up_from (i + 1) (rows l - (i + 1))) (put_card_row c i k)

  goes_on :
      calculation l c₀ ≡
      on_settled i (settled_at l i c s) (λ k. work_out l (up_from (i + 1) (rows l - (i + 1))) (put_card_row c i k))
  unfolding work_out up_from
  goes_on =
      let e : rows l - i ≡ suc (rows l - suc i) = omega arith in
      sym v.left ∙
      rw (e, add-one i)
      (ap (λ (s : Settled). on_settled i s (λ k. work_out l (up_from (suc i) (rows l - suc i)) (put_card_row c i k))) (sym settles))

  all-refused :
      (t : Answer) (a : Refusal) (c' : List ℕ) (s' : List Fed) → t ≡ Err a → Stepped (step l i c s) t c' s' → calculation l c₀ ≡ worked_as
      (Err a) c'
  unfolding step worked_as step_by on_settled
  all-refused t a c' s' e z = goes_on ∙ by_cases (settled_at l i c s) (sym e ∙ z.answer)
    where
      by_cases : (o : Settled) → Err a ≡ (step_by l i c s o).tested → on_settled i o rest ≡ refused a
      by_cases (Ok o) e = absurd (never-passed (sym e))
      by_cases (Err why) e = ap refused (same_answer (sym e))

  all-next : (t : Answer) (c' : List ℕ) (s' : List Fed) → t ≡ done → Stepped (step l i c s) t c' s' → Passing l c₀ c' s' (i + 1)
  unfolding step step_by on_settled
  all-next t c' s' p z = by_cases (settled_at l i c s) refl z
    where
      by_cases :
          (o : Settled) → settled_at l i c s ≡ o → Stepped (step_by l i c s o) t c' s' → Passing l c₀ c' s' (i + 1)
      by_cases (Ok o) e z =
          rw (z.card, z.sums)
          (record {
            within = omega arith;
            working =
                work-next l (below i) every_row c s v.working i h (le-ltb i i (omega arith)) (below (i + 1)) (below_next i) every_row (λ j m. m) (shown o)
                (settled-to l (below i) every_row c s v.working i h o (sym e));
            left = sym (goes_on ∙ ap (λ (s : Settled). on_settled i s rest) e);
          })
      by_cases (Err why) e z = absurd (never-passed (sym p ∙ z.answer))

all_end : (l c₀ c : List ℕ) (s : List Fed) (i : ℕ) → Passing l c₀ c s i → rows l ≤ i → calculation l c₀ ≡ worked_as done c
unfolding work_out up_from worked_as
all_end l c₀ c s i v h =
    let e : rows l - i ≡ 0 = omega arith in
    sym v.left ∙ rw e

-- so all rows can be worked out one after the other, and come to the calculation
module _ (l c : List ℕ) (s : List Fed) (a : Unworked l c s) where
  -- the first n rows
  abbrev first_rows : ℕ → Step
  first_rows n = steps l 0 n c s

  -- one row more, after rows that passed and after a refusal
  next-step : (n : ℕ) → (first_rows n).tested ≡ done → first_rows (suc n) ≡ step l n (first_rows n).card (first_rows n).sums
  next-step n e =
      let q : 0 + n ≡ n = omega arith in
      ap first_rows (sym (add-one n)) ∙ steps_next l 0 c s n e ∙ ap (λ (k : ℕ). step l k (first_rows n).card (first_rows n).sums) q

  no_step : (n : ℕ) (b : Refusal) → (first_rows n).tested ≡ Err b → first_rows (suc n) ≡ first_rows n
  no_step n b e = ap first_rows (sym (add-one n)) ∙ steps-over l 0 c s n b e

  as-stepped : (z z' : Step) → z ≡ z' → Stepped z' z.tested z.card z.sums
  as-stepped z z' e = rw e (record { answer = refl; card = refl; sums = refl })

  none_passed : done ≡ (first_rows 0).tested
  unfolding steps
  none_passed = refl

  none-passing : Passing l c (first_rows 0).card (first_rows 0).sums 0
  unfolding steps
  none-passing = all_start l c s a

  passing : (n : ℕ) → n ≤ rows l → (first_rows n).tested ≡ done → Passing l c (first_rows n).card (first_rows n).sums n
  passing zero h p = none-passing
  passing (suc n) h p = by_cases (passing n (omega arith)) (first_rows n).tested refl
    where
      by_cases :
          ((first_rows n).tested ≡ done → Passing l c (first_rows n).card (first_rows n).sums n) → (t : Answer) → (first_rows n).tested ≡ t →
          Passing l c (first_rows (suc n)).card (first_rows (suc n)).sums (suc n)
      by_cases before (Ok _) e =
          subst (Passing l c (first_rows (suc n)).card (first_rows (suc n)).sums) (add-one n)
          (all-next l c (first_rows n).card (first_rows n).sums n (before e) (omega arith) (first_rows (suc n)).tested
          (first_rows (suc n)).card (first_rows (suc n)).sums p (as-stepped (first_rows (suc n)) _ (next-step n e)))
      by_cases before (Err b) e = absurd (never-passed (sym p ∙ ap (λ (z : Step). z.tested) (no_step n b e) ∙ e))

  refused-there : (n : ℕ) → n ≤ rows l → (b : Refusal) → (first_rows n).tested ≡ Err b → calculation l c ≡ refused b
  unfolding worked_as
  refused-there zero h b e = absurd (never-passed (none_passed ∙ e))
  refused-there (suc n) h b e = by_cases (refused-there n (omega arith) b) (first_rows n).tested refl
    where
      by_cases : ((first_rows n).tested ≡ Err b → calculation l c ≡ refused b) → (t : Answer) → (first_rows n).tested ≡ t → calculation l c ≡ refused b
      by_cases before (Ok _) q =
          all-refused l c (first_rows n).card (first_rows n).sums n (passing n (omega arith) q) (omega arith) (first_rows (suc n)).tested b
          (first_rows (suc n)).card (first_rows (suc n)).sums e (as-stepped (first_rows (suc n)) _ (next-step n q))
      by_cases before (Err d) q = before (sym (ap (λ (z : Step). z.tested) (no_step n d q)) ∙ e)

  pub all-rows-ready : RowsReady l 0 (rows l - 0) c s
  all-rows-ready =
      record {
        each =
            λ k h p.
            let e : 0 + k ≡ k = omega arith in
            rw e
            (all-ready l c (first_rows k).card (first_rows k).sums k (passing k (omega arith) p) (omega arith));
      }

  pub all-worked : (t : Answer) (c' : List ℕ) (s' : List Fed) → Stepped (steps l 0 (rows l - 0) c s) t c' s' → calculation l c ≡ worked_as t c'
  unfolding worked_as
  all-worked t c' s' z = by_cases t (sym y.answer)
    where
      y : Stepped (first_rows (rows l)) t c' s'
      y = rw sub-zero at z

      by_cases : (t : Answer) → (first_rows (rows l)).tested ≡ t → calculation l c ≡ worked_as t c'
      by_cases (Ok _) e = rw y.card (all_end l c _ _ (rows l) (passing (rows l) (omega arith) e) (omega arith))
      by_cases (Err b) e = refused-there (rows l) (omega arith) b e

-- the first n numbers of f copied over those of t
pub front-pasted : (t f : List ℕ) (n : ℕ) → n ≤ length f → paste t 0 (take n f) (length (take n f)) ≡ take n f ++ drop n t
front-pasted t f n h = rw (take-length (take n f), length-take-le n f h, zero-add)
