-- The pass over the rows off a path: the rows below j that are off the path are done, and `next` is the next row of the path.
use Rattle.std.proofs.Common.{Option, Some}
use Rattle.settle.specs.declared.Fed.{Fed}
use mathlib.Core.Path.{◌≡◌, refl, sym, ap, ◌∙◌, subst}
use mathlib.Core.Bool.{Bool, true, false, not, ◌&&◌, ◌||◌, or-false, and-true, and-false}
use mathlib.Core.Logic.{⊎_elim}
use mathlib.Core.List.{List}
use Prim.Native.Nat.{ℕ, ◌+◌, ◌≤◌, ◌<◌}
use native.Mathlib.Omega.{arith}
use lib.Dec.{ltb, eqb}
use borrow.Author.Tests.{lt-ltb, le-ltb, ltb-true, eqb-true, eqb-false, eq-eqb}
use Rattle.fold.proofs.BoolLaws.{passes-or-fails, same_test, not-both}
use Rattle.curve.specs.Curve.{setting_to}
use Rattle.curve.proofs.CurveLaws.{definite-setting, curve-setting}
use Rattle.layout.specs.declared.CardRow.{CardRow}
use Rattle.layout.specs.Card.{card_row_at}
use Rattle.layout.specs.List.{rows, row_at}
use Rattle.layout.specs.Range.{CardRowInRange}
use Rattle.rows.specs.InRange.{Feeds}
use Rattle.rows.proofs.InRangeLaws.{passed-feeds}
use Rattle.settle.specs.Conditions.{setting_of}
use Rattle.settle.specs.Fed.{CardBounded}
use Rattle.settle.proofs.TimeLaws.{by-law, is-curve, no-curve}
use Rattle.rowwise.specs.Sums.{pushed}
use Rattle.rowwise.specs.Working.{Working, every_row}
use Rattle.rowwise.proofs.StartLaws.{work_start}
use Rattle.path.specs.Path.{above_of, on_path}
use Rattle.path.specs.Ready.{FoundReady, RestReady}
use Rattle.path.proofs.PathLaws.{on_from, on-next, on-self, off-before, above-above}
use Rattle.path.proofs.PushLaws.{working-same, push-ready, push-next}
use Rattle.path.proofs.CardTestLaws.{lent_other, card-passed}

-- [02 §3] what a card row in range sets is in range for its law: a curve's multiplier, or a delay
card-setting : {most : ℕ} (s : CardRow) → CardRowInRange most s → setting_of s ≤ setting_to s.law
unfolding setting_of
card-setting s f =
    by-law s.law
    (λ e. rw (no-curve s.law e) (rw e (omega (arith, definite-setting.1, f.delay-to))))
    (λ n. rw (is-curve s.law n) (omega (arith, (curve-setting s.law n).1, f.multiplier-to)))

-- row k is below j and off the path of row i
abbrev pub rest : List ℕ → ℕ → ℕ → ℕ → Bool
rest l i j k = ltb k j && not (on_path l i k)

pub record Resting (l : List ℕ) (i : ℕ) (c : List ℕ) (s : List Fed) (next : Option ℕ) (j : ℕ) : Type 0 where
  pub working : Working l (rest l i j) every_row c s
  pub not-passed : (x : ℕ) → next ≡ Some x → (j ≤ x) × (x < rows l)
  pub left : (k : ℕ) → j ≤ k → on_path l i k ≡ on_from l working.feeds next k

module _ (l : List ℕ) (i : ℕ) (c : List ℕ) (s₀ : List Fed) (a : RestReady l i c s₀) where
  feeding : Feeds l
  feeding = passed-feeds l a.unworked.tested

  pub rest-start : Resting l i c s₀ (Some i) 0
  unfolding feeding
  rest-start =
      record {
        working =
            work_start l c s₀ a.unworked (rest l i 0) every_row (λ k. rw (le-ltb k 0 (omega arith)));
        not-passed = λ x e. let q : i ≡ x = cc in (omega arith, rw (← q) a.is_row);
        left = λ k _. refl;
      }

  -- row j is next
  module _ (s : List Fed) (next : Option ℕ) (j : ℕ) (v : Resting l i c s next j) (h : j < rows l) where
    rest-next : (k : ℕ) → rest l i (j + 1) k ≡ (rest l i j k || (eqb k j && not (on_path l i j)))
    rest-next k =
        ⊎_elim
        (λ (e : eqb k j ≡ true).
        let q = eqb-true k j e in
        rw (q, eq-eqb j j refl, lt-ltb j (j + 1) (omega arith), le-ltb j j (omega arith)))
        (λ (e : eqb k j ≡ false).
        let n = eqb-false k j e in
        rw (e, or-false (rest l i j k))
        (ap (λ (b : Bool). b && not (on_path l i k))
        (same_test (ltb k (j + 1)) (ltb k j) (λ t. lt-ltb k j (omega (arith, ltb-true k (j + 1) t)))
        (λ t. lt-ltb k (j + 1) (omega (arith, ltb-true k j t))))))
        (passes-or-fails (eqb k j))

    -- on the path it is passed over
    pub rest-skip :
        (s' : List Fed) (next' : Option ℕ) → next ≡ Some j → s' ≡ s → next' ≡ above_of l j → Resting l i c s' next' (j + 1)
    rest-skip s' next' e es q =
        let on : on_path l i j ≡ true = v.left j (omega arith) ∙ ap (λ (x : Option ℕ). on_from l v.working.feeds x j) e ∙ on-self l v.working.feeds j h in
        rw es
        (record {
          working =
              working-same l (rest l i j) (rest l i (j + 1)) every_row every_row c s
              (λ k _. sym (rest-next k ∙ rw (on, and-false (eqb k j), or-false (rest l i j k)))) (λ k m. m) v.working;
          not-passed = λ x g. let y = above-above l v.working.feeds j h x (sym q ∙ g) in (omega (arith, y.0), y.1);
          left =
              λ k b.
              v.left k (omega arith) ∙ ap (λ (x : Option ℕ). on_from l v.working.feeds x k) e ∙
              on-next l v.working.feeds j k h (omega arith) ∙ sym (ap (λ (x : Option ℕ). on_from l v.working.feeds x k) q);
        })

    -- off the path it is counted with the numbers found
    module _ (n : next ≡ Some j → ⊥) where
      off : on_path l i j ≡ false
      off = v.left j (omega arith) ∙ off-before l v.working.feeds next j before
        where
          before : (x : ℕ) → next ≡ Some x → (j < x) × (x < rows l)
          before x e =
              let y = v.not-passed x e in
              let m : j ≡ x → ⊥ = λ q. n (e ∙ ap (λ (x : ℕ). Some x) (sym q)) in
              (omega (arith, y.0, m), y.1)

      -- so it is not the replaced row
      other : j ≡ i → ⊥
      other e = not-both (on-self l v.working.feeds i a.is_row) (subst (λ (x : ℕ). on_path l i x ≡ false) e off)

      found : CardBounded (row_at l j) (card_row_at c j)
      found =
          let f = card-passed l i c a.card-tested j h in
          record {
            pickup-to = subst (λ (m : ℕ). (card_row_at c j).pickup.0 ≤ m) (lent_other l i j other) f.pickup-to;
            setting-to = card-setting (card_row_at c j) f;
          }

      pub rest-ready : FoundReady l j c s
      rest-ready =
          record {
            in_list = omega arith;
            in-card = omega (arith, a.unworked.card-room);
            push = push-ready l (rest l i j) every_row c s v.working j h found (λ _. refl);
          }

      pub rest-push :
          (s' : List Fed) (next' : Option ℕ) → s' ≡ pushed (row_at l j) (card_row_at c j) s → next' ≡ next →
          Resting l i c s' next' (j + 1)
      rest-push s' next' e en =
          rw (e, en)
          (record {
            working =
                push-next l (rest l i j) every_row c s v.working j h found
                (rw (le-ltb j j (omega arith))) (rest l i (j + 1)) (λ k. rest-next k ∙ rw (off, and-true (eqb k j)));
            not-passed =
                λ x e.
                let y = v.not-passed x e in
                let m : j ≡ x → ⊥ = λ q. n (e ∙ ap (λ (x : ℕ). Some x) (sym q)) in
                (omega (arith, y.0, m), y.1);
            left = λ k b. v.left k (omega arith);
          })

  -- all rows are passed
  pub rest_end :
      (s : List Fed) (next : Option ℕ) (j : ℕ) → Resting l i c s next j → rows l ≤ j →
      Working l (λ k. not (on_path l i k)) (on_path l i) c s
  rest_end s next j v h =
      working-same l (rest l i j) (λ k. not (on_path l i k)) every_row (on_path l i) c s
      (λ k b. rw (lt-ltb k j (omega arith))) (λ k _. refl) v.working
