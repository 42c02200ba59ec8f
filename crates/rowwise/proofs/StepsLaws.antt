-- Rows worked out one after the other: a refusal stays what it is, and one row is its own step. The loop over them has worked out those below
-- row i, none of which was refused.
use Rattle.answers.specs.declared.Refusal.{Refusal}
use Rattle.settle.specs.declared.Fed.{Fed}
use Rattle.answers.specs.Answer.{Answer, done}
use Rattle.std.proofs.Common.{Err}
use mathlib.Core.Path.{◌≡◌, sym, ap, ◌∙◌}
use mathlib.Core.List.{List}
use Prim.Native.Nat.{ℕ, zero, suc, ◌+◌, ◌-◌, ◌≤◌, ◌<◌}
use native.Mathlib.Nat.{add-zero}
use native.Mathlib.Numerals.{add-one}
use native.Mathlib.Omega.{arith}
use Rattle.rowwise.specs.Ready.{WorkReady, RowsReady, Stepped}
use Rattle.rowwise.specs.Sums.{Step, step, on_step, steps}

module _ (l : List ℕ) (i : ℕ) (c : List ℕ) (s : List Fed) where
  -- one row more, after rows that passed, and after a refusal
  pub steps_next :
      (n : ℕ) → (steps l i n c s).tested ≡ done →
      steps l i (n + 1) c s ≡ step l (i + n) (steps l i n c s).card (steps l i n c s).sums
  unfolding steps on_step
  steps_next n e = rw (add-one n, e)

  pub steps-over : (n : ℕ) (a : Refusal) → (steps l i n c s).tested ≡ Err a → steps l i (n + 1) c s ≡ steps l i n c s
  unfolding steps on_step
  steps-over n a e =
      rw (add-one n)
      (ap (λ (t : Answer). on_step t (steps l i n c s) (step l (i + n) (steps l i n c s).card (steps l i n c s).sums)) e)

  refused-so-many : (n d : ℕ) (a : Refusal) → (steps l i n c s).tested ≡ Err a → steps l i (n + d) c s ≡ steps l i n c s
  refused-so-many n zero a e = rw add-zero
  refused-so-many n (suc d) a e =
      let same = refused-so-many n d a e in
      let q : n + suc d ≡ n + d + 1 = omega arith in
      rw q (steps-over (n + d) a (ap (λ (z : Step). z.tested) same ∙ e) ∙ same)

  pub steps-refused : (n m : ℕ) (a : Refusal) → n ≤ m → (steps l i n c s).tested ≡ Err a → steps l i m c s ≡ steps l i n c s
  steps-refused n m a h e = let q : m ≡ n + (m - n) = omega arith in rw q (refused-so-many n (m - n) a e)

  pub one-row : steps l i (i + 1 - i) c s ≡ step l i c s
  unfolding steps on_step
  one-row = let e : i + 1 - i ≡ 1 = omega arith in rw (e, add-zero)

  pub one-row-ready : WorkReady l i c s → RowsReady l i (i + 1 - i) c s
  unfolding steps
  one-row-ready w = record { each = λ k h p. let e : k ≡ 0 = omega arith in rw (e, add-zero) w }

pub record Stepping (l : List ℕ) (from to : ℕ) (c₀ : List ℕ) (s₀ : List Fed) (c : List ℕ) (s : List Fed) (i : ℕ) : Type 0 where
  pub begun : from ≤ i
  pub within : i - from ≤ to - from
  pub passed : (steps l from (i - from) c₀ s₀).tested ≡ done
  pub card : c ≡ (steps l from (i - from) c₀ s₀).card
  pub sums : s ≡ (steps l from (i - from) c₀ s₀).sums

pub stepping-start : (l : List ℕ) (from to : ℕ) (c : List ℕ) (s : List Fed) → Stepping l from to c s c s from
unfolding steps
stepping-start l from to c s =
    let e : from - from ≡ 0 = omega arith in
    record {
      begun = omega arith;
      within = omega arith;
      passed = rw e;
      card = rw e;
      sums = rw e;
    }

module _ (l : List ℕ) (from to : ℕ) (c₀ : List ℕ) (s₀ : List Fed) (c : List ℕ) (s : List Fed) (i : ℕ) (v : Stepping l from to c₀ s₀ c s i) where
  -- the rows so far
  abbrev so_far : ℕ
  so_far = i - from

  here : from + so_far ≡ i
  here = omega (arith, v.begun)

  pub stepping-ready : RowsReady l from (to - from) c₀ s₀ → i < to → WorkReady l i c s
  stepping-ready a h =
      let w = a.each so_far (omega (arith, v.begun)) v.passed in
      rw (v.card, v.sums) (rw here at w)

  -- row i's own step is the next one
  own-step : steps l from (so_far + 1) c₀ s₀ ≡ step l i c s
  own-step = rw (v.card, v.sums) (rw here at (steps_next l from c₀ s₀ so_far v.passed))

  pub stepping-next :
      (t : Answer) (c' : List ℕ) (s' : List Fed) → i < to → t ≡ done →
      Stepped (step l i c s) t c' s' → Stepping l from to c₀ s₀ c' s' (i + 1)
  stepping-next t c' s' h p z =
      let e : i + 1 - from ≡ so_far + 1 = omega (arith, v.begun) in
      record {
        begun = omega (arith, v.begun);
        within = omega (arith, v.begun);
        passed = rw (e, own-step) (sym z.answer ∙ p);
        card = rw (e, own-step) z.card;
        sums = rw (e, own-step) z.sums;
      }

  pub stepping-refused :
      (t : Answer) (a : Refusal) (c' : List ℕ) (s' : List Fed) → i < to → t ≡ Err a → Stepped (step l i c s) t c' s' →
      Stepped (steps l from (to - from) c₀ s₀) (Err a) c' s'
  stepping-refused t a c' s' h e z =
      let over = steps-refused l from c₀ s₀ (so_far + 1) (to - from) a (omega (arith, v.begun)) (rw own-step (sym z.answer ∙ e)) in
      rw (over, own-step) (record { answer = sym e ∙ z.answer; card = z.card; sums = z.sums })

  pub stepping-end : to ≤ i → Stepped (steps l from (to - from) c₀ s₀) done c s
  stepping-end h =
      let e : to - from ≡ so_far = omega (arith, v.within) in
      rw e (record { answer = sym v.passed; card = v.card; sums = v.sums })
