-- Laws of `first`: it gives the first number that passes, and nothing where none does.
use Rattle.std.proofs.Common.{Some, None}
use mathlib.Core.Path.{◌≡◌, refl, ◌∙◌}
use mathlib.Core.Bool.{Bool, true, false}
use mathlib.Core.Logic.{⊎_elim}
use Prim.Native.Nat.{ℕ, zero, suc, ◌+◌, ◌-◌, ◌≤◌, ◌<◌}
use native.Mathlib.Nat.{suc-add, add-suc, eq-or-lt_of_le}
use native.Mathlib.Numerals.{add-one}
use native.Mathlib.Omega.{arith}
use Rattle.fold.specs.First.{first}
use Rattle.fold.proofs.BoolLaws.{passes-or-fails, zero-not-one}

-- tests that agree below i + n find the same
pub first-same : (ok ok' : ℕ → Bool) (n i : ℕ) → ((j : ℕ) → j < i + n → ok j ≡ ok' j) → first ok i n ≡ first ok' i n
unfolding first
first-same ok ok' zero i h = refl
first-same ok ok' (suc n) i h =
    let rest = first-same ok ok' n (suc i) (λ j b. h j (omega arith)) in
    let e : ok i ≡ ok' i = h i (omega arith) in
    rw (rest, e)

module _ (ok : ℕ → Bool) where
  pub first-step-true : (i n : ℕ) → i < n → ok i ≡ true → first ok i (n - i) ≡ Some i
  unfolding first
  first-step-true i n h p =
      let e : n - i ≡ suc (n - suc i) = omega arith in
      rw (e, p)

  pub first-step-false : (i n : ℕ) → i < n → ok i ≡ false → first ok i (n - i) ≡ first ok (i + 1) (n - (i + 1))
  unfolding first
  first-step-false i n h p =
      let e : n - i ≡ suc (n - suc i) = omega arith in
      rw (add-one, e, p)

  pub first-end : (i n : ℕ) → n ≤ i → first ok i (n - i) ≡ None
  unfolding first
  first-end i n h =
      let e : n - i ≡ 0 = omega arith in
      rw e

  -- the number k is the first that passes among i, .., i + n - 1
  pub first-is : (n i k : ℕ) → i ≤ k → k < i + n → ok k ≡ true → ((j : ℕ) → i ≤ j → j < k → ok j ≡ false) → first ok i n ≡ Some k
  unfolding first
  first-is zero i k lo hi p none = absurd (omega arith)
  first-is (suc n) i k lo hi p none =
      ⊎_elim
      (λ (e : i ≡ k). let q : ok i ≡ true = rw e p in rw (q, e))
      (λ (l : i < k).
      let q : ok i ≡ false = none i (omega arith) l in
      rw q (first-is n (suc i) k l (omega (arith, add-suc i n, suc-add i n)) p (λ j a b. none j (omega arith) b)))
      (eq-or-lt_of_le lo)

  pub first-none : (n i : ℕ) → ((j : ℕ) → i ≤ j → j < i + n → ok j ≡ false) → first ok i n ≡ None
  unfolding first
  first-none zero i none = refl
  first-none (suc n) i none =
      let q : ok i ≡ false = none i (omega arith) (omega arith) in
      rw q (first-none n (suc i) (λ j a b. none j (omega arith) (omega arith)))

  -- what a number that was found is
  pub record FirstAt (i n k : ℕ) : Type 0 where
    pub from : i ≤ k
    pub below : k < i + n
    pub passes : ok k ≡ true
    pub before : (j : ℕ) → i ≤ j → j < k → ok j ≡ false

  pub first-at : (n i k : ℕ) → first ok i n ≡ Some k → FirstAt i n k
  unfolding first
  first-at zero i k e = absurd (zero-not-one cc)
  first-at (suc n) i k e =
      ⊎_elim
      (λ (p : ok i ≡ true).
      let q : Some i ≡ Some k = rw p at e in
      let s : i ≡ k = cc in
      record {
        from = omega arith;
        below = omega arith;
        passes = rw (← s) p;
        before = λ j a b. absurd (omega arith);
      })
      (λ (p : ok i ≡ false). later p (first-at n (suc i) k (rw p at e)))
      (passes-or-fails (ok i))
    where
      later : ok i ≡ false → FirstAt (suc i) n k → FirstAt i (suc n) k
      later p r =
          record {
            from = omega (arith, r.from);
            below = omega (arith, r.below);
            passes = r.passes;
            before =
                λ j a b.
                ⊎_elim
                (λ (s : i ≡ j). rw (← s) p)
                (λ (l : i < j). r.before j l b)
                (eq-or-lt_of_le a);
          }

  pub first_below : {n k : ℕ} → first ok 0 n ≡ Some k → k < n
  first_below {n} {k} e = omega (arith, (first-at n 0 k e).below)

  pub first-nothing : (n i : ℕ) → first ok i n ≡ None → (j : ℕ) → i ≤ j → j < i + n → ok j ≡ false
  unfolding first
  first-nothing zero i e j a b = absurd (omega arith)
  first-nothing (suc n) i e j a b =
      ⊎_elim
      (λ (p : ok i ≡ true).
      let q : Some i ≡ None = rw p at e in
      absurd (zero-not-one cc))
      (λ (p : ok i ≡ false).
      ⊎_elim
      (λ (s : i ≡ j). rw (← s) p)
      (λ (l : i < j). first-nothing n (suc i) (rw p at e) j l (omega arith))
      (eq-or-lt_of_le a))
      (passes-or-fails (ok i))

  -- what a loop that looks for the first knows when it has passed the numbers below i
  pub record Passed (n i : ℕ) : Type 0 where
    pub within : i ≤ n
    pub left : first ok 0 n ≡ first ok i (n - i)

  pub passed_none : (n : ℕ) → Passed n 0
  passed_none n = record { within = omega arith; left = rw native.Mathlib.Nat.sub-zero }

  pub passed-more : {n i : ℕ} → Passed n i → i < n → ok i ≡ false → Passed n (i + 1)
  passed-more {n} {i} s l p = record { within = omega arith; left = s.left ∙ first-step-false i n l p }

  pub passed-found : {n i : ℕ} → Passed n i → i < n → ok i ≡ true → first ok 0 n ≡ Some i
  passed-found {n} {i} s l p = s.left ∙ first-step-true i n l p

  pub passed-all : {n i : ℕ} → Passed n i → n ≤ i → first ok 0 n ≡ None
  passed-all {n} {i} s l = s.left ∙ first-end i n l
