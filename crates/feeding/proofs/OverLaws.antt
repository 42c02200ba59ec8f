-- Going on over numbers that count for nothing: a search finds the same from behind those that fail, and every number passes as before where
-- those that follow pass.
use mathlib.Core.Path.{◌≡◌, refl, ap, ◌∙◌}
use mathlib.Core.Bool.{Bool, true, false, ◌&&◌, and-true}
use Prim.Native.Nat.{ℕ, zero, suc, ◌+◌, ◌-◌, ◌≤◌, ◌<◌}
use native.Mathlib.Nat.{add-zero}
use native.Mathlib.Omega.{arith}
use Rattle.fold.specs.First.{first}
use Rattle.fold.specs.Fold.{every}
use Rattle.fold.proofs.FirstLaws.{first-step-false}

module _ (ok : ℕ → Bool) (a n : ℕ) where
  first-over-so-many :
      (d : ℕ) → a + d ≤ n → ((j : ℕ) → a ≤ j → j < a + d → ok j ≡ false) → first ok a (n - a) ≡ first ok (a + d) (n - (a + d))
  first-over-so-many zero h none = rw add-zero
  first-over-so-many (suc d) h none =
      let e : a + suc d ≡ a + d + 1 = omega arith in
      rw e
      (first-over-so-many d (omega arith) (λ j lo hi. none j lo (omega arith)) ∙
      first-step-false ok (a + d) n (omega arith) (none (a + d) (omega arith) (omega arith)))

  pub first-over-fails :
      (b : ℕ) → a ≤ b → b ≤ n → ((j : ℕ) → a ≤ j → j < b → ok j ≡ false) → first ok a (n - a) ≡ first ok b (n - b)
  first-over-fails b from to none =
      let e : b ≡ a + (b - a) = omega arith in
      rw e (first-over-so-many (b - a) (omega arith) (λ j lo hi. none j lo (omega arith)))

-- one test more
pub every-next : (ok : ℕ → Bool) (n : ℕ) → every (suc n) ok ≡ (every n ok && ok n)
unfolding every
every-next ok n = refl

module _ (ok : ℕ → Bool) (a : ℕ) where
  every-over-so-many : (d : ℕ) → ((j : ℕ) → a ≤ j → j < a + d → ok j ≡ true) → every (a + d) ok ≡ every a ok
  every-over-so-many zero h = rw add-zero
  every-over-so-many (suc d) h =
      let e : a + suc d ≡ suc (a + d) = omega arith in
      rw e
      (every-next ok (a + d) ∙
      ap (λ (b : Bool). every (a + d) ok && b) (h (a + d) (omega arith) (omega arith)) ∙ and-true (every (a + d) ok) ∙
      every-over-so-many d (λ j lo hi. h j lo (omega arith)))

  pub every-over-passes : (b : ℕ) → a ≤ b → ((j : ℕ) → a ≤ j → j < b → ok j ≡ true) → every b ok ≡ every a ok
  every-over-passes b from h =
      let e : b ≡ a + (b - a) = omega arith in
      rw e (every-over-so-many (b - a) (λ j lo hi. h j lo (omega arith)))
