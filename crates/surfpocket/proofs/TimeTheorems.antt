-- [02 §3] The time of a curve across the C boundary, whatever is handed over:
--     time-of-B, time-of-C     of either curve the least whole number of ms that is enough, by inequalities, where it may be asked
--     none-exactly             0 exactly where it may not
-- They cite the theorems of `curve` on the same times.
use mathlib.Core.Path.{◌≡◌, sym, subst}
use mathlib.Core.Bool.{true, false, ◌&&◌}
use mathlib.Core.Logic.{◌⊎◌, ◌↔◌, inl, inr, ⊎_elim}
use Prim.Native.Nat.{ℕ, ◌≤◌}
use native.Mathlib.Omega.{arith}
use lib.Dec.{leb, eqb}
use borrow.Author.Tests.{leb-true, le-leb, eqb-true, eqb-false}
use Rattle.fold.proofs.BoolLaws.{and_left, and_right, and_both, fails, passes-or-fails}
use Rattle.curve.specs.Curve.{time_of}
use Rattle.curve.specs.Exact.{IsLeast, EnoughVeryInverse, EnoughExtremelyInverse}
use Rattle.curve.proofs.CurveTheorems.{very-inverse, extremely-inverse}
use Rattle.surfpocket.specs.Times.{between, curve_right, multiple_right, multiplier_right, may_be_asked, Asked, time_asked}

between-exactly : (a x b : ℕ) → (between a x b ≡ true) ↔ ((a ≤ x) × (x ≤ b))
unfolding between
between-exactly a x b = (
  λ e. (leb-true a x (and_left (leb a x) (leb x b) e), leb-true x b (and_right (leb a x) (leb x b) e)),
  λ h. and_both (le-leb a x h.0) (le-leb x b h.1),
)

module _ (law m x : ℕ) where
  -- what the tests say
  pub asked-exactly : (may_be_asked law m x ≡ true) ↔ Asked law m x
  unfolding may_be_asked
  asked-exactly = (
    λ e.
        let rest = and_right (curve_right law) (multiple_right m && multiplier_right x) e in
        let l = (between-exactly _ _ _).0 (and_left (curve_right law) (multiple_right m && multiplier_right x) e) in
        let n = (between-exactly _ _ _).0 (and_left (multiple_right m) (multiplier_right x) rest) in
        let k = (between-exactly _ _ _).0 (and_right (multiple_right m) (multiplier_right x) rest) in
        record {
          law-from = l.0;
          law-to = l.1;
          multiple-from = n.0;
          multiple-to = n.1;
          multiplier-from = k.0;
          multiplier-to = k.1;
        },
    λ a.
        and_both ((between-exactly _ _ _).1 (a.law-from, a.law-to))
        (and_both ((between-exactly _ _ _).1 (a.multiple-from, a.multiple-to)) ((between-exactly _ _ _).1 (a.multiplier-from, a.multiplier-to))),
  )

  pub as-asked : may_be_asked law m x ≡ true → time_of law m x ≡ time_asked law m x
  unfolding time_asked
  as-asked e = rw e

  pub not-asked : may_be_asked law m x ≡ false → 0 ≡ time_asked law m x
  unfolding time_asked
  not-asked e = rw e

-- "13.5 / (M − 1)" and "80 / (M² − 1)", times the multiplier, "rounded up once to a whole millisecond"
module _ (m x : ℕ) where
  pub time-of-B : Asked 1 m x → IsLeast (EnoughVeryInverse m x) (time_asked 1 m x)
  time-of-B a =
      subst (IsLeast (EnoughVeryInverse m x)) (as-asked 1 m x ((asked-exactly 1 m x).1 a)) (very-inverse m x (omega (arith, a.multiple-from)))

  pub time-of-C : Asked 2 m x → IsLeast (EnoughExtremelyInverse m x) (time_asked 2 m x)
  time-of-C a =
      subst (IsLeast (EnoughExtremelyInverse m x)) (as-asked 2 m x ((asked-exactly 2 m x).1 a))
      (extremely-inverse m x (omega (arith, a.multiple-from)))

-- no time is 0: nothing is not enough
some-of-B : (m x : ℕ) → Asked 1 m x → time_asked 1 m x ≡ 0 → ⊥
some-of-B m x a e = let h = subst (EnoughVeryInverse m x) e (time-of-B m x a).holds in omega (arith, a.multiplier-from)

some-of-C : (m x : ℕ) → Asked 2 m x → time_asked 2 m x ≡ 0 → ⊥
some-of-C m x a e = let h = subst (EnoughExtremelyInverse m x) e (time-of-C m x a).holds in omega (arith, a.multiplier-from)

either-curve : (law m x : ℕ) → Asked law m x → (law ≡ 1) ⊎ (law ≡ 2)
either-curve law m x a =
    ⊎_elim
    (λ (e : eqb law 1 ≡ true). inl (eqb-true law 1 e))
    (λ (e : eqb law 1 ≡ false). let n = eqb-false law 1 e in inr (omega (arith, a.law-from, a.law-to)))
    (passes-or-fails (eqb law 1))

pub none-exactly : (law m x : ℕ) → (time_asked law m x ≡ 0) ↔ (Asked law m x → ⊥)
none-exactly law m x = (
  λ e a.
      ⊎_elim
      (λ l. some-of-B m x (subst (λ (k : ℕ). Asked k m x) l a) (subst (λ (k : ℕ). time_asked k m x ≡ 0) l e))
      (λ l. some-of-C m x (subst (λ (k : ℕ). Asked k m x) l a) (subst (λ (k : ℕ). time_asked k m x ≡ 0) l e))
      (either-curve law m x a),
  λ n. sym (not-asked law m x (fails (may_be_asked law m x) (λ e. n ((asked-exactly law m x).0 e)))),
)
