-- [02 §1] The ratio: exact, 1 where there is none, and rising, so that lower at the relay is lower in primary; and what fits.
use mathlib.Core.Path.{◌≡◌, refl, ap, ap₂, ◌∙◌}
use mathlib.Core.Bool.{Bool, true, false, cond}
use mathlib.Core.Logic.{◌↔◌, ⊎_elim}
use Prim.Native.Nat.{ℕ, ◌*◌, ◌≤◌, ◌<◌}
use native.Mathlib.Nat.{mul-le-mul, mul-le-mul_right, mul_comm, mul_left_comm, mul-lt-mul_of_pos_right, mul-pos}
use native.Mathlib.Omega.{arith}
use lib.Dec.{leb, eqb}
use borrow.Author.Tests.{eq-eqb, ne_eqb, eqb-true, eqb-false}
use Rattle.fold.proofs.BoolLaws.{passes-or-fails, lt-or-le}
use Rattle.sides.specs.declared.Ratio.{Ratio}
use Rattle.sides.specs.declared.Secondary.{Secondary}
use Rattle.grid.specs.Round.{ceil_div}
use Rattle.grid.proofs.RoundLaws.{ceil_div-leb}
use Rattle.sides.specs.Sides.{milliamperes, keyed, scale, in_primary, top, bottom, setting_most, Rated}

module _ (q : Ratio) where
  -- the scale with no ratio, with a rated secondary of 1, and with another
  by_cases : {a b : Bool} → eqb q.primary 0 ≡ a → eqb q.secondary 1 ≡ b → scale q ≡ cond a 5 (cond b (5 * q.primary) q.primary)
  unfolding scale
  by_cases e f = ap₂ (λ (a b : Bool). cond a 5 (cond b (5 * q.primary) q.primary)) e f

  pub scale-none : q.primary ≡ 0 → scale q ≡ 5
  scale-none e = by_cases (eq-eqb q.primary 0 e) refl

  pub scale_one : (q.primary ≡ 0 → ⊥) → q.secondary ≡ 1 → scale q ≡ 5 * q.primary
  scale_one n e = by_cases (ne_eqb q.primary 0 n) (eq-eqb q.secondary 1 e)

  pub scale-other : (q.primary ≡ 0 → ⊥) → (q.secondary ≡ 1 → ⊥) → scale q ≡ q.primary
  scale-other n m = by_cases (ne_eqb q.primary 0 n) (ne_eqb q.secondary 1 m)

  -- it is at least 1
  pub scale-from : 0 < scale q
  unfolding scale
  scale-from = in-each (eqb q.primary 0) refl (eqb q.secondary 1)
    where
      in-each : (a : Bool) → eqb q.primary 0 ≡ a → (b : Bool) → 0 < cond a 5 (cond b (5 * q.primary) q.primary)
      in-each true e b = omega arith
      in-each false e true = omega (arith, eqb-false q.primary 0 e)
      in-each false e false = omega (arith, eqb-false q.primary 0 e)

  -- "With 0 in both it stays primary"
  pub stays-primary : q.primary ≡ 0 → (x : Secondary) → in_primary q x ≡ milliamperes x.0
  stays-primary e x = λ t. record { 0 = (ap (λ (k : ℕ). x.0 * k) (scale-none e) ∙ mul_comm x.0 5) t }

  -- "the primary pickup is that number times the ratio": in fifths, times the rated secondary, it is 5 × the number × the rated primary;
  -- nothing is rounded
  pub exactly-the-ratio :
      Rated q → (q.primary ≡ 0 → ⊥) → (x : Secondary) → (in_primary q x).0 * q.secondary ≡ 5 * (x.0 * q.primary)
  exactly-the-ratio a n x =
      ⊎_elim
      (λ (e : q.secondary ≡ 1). rw (scale_one n e, e) (omega (arith, mul_left_comm x.0 5 q.primary)))
      (λ (e : q.secondary ≡ 5). rw (scale-other n (λ o. omega arith), e) (omega arith))
      (a.secondary-fits.one-or-five n)

  -- the same for every row: with 0 in both, the ratio is 1 / 1
  pub exactly-the-fraction : Rated q → (x : Secondary) → (in_primary q x).0 * bottom q ≡ 5 * (x.0 * top q)
  unfolding top bottom
  exactly-the-fraction a x =
      ⊎_elim
      (λ (e : eqb q.primary 0 ≡ true). rw e (ap (λ (k : ℕ). x.0 * k * 1) (scale-none (eqb-true q.primary 0 e)) ∙ omega arith))
      (λ (e : eqb q.primary 0 ≡ false). rw e (exactly-the-ratio a (eqb-false q.primary 0 e) x))
      (passes-or-fails (eqb q.primary 0))

  pub bottom-from : Rated q → 0 < bottom q
  unfolding bottom
  bottom-from a =
      ⊎_elim
      (λ (e : eqb q.primary 0 ≡ true). rw e (omega arith))
      (λ (e : eqb q.primary 0 ≡ false).
      rw e (⊎_elim (λ o. omega arith) (λ f. omega arith) (a.secondary-fits.one-or-five (eqb-false q.primary 0 e))))
      (passes-or-fails (eqb q.primary 0))

  pub top-none : q.primary ≡ 0 → top q ≡ 1
  unfolding top
  top-none e = ap (λ (b : Bool). cond b 1 q.primary) (eq-eqb q.primary 0 e)

  pub bottom-none : q.primary ≡ 0 → bottom q ≡ 1
  unfolding bottom
  bottom-none e = ap (λ (b : Bool). cond b 1 q.secondary) (eq-eqb q.primary 0 e)

  pub top-rated : (q.primary ≡ 0 → ⊥) → top q ≡ q.primary
  unfolding top
  top-rated n = ap (λ (b : Bool). cond b 1 q.primary) (ne_eqb q.primary 0 n)

  pub bottom-rated : (q.primary ≡ 0 → ⊥) → bottom q ≡ q.secondary
  unfolding bottom
  bottom-rated n = ap (λ (b : Bool). cond b 1 q.secondary) (ne_eqb q.primary 0 n)

  -- "lower means lower in primary"
  pub lower-in-primary : (x y : Secondary) → (x.0 ≤ y.0) ↔ ((in_primary q x).0 ≤ (in_primary q y).0)
  lower-in-primary x y = (
    λ h. mul-le-mul_right (scale q) h,
    λ h.
        ⊎_elim
        (λ (g : y.0 < x.0). let b = mul-lt-mul_of_pos_right g scale-from in absurd (omega arith))
        (λ (g : x.0 ≤ y.0). g)
        (lt-or-le y.0 x.0),
  )

-- "exceeds 100,000,000 mA primary", multiplied out: it does not, exactly where its primary current is at most that
pub most-exactly :
    (q : Ratio) → Rated q → (q.primary ≡ 0 → ⊥) → (x : Secondary) →
    (x.0 * q.primary ≤ 100000000 * q.secondary) ↔ ((in_primary q x).0 ≤ (milliamperes 100000000).0)
most-exactly q a n x =
    let e = exactly-the-ratio q a n x in
    let s : 0 < q.secondary = ⊎_elim (λ o. omega arith) (λ f. omega arith) (a.secondary-fits.one-or-five n) in (
      λ h.
          ⊎_elim
          (λ (g : (milliamperes 100000000).0 < (in_primary q x).0). let m = mul-lt-mul_of_pos_right g s in absurd (omega arith))
          (λ (g : (in_primary q x).0 ≤ (milliamperes 100000000).0). g)
          (lt-or-le (milliamperes 100000000).0 (in_primary q x).0),
      λ h. let m = mul-le-mul_right q.secondary h in omega arith,
    )

-- ---- what fits: a number at the relay and its primary current, in fifths

pub setting-to : (p : ℕ) → setting_most p ≤ 100000000
unfolding setting_most
setting-to p = by_cases (eqb p 0)
  where
    by_cases : (a : Bool) → cond a 100000000 500000 ≤ 100000000
    by_cases true = omega arith
    by_cases false = omega arith

module _ (q : Ratio) (a : Rated q) where
  pub scale-to : scale q ≤ 100000
  unfolding scale
  scale-to = in-each (eqb q.primary 0) (eqb q.secondary 1)
    where
      in-each : (b c : Bool) → cond b 5 (cond c (5 * q.primary) q.primary) ≤ 100000
      in-each true c = omega arith
      in-each false true = omega (arith, a.primary-to)
      in-each false false = omega (arith, a.primary-to)

  pub primary-fits : (x : Secondary) → x.0 ≤ setting_most q.primary → (in_primary q x).0 ≤ 50000000000
  unfolding setting_most
  primary-fits x h =
      ⊎_elim
      (λ (e : eqb q.primary 0 ≡ true).
      let s = scale-none q (eqb-true q.primary 0 e) in
      rw s (omega (arith, rw e at h)))
      (λ (e : eqb q.primary 0 ≡ false). mul-le-mul (rw e at h) scale-to)
      (passes-or-fails (eqb q.primary 0))

-- a bound rounded up at the relay says what the inequality says in primary
module _ (q : Ratio) (n d : ℕ) (p : 0 < d) (b : ℕ) (e : b ≡ ceil_div n (d * scale q)) where
  pub least-bound : (x : ℕ) → leb b x ≡ leb n (d * (in_primary q (keyed x)).0)
  least-bound x =
      ap (λ (b : ℕ). leb b x) e ∙ ceil_div-leb n (d * scale q) x (mul-pos p (scale-from q)) ∙ ap (leb n) (mul_left_comm x d (scale q))
