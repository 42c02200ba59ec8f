-- [02 §3] A row's settings: what is tried of them, what a card row shows of them, the M that are needed, and the least setting that meets D1,
-- from a bound on: where its time is over the ceiling, so is that of every greater one.
use Rattle.std.proofs.Common.{Some, None}
use mathlib.Core.Path.{◌≡◌, refl, sym, ap, ◌∙◌}
use mathlib.Core.Bool.{Bool, true, false, not, cond, ◌&&◌, ◌||◌}
use mathlib.Core.Logic.{⊎_elim}
use Prim.Native.Nat.{ℕ, ◌+◌, ◌-◌, ◌*◌, ◌≤◌, max}
use native.Mathlib.Nat.{le_trans}
use native.Mathlib.Omega.{arith}
use lib.Dec.{leb, eqb}
use borrow.Author.Tests.{le-leb, leb-true, eq-eqb, ne_eqb, eqb-true, eqb-false}
use Rattle.curve.specs.Curve.{is_curve, setting_from, setting_to, stalls, time_of}
use Rattle.curve.proofs.CurveLaws.{multiple-to, definite-runs, definite-time, definite-setting, curve-setting, time-rises}
use Rattle.fold.proofs.BoolLaws.{and_left, and_right, and_both, fails, not-both, passes-or-fails}
use Rattle.grid.specs.Grid.{least_on, Available}
use Rattle.grid.proofs.GridLaws.{least_on-least, least_on-nothing, least_on-is, least_on-none}
use Rattle.grid.proofs.RoundLaws.{max-leb}
use Rattle.layout.specs.declared.CardRow.{CardRow}
use Rattle.layout.specs.declared.Row.{Row}
use Rattle.layout.specs.Range.{Bounded}
use Rattle.settle.specs.declared.Outcome.{Outcome}
use Rattle.sides.specs.declared.Primary.{Primary}
use Rattle.settle.specs.Conditions.{multiple_at, setting_of, within_delays}
use Rattle.settle.specs.Inequalities.{Offered, WithinDelays}
use Rattle.settle.specs.Settle.{shown, tried_from, tried_to}
use Rattle.settle.specs.Times.{needed_multiple}

-- a law is definite or a curve
pub by-law : {P : Type 0} (law : ℕ) → (law ≡ 0 → P) → ((law ≡ 0 → ⊥) → P) → P
by-law law a b = ⊎_elim (λ e. a (eqb-true law 0 e)) (λ e. b (eqb-false law 0 e)) (passes-or-fails (eqb law 0))

pub is-curve : (law : ℕ) → (law ≡ 0 → ⊥) → is_curve law ≡ true
is-curve law n = ap not (ne_eqb law 0 n)

pub no-curve : (law : ℕ) → law ≡ 0 → is_curve law ≡ false
no-curve law e = ap not (eq-eqb law 0 e)

-- what a card row sets, by its law
pub setting-definite : (s : CardRow) → s.law ≡ 0 → setting_of s ≡ s.delay
unfolding setting_of
setting-definite s e = rw (no-curve s.law e)

pub setting-curve : (s : CardRow) → (s.law ≡ 0 → ⊥) → setting_of s ≡ s.multiplier
unfolding setting_of
setting-curve s n = rw (is-curve s.law n)

-- a card row shows the setting that was found
pub setting-shown : (o : Outcome) → setting_of (shown o) ≡ o.setting
unfolding setting_of shown
setting-shown o = by_cases (is_curve o.law) o.setting
  where
    by_cases : (b : Bool) (x : ℕ) → cond b (cond b x 0) (cond b 0 x) ≡ x
    by_cases true x = refl
    by_cases false x = refl

pub tried-to : (r : Row) → Bounded r → tried_to r ≤ setting_to r.law
unfolding tried_to
tried-to r a =
    by-law r.law
    (λ e. rw (no-curve r.law e) (let d = definite-setting.1 in rw e (omega (arith, a.ceiling-to))))
    (λ n. rw (is-curve r.law n) (omega arith))

-- what is tried is offered; what is offered and meets D1 is tried
pub tried-offered : (r : Row) → Bounded r → (x : ℕ) → Available (tried_from r) (tried_to r) 1 x → Offered r.law x
unfolding tried_from tried_to
tried-offered r a x t =
    record {
      delay = λ e. let h : x ≤ r.ceiling = rw (no-curve r.law e) at t.within in omega (arith, a.ceiling-to);
      multiplier =
          λ n.
          let s = curve-setting r.law n in
          let to : x ≤ setting_to r.law = rw (is-curve r.law n) at t.within in
          let from : x ≡ setting_from r.law + t.steps * 1 = rw (is-curve r.law n) at t.on-grid in
          (omega arith, omega arith);
    }

pub offered-tried :
    (r : Row) (m x : ℕ) → Offered r.law x → WithinDelays r (time_of r.law m x) → Available (tried_from r) (tried_to r) 1 x
unfolding tried_from tried_to
offered-tried r m x o d =
    by-law r.law
    (λ e.
    let t : time_of r.law m x ≡ x = ap (λ (law : ℕ). time_of law m x) e ∙ definite-time m x in
    record {
      steps = x - r.floor;
      on-grid = rw (no-curve r.law e) (omega (arith, d.0));
      within = rw (no-curve r.law e) (omega (arith, d.1));
    })
    (λ n.
    let s = curve-setting r.law n in
    let h = o.multiplier n in
    record {
      steps = x - setting_from r.law;
      on-grid = rw (is-curve r.law n) (omega arith);
      within = rw (is-curve r.law n) (omega arith);
    })

-- where M is not needed, any will do
module _ (law : ℕ) (r f : Row) (I : Primary) where
  needed-curve : (law ≡ 0 → ⊥) → needed_multiple law r f I ≡ multiple_at r f I
  unfolding needed_multiple
  needed-curve n = rw (is-curve law n)

  pub needed-stalls : stalls law (needed_multiple law r f I) ≡ stalls law (multiple_at r f I)
  needed-stalls =
      by-law law
      (λ e. rw e (definite-runs (needed_multiple 0 r f I) ∙ sym (definite-runs (multiple_at r f I))))
      (λ n. ap (stalls law) (needed-curve n))

  pub needed-time : (x : ℕ) → time_of law (needed_multiple law r f I) x ≡ time_of law (multiple_at r f I) x
  needed-time x =
      by-law law
      (λ e. rw e (definite-time (needed_multiple 0 r f I) x ∙ sym (definite-time (multiple_at r f I) x)))
      (λ n. ap (λ (m : ℕ). time_of law m x) (needed-curve n))

  pub needed-to : needed_multiple law r f I ≤ 20000
  unfolding needed_multiple multiple_at
  needed-to = by_cases (is_curve law)
    where
      by_cases : (b : Bool) → cond b (multiple_at r f I) 0 ≤ 20000
      by_cases true = multiple-to _ _
      by_cases false = omega arith

-- the least value from a bound on, under a cap that holds for every lower value too
module _ (low high b : ℕ) (cap ok : ℕ → Bool) (down : (x y : ℕ) → x ≤ y → cap y ≡ true → cap x ≡ true)
    (both : (x : ℕ) → ok x ≡ (cap x && leb b x)) where
  pub capped-none : least_on low high 1 (leb b) ≡ None → least_on low high 1 ok ≡ None
  capped-none e =
      least_on-none low high 1 (omega arith) ok
      (λ y a. fails (ok y) (λ t. not-both (and_right (cap y) (leb b y) (sym (both y) ∙ t))
      (least_on-nothing low high 1 (omega arith) (leb b) e y a)))

  pub capped_at : (x : ℕ) → least_on low high 1 (leb b) ≡ Some x → cap x ≡ true → least_on low high 1 ok ≡ Some x
  capped_at x e c =
      let m = least_on-least low high 1 (omega arith) (leb b) x e in
      least_on-is low high 1 (omega arith) ok x
      (record {
        available = m.available;
        passes = both x ∙ and_both c m.passes;
        least = λ y a t. m.least y a (and_right (cap y) (leb b y) (sym (both y) ∙ t));
      })

  pub capped-over : (x : ℕ) → least_on low high 1 (leb b) ≡ Some x → cap x ≡ false → least_on low high 1 ok ≡ None
  capped-over x e c =
      let m = least_on-least low high 1 (omega arith) (leb b) x e in
      least_on-none low high 1 (omega arith) ok
      (λ y a.
      fails (ok y)
      (λ t.
      let q = sym (both y) ∙ t in
      not-both (down x y (m.least y a (and_right (cap y) (leb b y) q)) (and_left (cap y) (leb b y) q)) c))

-- D1 at the row's own M, from a bound on
module _ (r : Row) (m from : ℕ) where
  abbrev within : ℕ → Bool
  within x = within_delays r (time_of r.law m x) && leb from x

  abbrev under-ceiling : ℕ → Bool
  under-ceiling x = leb (time_of r.law m x) r.ceiling

  pub ceiling-down : (x y : ℕ) → x ≤ y → under-ceiling y ≡ true → under-ceiling x ≡ true
  ceiling-down x y h t = le-leb _ _ (le_trans (time-rises r.law m x y h) (leb-true _ _ t))

  -- the bound of D1 from below, and the one given
  pub within_both :
      (own motor : ℕ) → ((x : ℕ) → leb own x ≡ leb (max r.floor motor) (time_of r.law m x)) →
      motor ≡ cond (eqb r.kind 3) 100 0 →
      (x : ℕ) → within x ≡ (under-ceiling x && leb (max own from) x)
  unfolding within_delays
  within_both own motor bound e x =
      let t = time_of r.law m x in
      ap (λ (b : Bool). (leb r.floor t && (under-ceiling x && b)) && leb from x)
      (by_kind (eqb r.kind 3) t ∙ ap (λ (n : ℕ). leb n t) (sym e)) ∙
      regroup (leb r.floor t) (under-ceiling x) (leb motor t) (leb from x) ∙
      ap (λ (b : Bool). under-ceiling x && (b && leb from x)) (sym (bound x ∙ max-leb r.floor motor t)) ∙
      ap (λ (b : Bool). under-ceiling x && b) (sym (max-leb own from x))
    where
      by_kind : (b : Bool) (t : ℕ) → (not b || leb 100 t) ≡ leb (cond b 100 0) t
      by_kind true t = refl
      by_kind false t = sym (le-leb 0 t (omega arith))

      regroup : (a b c d : Bool) → ((a && (b && c)) && d) ≡ (b && ((a && c) && d))
      regroup true true c d = refl
      regroup true false c d = refl
      regroup false true c d = refl
      regroup false false c d = refl
