-- Laws of `least_on`: available, passing, and no other available value that passes is less.
use Rattle.std.proofs.Common.{Option, Some, None}
use mathlib.Core.Path.{◌≡◌, refl, sym, ap, ◌∙◌}
use mathlib.Core.Bool.{Bool, true, false}
use mathlib.Core.Logic.{⊎_elim}
use Prim.Native.Nat.{ℕ, ◌+◌, ◌-◌, ◌*◌, ◌/◌, ◌%◌, ◌≤◌, ◌<◌, max}
use native.Mathlib.Nat.{le-div_iff_mul-le, suc-mul, mul-le-mul_right, div-zero, div-add-mod', mod-lt, add-mul, one-mul, le-max_left, le-max_right, max-le}
use native.Mathlib.Omega.{arith}
use lib.Dec.{leb}
use borrow.Author.Tests.{leb-true, le-leb}
use Rattle.fold.specs.First.{first}
use Rattle.grid.specs.Grid.{Available, Least, count, value_at, least_on}
use Rattle.fold.proofs.BoolLaws.{lt-or-le, not-both, fails, zero-not-one}
use Rattle.fold.proofs.FirstLaws.{first-at, first-nothing}

-- m steps are available exactly where they end at or below high
pub count-within : (low high step m : ℕ) → 0 < step → m < count low high step → low + m * step ≤ high
unfolding count
count-within low high step m p h =
    let e = (le-div_iff_mul-le p).0 h in
    let e' : m * step + step ≤ high + step - low = rw suc-mul at e in
    omega arith

pub within_count : (low high step m : ℕ) → 0 < step → low + m * step ≤ high → m < count low high step
unfolding count
within_count low high step m p h =
    (le-div_iff_mul-le p).1 (rw suc-mul (omega arith))

module _ (low high step : ℕ) (p : 0 < step) (ok : ℕ → Bool) where
  least-found : (f : Option ℕ) (x : ℕ) → first (λ m. ok (low + m * step)) 0 (count low high step) ≡ f → value_at low step f ≡ Some x → Least low high step ok x
  unfolding value_at
  least-found (Some m) x e q =
      let r = first-at (λ m. ok (low + m * step)) (count low high step) 0 m e in
      let v : low + m * step ≡ x = cc in
      record {
        available =
            record {
              steps = m;
              on-grid = sym v;
              within = let w = count-within low high step m p (omega (arith, r.below)) in omega arith;
            };
        passes = rw (← v) r.passes;
        least =
            λ y a t.
            ⊎_elim
            (λ (l : a.steps < m).
            absurd (not-both (rw a.on-grid at t) (r.before a.steps (omega arith) l)))
            (λ (g : m ≤ a.steps). let k = mul-le-mul_right step g in omega (arith, a.on-grid))
            (lt-or-le a.steps m);
      }
  least-found None x e q = absurd (zero-not-one cc)

  pub least_on-least : (x : ℕ) → least_on low high step ok ≡ Some x → Least low high step ok x
  unfolding least_on
  least_on-least x e = least-found (first (λ m. ok (low + m * step)) 0 (count low high step)) x refl e

  none_found :
      (f : Option ℕ) → first (λ m. ok (low + m * step)) 0 (count low high step) ≡ f → value_at low step f ≡ None → (y : ℕ) →
      Available low high step y → ok y ≡ false
  unfolding value_at
  none_found (Some m) e q y a = absurd (zero-not-one cc)
  none_found None e q y a =
      rw a.on-grid
      (first-nothing (λ m. ok (low + m * step)) (count low high step) 0 e a.steps (omega arith)
      (let w = within_count low high step a.steps p (omega (arith, a.on-grid, a.within)) in omega arith))

  pub least_on-nothing : least_on low high step ok ≡ None → (y : ℕ) → Available low high step y → ok y ≡ false
  unfolding least_on
  least_on-nothing e y a = none_found (first (λ m. ok (low + m * step)) 0 (count low high step)) refl e y a

  -- a least passing value is what is found, and where none passes nothing is
  pub least_on-is : (x : ℕ) → Least low high step ok x → least_on low high step ok ≡ Some x
  least_on-is x h = by_cases (least_on low high step ok) refl
    where
      by_cases : (f : Option ℕ) → least_on low high step ok ≡ f → least_on low high step ok ≡ Some x
      by_cases (Some y) e =
          let r = least_on-least y e in
          let a = r.least x h.available h.passes in
          let b = h.least y r.available r.passes in
          e ∙ ap Some (omega arith)
      by_cases None e = absurd (not-both h.passes (least_on-nothing e x h.available))

  pub least_on-none : ((y : ℕ) → Available low high step y → ok y ≡ false) → least_on low high step ok ≡ None
  least_on-none h = by_cases (least_on low high step ok) refl
    where
      by_cases : (f : Option ℕ) → least_on low high step ok ≡ f → least_on low high step ok ≡ None
      by_cases (Some y) e =
          let r = least_on-least y e in
          absurd (not-both r.passes (h y r.available))
      by_cases None e = e

-- where the step is 0 nothing is found
pub least_on-no-step : (low high step : ℕ) (ok : ℕ → Bool) → step ≡ 0 → least_on low high step ok ≡ None
unfolding least_on count first value_at
least_on-no-step low high step ok e = rw (e, div-zero)

-- The least value at or above a bound stands less than a step past `from`, the greater of low and the bound.
module _ (low high step b from : ℕ) (p : 0 < step) (q : from ≡ max low b) where
  from_low : low ≤ from
  from_low = rw q (le-max_left low b)

  above : (y : ℕ) → Available low high step y → leb b y ≡ true → from ≤ y
  above y a t = rw q (max-le (omega (arith, a.on-grid)) (leb-true b y t))

  pub least_on-past-high : high < from → least_on low high step (leb b) ≡ None
  least_on-past-high h =
      least_on-none low high step p (leb b) (λ y a. fails (leb b y) (λ t. let g = above y a t in omega (arith, a.within)))

  -- u leads from there to a value, by less than a step
  pub record Next (u : ℕ) : Type 0 where
    pub steps : ℕ
    pub on-grid : from + u ≡ low + steps * step
    pub near : u < step

  pub next_here : (u : ℕ) → (from - low) % step ≡ 0 → u ≡ 0 → Next u
  next_here u z e =
      record { steps = (from - low) / step; on-grid = omega (arith, from_low, div-add-mod' (from - low) step); near = omega arith }

  pub next_past : (u : ℕ) → ((from - low) % step ≡ 0 → ⊥) → u ≡ step - (from - low) % step → Next u
  next_past u z e =
      record {
        steps = (from - low) / step + 1;
        on-grid = rw (add-mul, one-mul) (omega (arith, from_low, div-add-mod' (from - low) step, mod-lt (from - low) p));
        near = omega arith;
      }

  module _ (u : ℕ) (n : Next u) where
    nearest : (y : ℕ) → Available low high step y → leb b y ≡ true → from + u ≤ y
    nearest y a t =
        let g = above y a t in
        ⊎_elim
        (λ (l : a.steps < n.steps).
        let k = mul-le-mul_right step l in
        absurd (omega (arith, suc-mul a.steps step, a.on-grid, n.on-grid, n.near)))
        (λ (l : n.steps ≤ a.steps). let k = mul-le-mul_right step l in omega (arith, a.on-grid, n.on-grid))
        (lt-or-le a.steps n.steps)

    pub least_on-next : from + u ≤ high → least_on low high step (leb b) ≡ Some (from + u)
    least_on-next h =
        least_on-is low high step p (leb b) (from + u)
        (record {
          available = record { steps = n.steps; on-grid = n.on-grid; within = h };
          passes = le-leb b (from + u) (let k : b ≤ from = rw q (le-max_right low b) in omega arith);
          least = nearest;
        })

    pub least_on-next-past : high < from + u → least_on low high step (leb b) ≡ None
    least_on-next-past h =
        least_on-none low high step p (leb b)
        (λ y a. fails (leb b y) (λ t. let g = nearest y a t in omega (arith, a.within)))

-- tests that agree on the available values find the same
pub least_on-same :
    (low high step : ℕ) → 0 < step → (ok ok' : ℕ → Bool) → ((x : ℕ) → Available low high step x → ok x ≡ ok' x) →
    least_on low high step ok ≡ least_on low high step ok'
least_on-same low high step p ok ok' same = by_cases (least_on low high step ok') refl
  where
    by_cases : (f : Option ℕ) → least_on low high step ok' ≡ f → least_on low high step ok ≡ f
    by_cases (Some x) e =
        let r = least_on-least low high step p ok' x e in
        least_on-is low high step p ok x
        (record {
          available = r.available;
          passes = same x r.available ∙ r.passes;
          least = λ y a t. r.least y a (sym (same y a) ∙ t);
        })
    by_cases None e = least_on-none low high step p ok (λ y a. same y a ∙ least_on-nothing low high step p ok' e y a)
