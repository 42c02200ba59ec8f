-- Laws of the slope: the test is the request's inequality, and the least slope is what `least_slope` looks up.
use Rattle.std.proofs.Common.{Some, None}
use mathlib.Core.Path.{◌≡◌, sym, ap, ◌∙◌}
use mathlib.Core.Bool.{true}
use mathlib.Core.Logic.{◌↔◌}
use Prim.Native.Nat.{ℕ, ◌+◌, ◌-◌, ◌*◌, ◌≤◌, ◌<◌}
use native.Mathlib.Nat.{mul-add}
use native.Mathlib.Omega.{arith}
use lib.Dec.{leb}
use borrow.Author.Tests.{leb-true, le-leb}
use Rattle.fold.proofs.BoolLaws.{same_test, fails, not-both}
use Rattle.grid.specs.Grid.{least_on}
use Rattle.grid.specs.Round.{ceil_div}
use Rattle.grid.proofs.GridLaws.{least_on-least, least_on-is, least_on-same, least_on-none, least_on-nothing}
use Rattle.grid.proofs.RoundLaws.{ceil_div-leb}
use Rattle.differential.specs.declared.Inputs.{Inputs}
use Rattle.differential.specs.Slope.{slope_from, slope_to, slope_step, error_of, slope_fits, least_slope}
use Rattle.differential.specs.Gets.{Offered, Fits, LeastFits}

-- a slope over a current is the slope over what is above 1, and the slope itself
pub above-one : (slope current : ℕ) → 100 ≤ current → slope * current ≡ slope * (current - 100) + slope * 100
above-one slope current h =
    let e : current ≡ current - 100 + 100 = omega arith in
    ap (λ (y : ℕ). slope * y) e ∙ mul-add slope (current - 100) 100

module _ (start through : ℕ) where
  pub fits_by : (slope : ℕ) → (slope_fits start through slope ≡ true) ↔ (error_of through ≤ 100 * start + slope * (through - 100))
  unfolding slope_fits
  fits_by slope = (λ t. leb-true _ _ t, λ h. le-leb _ _ h)

  pub slope-to : (slope : ℕ) → least_slope start through ≡ Some slope → slope ≤ slope_to
  unfolding least_slope
  slope-to slope e = (least_on-least slope_from slope_to slope_step (omega arith) (slope_fits start through) slope e).available.within

  -- the start alone is enough: every slope fits
  pub slope-by-start : error_of through ≤ 100 * start → least_on slope_from slope_to slope_step (leb 0) ≡ least_slope start through
  unfolding least_slope
  slope-by-start h =
      least_on-same slope_from slope_to slope_step (omega arith) (leb 0) (slope_fits start through)
      (λ x a. le-leb 0 x (omega arith) ∙ sym ((fits_by x).1 (omega arith)))

  -- it is not, and nothing is above 1: none fits
  pub slope-none : through ≡ 100 → 100 * start < error_of through → None ≡ least_slope start through
  unfolding least_slope
  slope-none e h =
      sym
      (least_on-none slope_from slope_to slope_step (omega arith) (slope_fits start through)
      (λ y a. fails _ (λ t. let g = (fits_by y).0 t in let z : through - 100 ≡ 0 = omega arith in omega (arith, ap (λ (d : ℕ). y * d) z))))

  -- what is wanted above the start, shared among what is above 1 and rounded up, is the bound
  pub slope-by-bound :
      100 ≤ through → (through ≡ 100 → ⊥) → 100 * start < error_of through →
      least_on slope_from slope_to slope_step (leb (ceil_div (error_of through - 100 * start) (through - 100))) ≡ least_slope start through
  unfolding least_slope
  slope-by-bound h n b =
      least_on-same slope_from slope_to slope_step (omega arith) (leb (ceil_div (error_of through - 100 * start) (through - 100))) (slope_fits start through)
      (λ x a.
      ceil_div-leb (error_of through - 100 * start) (through - 100) x (omega arith)
      ∙ same_test _ _
      (λ t. (fits_by x).1 (let g = leb-true (error_of through - 100 * start) (x * (through - 100)) t in omega arith))
      (λ t. le-leb (error_of through - 100 * start) (x * (through - 100)) (let g = (fits_by x).0 t in omega arith)))

-- the test is the inequality of the request, and so the least slope is the least for which it holds
module _ (x : Inputs) (above : 100 ≤ x.through) where
  pub fits-exactly : (slope : ℕ) → (slope_fits x.start x.through slope ≡ true) ↔ Fits x slope
  fits-exactly slope = (
    λ t. omega (arith, (fits_by x.start x.through slope).0 t, above-one slope x.through above),
    λ h. (fits_by x.start x.through slope).1 (omega (arith, h, above-one slope x.through above)),
  )

  pub least-exactly : (slope : ℕ) → (least_slope x.start x.through ≡ Some slope) ↔ LeastFits x slope
  unfolding least_slope
  least-exactly slope = (
    λ e.
        let l = least_on-least slope_from slope_to slope_step (omega arith) (slope_fits x.start x.through) slope e in
        record {
          offered = l.available;
          fits = (fits-exactly slope).0 l.passes;
          no-lesser = λ s o f. l.least s o ((fits-exactly s).1 f);
        },
    λ l.
        least_on-is slope_from slope_to slope_step (omega arith) (slope_fits x.start x.through) slope
        (record {
          available = l.offered;
          passes = (fits-exactly slope).1 l.fits;
          least = λ s o t. l.no-lesser s o ((fits-exactly s).0 t);
        }),
  )

  pub none-exactly : (least_slope x.start x.through ≡ None) ↔ ((slope : ℕ) → Offered slope → Fits x slope → ⊥)
  unfolding least_slope
  none-exactly = (
    λ e s o f. not-both ((fits-exactly s).1 f) (least_on-nothing slope_from slope_to slope_step (omega arith) (slope_fits x.start x.through) e s o),
    λ n. least_on-none slope_from slope_to slope_step (omega arith) (slope_fits x.start x.through) (λ s o. fails _ (λ t. n s o ((fits-exactly s).0 t))),
  )
