-- [02 §1] The least available pickup that passes a test of its primary current: least as it is keyed is least in primary.
use Rattle.std.proofs.Common.{Some, None}
use mathlib.Core.Path.{◌≡◌}
use mathlib.Core.Bool.{Bool, true, false}
use mathlib.Core.Logic.{◌↔◌}
use Prim.Native.Nat.{ℕ, ◌≤◌, ◌<◌}
use Rattle.grid.proofs.GridLaws.{least_on-least, least_on-nothing, least_on-is, least_on-none}
use Rattle.layout.specs.declared.Row.{Row}
use Rattle.sides.specs.declared.Primary.{Primary}
use Rattle.sides.specs.declared.Secondary.{Secondary}
use Rattle.sides.specs.Sides.{keyed}
use Rattle.sides.proofs.SidesLaws.{lower-in-primary}
use Rattle.settle.specs.Conditions.{primary_of}
use Rattle.settle.specs.Inequalities.{AvailableOn}
use Rattle.settle.specs.Settle.{least_pickup}

-- x is available and passes, and no other that does is lower in primary
pub record LeastPassing (r : Row) (ok : Primary → Bool) (x : Secondary) : Type 0 where
  pub available : AvailableOn r x
  pub passes : ok (primary_of r x) ≡ true
  pub least : (y : Secondary) → AvailableOn r y → ok (primary_of r y) ≡ true → (primary_of r x).0 ≤ (primary_of r y).0

module _ (r : Row) (p : 0 < r.step.0) (ok : Primary → Bool) where
  abbrev passing : ℕ → Bool
  passing x = ok (primary_of r (keyed x))

  pub least-exactly : (x : ℕ) → (least_pickup r ok ≡ Some x) ↔ LeastPassing r ok (keyed x)
  least-exactly x = (
    λ e.
        let m = least_on-least _ _ _ p passing x e in
        record {
          available = m.available;
          passes = m.passes;
          least = λ y a t. (lower-in-primary r.ratio (keyed x) y).0 (m.least y.0 a t);
        },
    λ m.
        least_on-is _ _ _ p passing x
        (record {
          available = m.available;
          passes = m.passes;
          least = λ y a t. (lower-in-primary r.ratio (keyed x) (keyed y)).1 (m.least (keyed y) a t);
        }),
  )

  pub none-exactly : (least_pickup r ok ≡ None) ↔ ((y : Secondary) → AvailableOn r y → ok (primary_of r y) ≡ false)
  none-exactly = (
    λ e y a. least_on-nothing _ _ _ p passing e y.0 a,
    λ n. least_on-none _ _ _ p passing (λ y a. n (keyed y) a),
  )
