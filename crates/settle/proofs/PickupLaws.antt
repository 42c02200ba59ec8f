-- A pickup judged by the three numbers: lower bounds rounded up, and that what is found fits.
use Rattle.std.proofs.Common.{Some}
use mathlib.Core.Path.{◌≡◌, ap, ap₂, ◌∙◌}
use mathlib.Core.Bool.{Bool, ◌&&◌}
use Prim.Native.Nat.{ℕ, ◌+◌, ◌-◌, ◌*◌, ◌≤◌, max}
use native.Mathlib.Nat.{mul-le-mul, mul_right_comm, le_trans}
use lib.Dec.{leb}
use Rattle.grid.specs.Grid.{least_on}
use Rattle.grid.proofs.GridLaws.{least_on-least}
use Rattle.grid.proofs.RoundLaws.{max-leb}
use Rattle.layout.specs.declared.Row.{Row}
use Rattle.layout.specs.Range.{Bounded}
use Rattle.settle.specs.declared.Fed.{Fed}
use Rattle.sides.specs.declared.Secondary.{Secondary}
use Rattle.sides.specs.Sides.{keyed, setting_most}
use Rattle.sides.proofs.SidesLaws.{primary-fits}
use Rattle.settle.specs.Conditions.{primary_of, returns_after_self_start}
use Rattle.settle.specs.Fed.{reach, PrimaryBounded, clear_of_all, lower_by}

-- a primary current of a list times volts
pub current-volts : {a b : ℕ} → a ≤ 500000000 → b ≤ 500000 → a * b ≤ 250000000000000
current-volts h k = mul-le-mul h k

-- a row's load
pub load-bounded : {r : Row} → Bounded r → r.work.0 * r.volts ≤ 250000000000000
load-bounded a = current-volts a.work-to a.volts-to

-- the two bounds, each in primary, say P1 and P2; n × d × I of the code is the document's n × I × d
module _ (r : Row) (f : Fed) (x : ℕ) where
  abbrev I : ℕ
  I = (primary_of r (keyed x)).0

  pub pickup-bound :
      (b₁ b₂ : ℕ) → leb b₁ x ≡ leb (11 * r.selfstart * r.work.0) (10 * r.returnfactor * I) →
      leb b₂ x ≡ leb (11 * (f.excess + f.load - reach)) (10 * r.volts * I) → leb (max b₁ b₂) x ≡ lower_by r f (primary_of r (keyed x))
  unfolding lower_by returns_after_self_start clear_of_all
  pickup-bound b₁ b₂ e₁ e₂ =
      max-leb b₁ b₂ x ∙
      ap₂ ◌&&◌
      (e₁ ∙ ap (leb (11 * r.selfstart * r.work.0)) (mul_right_comm 10 r.returnfactor I))
      (e₂ ∙ ap (leb (11 * (f.excess + f.load - reach))) (mul_right_comm 10 r.volts I))

-- an available pickup is at most what the row's rated primary leaves it
pub found-bounded :
    (r : Row) → Bounded r → (ok : ℕ → Bool) (x : ℕ) → least_on r.low.0 r.high.0 r.step.0 ok ≡ Some x →
    x ≤ setting_most r.ratio.primary
found-bounded r a ok x e =
    le_trans (least_on-least r.low.0 r.high.0 r.step.0 a.step_from ok x e).available.within a.high-to

-- and its primary current fits
pub found-fits : (r : Row) → Bounded r → (x : Secondary) → x.0 ≤ setting_most r.ratio.primary → PrimaryBounded (primary_of r x)
found-fits r a x h = primary-fits r.ratio a.rated x h
