-- `settle::pickup_from` meets its contract: the greater of the two bounds, each P1's and P2's inequality in primary.
use native.Mathlib.Omega.{arith}
use native.Mathlib.Nat.{lt_of_le_of_lt, mul-le-mul, mul-le-mul_left}
use lib.Dec.{leb, lit<}
use mathlib.Core.Path.{ap, ◌∙◌}
use Prim.Native.Nat.{ℕ, ◌*◌, ◌≤◌}
use Rattle.layout.specs.declared.Row.{Row}
use Rattle.layout.specs.Range.{Bounded}
use Rattle.sides.specs.Sides.{keyed}
use Rattle.settle.specs.Conditions.{primary_of}
use Rattle.settle.proofs.PickupLaws.{pickup-bound}
use Rattle.settle.proofs.pickup_from.Goals as goal

-- P1's side from below
load-to : {r : Row} → Bounded r → 11 * r.selfstart * r.work.0 ≤ 55000000000000
load-to a = mul-le-mul (mul-le-mul_left 11 a.selfstart-to) a.work-to

pub overflow_mul-r-2 : goal.overflow_mul-r-2
overflow_mul-r-2 c = record { fits = lt_of_le_of_lt (load-to c.requires.0) (lit< tt) }

pub least_keyed-returns-requires : goal.least_keyed-returns-requires
least_keyed-returns-requires c = let a = c.requires.0 in
    (a.rated, omega (arith, load-to a), omega (arith, a.return_from), omega (arith, a.return-to))

pub returns : goal.returns
returns c = let r = c.args.r in
    λ (x : ℕ).
    ap (λ (b : ℕ). leb b x) c.max.ensures ∙
    pickup-bound r c.args.f x _ _ (c.least_keyed-returns.ensures x)
    (c.least_keyed-clears.ensures x ∙ ap (λ (k : ℕ). leb (11 * k) (10 * r.volts * (primary_of r (keyed x)).0)) c.saturating_sub-asked.ensures)
