-- `settle::asks` meets its contract: the products fit, since a primary current times volts stays below REACH, and a lent pickup's a
-- hundred times above; each number is the definition's.
use native.Mathlib.Omega.{arith}
use mathlib.Core.Path.{◌≡◌, sym, subst}
use Prim.Native.Nat.{◌*◌, ◌≤◌}
use native.Mathlib.Nat.{lt_of_le_of_lt, mul-le-mul}
use lib.Dec.{lit<}
use Rattle.layout.specs.declared.CardRow.{CardRow}
use Rattle.layout.specs.declared.Row.{Row}
use Rattle.layout.specs.Range.{Bounded}
use Rattle.sides.specs.declared.Primary.{Primary}
use Rattle.settle.specs.Conditions.{primary_of}
use Rattle.settle.specs.Fed.{CardBounded}
use Rattle.settle.proofs.PickupLaws.{current-volts, found-fits}
use Rattle.settle.proofs.asks.Goals as goal

-- a lent pickup, in primary, times volts
pickup-volts :
    (f : Row) (s : CardRow) → Bounded f → CardBounded f s → (I : Primary) → I ≡ primary_of f s.pickup →
    I.0 * f.volts ≤ 25000000000000000
pickup-volts f s a b I e =
    mul-le-mul (subst (λ (I : Primary). I.0 ≤ 50000000000) (sym e) (found-fits f a s.pickup b.pickup-to)) a.volts-to

pub overflow_mul-load : goal.overflow_mul-load
overflow_mul-load c = let a = c.requires.0 in record { fits = lt_of_le_of_lt (current-volts a.work-to a.volts-to) (lit< tt) }

pub in_primary-pickup-requires : goal.in_primary-pickup-requires
in_primary-pickup-requires c = let a = c.requires in (a.0.rated, a.1.pickup-to)

pub overflow_mul-excess : goal.overflow_mul-excess
overflow_mul-excess c = let to = pickup-volts c.args.f c.args.s c.requires.0 c.requires.1 _ c.in_primary-pickup.ensures in
    record { fits = lt_of_le_of_lt to (lit< tt) }

pub overflow_sub-excess : goal.overflow_sub-excess
overflow_sub-excess c = let a = c.requires.0 in omega (arith, current-volts a.work-to a.volts-to)

pub overflow_add-excess : goal.overflow_add-excess
overflow_add-excess c = omega (arith, pickup-volts c.args.f c.args.s c.requires.0 c.requires.1 _ c.in_primary-pickup.ensures)

pub returns : goal.returns
returns c = rw (c.in_primary-pickup.ensures, c.shortfall_of-shortfall.ensures)
