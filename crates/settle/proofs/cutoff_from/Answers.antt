-- `settle::cutoff_from` meets its contract: the bound is the inequality's, in primary.
use native.Mathlib.Omega.{arith}
use native.Mathlib.Nat.{lt_of_le_of_lt, mul-le-mul}
use lib.Dec.{lit<}
use Prim.Native.Nat.{◌*◌, ◌≤◌}
use Rattle.layout.specs.declared.Row.{Row}
use Rattle.layout.specs.Range.{Bounded}
use Rattle.settle.specs.Conditions.{stays_clear}
use Rattle.settle.proofs.cutoff_from.Goals as goal

-- factor × clear, in fifths of a mA
product-to : {r : Row} → Bounded r → r.factor * r.clear.0 ≤ 1000000000000
product-to a = mul-le-mul a.factor-to a.clear-to

pub overflow_mul-r : goal.overflow_mul-r
overflow_mul-r c = record { fits = lt_of_le_of_lt (product-to c.requires) (lit< tt) }

pub least_keyed-requires : goal.least_keyed-requires
least_keyed-requires c = let a = c.requires in (a.rated, omega (arith, product-to a), omega arith, omega arith)

pub returns : goal.returns
unfolding stays_clear
returns c = c.least_keyed.ensures
