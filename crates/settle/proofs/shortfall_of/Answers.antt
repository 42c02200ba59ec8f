-- `settle::shortfall_of` meets its contract: far times volts stays below REACH.
use native.Mathlib.Omega.{arith}
use native.Mathlib.Nat.{lt_of_le_of_lt}
use lib.Dec.{lit<}
use borrow.Author.Tests.{eq-eqb, ne_eqb}
use Rattle.settle.proofs.PickupLaws.{current-volts}
use Rattle.settle.proofs.shortfall_of.Goals as goal

pub overflow_mul-result : goal.overflow_mul-result
overflow_mul-result c = let a = c.requires in record { fits = lt_of_le_of_lt (current-volts a.far-to a.volts-to) (lit< tt) }

pub overflow_sub-result : goal.overflow_sub-result
overflow_sub-result c = let a = c.requires in omega (arith, current-volts a.far-to a.volts-to)

pub returns-then-r-eq1 : goal.returns-then-r-eq1
returns-then-r-eq1 c = rw (eq-eqb _ 1 c.if-r-eq1.true)

pub returns-else-r-eq1 : goal.returns-else-r-eq1
returns-else-r-eq1 c = rw (ne_eqb _ 1 c.if-r-eq1.false)
