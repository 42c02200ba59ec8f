-- `settle::times::margin_of` meets its contract: each device has its own return, by the same tests as in the definition.
use borrow.Author.Tests.{eq-eqb, ne_eqb}
use Rattle.settle.specs.Conditions.{margin}
use Rattle.settle.proofs.times.margin_of.Goals as goal

pub returns-then-device-eq1 : goal.returns-then-device-eq1
unfolding margin
returns-then-device-eq1 c = rw (eq-eqb _ 1 c.if-device-eq1.true)

pub returns-then-device-eq2 : goal.returns-then-device-eq2
unfolding margin
returns-then-device-eq2 c = rw (ne_eqb _ 1 c.if-device-eq1.false, eq-eqb _ 2 c.if-device-eq2.true)

pub returns-else-device-eq2 : goal.returns-else-device-eq2
unfolding margin
returns-else-device-eq2 c = rw (ne_eqb _ 1 c.if-device-eq1.false, ne_eqb _ 2 c.if-device-eq2.false)
