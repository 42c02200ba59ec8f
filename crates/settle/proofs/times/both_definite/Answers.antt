-- `settle::times::both_definite` meets its contract: the second is looked at only where the first is 0.
use borrow.Author.Tests.{eq-eqb, ne_eqb}
use Rattle.settle.proofs.times.both_definite.Goals as goal

pub returns-then-a-eq0 : goal.returns-then-a-eq0
returns-then-a-eq0 c = rw (eq-eqb _ 0 c.if-a-eq0.true)

pub returns-else-a-eq0 : goal.returns-else-a-eq0
returns-else-a-eq0 c = rw (ne_eqb _ 0 c.if-a-eq0.false)
