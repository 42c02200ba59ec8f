-- `within_table` tests one card row against a table: the columns that the loop has passed are right.
use Rattle.path.proofs.CardTestLaws.{righted-none, righted-all, righted-more, righted-fails}
use Rattle.path.proofs.within_table.Goals as goal

pub loop-k-init : goal.loop-k-init
loop-k-init c = righted-none _ _ _

pub returns-then-not-in_bounds : goal.returns-then-not-in_bounds
returns-then-not-in_bounds c = righted-fails _ _ _ _ _ c.column_at.ensures _ c.in_bounds.ensures c.loop-k-test.true c.if-not-in_bounds.true

pub loop-k-preserved : goal.loop-k-preserved
loop-k-preserved c = righted-more _ _ _ _ _ c.column_at.ensures _ c.in_bounds.ensures c.loop-k.invariant c.loop-k-test.true c.if-not-in_bounds.false

pub returns : goal.returns
returns c = righted-all _ _ _ c.loop-k.invariant c.loop-k-test.false
