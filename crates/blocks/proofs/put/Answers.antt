-- `blocks::put` meets its contract: the loop has copied the first j values.
use Rattle.blocks.proofs.CopyLaws.{copied_none, copied_more, copied_all}
use Rattle.blocks.proofs.put.Goals as goal

pub loop-j-init : goal.loop-j-init
loop-j-init g c = copied_none _ _ _

pub loop-j-preserved : goal.loop-j-preserved
loop-j-preserved g c = copied_more _ _ _ _ _ _ c.requires c.loop-j.invariant c.loop-j-test.true c.index-block-j.is

pub returns : goal.returns
returns g c = copied_all _ _ _ _ _ c.loop-j.invariant c.loop-j-test.false
