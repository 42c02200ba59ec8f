-- `feeding::link` meets its contract: the loop has linked the rows from k on.
use Rattle.feeding.proofs.LinkLaws.{linking-none, linking-ready}
use Rattle.feeding.proofs.link.Goals as goal

pub loop-k-init : goal.loop-k-init
loop-k-init c = linking-none _ _ c.requires

pub link_row-requires : goal.link_row-requires
link_row-requires c = linking-ready _ _ _ _ c.requires c.loop-k.invariant c.loop-k-test.true
