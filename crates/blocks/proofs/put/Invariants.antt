-- `blocks::put` meets its contract: the loop has copied the first j values.
use Rattle.blocks.proofs.CopyLaws.{Copied}
use Rattle.blocks.proofs.put.Given as goal

abbrev pub invariant-loop-j : goal.invariant-loop-j
invariant-loop-j g l = Copied l.initial.out l.at l.block l.out l.j
