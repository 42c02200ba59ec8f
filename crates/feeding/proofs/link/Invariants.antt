-- `feeding::link` meets its contract: the loop has linked the rows from k on.
use Rattle.feeding.specs.Linking.{Linking}
use Rattle.feeding.proofs.link.Given as goal

abbrev pub invariant-loop-k : goal.invariant-loop-k
invariant-loop-k l = Linking l.list l.links l.k
