-- `settle::first_unbacked` meets its contract: the loop has passed rows for which P4 holds or that are fed elsewhere, so the first that is
-- left is the first of all.
use Rattle.fold.proofs.FirstLaws.{Passed}
use Rattle.layout.specs.View.{view_of}
use Rattle.settle.specs.Settle.{unbacked}
use Rattle.settle.proofs.first_unbacked.Given as goal

abbrev pub invariant-loop-j : goal.invariant-loop-j
invariant-loop-j l = Passed (unbacked (view_of l.list) l.i l.r l.x) l.n l.j
