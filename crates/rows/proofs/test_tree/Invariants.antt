-- `rows::test_tree` meets its contract: the loop has passed rows that are fed rightly, so the first that is not is the first of all.
use Rattle.fold.proofs.FirstLaws.{Passed}
use Rattle.rows.specs.Tests.{fed_wrongly}
use Rattle.rows.proofs.test_tree.Given as goal

abbrev pub invariant-loop-i : goal.invariant-loop-i
invariant-loop-i l = Passed (fed_wrongly l.list) l.n l.i
