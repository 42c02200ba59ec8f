-- `rows::test_fields` meets its contract: the loop has passed rows without fault, so the first at fault is the first of all.
use Rattle.fold.proofs.FirstLaws.{Passed}
use Rattle.rows.specs.Tests.{row_at_fault}
use Rattle.rows.proofs.test_fields.Given as goal

abbrev pub invariant-loop-i : goal.invariant-loop-i
invariant-loop-i l = Passed (row_at_fault l.list) l.n l.i
