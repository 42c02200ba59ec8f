-- `within_table` tests one card row against a table: the columns that the loop has passed are right.
use Rattle.path.proofs.CardTestLaws.{Righted}
use Rattle.path.proofs.within_table.Given as goal

abbrev pub invariant-loop-k : goal.invariant-loop-k
invariant-loop-k l = Righted l.table l.card l.j l.k
