-- `rowwise::work_rows` meets its contract: the rows below i are worked out and none of them was refused.
use Rattle.rowwise.proofs.StepsLaws.{Stepping}
use Rattle.rowwise.proofs.work_rows.Given as goal

abbrev pub invariant-loop-i : goal.invariant-loop-i
invariant-loop-i l = Stepping l.list l.from l.to l.initial.card l.initial.sums l.card l.sums l.i
