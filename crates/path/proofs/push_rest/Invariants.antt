-- `push_rest` counts every row off the path with the numbers found on the card. The loop's invariant is `Resting`.
use Rattle.path.proofs.RestLaws.{Resting}
use Rattle.path.proofs.push_rest.Given as goal

abbrev pub invariant-loop-j : goal.invariant-loop-j
invariant-loop-j l = Resting l.list l.i l.card l.sums l.next l.j
