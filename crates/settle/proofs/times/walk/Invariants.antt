-- `settle::times::walk` meets its contract: the rows gone through have no M at most 1.000, and what they ask is joined; it stops at the first that
-- has one.
use Rattle.layout.specs.List.{rows}
use Rattle.settle.proofs.WalkLaws.{Walking, rows_left}
use Rattle.settle.proofs.times.walk.Given as goal

abbrev pub invariant-loop-next : goal.invariant-loop-next
invariant-loop-next l = Walking l.tree.list.now l.card l.i l.r l.pickup l.from l.next

abbrev pub decreases-loop-next : goal.decreases-loop-next
decreases-loop-next l = rows_left (rows l.tree.list.now) l.next
