-- `grid::least_on` meets its contract: from the greater of low and the bound, the next value of the grid.
use native.Mathlib.Omega.{arith}
use mathlib.Core.Path.{sym}
use native.Mathlib.Nat.{pos_of_ne-zero}
use Rattle.grid.proofs.GridLaws.{least_on-no-step, least_on-past-high, next_here, next_past, least_on-next, least_on-next-past}
use Rattle.grid.proofs.least_on.Goals as goal
use Rattle.grid.proofs.least_on.Goals.{then-past-eq0, else-past-eq0}

pub returns-then-step-eq0 : goal.returns-then-step-eq0
returns-then-step-eq0 c = sym (least_on-no-step _ _ _ _ c.if-step-eq0.true)

pub returns-then-high-from : goal.returns-then-high-from
returns-then-high-from c = sym (least_on-past-high _ _ _ _ _ (pos_of_ne-zero c.if-step-eq0.false) c.max-from.ensures c.if-high-from.true)

pub returns-then-high-from-2 : goal.returns-then-high-from-2
returns-then-high-from-2 c =
    let p = pos_of_ne-zero c.if-step-eq0.false in
    let q = c.max-from.ensures in
    elim c.if-past-eq0.branch [
      | then-past-eq0 w ↦ sym (least_on-next-past _ _ _ _ _ p q _ (next_here _ _ _ _ _ p q _ w.if-past-eq0.true w.up-is) (omega arith))
      | else-past-eq0 w ↦ sym (least_on-next-past _ _ _ _ _ p q _ (next_past _ _ _ _ _ p q _ w.if-past-eq0.false w.up-is) (omega arith))
    ]

pub returns-else-high-from-2 : goal.returns-else-high-from-2
returns-else-high-from-2 c =
    let p = pos_of_ne-zero c.if-step-eq0.false in
    let q = c.max-from.ensures in
    elim c.if-past-eq0.branch [
      | then-past-eq0 w ↦ sym (least_on-next _ _ _ _ _ p q _ (next_here _ _ _ _ _ p q _ w.if-past-eq0.true w.up-is) (omega arith))
      | else-past-eq0 w ↦ sym (least_on-next _ _ _ _ _ p q _ (next_past _ _ _ _ _ p q _ w.if-past-eq0.false w.up-is) (omega arith))
    ]
