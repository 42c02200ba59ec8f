-- `rowwise::work_rows` meets its contract: the rows below i are worked out and none of them was refused.
use Rattle.std.proofs.lemmas.Result.{err_from_is_err_and}
use Rattle.rowwise.proofs.StepsLaws.{stepping-start, stepping-refused, stepping-next}
use Rattle.rowwise.proofs.work_rows.Goals as goal

pub loop-i-init : goal.loop-i-init
loop-i-init c = stepping-start _ _ _ _ _

pub returns-in_err-work_row : goal.returns-in_err-work_row
returns-in_err-work_row c = let p = err_from_is_err_and c.from_residual.result c.from_residual.ensures.1 in
    rw (p.1, p.2) (stepping-refused _ _ _ _ _ _ _ _ c.loop-i.invariant _ _ _ _ c.loop-i-test.true c.in_err-work_row.was c.work_row.ensures)

pub loop-i-preserved : goal.loop-i-preserved
loop-i-preserved c = stepping-next _ _ _ _ _ _ _ _ c.loop-i.invariant _ _ _ c.loop-i-test.true c.in_ok-work_row.was c.work_row.ensures
