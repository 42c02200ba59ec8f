-- `rework` tests list and card and works the path out, each test ending it as it should.
use Rattle.std.proofs.lemmas.Result.{err_from_is_err_and}
use Rattle.change.proofs.EntryLaws.{rework-rows, rework-card, rework-ready, rework-path}
use Rattle.change.proofs.rework.Goals as goal

pub returns-in_err-test_rows : goal.returns-in_err-test_rows
returns-in_err-test_rows c = let p = err_from_is_err_and c.from_residual.result c.from_residual.ensures.1 in
    rw (p.1, p.2) (rework-rows _ _ _ _ _ c.test_rows.ensures c.in_err-test_rows.was)

pub returns-in_err-test_card : goal.returns-in_err-test_card
returns-in_err-test_card c = let p = err_from_is_err_and c.from_residual-in_err-test_card.result c.from_residual-in_err-test_card.ensures.1 in
    rw (p.1, p.2) (rework-card _ _ _ _ c.test_rows.ensures c.in_ok-test_rows.was _ c.test_card.ensures _ c.in_err-test_card.was)

pub work_path-requires : goal.work_path-requires
work_path-requires c = rework-ready _ _ _ _ c.test_rows.ensures c.in_ok-test_rows.was _ c.test_card.ensures c.in_ok-test_card.was c.requires

pub returns : goal.returns
returns c = rework-path _ _ _ _ c.test_rows.ensures c.in_ok-test_rows.was _ c.test_card.ensures c.in_ok-test_card.was _ _ c.work_path.ensures
