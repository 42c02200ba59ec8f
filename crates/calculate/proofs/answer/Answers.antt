-- `calculate::answer` meets its contract: each return is a way in which the tests end; past both of them it is the calculation.
use Rattle.std.proofs.lemmas.Result.{err_from_is_err_and}
use Rattle.calculate.proofs.AnswerLaws.{answered-size, answered-rows, work-tested, answered-worked}
use Rattle.calculate.proofs.answer.Goals as goal

pub returns-in_err-test_size : goal.returns-in_err-test_size
returns-in_err-test_size c = let p = err_from_is_err_and c.from_residual.result c.from_residual.ensures.1 in
    rw (p.1, p.2) (answered-size _ _ _ _ c.test_size.ensures c.in_err-test_size.was)

pub returns-in_err-test_rows : goal.returns-in_err-test_rows
returns-in_err-test_rows c = let p = err_from_is_err_and c.from_residual-in_err-test_rows.result c.from_residual-in_err-test_rows.ensures.1 in
    rw (p.1, p.2) (answered-rows _ _ _ c.test_size.ensures c.in_ok-test_size.was _ _ c.test_rows.ensures c.in_err-test_rows.was)

pub work_tested-requires : goal.work_tested-requires
work_tested-requires c = work-tested _ _ _ c.test_size.ensures c.in_ok-test_size.was _ c.test_rows.ensures c.in_ok-test_rows.was

pub returns : goal.returns
returns c = answered-worked _ _ _ c.test_size.ensures c.in_ok-test_size.was _ c.test_rows.ensures c.in_ok-test_rows.was _ _ c.work_tested.ensures
