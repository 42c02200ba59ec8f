-- `answer` is the replacement that section 4 says: sizes, EDIT, then the exchange of the row, each test ending it as it should.
use mathlib.Core.Path.{sym, ◌∙◌}
use Rattle.std.proofs.lemmas.Result.{err_from_is_err_and}
use Rattle.change.proofs.EditLaws.{edit-passed}
use Rattle.change.proofs.EntryLaws.{answer-size, answer-edit, answer-ready, answer-exchanged}
use Rattle.change.proofs.answer.Goals as goal

pub returns-in_err-test_size : goal.returns-in_err-test_size
returns-in_err-test_size c = let p = err_from_is_err_and c.from_residual.result c.from_residual.ensures.1 in
    rw (p.1, p.2) (answer-size _ _ _ _ _ _ c.test_size.ensures c.in_err-test_size.was)

pub returns-in_err-test_edit : goal.returns-in_err-test_edit
returns-in_err-test_edit c = let p = err_from_is_err_and c.from_residual-in_err-test_edit.result c.from_residual-in_err-test_edit.ensures.1 in
    rw (p.1, p.2) (answer-edit _ _ _ _ _ c.test_size.ensures c.in_ok-test_size.was _ c.test_edit.ensures _ c.in_err-test_edit.was)

pub overflow_sub-place : goal.overflow_sub-place
overflow_sub-place c = (edit-passed _ _ _ (sym c.test_edit.ensures ∙ c.in_ok-test_edit.was)).from

pub exchange-requires : goal.exchange-requires
exchange-requires c = answer-ready _ _ _ _ _ c.test_size.ensures c.in_ok-test_size.was _ c.test_edit.ensures c.in_ok-test_edit.was

pub returns : goal.returns
returns c = answer-exchanged _ _ _ _ _ c.test_size.ensures c.in_ok-test_size.was _ c.test_edit.ensures c.in_ok-test_edit.was _ _ _ c.exchange.ensures
