-- `rows::test_rows` meets its contract: the fields' test decides, and where it passes the feeding's test.
use Rattle.std.proofs.lemmas.Result.{err_from_is_err_and}
use Rattle.rows.proofs.TestLaws.{rows-refused, rows-tree}
use Rattle.rows.proofs.test_rows.Goals as goal

pub returns-in_err-test_fields : goal.returns-in_err-test_fields
returns-in_err-test_fields c = let p = err_from_is_err_and c.from_residual.result c.from_residual.ensures.1 in
    rw (p.1, p.2) (rows-refused _ _ _ c.test_fields.ensures c.in_err-test_fields.was)

pub returns : goal.returns
returns c = rows-tree _ _ _ c.test_fields.ensures c.in_ok-test_fields.was c.test_tree.ensures
