-- `rows::test_fields` meets its contract: the loop has passed rows without fault, so the first at fault is the first of all.
use mathlib.Core.Path.{sym, ◌∙◌}
use Rattle.fold.proofs.FirstLaws.{passed-more, passed-found, passed-all}
use Rattle.rows.proofs.TestLaws.{row-wrong, row-right, fields-found, fields-none}
use Rattle.rows.proofs.test_fields.Goals as goal

pub returns-in-Some : goal.returns-in-Some
returns-in-Some c = let q = sym c.in-Some.is ∙ c.row_fault.ensures in
    fields-found _ _ _ q (passed-found _ c.loop-i.invariant c.loop-i-test.true (row-wrong _ _ _ q))

pub loop-i-preserved : goal.loop-i-preserved
loop-i-preserved c = passed-more _ c.loop-i.invariant c.loop-i-test.true
    (row-right _ _ (sym c.in_default.is ∙ c.row_fault.ensures))

pub returns : goal.returns
returns c = fields-none _ (passed-all _ c.loop-i.invariant c.loop-i-test.false)
