-- `rows::test_tree` meets its contract: the loop has passed rows that are fed rightly, so the first that is not is the first of all.
use mathlib.Core.Bool.{not}
use mathlib.Core.Path.{sym, ap, ◌∙◌}
use Rattle.fold.proofs.FirstLaws.{passed-more, passed-found, passed-all}
use Rattle.rows.proofs.TestLaws.{tree-found, tree-none}
use Rattle.rows.proofs.test_tree.Goals as goal

pub returns-then-not-feeds_right : goal.returns-then-not-feeds_right
returns-then-not-feeds_right c = tree-found _ _
    (passed-found _ c.loop-i.invariant c.loop-i-test.true
    (ap not (sym c.feeds_right.ensures ∙ c.if-not-feeds_right.true)))

pub loop-i-preserved : goal.loop-i-preserved
loop-i-preserved c = passed-more _ c.loop-i.invariant c.loop-i-test.true
    (ap not (sym c.feeds_right.ensures ∙ c.if-not-feeds_right.false))

pub returns : goal.returns
returns c = tree-none _ (passed-all _ c.loop-i.invariant c.loop-i-test.false)
