-- `rows::ListRow::first_wrong` meets its contract: the loop has passed fields that are right, so the first that is left is the first of all.
use mathlib.Core.Bool.{not}
use mathlib.Core.Path.{sym, ap, ◌∙◌}
use Rattle.fold.proofs.FirstLaws.{first-step-true, first-step-false, first-end}
use Rattle.rows.specs.Tests.{field_wrong}
use Rattle.rows.proofs.ListRow.first_wrong.Goals as goal

pub returns-then-not-field_right : goal.returns-then-not-field_right
returns-then-not-field_right c = sym
    (c.loop-k.invariant ∙
    first-step-true (field_wrong _ _) _ _ c.loop-k-test.true (ap not (sym c.field_right.ensures ∙ c.if-not-field_right.true)))

pub loop-k-preserved : goal.loop-k-preserved
loop-k-preserved c = c.loop-k.invariant ∙
    first-step-false (field_wrong _ _) _ _ c.loop-k-test.true (ap not (sym c.field_right.ensures ∙ c.if-not-field_right.false))

pub returns : goal.returns
returns c = sym (c.loop-k.invariant ∙ first-end (field_wrong _ _) _ _ c.loop-k-test.false)
