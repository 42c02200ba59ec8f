-- `test_edit` lets a place and a row pass exactly as EDIT says: each return has the test that failed.
use mathlib.Core.Path.{sym, ◌∙◌}
use native.Mathlib.Omega.{arith}
use Rattle.change.proofs.EditLaws.{edit-passes, edit-refuses}
use Rattle.change.proofs.edit.test_edit.Goals as goal

pub returns-then-place-lt1 : goal.returns-then-place-lt1
returns-then-place-lt1 c = edit-refuses _ _ _ (λ f. omega (arith, f.from))

pub returns-then-n-place : goal.returns-then-n-place
returns-then-n-place c = edit-refuses _ _ _ (λ f. omega (arith, f.to))

pub returns-then-row-ne-FIELDS : goal.returns-then-row-ne-FIELDS
returns-then-row-ne-FIELDS c = edit-refuses _ _ _ (λ f. c.if-row-ne-FIELDS.true f.row-length)

pub returns-then-row-place : goal.returns-then-row-place
returns-then-row-place c = edit-refuses _ _ _ (λ f. c.if-row-place.true f.own-number)

pub returns-then-row-field_at : goal.returns-then-row-field_at
returns-then-row-field_at c = edit-refuses _ _ _ (λ f. c.if-row-field_at.true (f.same-feeder ∙ sym c.field_at.ensures))

pub returns : goal.returns
returns c = edit-passes _ _ _
    (record {
      from = c.if-place-lt1.false;
      to = c.if-n-place.false;
      row-length = omega arith;
      own-number = omega arith;
      same-feeder = omega (arith, c.field_at.ensures);
    })
