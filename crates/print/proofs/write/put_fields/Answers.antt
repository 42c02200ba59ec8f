-- `put_fields` meets its contract. The loop's invariant: the fields written and those left make up all.
use Rattle.std.proofs.Common.{subst, List, ℕ, length}
use Rattle.print.specs.Write.{Wrote}
use Rattle.print.specs.Card.{field_most}
use Rattle.print.proofs.FieldsLaws.{fields_left, fields-next, fields-end, fields-all, field-few}
use Rattle.print.proofs.PartlyLaws.{partly_none, partly_more, partly-all}
use Rattle.print.proofs.write.put_fields.Goals as goal

pub loop-v-init : goal.loop-v-init
loop-v-init c =
    let a = c.args in
    partly_none (length a.values.now) field_most (fields_left (length a.values.now) a.values.now) a.out.now a.at

pub loop-v-preserved : goal.loop-v-preserved
loop-v-preserved c =
    let a = c.args in
    let l = c.loop-v in
    let n = length a.values.now in
    partly_more n field_most (fields_left n a.values.now) a.out.now a.at l.out l.next l.v-index l.invariant _ _ _
    c.loop-v-test.true (fields-next n a.values.now l.v-index c.loop-v-test.true) (field-few _) c.requires
    c.put_field-next.ensures c.put_field-next.auto.out

pub returns : goal.returns
returns c =
    let a = c.args in
    let l = c.loop-v in
    let n = length a.values.now in
    let left = fields_left n a.values.now in
    subst (λ (xs : List ℕ). Wrote a.out.now a.at xs l.out l.next) (fields-all n a.values.now)
    (partly-all n field_most left a.out.now a.at l.out l.next l.v-index l.invariant
    (fields-end n a.values.now l.v-index c.loop-v-test.false))
