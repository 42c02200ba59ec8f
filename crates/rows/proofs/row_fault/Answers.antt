-- `rows::row_fault` meets its contract: the table is the row's own, by its rated primary.
use Rattle.rows.proofs.FieldLaws.{table-plain, table-keyed}
use Rattle.rows.proofs.row_fault.Goals as goal

pub invariant_of-fault-clause-own_table : goal.invariant_of-fault-clause-own_table
invariant_of-fault-clause-own_table c = table-plain c.args.list.now c.args.i _ c.field_at.ensures _ c.requires.1 c.if-field_at-eq0.true

pub invariant_of-fault-2-clause-own_table : goal.invariant_of-fault-2-clause-own_table
invariant_of-fault-2-clause-own_table c = table-keyed c.args.list.now c.args.i _ c.field_at.ensures _ c.requires.2 c.if-field_at-eq0.false
