-- `put_fields` meets its contract. The loop's invariant: the fields written and those left make up all.
use Rattle.std.proofs.Common.{length}
use Rattle.print.specs.Card.{field_most}
use Rattle.print.proofs.FieldsLaws.{fields_left}
use Rattle.print.proofs.PartlyLaws.{Partly}
use Rattle.print.proofs.write.put_fields.Given as goal

abbrev pub invariant-loop-v : goal.invariant-loop-v
invariant-loop-v l = Partly (length l.values) field_most (fields_left (length l.values) l.values) l.initial.out l.at l.out l.next l.v-index
