-- `put_rows` meets its contract. The loop's invariant: the rows written and those left make up all.
use Rattle.print.specs.Card.{line_most}
use Rattle.print.proofs.CardLaws.{rows_left}
use Rattle.print.proofs.PartlyLaws.{Partly}
use Rattle.print.proofs.put_rows.Given as goal

abbrev pub invariant-loop-i : goal.invariant-loop-i
invariant-loop-i l = Partly l.n line_most (rows_left l.text l.names l.card l.n) l.initial.out l.at l.out l.next l.i
