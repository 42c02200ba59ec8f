-- `diffsheet::put_lines` meets its contract. The loop's invariant: the lines written and those left make up all.
use Rattle.print.proofs.PartlyLaws.{Partly}
use Rattle.diffsheet.specs.Sheet.{line_most}
use Rattle.diffsheet.proofs.LinesLaws.{lines_left}
use Rattle.diffsheet.proofs.put_lines.Given as goal

abbrev pub invariant-loop-i : goal.invariant-loop-i
invariant-loop-i l = Partly l.n line_most (lines_left l.n l.inputs) l.initial.out l.at l.out l.next l.i
