-- `read_line` meets its contract. The loop's invariant: the cells read and the cells left make up the line.
use Rattle.text.specs.Line.{columns_of}
use Rattle.text.proofs.LineLaws.{ReadTo}
use Rattle.text.proofs.line.read_line.Given as goal

abbrev pub invariant-loop-k : goal.invariant-loop-k
invariant-loop-k l = ReadTo (columns_of l.columns) l.s l.initial.c.at l.numbers l.name l.c l.k l.n
