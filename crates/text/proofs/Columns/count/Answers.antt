-- `Columns::count` meets its contract: the numbers, and one more where there is a name.
use mathlib.Core.Path.{sym, ◌∙◌}
use native.Mathlib.Omega.{arith}
use Rattle.text.proofs.ColumnLaws.{columns-long}
use Rattle.text.proofs.Columns.count.Goals as goal

pub returns-then-self : goal.returns-then-self
returns-then-self c = sym (columns-long _ ∙ rw c.if-self.true)

pub returns : goal.returns
returns c =
    let a = c.args.self in
    sym (columns-long a ∙ rw c.if-self.false (omega arith))
