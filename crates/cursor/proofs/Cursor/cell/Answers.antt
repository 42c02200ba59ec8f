-- `Cursor::cell` meets its contract: a number, or a name whose length is how far the cursor went.
use Rattle.std.proofs.Common.{ap, ◌∙◌, arith}
use Rattle.cursor.specs.declared.Cursor.{Cursor}
use Rattle.cursor.proofs.CellLaws.{cell-number, cell-name, cell-no-name}
use Rattle.cursor.proofs.NameLaws.{name-was, name-was-none}
use Rattle.cursor.proofs.Cursor.cell.Goals as goal

pub overflow_sub-place : goal.overflow_sub-place
overflow_sub-place c = omega (arith, ap (λ (q : Cursor). q.at) (name-was _ _ _ c.in_ok-past-in-Names.ensures).past)

pub returns-in-Numbers : goal.returns-in-Numbers
returns-in-Numbers c = c.number.ensures ∙ cell-number _ c.args.self _ c.in-Numbers.is

pub returns-in_err-past-in-Names : goal.returns-in_err-past-in-Names
returns-in_err-past-in-Names c =
    c.from_residual.ensures ∙ cell-no-name _ c.args.self _ c.in-Names.is (name-was-none _ _ c.in_err-past-in-Names.ensures)

pub returns-in_ok-past-in-Names : goal.returns-in_ok-past-in-Names
returns-in_ok-past-in-Names c = cell-name _ c.args.self _ _ c.in-Names.is (name-was _ _ _ c.in_ok-past-in-Names.ensures)
