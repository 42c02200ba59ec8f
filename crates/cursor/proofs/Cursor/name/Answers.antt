-- `Cursor::name` meets its contract: the bytes looked at are the first 24 of what is left, or all of it.
use Rattle.std.proofs.Common.{◌∙◌, arith}
use Rattle.cursor.proofs.NameLaws.{name-read, window}
use Rattle.cursor.proofs.Cursor.name.Goals as goal

pub returns : goal.returns
returns c =
    let a = c.args in
    c.name_within.ensures ∙ name-read a.self _ _ (window a.s.now a.self.at c.min-end.result (omega arith))
