-- `Columns::kind` meets its contract: the name stands behind the first numbers, and all else is numbers.
use borrow.Author.Tests.{not-true, not-false}
use Rattle.text.proofs.ColumnLaws.{nameless-kind, name-kind, number-kind}
use Rattle.text.proofs.Columns.kind.Goals as goal

pub returns-then-not-self : goal.returns-then-not-self
returns-then-not-self c = nameless-kind _ _ (not-true _ c.if-not-self.true)

pub returns-then-k-self : goal.returns-then-k-self
returns-then-k-self c = name-kind _ _ (not-false _ c.if-not-self.false) c.if-k-self.true

pub returns-else-k-self : goal.returns-else-k-self
returns-else-k-self c = number-kind _ _ (not-false _ c.if-not-self.false) c.if-k-self.false
