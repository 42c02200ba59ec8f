-- `rows::rating_right` meets its contract: each return is a way in which two ratings stand beside each other.
use borrow.Author.Tests.{eq-eqb}
use Rattle.rows.proofs.FieldLaws.{rating-none, rating-one, rating-other}
use Rattle.rows.proofs.rating_right.Goals as goal

pub returns-then-q-eq0 : goal.returns-then-q-eq0
returns-then-q-eq0 c = rating-none _ _ c.if-q-eq0.true

pub returns-then-q-eq1 : goal.returns-then-q-eq1
returns-then-q-eq1 c = rw (eq-eqb _ 1 c.if-q-eq1.true) (rating-one _ _ c.if-q-eq0.false c.if-q-eq1.true)

pub returns-else-q-eq1 : goal.returns-else-q-eq1
returns-else-q-eq1 c = rating-other _ _ c.if-q-eq0.false c.if-q-eq1.false
