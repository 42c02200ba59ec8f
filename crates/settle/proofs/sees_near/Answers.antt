-- `settle::sees_near` meets its contract: the factor is the kind's, and the test is the document's.
use native.Mathlib.Omega.{arith}
use mathlib.Core.Path.{◌∙◌}
use borrow.Author.Tests.{eq-eqb, ne_eqb}
use Rattle.settle.proofs.OutcomeLaws.{sees-near-is}
use Rattle.settle.proofs.sees_near.Goals as goal
use Rattle.settle.proofs.sees_near.Goals.{then-r-eq1, else-r-eq1}

pub overflow_mul-result : goal.overflow_mul-result
overflow_mul-result c =
    elim c.if-r-eq1.branch [ then-r-eq1 w ↦ rw w.factor-is (omega arith) | else-r-eq1 w ↦ rw w.factor-is (omega arith) ]

pub returns : goal.returns
returns c =
    elim c.if-r-eq1.branch [
      | then-r-eq1 w ↦ sees-near-is _ _ _ (w.factor-is ∙ rw (eq-eqb _ 1 w.if-r-eq1.true))
      | else-r-eq1 w ↦ sees-near-is _ _ _ (w.factor-is ∙ rw (ne_eqb _ 1 w.if-r-eq1.false))
    ]
