-- `rows::ListRow::fault` meets its contract: the first field that is not right is in the first part, or in the second; then their order is judged.
use native.Mathlib.Omega.{arith}
use mathlib.Core.Path.{sym, ◌∙◌}
use Rattle.layout.specs.Counts.{field_count}
use borrow.Author.Tests.{not-false}
use Rattle.fold.proofs.FirstLaws.{first-at, first-nothing}
use Rattle.rows.proofs.InRangeLaws.{field-in-range}
use Rattle.rows.proofs.TestLaws.{wrong-before, wrong-behind, none-wrong, fault-found, fault-after}
use Rattle.rows.proofs.ListRow.fault.Goals as goal

pub overflow_add-result : goal.overflow_add-result
overflow_add-result g c = omega (arith, (first-at _ _ 0 _ (sym c.first_wrong.ensures ∙ c.in-Some.is)).below)

pub overflow_add-result-in-Some-first_wrong : goal.overflow_add-result-in-Some-first_wrong
overflow_add-result-in-Some-first_wrong g c = omega (arith, (first-at _ _ _ _ (sym c.first_wrong-2.ensures ∙ c.in-Some-first_wrong.is)).below)

pub order_fault-requires-clause-in_range : goal.order_fault-requires-clause-in_range
order_fault-requires-clause-in_range g c =
    let none = none-wrong _ _ _ (omega arith) (sym c.first_wrong.ensures ∙ c.in_default.is) (sym c.first_wrong-2.ensures ∙ c.in_default-first_wrong.is) in
    λ k h. field-in-range _ _ k (not-false _ (first-nothing _ field_count 0 none k (omega arith) (omega arith)))

pub returns-in-Some : goal.returns-in-Some
returns-in-Some g c = fault-found _ _ _ (wrong-before _ _ _ (omega arith) _ (sym c.first_wrong.ensures ∙ c.in-Some.is))

pub returns-in-Some-first_wrong : goal.returns-in-Some-first_wrong
returns-in-Some-first_wrong g c = fault-found _ _ _
    (wrong-behind _ _ _ (omega arith) (sym c.first_wrong.ensures ∙ c.in_default.is) _ (sym c.first_wrong-2.ensures ∙ c.in-Some-first_wrong.is))

pub returns : goal.returns
returns g c = fault-after _ _ _
    (none-wrong _ _ _ (omega arith) (sym c.first_wrong.ensures ∙ c.in_default.is) (sym c.first_wrong-2.ensures ∙ c.in_default-first_wrong.is))
    c.order_fault.ensures
