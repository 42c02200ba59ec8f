-- `differential::card_of` meets its contract: where every input is in its range, the slope may be looked for, and the verdict judged.
use mathlib.Core.Path.{sym, ◌∙◌}
use Rattle.std.proofs.Common.{arith}
use Rattle.fold.proofs.FirstLaws.{first_below}
use Rattle.differential.proofs.InputLaws.{start-range, through-range, none-outside}
use Rattle.differential.proofs.SlopeLaws.{slope-to}
use Rattle.differential.proofs.card_of.Goals as goal

pub overflow_add-result : goal.overflow_add-result
overflow_add-result c = omega (arith, first_below _ (sym c.first_outside.ensures ∙ c.in-Some.is))

pub least_slope-requires : goal.least_slope-requires
least_slope-requires c =
    let r = (none-outside _).0 (sym c.first_outside.ensures ∙ c.in_default.is) in
    ((start-range _ r).1, (through-range _ r).0, (through-range _ r).1)

pub judge-requires : goal.judge-requires
judge-requires c = (
  (none-outside _).0 (sym c.first_outside.ensures ∙ c.in_default.is),
  slope-to _ _ _ (sym c.least_slope.ensures ∙ grind arith),
)
