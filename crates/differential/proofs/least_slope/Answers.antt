-- `differential::least_slope` meets its contract: each return is a law of the slope.
use mathlib.Core.Path.{◌∙◌}
use Rattle.differential.proofs.SlopeLaws.{slope-by-start, slope-none, slope-by-bound}
use Rattle.differential.proofs.least_slope.Goals as goal

pub returns-then-wanted-begun : goal.returns-then-wanted-begun
returns-then-wanted-begun c =
    let a = c.args in
    c.least_on.ensures ∙ slope-by-start a.start a.through c.if-wanted-begun.true

pub returns-then-through-eq-ONE : goal.returns-then-through-eq-ONE
returns-then-through-eq-ONE c =
    let a = c.args in
    slope-none a.start a.through c.if-through-eq-ONE.true c.if-wanted-begun.false

pub returns : goal.returns
returns c =
    rw c.ceil_div.ensures at c.least_on-2.ensures
    ∙ slope-by-bound c.args.start c.args.through c.requires.1 c.if-through-eq-ONE.false c.if-wanted-begun.false
