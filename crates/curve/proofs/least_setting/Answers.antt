-- `curve::least_setting` meets its contract: a definite delay is its own time, no time asks no setting, and for a curve the fraction is
-- turned over; its product fits.
use native.Mathlib.Omega.{arith}
use mathlib.Core.Path.{sym, ◌∙◌}
use Prim.Native.Nat.{◌-◌, ◌*◌, ◌≤◌}
use native.Mathlib.Nat.{div-le_self, pos_of_ne-zero}
use borrow.Author.Tests.{le-leb}
use Rattle.curve.specs.Curve.{time_of}
use Rattle.curve.proofs.FractionLaws.{numerator-from, product-to}
use Rattle.curve.proofs.CurveLaws.{definite-time, setting-exactly}
use Rattle.curve.proofs.least_setting.Goals as goal
use Rattle.curve.proofs.least_setting.Goals.{After-denominator}

product-fits : (c : After-denominator) → (c.args.want - 1) * c.denominator.result ≤ 40000000000000000
product-fits c =
    let a = c.args in
    product-to a.law a.m a.want c.denominator.result c.requires.0 c.requires.1 c.denominator.ensures

pub returns-then-law-eq0 : goal.returns-then-law-eq0
returns-then-law-eq0 c x = rw (c.if-law-eq0.true, definite-time)

pub returns-then-want-eq0 : goal.returns-then-want-eq0
returns-then-want-eq0 c x = let a = c.args in
    let reached = le-leb a.want (time_of a.law a.m x) (omega (arith, c.if-want-eq0.true)) in
    le-leb 0 x (omega arith) ∙ sym reached

pub overflow_mul-result : goal.overflow_mul-result
overflow_mul-result c = omega (arith, product-fits (goal.at.overflow_mul-result c).After-denominator)

pub nonzero_div-result : goal.nonzero_div-result
nonzero_div-result c = rw c.numerator.ensures (numerator-from _)

pub overflow_add-result : goal.overflow_add-result
overflow_add-result c = omega (arith, product-fits (goal.at.overflow_add-result c).After-denominator, div-le_self ((c.args.want - 1) * c.denominator.result) c.numerator.result)

pub returns : goal.returns
returns c x = let a = c.args in
    rw (c.numerator.ensures, c.denominator.ensures)
    (setting-exactly a.law a.m a.want c.requires.2 (pos_of_ne-zero c.if-want-eq0.false) x)
