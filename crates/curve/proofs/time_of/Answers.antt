-- `curve::time_of` meets its contract: a definite delay is its own time, and a curve's fraction fits.
use mathlib.Core.Path.{sym, subst}
use Prim.Native.Nat.{ℕ, ◌*◌, ◌<◌}
use native.Mathlib.Nat.{lt_of_le_of_lt, le_trans, mul-le-mul}
use lib.Dec.{lit<}
use Rattle.curve.proofs.FractionLaws.{numerator-to}
use Rattle.curve.proofs.CurveLaws.{definite-time, setting-to}
use Rattle.curve.proofs.time_of.Goals as goal

pub returns-then-law-eq0 : goal.returns-then-law-eq0
returns-then-law-eq0 c = rw (c.if-law-eq0.true, definite-time)

pub overflow_mul-numerator : goal.overflow_mul-numerator
overflow_mul-numerator c = let a = c.args in
    record {
      fits =
          subst (λ (n : ℕ). n * a.x < 18446744073709551616) (sym c.numerator.ensures)
          (lt_of_le_of_lt (mul-le-mul (numerator-to a.law) (le_trans c.requires.1 (setting-to a.law))) (lit< tt));
    }
