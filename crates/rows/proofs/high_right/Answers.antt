-- `rows::high_right` meets its contract: the test is the request's, multiplied out, and the products fit.
use mathlib.Core.Path.{refl}
use native.Mathlib.Nat.{lt_of_le_of_lt, mul-le-mul}
use lib.Dec.{lit<}
use Rattle.rows.specs.Tests.{high_right}
use Rattle.rows.proofs.high_right.Goals as goal

pub overflow_mul-result : goal.overflow_mul-result
overflow_mul-result c = let a = c.requires in record { fits = lt_of_le_of_lt (mul-le-mul a.0 a.1) (lit< tt) }

pub returns : goal.returns
unfolding high_right
returns c = refl
