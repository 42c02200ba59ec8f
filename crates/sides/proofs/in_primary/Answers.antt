-- `sides::in_primary` meets its contract: the product is the definition's, and it fits.
use native.Mathlib.Omega.{arith}
use mathlib.Core.Path.{sym, subst}
use Prim.Native.Nat.{ℕ, ◌*◌, ◌<◌}
use native.Mathlib.Nat.{lt_of_le_of_lt, le_trans}
use lib.Dec.{lit<}
use Rattle.sides.proofs.SidesLaws.{stays-primary, setting-to, primary-fits}
use Rattle.sides.proofs.in_primary.Goals as goal

pub overflow_mul-result : goal.overflow_mul-result
overflow_mul-result c = omega (arith, le_trans c.requires.1 (setting-to c.args.q.primary))

pub returns-then-q-eq0 : goal.returns-then-q-eq0
returns-then-q-eq0 c = sym (stays-primary c.args.q c.if-q-eq0.true c.args.x)

pub overflow_mul-result-2 : goal.overflow_mul-result-2
overflow_mul-result-2 c = record {
  fits =
      subst (λ (k : ℕ). c.args.x.0 * k < 18446744073709551616) (sym c.scale.ensures)
      (lt_of_le_of_lt (primary-fits c.args.q c.requires.0 c.args.x c.requires.1) (lit< tt));
}

pub returns : goal.returns
returns c = rw c.scale.ensures
