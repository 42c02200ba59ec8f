-- `sides::least_keyed` meets its contract: a bound rounded up on the relay's scale says the same as the inequality in primary.
use native.Mathlib.Nat.{lt_of_le_of_lt, mul-le-mul}
use lib.Dec.{lit<}
use mathlib.Core.Path.{sym, ap, ◌∙◌, subst}
use Prim.Native.Nat.{ℕ, ◌*◌, ◌<◌}
use Rattle.grid.specs.Round.{ceil_div}
use Rattle.sides.proofs.SidesLaws.{scale-none, scale-to, least-bound}
use Rattle.sides.proofs.least_keyed.Goals as goal

pub returns-then-q-eq0 : goal.returns-then-q-eq0
unfolding ceil_div
returns-then-q-eq0 c = let a = c.args in
    least-bound a.q a.n a.d c.requires.2 _ (ap (λ (k : ℕ). ceil_div a.n (a.d * k)) (sym (scale-none a.q c.if-q-eq0.true)))

pub overflow_mul-d : goal.overflow_mul-d
overflow_mul-d c = record {
  fits =
      subst (λ (k : ℕ). c.args.d * k < 18446744073709551616) (sym c.scale.ensures)
      (lt_of_le_of_lt (mul-le-mul c.requires.3 (scale-to c.args.q c.requires.0)) (lit< tt));
}

pub returns : goal.returns
returns c = let a = c.args in
    least-bound a.q a.n a.d c.requires.2 _ (c.ceil_div.ensures ∙ ap (λ (k : ℕ). ceil_div a.n (a.d * k)) c.scale.ensures)
