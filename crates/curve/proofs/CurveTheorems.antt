-- [02 §3] What a stranger believes of M and of the two curves: each is the one whole number for which the inequalities of `Exact` hold.
-- M is a quotient rounded down and capped, a time a quotient rounded up: each is known by what it comes to when multiplied out.
use mathlib.Core.Path.{◌≡◌, sym, subst}
use mathlib.Core.Logic.{⊎_elim}
use Prim.Native.Nat.{ℕ, ◌+◌, ◌*◌, ◌/◌, ◌≤◌, ◌<◌}
use native.Mathlib.Nat.{min-le_right, min-eq_left, min-eq_right, le_trans, mul-le-mul_right, div-mul-le_self, div-lt_iff_lt-mul, mul_assoc}
use native.Mathlib.Omega.{arith}
use Rattle.fold.proofs.BoolLaws.{lt-or-le}
use Rattle.grid.proofs.RoundLaws.{ceil_div-enough, ceil_div-least}
use Rattle.curve.specs.Curve.{multiple, numerator, denominator, time_of}
use Rattle.curve.specs.Exact.{IsMultiple, IsLeast, EnoughVeryInverse, EnoughExtremelyInverse}
use Rattle.curve.proofs.CurveLaws.{multiple-to}
use Rattle.curve.proofs.FractionLaws.{denominator-from}

-- "M is rounded down to thousandths and taken as 20 above 20"
pub multiple-exactly : (x y : ℕ) → 0 < y → IsMultiple x y (multiple x y)
unfolding multiple
multiple-exactly x y p =
    let q = 1000 * x / y in
    record {
      capped = multiple-to x y;
      not-above = le_trans (mul-le-mul_right y (min-le_right 20000 q)) (div-mul-le_self (1000 * x) y);
      nearest =
          λ below.
          ⊎_elim
          (λ (l : q < 20000).
          let e : multiple x y ≡ q = min-eq_right {n = q} {m = 20000} (omega arith) in
          subst (λ (m : ℕ). 1000 * x < (m + 1) * y) (sym e) ((div-lt_iff_lt-mul p).0 (omega arith)))
          (λ (g : 20000 ≤ q). absurd (omega (arith, min-eq_left g)))
          (lt-or-le q 20000);
    }

-- there is one at most
not-less : (x y m n : ℕ) → IsMultiple x y m → IsMultiple x y n → m ≤ n
not-less x y m n h g =
    ⊎_elim
    (λ (l : n < m).
    let near = g.nearest (omega (arith, h.capped)) in
    let up = mul-le-mul_right {m = n + 1} {n = m} y (omega arith) in
    absurd (omega (arith, h.not-above)))
    (λ (l : m ≤ n). l)
    (lt-or-le n m)

pub multiple-unique : (x y m : ℕ) → 0 < y → IsMultiple x y m → m ≡ multiple x y
multiple-unique x y m p h =
    let g = multiple-exactly x y p in
    omega (arith, not-less x y m (multiple x y) h g, not-less x y (multiple x y) m g h)

-- "curve B (very inverse, 13.5 / (M − 1))", "rounded up once to a whole millisecond"
pub very-inverse : (m x : ℕ) → 1000 < m → IsLeast (EnoughVeryInverse m x) (time_of 1 m x)
unfolding time_of numerator denominator
very-inverse m x h =
    let n = numerator 1 * x in
    let d = denominator 1 m in
    let p : 0 < d = denominator-from 1 m (λ _. h) in
    record {
      holds = omega (arith, ceil_div-enough n d p, mul_assoc 10 (time_of 1 m x) d);
      least = λ s e. ceil_div-least n d s p (omega (arith, mul_assoc 10 s d));
    }

-- "curve C (extremely inverse, 80 / (M² − 1))"
pub extremely-inverse : (m x : ℕ) → 1000 < m → IsLeast (EnoughExtremelyInverse m x) (time_of 2 m x)
unfolding time_of numerator denominator
extremely-inverse m x h =
    let n = numerator 2 * x in
    let d = denominator 2 m in
    let p : 0 < d = denominator-from 2 m (λ _. h) in
    record {
      holds = omega (arith, ceil_div-enough n d p);
      least = λ s e. ceil_div-least n d s p (omega arith);
    }
