-- The step in D2 is at most 500, of one device and between two.
use mathlib.Core.Bool.{Bool, true, false, cond}
use Prim.Native.Nat.{ℕ, ◌≤◌}
use native.Mathlib.Omega.{arith}
use lib.Dec.{eqb}
use Rattle.settle.specs.Conditions.{margin, margin_between}

pub margin-to : (d : ℕ) → margin d ≤ 500
unfolding margin
margin-to d = by_cases (eqb d 1) (eqb d 2)
  where
    by_cases : (a b : Bool) → cond a 300 (cond b 500 200) ≤ 500
    by_cases true b = omega arith
    by_cases false true = omega arith
    by_cases false false = omega arith

pub margin_between-to : (d e : ℕ) → margin_between d e ≤ 500
unfolding margin_between
margin_between-to d e = omega (arith, margin-to d, margin-to e)
