-- `ceil_div n d` is the least x with n ≤ x * d.
use mathlib.Core.Path.{◌≡◌, sym}
use Prim.Native.Nat.{ℕ, ◌+◌, ◌-◌, ◌*◌, ◌/◌, ◌%◌, ◌≤◌, ◌<◌, max}
use lib.Dec.{leb}
use mathlib.Core.Bool.{◌&&◌}
use borrow.Author.Tests.{le-leb, leb-true}
use Rattle.fold.proofs.BoolLaws.{same_test, and_left, and_right, and_both}
use native.Mathlib.Nat.{le_trans, le-max_left, le-max_right, max-le, div-add-mod', mod-lt, div-lt_iff_lt-mul}
use native.Mathlib.Nat.{add-mul, one-mul, le_of_suc-le-suc, suc-mul, div-zero, div-eq_of_lt-le, mul-le-mul_right}
use native.Mathlib.Omega.{arith}
use Rattle.grid.specs.Round.{ceil_div}

pub ceil_div-enough : (n d : ℕ) → 0 < d → n ≤ ceil_div n d * d
unfolding ceil_div
ceil_div-enough n d p =
    omega (arith, div-add-mod' (n + (d - 1)) d, mod-lt (n + (d - 1)) p)

pub ceil_div-least : (n d x : ℕ) → 0 < d → n ≤ x * d → ceil_div n d ≤ x
unfolding ceil_div
ceil_div-least n d x p h =
    le_of_suc-le-suc ((div-lt_iff_lt-mul p).1 (rw (suc-mul x d) (omega arith)))

-- the quotient where nothing is left over
pub ceil_div-exact : (n d : ℕ) → 0 < d → n % d ≡ 0 → n / d ≡ ceil_div n d
unfolding ceil_div
ceil_div-exact n d p z =
    sym (div-eq_of_lt-le d (omega (arith, div-add-mod' n d)) (rw (add-mul (n / d) 1 d, one-mul d) (omega (arith, div-add-mod' n d))))

pub ceil_div-by-zero : (n d : ℕ) → d ≡ 0 → 0 ≡ ceil_div n d
unfolding ceil_div
ceil_div-by-zero n d e = rw (e, div-zero)

-- a bound rounded up, as a test: the quotient is at most x exactly where n is at most x * d
pub ceil_div-leb : (n d x : ℕ) → 0 < d → leb (ceil_div n d) x ≡ leb n (x * d)
ceil_div-leb n d x p =
    same_test _ _
    (λ t. le-leb n (x * d) (le_trans (ceil_div-enough n d p) (mul-le-mul_right d (leb-true _ _ t))))
    (λ t. le-leb (ceil_div n d) x (ceil_div-least n d x p (leb-true _ _ t)))

pub max-leb : (a b x : ℕ) → leb (max a b) x ≡ (leb a x && leb b x)
max-leb a b x =
    same_test _ _
    (λ t.
    let m = leb-true (max a b) x t in
    and_both (le-leb a x (le_trans (le-max_left a b) m)) (le-leb b x (le_trans (le-max_right a b) m)))
    (λ t. le-leb (max a b) x (max-le (leb-true a x (and_left (leb a x) (leb b x) t)) (leb-true b x (and_right (leb a x) (leb b x) t))))
