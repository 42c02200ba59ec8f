-- The fraction behind each law's time, numerator over denominator: how great its parts are, that the denominator rises with M, and the
-- fraction turned over, which gives the least setting for a wanted time. A law that is neither 0, definite, nor 1, B, is as 2, C.
use mathlib.Core.Path.{◌≡◌, refl}
use mathlib.Core.Bool.{false}
use mathlib.Core.Logic.{⊎_elim}
use Prim.Native.Nat.{ℕ, zero, suc, ◌+◌, ◌-◌, ◌*◌, ◌/◌, ◌≤◌, ◌<◌}
use native.Mathlib.Nat.{mul-le-mul, mul-le-mul_right, mul_comm, div-lt_iff_lt-mul}
use native.Mathlib.Omega.{arith}
use lib.Dec.{leb, eqb}
use borrow.Author.Tests.{ne_eqb, leb-true, le-leb}
use Rattle.fold.proofs.BoolLaws.{lt-or-le, same_test}
use Rattle.grid.specs.Round.{ceil_div}
use Rattle.grid.proofs.RoundLaws.{ceil_div-enough, ceil_div-least}
use Rattle.curve.specs.Curve.{setting_to, numerator, denominator}

other-law : (k : ℕ) → (eqb (suc (suc k)) 0 ≡ false) × (eqb (suc (suc k)) 1 ≡ false)
other-law k = (ne_eqb (suc (suc k)) 0 (λ e. omega arith), ne_eqb (suc (suc k)) 1 (λ e. omega arith))

numerator-other : (k : ℕ) → numerator (suc (suc k)) ≡ numerator 2
unfolding numerator
numerator-other k = rw ((other-law k).0, (other-law k).1)

denominator-other : (k m : ℕ) → denominator (suc (suc k)) m ≡ denominator 2 m
unfolding denominator
denominator-other k m = rw ((other-law k).0, (other-law k).1)

setting-other : (k : ℕ) → setting_to (suc (suc k)) ≡ setting_to 2
unfolding setting_to
setting-other k = rw (other-law k).0

pub numerator-from : (law : ℕ) → 0 < numerator law
unfolding numerator
numerator-from zero = omega arith
numerator-from (suc zero) = omega arith
numerator-from (suc (suc k)) = rw (numerator-other k) (omega arith)

pub numerator-to : (law : ℕ) → numerator law ≤ 1000000000
unfolding numerator
numerator-to zero = omega arith
numerator-to (suc zero) = omega arith
numerator-to (suc (suc k)) = rw (numerator-other k) (omega arith)

pub denominator-to : (law m : ℕ) → m ≤ 20000 → denominator law m ≤ 400000000
unfolding denominator
denominator-to zero m h = omega arith
denominator-to (suc zero) m h = omega arith
denominator-to (suc (suc k)) m h = rw (denominator-other k m) (let s = mul-le-mul h h in omega arith)

pub denominator-rises : (law m n : ℕ) → m ≤ n → denominator law m ≤ denominator law n
unfolding denominator
denominator-rises zero m n h = omega arith
denominator-rises (suc zero) m n h = omega arith
denominator-rises (suc (suc k)) m n h = rw (denominator-other k m, denominator-other k n) (let s = mul-le-mul h h in omega arith)

pub denominator-from : (law m : ℕ) → ((law ≡ 0 → ⊥) → 1000 < m) → 0 < denominator law m
unfolding denominator
denominator-from zero m h = omega arith
denominator-from (suc zero) m h = let g = h (λ e. omega arith) in omega arith
denominator-from (suc (suc k)) m h =
    let g = h (λ e. omega arith) in
    rw (denominator-other k m) (let s = mul-le-mul g g in omega arith)

-- where a curve gives no time there is nothing to divide by
pub denominator-none : (law m : ℕ) → (law ≡ 0 → ⊥) → m ≤ 1000 → 0 ≡ denominator law m
unfolding denominator
denominator-none zero m n h = absurd (n refl)
denominator-none (suc zero) m n h = omega arith
denominator-none (suc (suc k)) m n h = rw (denominator-other k m) (let s = mul-le-mul h h in omega arith)

-- the greatest time is that of C with the greatest multiplier at M = 1.001, whose square is 2,001 millionths above 1
pub fraction-to : (law m x : ℕ) → x ≤ setting_to law → 0 < denominator law m → numerator law * x ≤ 60000000 * denominator law m
unfolding numerator denominator setting_to
fraction-to zero m x h p = omega arith
fraction-to (suc zero) m x h p = omega arith
fraction-to (suc (suc k)) m x h p =
    let h' : x ≤ setting_to 2 = rw (setting-other k) at h in
    let p' : 0 < denominator 2 m = rw (denominator-other k m) at p in
    rw (numerator-other k, denominator-other k m)
    (⊎_elim
    (λ (g : 1000 < m). let s = mul-le-mul g g in omega arith)
    (λ (g : m ≤ 1000). let s = mul-le-mul g g in absurd (omega arith))
    (lt-or-le 1000 m))

-- what is divided for the least setting is at most 100,000,000 × 20,000²
pub product-to : (law m want d : ℕ) → m ≤ 20000 → want ≤ 100000000 → d ≡ denominator law m → (want - 1) * d ≤ 40000000000000000
product-to law m want d h w e =
    mul-le-mul {n₁ = want - 1} {n₂ = 100000000} {m₂ = 400000000} (omega arith) (rw e (denominator-to law m h))

-- a / d × x, rounded up, is at least `want` exactly where x is above (want − 1) × d / a
pub turned-over : (a d want x : ℕ) → 0 < a → 0 < d → 0 < want → leb ((want - 1) * d / a + 1) x ≡ leb want (ceil_div (a * x) d)
turned-over a d want x p q w =
    same_test _ _
    (λ t.
    let l = leb-true ((want - 1) * d / a + 1) x t in
    let b : (want - 1) * d < x * a = (div-lt_iff_lt-mul p).0 (omega arith) in
    le-leb want (ceil_div (a * x) d)
    (⊎_elim
    (λ (g : ceil_div (a * x) d < want).
    let f = mul-le-mul_right {m = ceil_div (a * x) d} {n = want - 1} d (omega arith) in
    absurd (omega (arith, ceil_div-enough (a * x) d q, mul_comm a x)))
    (λ (g : want ≤ ceil_div (a * x) d). g)
    (lt-or-le (ceil_div (a * x) d) want)))
    (λ t.
    let l = leb-true want (ceil_div (a * x) d) t in
    le-leb ((want - 1) * d / a + 1) x
    (⊎_elim
    (λ (g : (want - 1) * d < x * a). let b = (div-lt_iff_lt-mul p).1 g in omega arith)
    (λ (g : x * a ≤ (want - 1) * d). let e = ceil_div-least (a * x) d (want - 1) q (omega (arith, mul_comm a x)) in absurd (omega arith))
    (lt-or-le ((want - 1) * d) (x * a))))
