-- Rounding a fraction to a whole number, over plain numbers: `whole_of` is the least whole number at or above the fraction and the
-- greatest at or below it, since a quotient's remainder is below the divisor. So equal fractions round alike.
use Prim.Native.Nat.{ℕ, zero, suc, ◌*◌, ◌≤◌, ◌<◌}
use native.Mathlib.Nat.{le_trans, le_of_eq, le_antisymm, zero-mul, suc-mul, mul-one, mul_right_comm, mul-le-mul_right, le_of_mul-le-mul_right}
use native.Mathlib.Nat.{div-mul-le_self, div-eq_of_lt, le-div_iff_mul-le}
use native.Mathlib.Omega.{arith}
use mathlib.Core.Path.{◌≡◌, sym}
use lib.Dec.{lit<}
use lib.Ieee.Nearest.{div_mono}
use Rattle.single.specs.declared.Rounding.{Rounding}
use Rattle.single.specs.declared.Rounding.TheVariants.{Up, Down}
use Rattle.grid.specs.Round.{ceil_div}
use Rattle.grid.proofs.RoundLaws.{ceil_div-enough, ceil_div-least}
use Rattle.single.specs.Exact.{whole_of, Rounds}

-- ---- floor and ceiling by inequalities

pub floor-at-most : (n d : ℕ) → whole_of Down n d * d ≤ n
floor-at-most n d = div-mul-le_self n d

pub floor-greatest : (n d j : ℕ) → 0 < d → j * d ≤ n → j ≤ whole_of Down n d
floor-greatest n d j D h = (le-div_iff_mul-le D).1 h

pub ceiling-at-least : (n d : ℕ) → 0 < d → n ≤ whole_of Up n d * d
unfolding ceil_div
ceiling-at-least n d D = ceil_div-enough n d D

pub ceiling-least : (n d j : ℕ) → 0 < d → n ≤ j * d → whole_of Up n d ≤ j
unfolding ceil_div
ceiling-least n d j D h = ceil_div-least n d j D h

pub whole-rounds : (to : Rounding) (n d : ℕ) → 0 < d → Rounds to n d (whole_of to n d)
whole-rounds Up n d D = (ceiling-at-least n d D, λ j h. ceiling-least n d j D h)
whole-rounds Down n d D = (floor-at-most n d, λ j h. floor-greatest n d j D h)

pub rounds-unique : (to : Rounding) (n d k l : ℕ) → Rounds to n d k → Rounds to n d l → k ≡ l
rounds-unique Up n d k l a b = le_antisymm (a.1 l b.0) (b.1 k a.0)
rounds-unique Down n d k l a b = le_antisymm (b.1 k a.0) (a.1 l b.0)

pub whole-number : (to : Rounding) (n : ℕ) → Rounds to n 1 n
whole-number Up n = (le_of_eq (sym (mul-one n)), λ j h. le_trans h (le_of_eq (mul-one j)))
whole-number Down n = (le_of_eq (mul-one n), λ j h. le_trans (le_of_eq (sym (mul-one j))) h)

pub whole-of-one : (to : Rounding) (n : ℕ) → whole_of to n 1 ≡ n
whole-of-one to n = rounds-unique to n 1 (whole_of to n 1) n (whole-rounds to n 1 (lit< tt)) (whole-number to n)

-- ---- equal fractions

-- a / b ≤ c / d, so they are in that order once rounded
pub whole-mono : (to : Rounding) (a b c d : ℕ) → 0 < b → 0 < d → a * d ≤ c * b → whole_of to a b ≤ whole_of to c d
whole-mono Down a b c d B D h = div_mono a b c d B D h
whole-mono Up a b c d B D h =
    ceiling-least a b (whole_of Up c d) B
    (le_of_mul-le-mul_right (le_trans h (le_trans (mul-le-mul_right b (ceiling-at-least c d D)) (le_of_eq (mul_right_comm (whole_of Up c d) d b)))) D)

pub whole_same : (to : Rounding) (a b c d : ℕ) → 0 < b → 0 < d → a * d ≡ c * b → whole_of to a b ≡ whole_of to c d
whole_same to a b c d B D e = le_antisymm (whole-mono to a b c d B D (le_of_eq e)) (whole-mono to c d a b D B (le_of_eq (sym e)))

-- ---- a numerator below two denominators: it rounds alike over both, to 0, or up to 1 where it is not 0

reach : (n d e j : ℕ) → n < e → n ≤ j * d → n ≤ j * e
reach n d e zero E h = omega (arith, zero-mul d, zero-mul e)
reach n d e (suc j) E h = omega (arith, suc-mul j e)

tiny-le : (to : Rounding) (n d e : ℕ) → 0 < d → 0 < e → n < d → n < e → whole_of to n d ≤ whole_of to n e
tiny-le Up n d e D E p q = ceiling-least n d (whole_of Up n e) D (reach n e d (whole_of Up n e) p (ceiling-at-least n e E))
tiny-le Down n d e D E p q = omega (arith, div-eq_of_lt p)

pub whole-tiny : (to : Rounding) (n d e : ℕ) → 0 < d → 0 < e → n < d → n < e → whole_of to n d ≡ whole_of to n e
whole-tiny to n d e D E p q = le_antisymm (tiny-le to n d e D E p q) (tiny-le to n e d E D q p)
