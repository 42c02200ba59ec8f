-- The public theorems on the study's currents [01 §5] and on the parts of a single [02 §4], over the definitions that `convert`, and `parts_of` of
-- `single`, are proved against. Each is proved by citing laws, or by computing. What a whole study gets, exactly when: Demand1.antt. On both sides of a
-- reading [02 §9]: BothSides.antt.
use Prim.Native.Nat.{ℕ, suc, ◌*◌, ◌^◌, ◌≤◌, ◌<◌}
use native.Mathlib.Nat.{mul-one}
use mathlib.Core.Path.{◌≡◌, refl, sym, ap, ◌∙◌, subst}
use mathlib.Core.Bool.{Bool, true, false, cond}
use mathlib.Core.List.{[], ◌∷◌, map}
use lib.IntN.{ℤ, pos, negsuc}
use lib.Dec.{T, eqb}
use lib.Ieee.{Float, nan, inf, fin, binary32, fits, of_bits, to_bits, nan_bits}
use lib.Ieee.Bits.{of_bits-to_bits, to_bits-lt, nan_bits_is}
use lib.Ieee.Exact.{HasValue}
use Rattle.single.specs.declared.Rounding.{Rounding}
use Rattle.single.specs.declared.Rounding.TheVariants.{Up, Down}
use Rattle.single.specs.declared.Sides.{Sides}
use Rattle.std.proofs.Common.{Some, None}
use Rattle.single.specs.Exact.{whole_of, used, HasSides}
use Rattle.single.specs.Parts.{parts_of, bits_of, is_minus, size_of}
use Rattle.single.specs.SingleCurrent.{current_of, Gives, SidesAt}
use Rattle.study.specs.Currents.{convert_of}
use Rattle.study.specs.Cases.{Case, table}
use Rattle.single.proofs.PartsLaws as parts
use Rattle.single.proofs.RoundLaws as round
use Rattle.single.proofs.CurrentLaws as current

-- ---- the parts of every single, by its bits

-- Of a single x `parts_of` gives `parts_of (to_bits binary32 x)`. The language has one value that is not a number and gives no bits for it; `to_bits` has
-- the pattern 0x7fc0_0000. The theorems are over all patterns.

-- they make up its bits again, be it finite, infinite or not a number
pub parts-make-bits : (b : ℕ) → b < 2 ^ 32 → bits_of (parts_of b) ≡ b
parts-make-bits = parts.parts-make-bits

-- Below exponent 255 it is finite, and they make up its exact value. `HasValue x s a c`: x is finite, has a minus where s is true, and is a / c in size.
pub parts-make-value :
    (b : ℕ) → b < 2 ^ 32 → (parts_of b).exponent < 255 → HasValue (of_bits binary32 b) (is_minus (parts_of b)) (size_of (parts_of b)) (2 ^ 149)
parts-make-value = parts.parts-make-value

-- from exponent 255 on it is infinite, with its sign, or not a number
pub parts-not-finite :
    (b : ℕ) → b < 2 ^ 32 → 255 ≤ (parts_of b).exponent → of_bits binary32 b ≡ cond (eqb (parts_of b).fraction 0) (inf (is_minus (parts_of b))) nan
parts-not-finite = parts.parts-not-finite

-- what `parts_of` gives makes up bits that are read as the single again
pub parts-make-single : (x : Float) → T (fits binary32 x) → of_bits binary32 (bits_of (parts_of (to_bits binary32 x))) ≡ x
parts-make-single x f = ap (of_bits binary32) (parts-make-bits (to_bits binary32 x) (to_bits-lt binary32 x f)) ∙ of_bits-to_bits binary32 x f

-- ---- the fraction n / d rounded down is the greatest whole number at or below it, and rounded up the least at or above it

pub floor-at-most : (n d : ℕ) → whole_of Down n d * d ≤ n
floor-at-most = round.floor-at-most

pub floor-greatest : (n d j : ℕ) → 0 < d → j * d ≤ n → j ≤ whole_of Down n d
floor-greatest = round.floor-greatest

pub ceiling-at-least : (n d : ℕ) → 0 < d → n ≤ whole_of Up n d * d
ceiling-at-least = round.ceiling-at-least

pub ceiling-least : (n d j : ℕ) → 0 < d → n ≤ j * d → whole_of Up n d ≤ j
ceiling-least = round.ceiling-least

-- ---- a single gives sides exactly where it is finite, not negative, and the side that is used is from 1 to 100,000,000: those of its exact product

pub given-sound : (to : Rounding) (x : Float) (scale : ℕ) (s : Sides) → current_of to x scale ≡ Some s
    → Gives to x scale (used to s) × SidesAt x scale s
given-sound = current.current-gives

pub given-complete :
    (to : Rounding) (x : Float) (scale k : ℕ) (s : Sides) → Gives to x scale k → SidesAt x scale s → current_of to x scale ≡ Some s
given-complete = current.gives-current

-- In powers of two: m * 2 ^ -(t + 1) times the scale is the fraction m * scale / 2 ^ (t + 1), which is rounded; m * 2 ^ t times the scale is a whole
-- number, which is kept.
pub fraction-rounded :
    (to : Rounding) (m t scale : ℕ) (s : Sides) → current_of to (fin false m (negsuc t)) scale ≡ Some s → HasSides (m * scale) (2 ^ suc t) s
fraction-rounded to m t scale s h =
    subst (λ (n : ℕ). HasSides (n * scale) (2 ^ suc t) s) (mul-one m) (given-sound to (fin false m (negsuc t)) scale s h).1.1

pub whole-number-kept : (to : Rounding) (m t scale : ℕ) (s : Sides) → current_of to (fin false m (pos t)) scale ≡ Some s
    → (s.lower ≡ m * 2 ^ t * scale) × (s.upper ≡ m * 2 ^ t * scale)
whole-number-kept to m t scale s h =
    let n = m * 2 ^ t * scale in
    let sides = (given-sound to (fin false m (pos t)) scale s h).1.1 in
    (round.rounds-unique Down n 1 _ n sides.lower (round.whole-number Down n), round.rounds-unique Up n 1 _ n sides.upper (round.whole-number Up n))

-- ---- refused at any scale and in either direction: every NaN pattern, both infinities, negative numbers, both zeros

pub nan-refused : (to : Rounding) (b scale : ℕ) → nan_bits binary32 b ≡ true → current_of to (of_bits binary32 b) scale ≡ None
nan-refused to b scale h = current.nan-refused to (of_bits binary32 b) scale (sym (nan_bits_is binary32 b) ∙ h)

pub infinite-refused : (to : Rounding) (s : Bool) (scale : ℕ) → current_of to (inf s) scale ≡ None
unfolding current_of
infinite-refused to s scale = refl

pub negative-refused : (to : Rounding) (m : ℕ) (e : ℤ) (scale : ℕ) → 0 < m → current_of to (fin true m e) scale ≡ None
negative-refused = current.negative-refused

pub zero-refused : (to : Rounding) (s : Bool) (e : ℤ) (scale : ℕ) → current_of to (fin s 0 e) scale ≡ None
zero-refused = current.zero-refused

-- ---- the table of worked cases, the examples of section 5 among them

-- the singles of those examples by their bits: 0.5, 100, the next above 100, 13,421,773 / 2 ^ 27 and the smallest positive one, 2 ^ -149
pub example-singles : map (of_bits binary32) (0x3f00_0000 ∷ 0x42c8_0000 ∷ 0x42c8_0001 ∷ 0x3dcc_cccd ∷ 1 ∷ [])
    ≡ fin false 1 (negsuc 0) ∷ fin false 25 (pos 2) ∷ fin false 13107201 (negsuc 16) ∷ fin false 13421773 (negsuc 26) ∷ fin false 1
    (negsuc 148) ∷ []
unfolding of_bits
example-singles = refl

-- their parts, and those of -0.5, minus infinity and a NaN: sign, exponent and fraction
pub example-parts : map (λ (b : ℕ). (parts_of b).sign ∷ (parts_of b).exponent ∷ (parts_of b).fraction ∷ [])
    (0x3f00_0000 ∷ 0x42c8_0000 ∷ 0x42c8_0001 ∷ 0x3dcc_cccd ∷ 1 ∷ 0xbf00_0000 ∷ 0xff80_0000 ∷ 0x7fc0_0000 ∷ [])
    ≡ (0 ∷ 126 ∷ 0 ∷ []) ∷ (0 ∷ 133 ∷ 4718592 ∷ []) ∷ (0 ∷ 133 ∷ 4718593 ∷ []) ∷ (0 ∷ 123 ∷ 5033165 ∷ [])
    ∷ (0 ∷ 0 ∷ 1 ∷ []) ∷ (1 ∷ 126 ∷ 0 ∷ []) ∷ (1 ∷ 255 ∷ 0 ∷ []) ∷ (0 ∷ 255 ∷ 4194304 ∷ []) ∷ []
example-parts = refl

pub cases : map (λ (c : Case). convert_of c.study) table ≡ map (λ (c : Case). c.answer) table
unfolding table convert_of current_of of_bits
cases = refl
