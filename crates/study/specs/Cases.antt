-- Worked cases of the study's currents, by plain numbers: the examples of [01 §5] and singles at and past every refusal, a single by its bits, each
-- with the lower and the upper side of both readings [02 §9]. Definitions only.
use Rattle.std.specs.Prelude.{ℕ, List, [], ◌∷◌, Float}
use Rattle.std.specs.Float.{binary32}
use Rattle.std.specs.Float.Ieee.{of_bits}
use Rattle.study.specs.declared.Quantity.{Quantity}
use Rattle.study.specs.declared.Quantity.TheVariants.{Amperes, Kiloamperes, PerUnit}
use Rattle.study.specs.declared.Reading.{Reading}
use Rattle.study.specs.declared.Study.{Study}
use Rattle.study.specs.declared.Converted.{Converted}

pub record Case : Type 0 where
  pub study : Study
  pub answer : Converted

-- a reading by its unit, the single's bits and the rated mA
abbrev reading : (Float → Quantity) → ℕ → ℕ → Reading
reading unit b rated = record { quantity = unit (of_bits binary32 b); rated = rated }

abbrev case : Reading → Reading → Converted → Case
case g l a = record { study = record { greatest = g; least = l }; answer = a }

-- number and place, both currents, then the lower and the upper side of the greatest reading, and those of the least
abbrev numbers : ℕ → ℕ → ℕ → ℕ → ℕ → ℕ → ℕ → ℕ → Converted
numbers n p g l gl gu ll lu =
    record {
      number = n;
      place = p;
      greatest = g;
      least = l;
      sides = record { greatest = record { lower = gl; upper = gu }; least = record { lower = ll; upper = lu } };
    }

abbrev done : ℕ → ℕ → ℕ → ℕ → ℕ → ℕ → Converted
done = numbers 0 0

abbrev refused : ℕ → Converted
refused place = numbers 8 place 0 0 0 0 0 0

-- 0.5 A
abbrev half : Reading
half = reading Amperes 0x3f00_0000 0

unfoldable pub table : List Case
table =
    -- 0.5 A: 500 both ways, whatever the rated current that is not needed
    case half half (done 500 500 500 500 500 500)
    ∷ case (reading Amperes 0x3f00_0000 100000001) half (done 500 500 500 500 500 500)
    -- 100 kA, and the next single above
    ∷ case (reading Kiloamperes 0x42c8_0000 0) (reading Kiloamperes 0x42c8_0000 0)
    (done 100000000 100000000 100000000 100000000 100000000 100000000)
    ∷ case (reading Kiloamperes 0x42c8_0001 0) half (refused 1)
    ∷ case half (reading Kiloamperes 0x42c8_0001 0) (refused 2)
    -- the single nearest 0.1, in kA
    ∷ case (reading Kiloamperes 0x3dcc_cccd 0) (reading Kiloamperes 0x3dcc_cccd 0)
    (done 100001 100000 100000 100001 100000 100001)
    -- the smallest positive single, in A: as the greatest it has 0 below it
    ∷ case (reading Amperes 1 0) half (done 1 500 0 1 500 500)
    ∷ case half (reading Amperes 1 0) (refused 2)
    -- 1.5 per unit of 66,666,667 mA, 100,000,000.5 mA: as the least it has 100,000,001 above it, as the greatest it is refused
    ∷ case half (reading PerUnit 0x3fc0_0000 66666667) (done 500 100000000 500 500 100000000 100000001)
    ∷ case (reading PerUnit 0x3fc0_0000 66666667) half (refused 1)
    -- 1.0 per unit of the least and the greatest rated current, and of those beside them
    ∷ case (reading PerUnit 0x3f80_0000 1) (reading PerUnit 0x3f80_0000 100000000)
    (done 1 100000000 1 1 100000000 100000000)
    ∷ case (reading PerUnit 0x3f80_0000 0) half (refused 0)
    ∷ case half (reading PerUnit 0x3f80_0000 100000001) (refused 0)
    -- the rated current is tested before a greatest that is not a number, and the greatest before the least
    ∷ case (reading Amperes 0x7fc0_0000 0) (reading PerUnit 0x3f80_0000 0) (refused 0)
    ∷ case (reading Amperes 0x7fc0_0000 0) (reading Amperes 0x7fc0_0000 0) (refused 1)
    -- not a number, with other payloads and signs
    ∷ case (reading Kiloamperes 0x7f80_0001 0) half (refused 1)
    ∷ case half (reading PerUnit 0xffff_ffff 1) (refused 2)
    -- infinity and minus infinity, the greatest finite single, -0.5 and the negative single nearest zero
    ∷ case (reading Amperes 0x7f80_0000 0) half (refused 1)
    ∷ case half (reading Amperes 0xff80_0000 0) (refused 2)
    ∷ case (reading PerUnit 0x7f7f_ffff 1) half (refused 1)
    ∷ case (reading Amperes 0xbf00_0000 0) half (refused 1)
    ∷ case half (reading Amperes 0x8000_0001 0) (refused 2)
    -- zero and minus zero: 0 mA
    ∷ case (reading Amperes 0 0) half (refused 1)
    ∷ case half (reading Amperes 0x8000_0000 0) (refused 2)
    ∷ []
