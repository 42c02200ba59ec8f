-- Worked cases of the study across the C boundary: each number of [01 §5] and [02 §9] in its place, each unit and each rated current with its reading.
-- Definitions only.
use Rattle.std.specs.Prelude.{ℕ, List, [], ◌∷◌}
use Rattle.std.specs.Float.{binary32}
use Rattle.std.specs.Float.Ieee.{of_bits}
use Rattle.surfpocket.specs.Studies.{unit_of, study_of}
use Rattle.surfpocket.specs.declared.SurfpocketStudy.{SurfpocketStudy}

pub record Case : Type 0 where
  pub comes : SurfpocketStudy
  pub is : SurfpocketStudy

-- the greatest reading and the least, each by its unit's number, the single's bits and the rated mA
abbrev study : ℕ → ℕ → ℕ → ℕ → ℕ → ℕ → SurfpocketStudy
study u g r v l t = study_of (unit_of u (of_bits binary32 g)) r (unit_of v (of_bits binary32 l)) t

-- number and place, both currents, then the lower and the upper side of the greatest reading, and those of the least
abbrev numbers : ℕ → ℕ → ℕ → ℕ → ℕ → ℕ → ℕ → ℕ → SurfpocketStudy
numbers n p g l gl gu ll lu =
    record {
      number = n;
      place = p;
      greatest = g;
      least = l;
      greatest_lower = gl;
      greatest_upper = gu;
      least_lower = ll;
      least_upper = lu;
    }

abbrev done : ℕ → ℕ → ℕ → ℕ → ℕ → ℕ → SurfpocketStudy
done = numbers 0 0

abbrev pub refused : ℕ → SurfpocketStudy
refused place = numbers 8 place 0 0 0 0 0 0

abbrev case : SurfpocketStudy → SurfpocketStudy → Case
case comes is = record { comes = comes; is = is }

unfoldable pub table : List Case
table =
    -- 0.5 A; the single nearest 0.1 in kA; 0.5 per unit of 3 mA, 1.5 mA, and of 7 mA, 3.5 mA
    case (study 1 0x3f00_0000 0 2 0x3dcc_cccd 0) (done 500 100000 500 500 100000 100001)
    ∷ case (study 2 0x3dcc_cccd 0 1 0x3f00_0000 0) (done 100001 500 100000 100001 500 500)
    ∷ case (study 3 0x3f00_0000 3 3 0x3f00_0000 7) (done 2 3 1 2 3 4)
    -- the smallest positive single in A, as the greatest and as the least; a negative greatest
    ∷ case (study 1 1 0 1 0x3f00_0000 0) (done 1 500 0 1 500 500)
    ∷ case (study 1 0x3f00_0000 0 1 1 0) (refused 2)
    ∷ case (study 1 0xbf00_0000 0 1 0x3f00_0000 0) (refused 1)
    -- units that there are not, before a reading that is not a number
    ∷ case (study 0 0x3f00_0000 1000 1 0x7fc0_0000 1000) (refused 0)
    ∷ case (study 1 0x7fc0_0000 1000 4 0x3f00_0000 1000) (refused 0)
    ∷ []
