-- Worked cases of a single times a scale [01 §5], a single by its bits: at and past both bounds, rounded both ways, each with its lower and its upper
-- side [02 §9]. Definitions only.
use Rattle.std.specs.Prelude.{ℕ, List, [], ◌∷◌, Option, Some, None}
use Rattle.std.specs.Float.{binary32}
use Rattle.std.specs.Float.Ieee.{of_bits}
use Rattle.single.specs.SingleCurrent.{current_of}
use Rattle.single.specs.declared.Rounding.{Rounding}
use Rattle.single.specs.declared.Rounding.TheVariants.{Up, Down}
use Rattle.single.specs.declared.Sides.{Sides}

-- what a single comes to, and what the papers say of it
pub record Case : Type 0 where
  pub comes : Option Sides
  pub is : Option Sides

-- given by its lower and its upper side
abbrev between : ℕ → ℕ → Option Sides
between lower upper = Some (record { lower = lower; upper = upper })

abbrev case : Rounding → ℕ → ℕ → Option Sides → Case
case to bits scale c = record { comes = current_of to (of_bits binary32 bits) scale; is = c }

unfoldable pub table : List Case
table =
    -- 1.5 is rounded both ways, 2.0 neither; half a mA is 1 up and 0 down
    case Up 0x3fc0_0000 1 (between 1 2)
    ∷ case Down 0x3fc0_0000 1 (between 1 2)
    ∷ case Up 0x4000_0000 1 (between 2 2)
    ∷ case Down 0x4000_0000 1 (between 2 2)
    ∷ case Up 0x3f00_0000 1 (between 0 1)
    ∷ case Down 0x3f00_0000 1 None
    -- 13,421,773 / 2 ^ 27, and the smallest positive single
    ∷ case Up 0x3dcc_cccd 1000000 (between 100000 100001)
    ∷ case Down 0x3dcc_cccd 1000000 (between 100000 100001)
    ∷ case Up 1 100000000 (between 0 1)
    ∷ case Down 1 100000000 None
    -- 100,000,000, and the next single above, 100,000,008
    ∷ case Up 0x4cbe_bc20 1 (between 100000000 100000000)
    ∷ case Down 0x4cbe_bc20 1 (between 100000000 100000000)
    ∷ case Down 0x4cbe_bc21 1 None
    -- 1.5 at 66,666,667: 100,000,000.5
    ∷ case Down 0x3fc0_0000 66666667 (between 100000000 100000001)
    ∷ case Up 0x3fc0_0000 66666667 None
    -- zero and minus zero, a negative number, the infinities, not a number
    ∷ case Up 0 1000 None
    ∷ case Up 0x8000_0000 1000 None
    ∷ case Up 0xbf80_0000 1000 None
    ∷ case Up 0x7f80_0000 1000 None
    ∷ case Down 0xff80_0000 1000 None
    ∷ case Up 0x7fc0_0000 1000 None
    ∷ []
