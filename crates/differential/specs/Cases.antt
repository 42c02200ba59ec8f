-- [02 §11] Worked cases of the entry, each worked out by hand from the request, on each side of every bound. Definitions only.
use Rattle.std.specs.Prelude.{List, [], ◌∷◌, ℕ}
use Rattle.differential.specs.declared.Given.{Given}
use Rattle.differential.specs.declared.Inputs.{Inputs}
use Rattle.differential.specs.Given.{differential_of}
use Rattle.differential.specs.Inputs.{inputs_of}
use Rattle.differential.specs.Gets.{eight}

pub record Case : Type 0 where
  pub comes : Given
  pub is : Given

abbrev case : Inputs → Given → Case
case x g = record { comes = differential_of x; is = g }

-- INPUT at a place
abbrev refused : ℕ → ℕ → ℕ → ℕ → ℕ → ℕ → ℕ → ℕ → ℕ → Case
refused place s b c t f g d r = case (inputs_of s b c t f g d r) (eight 16 place 0 0 0 0 0 0)

-- this start and outside fault current give this slope, or SLOPE; nothing flows, so the verdict is hold
abbrev slope_is : ℕ → ℕ → ℕ → Case
slope_is s t slope = case (inputs_of s 200 700 t 0 0 0 0) (eight 0 0 s 100 slope 200 700 2)

abbrev no_slope : ℕ → ℕ → Case
no_slope s t = case (inputs_of s 200 700 t 0 0 0 0) (eight 17 0 0 0 0 0 0 0)

-- the request's example, start 0.3, through 4.00 and slope 0.5, with blocking 2.0 and cutoff 7.0: these sides, this differential and this
-- restraint get this verdict
abbrev verdict_is : ℕ → ℕ → ℕ → ℕ → ℕ → Case
verdict_is f g d r v = case (inputs_of 30 200 700 400 f g d r) (eight 0 0 30 100 50 200 700 v)

unfoldable pub table : List Case
table =
    -- "at start 0.3 and through 4.00 the slope is 0.5": 0.3 + 0.5 × 3 = 1.8 and 0.3 + 0.4 × 3 = 1.5, against 1.76
    slope_is 30 400 50
    -- start 0.4: 0.4 + 0.3 × (t − 1) reaches 0.44 × t up to t = 0.1 / 0.14 only, 0.4 + 0.4 × (t − 1) reaches it nowhere above 1,
    -- 0.4 + 0.5 × (t − 1) from t = 0.1 / 0.06 = 1.66.. on, 0.6 from 1.25 and 0.7 from 1.153.. on
    ∷ slope_is 40 167 50 ∷ slope_is 40 166 60
    ∷ slope_is 40 125 60 ∷ slope_is 40 124 70
    ∷ slope_is 40 116 70 ∷ no_slope 40 115
    -- start 0.5: 0.5 + 0.2 × (t − 1) reaches 0.44 × t up to t = 0.3 / 0.24 = 1.25, 0.3 up to 0.2 / 0.14 = 1.428.., 0.4 up to 2.5
    ∷ slope_is 50 125 20 ∷ slope_is 50 126 30
    ∷ slope_is 50 142 30 ∷ slope_is 50 143 40
    ∷ slope_is 50 250 40 ∷ slope_is 50 251 50
    -- at the bend the slope does not count: the start alone, 0.44
    ∷ slope_is 44 100 20 ∷ no_slope 43 100
    -- without a slope there is no card, so that nothing trips and nothing is blocked
    ∷ case (inputs_of 43 200 700 100 0 0 700 0) (eight 17 0 0 0 0 0 0 0)
    ∷ case (inputs_of 43 200 700 100 200 200 0 0) (eight 17 0 0 0 0 0 0 0)
    -- the greatest start and outside fault current
    ∷ slope_is 100 100 20 ∷ slope_is 100 2000 50 ∷ slope_is 20 2000 50
    -- the cutoff, whatever the sides and the restraint; below it 0.3 + 0.5 × 13.38 = 6.99
    ∷ verdict_is 0 0 700 10000 1 ∷ verdict_is 0 0 699 1438 1 ∷ verdict_is 0 0 699 1439 2
    ∷ verdict_is 200 200 700 0 1 ∷ verdict_is 200 200 699 0 3
    -- blocked by both sides, not by one
    ∷ verdict_is 199 200 699 0 1 ∷ verdict_is 200 199 699 0 1 ∷ verdict_is 200 200 0 0 3 ∷ verdict_is 10000 10000 0 0 3
    -- the start up to the bend
    ∷ verdict_is 0 0 30 0 1 ∷ verdict_is 0 0 29 0 2
    ∷ verdict_is 0 0 30 100 1 ∷ verdict_is 0 0 29 100 2
    -- 0.3 + 0.5 × 0.01 is above 0.30, 0.3 + 0.5 × 0.02 = 0.31; 0.3 + 0.5 × 3 = 1.8
    ∷ verdict_is 0 0 30 101 2 ∷ verdict_is 0 0 31 102 1 ∷ verdict_is 0 0 30 102 2
    ∷ verdict_is 0 0 180 400 1 ∷ verdict_is 0 0 179 400 2 ∷ verdict_is 0 0 180 401 2
    -- another start and slope: 0.4 + 0.6 × 1 = 1.0
    ∷ case (inputs_of 40 200 700 125 0 0 100 200) (eight 0 0 40 100 60 200 700 1)
    ∷ case (inputs_of 40 200 700 125 0 0 99 200) (eight 0 0 40 100 60 200 700 2)
    -- the settings at their least and at their greatest are handed on
    ∷ case (inputs_of 20 150 650 1000 0 0 0 0) (eight 0 0 20 100 50 150 650 2)
    ∷ case (inputs_of 100 300 1200 1000 10000 10000 10000 10000) (eight 0 0 100 100 40 300 1200 1)
    -- one off on both sides of each range
    ∷ refused 1 19 200 700 400 0 0 0 0 ∷ refused 1 101 200 700 400 0 0 0 0
    ∷ refused 2 30 149 700 400 0 0 0 0 ∷ refused 2 30 301 700 400 0 0 0 0
    ∷ refused 3 30 200 649 400 0 0 0 0 ∷ refused 3 30 200 1201 400 0 0 0 0
    ∷ refused 4 30 200 700 99 0 0 0 0 ∷ refused 4 30 200 700 2001 0 0 0 0
    ∷ refused 5 30 200 700 400 10001 0 0 0 ∷ refused 6 30 200 700 400 0 10001 0 0
    ∷ refused 7 30 200 700 400 0 0 10001 0 ∷ refused 8 30 200 700 400 0 0 0 10001
    -- the lowest place is named, and before SLOPE
    ∷ refused 1 19 149 649 99 10001 10001 10001 10001 ∷ refused 4 30 200 700 99 0 0 10001 10001
    ∷ refused 8 43 200 700 100 0 0 0 10001
    ∷ []
