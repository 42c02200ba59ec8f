-- [02 §3] The law of a row's time: a definite delay, or curve B or C of IEC 60255-151. M, times and settings are whole numbers: M and
-- multipliers in thousandths, delays and times in ms. Definitions only.
use Rattle.std.specs.Prelude.{Bool, not, cond, ◌&&◌, ℕ, ◌-◌, ◌*◌, ◌/◌, min, leb, eqb}
use Rattle.grid.specs.Round.{ceil_div}

-- "a law (0 definite, 1 B, 2 C)": whether it is a curve
abbrev pub is_curve : ℕ → Bool
is_curve law = not (eqb law 0)

-- M, "current over pickup", of a current x and a pickup y in one unit: "M is rounded down to thousandths and taken as 20 above 20"
unfoldable pub multiple : ℕ → ℕ → ℕ
multiple x y = min 20000 (1000 * x / y)

-- a curve gives no time at an M that, so rounded, is at most 1.000
unfoldable pub stalls : ℕ → ℕ → Bool
stalls law m = is_curve law && leb m 1000

-- what is set on the relay: a delay of 0 to 100,000 ms, or "a multiplier from 0.010 to 1.500", both in steps of 1
unfoldable pub setting_from : ℕ → ℕ
setting_from law = cond (is_curve law) 10 0

unfoldable pub setting_to : ℕ → ℕ
setting_to law = cond (is_curve law) 1500 100000

-- the time in ms at M = m / 1,000 with the setting x is the fraction (numerator law × x) / denominator law m:
-- definite, the delay itself: x / 1; B, 13.5 s / (M − 1) × x / 1,000: 13,500 x / (m − 1,000);
-- C, 80 s / (M² − 1) × x / 1,000: 80,000,000 x / (m² − 1,000,000)
unfoldable pub numerator : ℕ → ℕ
numerator law = cond (is_curve law) (cond (eqb law 1) 13500 80000000) 1

unfoldable pub denominator : ℕ → ℕ → ℕ
denominator law m = cond (is_curve law) (cond (eqb law 1) (m - 1000) (m * m - 1000000)) 1

-- "the time is then rounded up once to a whole millisecond"; 0 where the curve gives none
unfoldable pub time_of : ℕ → ℕ → ℕ → ℕ
time_of law m x = ceil_div (numerator law * x) (denominator law m)
