-- [02 §11] The slope. Start, slope and through are whole hundredths, and a product of two of them is in hundredths of a hundredth: there both
-- sides of the request's inequality are compared, and nothing is rounded. Definitions only.
use Rattle.std.specs.Prelude.{Bool, ℕ, ◌+◌, ◌-◌, ◌*◌, leb, Option}
use Rattle.grid.specs.Grid.{least_on}
use Rattle.differential.specs.Inputs.{one}

-- "1.1 × 0.4 × through": tenths times tenths are hundredths
abbrev pub error_of : ℕ → ℕ
error_of through = 11 * 4 * through

-- "start + slope × (through − 1) is at least" that
unfoldable pub slope_fits : ℕ → ℕ → ℕ → Bool
slope_fits start through slope = leb (error_of through) (100 * start + slope * (through - one))

-- "0.2, 0.3, .. 0.7"
abbrev pub slope_from : ℕ
slope_from = 20

abbrev pub slope_to : ℕ
slope_to = 70

abbrev pub slope_step : ℕ
slope_step = 10

-- "the least of" them that fits
unfoldable pub least_slope : ℕ → ℕ → Option ℕ
least_slope start through = least_on slope_from slope_to slope_step (slope_fits start through)
