-- [02 §11] The characteristic, and the verdict on a measured pair. Definitions only.
use Rattle.std.specs.Prelude.{Bool, cond, ◌&&◌, ℕ, ◌+◌, ◌-◌, ◌*◌, leb}
use Rattle.differential.specs.declared.Inputs.{Inputs}
use Rattle.differential.specs.declared.Verdict.{Verdict}
use Rattle.differential.specs.declared.Verdict.TheVariants.{Trip, Hold, Blocked}
use Rattle.differential.specs.Inputs.{one}

-- "the bend 1.0"
abbrev pub bend : ℕ
bend = one

-- "the start up to the bend and start + slope × (restraint − 1) above it", in hundredths of a hundredth
unfoldable pub characteristic : ℕ → ℕ → ℕ → ℕ
characteristic start slope restraint = cond (leb restraint bend) (100 * start) (100 * start + slope * (restraint - one))

-- "both sides are at or above blocking"
unfoldable pub both_block : Inputs → Bool
both_block x = leb x.blocking x.first && leb x.blocking x.second

-- "a differential at or above the cutoff always trips; otherwise blocked if both sides are at or above blocking; otherwise trip exactly when the
-- differential is at or above the characteristic"
unfoldable pub verdict_of : Inputs → ℕ → Verdict
verdict_of x slope =
    cond (leb x.cutoff x.differential) Trip
    (cond (both_block x) Blocked
    (cond (leb (characteristic x.start slope x.restraint) (100 * x.differential)) Trip Hold))

-- "1 trip, 2 hold, 3 blocked"
abbrev pub verdict_number : Verdict → ℕ
verdict_number Trip = 1
verdict_number Hold = 2
verdict_number Blocked = 3
