-- The worked cases of the time of a curve across the C boundary hold of the definition that its contract cites: the table computes.
use mathlib.Core.Path.{◌≡◌, refl}
use mathlib.Core.List.{map}
use Rattle.grid.specs.Round.{ceil_div}
use Rattle.curve.specs.Curve.{numerator, denominator, time_of}
use Rattle.surfpocket.specs.Times.{between, may_be_asked, time_asked}
use Rattle.surfpocket.specs.TimeCases.{Case, table}

pub time-cases : map (λ (c : Case). c.comes) table ≡ map (λ (c : Case). c.is) table
unfolding table between may_be_asked time_asked ceil_div numerator denominator time_of
time-cases = refl
