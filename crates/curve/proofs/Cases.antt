-- The worked cases hold of the definitions that the contracts cite: the table computes.
use mathlib.Core.Path.{◌≡◌, refl}
use mathlib.Core.List.{map}
use Rattle.grid.specs.Round.{ceil_div}
use Rattle.curve.specs.Cases.{Case, table}
use Rattle.curve.specs.Curve.{multiple, stalls, setting_from, setting_to, numerator, denominator, time_of}

pub cases : map (λ (c : Case). c.comes) table ≡ map (λ (c : Case). c.is) table
unfolding table multiple stalls setting_from setting_to numerator denominator time_of ceil_div
cases = refl
