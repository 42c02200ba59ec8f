-- The worked cases of a single hold of the definition that the contracts cite: the table computes to what the papers say.
use mathlib.Core.Path.{◌≡◌, refl}
use mathlib.Core.List.{map}
use lib.Ieee.{of_bits}
use Rattle.single.specs.Cases.{Case, table}
use Rattle.single.specs.SingleCurrent.{current_of}

pub cases : map (λ (c : Case). c.comes) table ≡ map (λ (c : Case). c.is) table
unfolding table current_of of_bits
cases = refl
