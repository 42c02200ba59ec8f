-- The worked cases of the study across the C boundary hold of the definition that its contract cites: the table computes to what the papers say.
use mathlib.Core.Path.{◌≡◌, refl}
use mathlib.Core.List.{map}
use lib.Ieee.{of_bits}
use Rattle.single.specs.SingleCurrent.{current_of}
use Rattle.study.specs.Currents.{convert_of}
use Rattle.surfpocket.specs.Cases.{Case, table}

pub cases : map (λ (c : Case). c.comes) table ≡ map (λ (c : Case). c.is) table
unfolding table convert_of current_of of_bits
cases = refl
