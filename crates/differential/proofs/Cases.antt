-- The worked cases hold of the definition that the contract cites: the table computes.
use mathlib.Core.Path.{◌≡◌, refl}
use mathlib.Core.List.{map}
use Rattle.fold.specs.First.{first}
use Rattle.grid.specs.Grid.{count, value_at, least_on}
use Rattle.layout.specs.Fields.{in_bounds}
use Rattle.differential.specs.Cases.{Case, table}
use Rattle.differential.specs.Slope.{slope_fits, least_slope}
use Rattle.differential.specs.Verdict.{characteristic, both_block, verdict_of}
use Rattle.differential.specs.Given.{by_slope, by_input, differential_of}

pub cases : map (λ (c : Case). c.comes) table ≡ map (λ (c : Case). c.is) table
unfolding table first count value_at least_on in_bounds slope_fits least_slope characteristic both_block verdict_of by_slope by_input differential_of
cases = refl
