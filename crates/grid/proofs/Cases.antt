-- The worked cases hold of the definitions that the contracts cite: the table computes.
use mathlib.Core.Path.{◌≡◌, refl}
use mathlib.Core.List.{map}
use Rattle.fold.specs.First.{first}
use Rattle.grid.specs.Cases.{Case, table}
use Rattle.grid.specs.Grid.{count, value_at, least_on}
use Rattle.grid.specs.Round.{ceil_div}

pub cases : map (λ (c : Case). c.comes) table ≡ map (λ (c : Case). c.is) table
unfolding table first count value_at least_on ceil_div
cases = refl
