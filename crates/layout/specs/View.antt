-- What the conditions see of a list: how many rows it has and each by its fields, and the settings of each. Another group of settings is
-- another view. Rows are counted from 0. Definitions only.
use Rattle.std.specs.Prelude.{List, ℕ}
use Rattle.layout.specs.declared.CardRow.{CardRow}
use Rattle.layout.specs.declared.Row.{Row}
use Rattle.layout.specs.List.{rows, row_at}

pub record View : Type 0 where
  pub count : ℕ
  pub row : ℕ → Row

abbrev pub view_of : List ℕ → View
view_of l = record { count = rows l; row = row_at l }

-- settings give each row its card row
abbrev pub Settings : Type 0
Settings = ℕ → CardRow
