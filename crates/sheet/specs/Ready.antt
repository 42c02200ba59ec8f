-- What printing the rows of a text asks of its callers. Definitions only.
use Rattle.cursor.specs.declared.Place.{Place}
use Rattle.std.specs.Prelude.{◌≡◌, List, ℕ, ◌≤◌, length, Ok}
use Rattle.layout.specs.Counts.{field_count, list_most, rows_most}
use Rattle.list.specs.List.{reading, row_numbers, row_places, rows_read}
use Rattle.text.specs.Text.{blocks_over}
use Rattle.sheet.specs.Sheet.{sheet_most}

-- the text was read whole, n rows, into buffers with room for 256, and there is room to print
pub record RowsReady (s list : List ℕ) (names : List Place) (n room : ℕ) : Type 0 where
  pub read : reading s ≡ Ok n
  pub list-room : length list ≡ list_most
  pub names-room : length names ≡ rows_most
  pub before-list : List ℕ
  pub before-names : List Place
  pub numbers : list ≡ blocks_over rows_most field_count (rows_read s) (row_numbers s) before-list
  pub places : names ≡ blocks_over rows_most 1 (rows_read s) (row_places s) before-names
  pub out-room : sheet_most ≤ room
