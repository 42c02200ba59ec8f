-- The text of a list: the fields of section 2 with the name behind the first [01 §6]. Definitions only.
use Rattle.cursor.specs.declared.Place.{Place}
use Rattle.std.specs.Prelude.{◌≡◌, true, List, ℕ, ◌-◌, ◌/◌, length}
use Rattle.cursor.specs.declared.Column.{Column}
use Rattle.text.specs.declared.Columns.{Columns}
use Rattle.text.specs.Line.{columns_of}
use Rattle.text.specs.Grammar.{Row, Text, rows_as}
use Rattle.text.specs.Text.{Reading, read_as, rows_read_as, numbers_as, places_as, blocks_over}
use Rattle.layout.specs.Counts.{field_count}
use Rattle.list.specs.Header.{header}

-- the row's own number, its name, the other fields
abbrev pub list_layout : Columns
list_layout = record { before = 1; named = true; after = field_count - 1 }

abbrev pub list_columns : List Column
list_columns = columns_of list_layout

-- a well-formed text of a list, and the rows that it says
abbrev pub ListText : List ℕ → List Row → Type 0
ListText s rs = Text header list_columns s rs

-- what reading the text of a list gives, the header being line 1, and what it finds in it
abbrev pub reading : List ℕ → Reading
reading s = read_as header list_columns 1 s

abbrev pub rows_of : List ℕ → List Row
rows_of s = rows_as list_columns s

abbrev pub rows_read : List ℕ → ℕ
rows_read s = rows_read_as header list_columns s

abbrev pub row_numbers : List ℕ → List ℕ
row_numbers s = numbers_as list_columns s

abbrev pub row_places : List ℕ → List Place
row_places s = places_as list_columns 0 s

-- What reading leaves: the answer, and in the buffers the rows before the first bad line, as far as there is room.
pub record ListTaken (s list : List ℕ) (names : List Place) (list' : List ℕ) (names' : List Place) (r : Reading) : Type 0 where
  pub answer : r ≡ reading s
  pub numbers : list' ≡ blocks_over (length list / field_count) field_count (rows_read s) (row_numbers s) list
  pub places : names' ≡ blocks_over (length names) 1 (rows_read s) (row_places s) names
