-- [02 §11] The text of lines of inputs, laid out as section 6 lays out a list, but without a name: a header, and eight numbers a line.
-- Definitions only.
use Rattle.std.specs.Prelude.{◌≡◌, false, List, ℕ, ◌/◌, length}
use Rattle.cursor.specs.declared.Column.{Column}
use Rattle.cursor.specs.Spelt.{spelt}
use Rattle.text.specs.declared.Columns.{Columns}
use Rattle.text.specs.Line.{columns_of}
use Rattle.text.specs.Grammar.{Row, Text}
use Rattle.text.specs.Text.{Reading, read_as, rows_read_as, numbers_as, blocks_over}
use Rattle.differential.specs.Inputs.{input_count}

-- the inputs' names, in the order of their places
unfoldable pub input_header : List ℕ
input_header = spelt "start,blocking,cutoff,through,first_side,second_side,differential,restraint"

abbrev pub input_layout : Columns
input_layout = record { before = input_count; named = false; after = 0 }

abbrev pub input_columns : List Column
input_columns = columns_of input_layout

-- a well-formed text of inputs, and the rows that it says
abbrev pub InputText : List ℕ → List Row → Type 0
InputText s rs = Text input_header input_columns s rs

-- what reading it gives, the header being line 1
abbrev pub reading : List ℕ → Reading
reading s = read_as input_header input_columns 1 s

-- What reading leaves: the answer, and in the buffer the lines before the first bad one, as far as there is room.
pub record InputsTaken (s inputs inputs' : List ℕ) (r : Reading) : Type 0 where
  pub answer : r ≡ reading s
  pub numbers :
      inputs' ≡ blocks_over (length inputs / input_count) input_count (rows_read_as input_header input_columns s) (numbers_as input_columns s) inputs
