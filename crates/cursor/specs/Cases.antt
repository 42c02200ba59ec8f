-- [01 §6] Worked cases of the cells of a line: the bytes that come next, and what is read there. Definitions only.
use Rattle.std.specs.Prelude.{Bool, true, false, List, [], ◌∷◌, ℕ, Option, None}
use Prim.Native.String.{String}
use Rattle.cursor.specs.declared.Cursor.{Cursor}
use Rattle.cursor.specs.declared.Column.{Column}
use Rattle.cursor.specs.declared.Column.TheVariants.{Numbers, Names}
use Rattle.cursor.specs.declared.Cell.{Cell}
use Rattle.cursor.specs.declared.Cell.TheVariants.{Number}
use Rattle.cursor.specs.Pieces.{cell_read, name_cell, field_at}
use Rattle.cursor.specs.Spelt.{spelt}

-- a cell of this column, the line's first or not, at the start of these bytes
pub record Case : Type 0 where
  pub first : Bool
  pub column : Column
  pub bytes : String
  pub cell : Option (Cell × Cursor)

abbrev place : ℕ → Cursor
place n = record { at = n; line = 1 }

-- what is read of the bytes by the definitions
abbrev pub cell_of : Case → Option (Cell × Cursor)
cell_of c = field_at c.first c.column (place 0) (spelt c.bytes)

-- a number of n bytes with this value, a name of n bytes, and bytes that are neither
abbrev number : String → ℕ → ℕ → Case
number bytes n v = record { first = true; column = Numbers; bytes = bytes; cell = cell_read (Number v) (place n) }

abbrev name : String → ℕ → Case
name bytes n = record { first = true; column = Names; bytes = bytes; cell = cell_read (name_cell 0 n) (place n) }

abbrev neither : Column → String → Case
neither column bytes = record { first = true; column = column; bytes = bytes; cell = None }

-- the same behind the first cell of a line, where a comma comes first
abbrev later : Column → String → Option (Cell × Cursor) → Case
later column bytes cell = record { first = false; column = column; bytes = bytes; cell = cell }

-- a number ends before the first byte that is no digit; what follows a cell must be a comma or the line's end
unfoldable pub cell_cases : List Case
cell_cases =
    number "0" 1 0 ∷ number "5,6" 1 5 ∷ number "120" 3 120 ∷ number "123456789," 9 123456789 ∷ number "12x" 2 12 ∷
    neither Numbers "" ∷ neither Numbers "1234567890" ∷ neither Numbers "00" ∷ neither Numbers "007" ∷ neither Numbers "-1" ∷
    neither Numbers "+1" ∷ neither Numbers " 1" ∷ neither Numbers "\"1\"" ∷ neither Numbers ",1" ∷
    name "F1,2" 2 ∷ name "Pump no. 3 (west)" 17 ∷ name "!~,1" 2 ∷ name "abcdefghijklmnopqrstuvwx" 24 ∷ name "abcdefghijklmnopqrstuvwx," 24 ∷
    name "\"\"" 2 ∷ name "\"a,b\",1" 5 ∷ name "\"a\"\"b\"" 6 ∷ name "\"\"\"\"" 4 ∷ name "\"abcdefghijklmnopqrstuv\"" 24 ∷
    neither Names "" ∷ neither Names ",1" ∷ neither Names "\"a" ∷ neither Names "\"a\"\"" ∷ neither Names "\"abcdefghijklmnopqrstuvw\"" ∷
    later Numbers ",7" (cell_read (Number 7) (place 2)) ∷ later Names ",IN,1" (cell_read (name_cell 1 2) (place 3)) ∷
    later Numbers "7" None ∷ later Numbers ";7" None ∷ later Numbers ", 7" None ∷ later Names "" None ∷
    []
