-- The pieces of a line: number, name, comma [01 §6]. Each looks at the bytes that are left. Definitions only.
use Rattle.std.specs.Prelude.{Bool, true, false, cond, not, ◌&&◌, ◌||◌, List, [], ◌∷◌, ℕ, ◌+◌, ◌-◌, ◌*◌, leb, eqb, get_or, take, drop, Option, Some, None}
use Rattle.cursor.specs.declared.Class.TheVariants.{Digit, Bare}
use Rattle.cursor.specs.declared.Cursor.{Cursor}
use Rattle.cursor.specs.declared.Column.{Column}
use Rattle.cursor.specs.declared.Column.TheVariants.{Numbers, Names}
use Rattle.cursor.specs.declared.Cell.{Cell}
use Rattle.cursor.specs.declared.Cell.TheVariants.{Number, Name}
use Rattle.cursor.specs.Bytes.{plain_byte, passes, run}

-- the cursor n bytes on, in the same line
abbrev pub moved : Cursor → ℕ → Cursor
moved c n = record { at = c.at + n; line = c.line }

-- the cursor behind the CRLF that comes next
abbrev pub next_line : Cursor → Cursor
next_line c = record { at = c.at + 2; line = c.line + 1 }

-- how many digits come next
unfoldable pub digits : List ℕ → ℕ
digits l = run (passes Digit) l

-- a number comes next: one to nine digits, no leading zero but 0 itself
unfoldable pub is_number : List ℕ → Bool
is_number l = leb 1 (digits l) && leb (digits l) 9 && (leb (digits l) 1 || not (eqb (get_or l 0 0) 48))

-- the decimal value of digits that follow the digits of v
unfoldable pub decimal : ℕ → List ℕ → ℕ
decimal v [] = v
decimal v (b ∷ l) = decimal (v * 10 + (b - 48)) l

-- the value of the digits that come next
unfoldable pub number_of : List ℕ → ℕ
number_of l = decimal 0 (take (digits l) l)

-- A quoted name after its opening quote, i bytes into the name: where it ends.
unfoldable mutual
  -- plain bytes up to a quote
  pub plain_part : ℕ → List ℕ → Option ℕ
  plain_part i [] = None
  plain_part i (b ∷ l) =
      let quote = quote_part (i + 1) l in
      let more = plain_part (i + 1) l in
      cond (eqb b 34) quote (cond (plain_byte b) more None)

  -- after a quote: a second one doubles it, otherwise it closes the name
  pub quote_part : ℕ → List ℕ → Option ℕ
  quote_part i [] = Some i
  quote_part i (b ∷ l) =
      let more = plain_part (i + 1) l in
      cond (eqb b 34) more (Some i)

-- a name has at most so many bytes
abbrev pub name_most : ℕ
name_most = 24

-- a run of n bytes without quotes that starts at i
unfoldable pub bare_end : ℕ → ℕ → Option ℕ
bare_end i n = cond (eqb n 0) None (Some (i + n))

-- a name that starts at i, within the bytes w: where it ends
unfoldable pub name_end : ℕ → List ℕ → Option ℕ
name_end i w = cond (eqb (get_or w 0 0) 34) (plain_part (i + 1) (drop 1 w)) (bare_end i (run (passes Bare) w))

unfoldable pub is_found : Option ℕ → Bool
is_found (Some n) = true
is_found None = false

unfoldable pub place_found : Option ℕ → ℕ
place_found (Some n) = n
place_found None = 0

-- a name comes next, and how long it is, quotes counted
unfoldable pub is_name : List ℕ → Bool
is_name l = is_found (name_end 0 (take name_most l))

unfoldable pub name_length : List ℕ → ℕ
name_length l = place_found (name_end 0 (take name_most l))

-- a comma comes next
unfoldable pub is_comma : List ℕ → Bool
is_comma l = eqb (get_or l 0 0) 44

-- a cell of a column comes next, how long it is, and what is left behind a comma and that cell
unfoldable pub is_cell : Column → List ℕ → Bool
is_cell Numbers l = is_number l
is_cell Names l = is_name l

unfoldable pub cell_length : Column → List ℕ → ℕ
cell_length Numbers l = digits l
cell_length Names l = name_length l

unfoldable pub after_cell : Column → List ℕ → List ℕ
after_cell column l = drop (1 + cell_length column (drop 1 l)) l

-- a cell that was read, with the cursor past it
abbrev pub cell_read : Cell → Cursor → Option (Cell × Cursor)
cell_read x past = Some (x, past)

-- the place of a name
abbrev pub name_cell : ℕ → ℕ → Cell
name_cell start size = Name (record { start = start; size = size })

-- what the readers of a number, of a name, of a cell and of a cell behind its comma answer at a cursor
unfoldable pub number_at : Cursor → List ℕ → Option (Cell × Cursor)
number_at c l = cond (is_number l) (cell_read (Number (number_of l)) (moved c (digits l))) None

unfoldable pub name_at : Cursor → List ℕ → Option Cursor
name_at c l = cond (is_name l) (Some (moved c (name_length l))) None

unfoldable pub cell_at : Column → Cursor → List ℕ → Option (Cell × Cursor)
cell_at Numbers c l = number_at c l
cell_at Names c l = cond (is_name l) (cell_read (name_cell c.at (name_length l)) (moved c (name_length l))) None

unfoldable pub field_at : Bool → Column → Cursor → List ℕ → Option (Cell × Cursor)
field_at first column c l =
    cond first (cell_at column c l) (cond (is_comma l) (cell_at column (moved c 1) (drop 1 l)) None)

-- a name that ends at a place that was found, in a line
abbrev pub name_to : ℕ → Option ℕ → Option Cursor
name_to line (Some i) = Some (record { at = i; line = line })
name_to line None = None
