-- A line: cells with commas between, a number or a name in each [01 §6]. Definitions only.
use Rattle.std.specs.Prelude.{Bool, cond, ◌&&◌, List, [], ◌∷◌, ◌++◌, ℕ, ◌+◌, ◌-◌, ◌≤◌, eqb, length, take, drop, replicate, Option, Some, None}
use Rattle.cursor.specs.declared.Column.{Column}
use Rattle.cursor.specs.declared.Column.TheVariants.{Numbers, Names}
use Rattle.cursor.specs.declared.Place.{Place}
use Rattle.cursor.specs.Pieces.{number_of, name_length, is_comma, is_cell, cell_length, after_cell}
use Rattle.text.specs.declared.Columns.{Columns}
use Rattle.text.specs.declared.LineRead.{LineRead}

-- the columns of a layout: so many numbers, a name or none, so many numbers
unfoldable pub columns_of : Columns → List Column
columns_of c = replicate c.before Numbers ++ (cond c.named (Names ∷ []) [] ++ replicate c.after Numbers)

-- how many numbers a line of it holds, and how many names
abbrev pub number_count : Columns → ℕ
number_count c = c.before + c.after

abbrev pub place_count : Columns → ℕ
place_count c = cond c.named 1 0

-- a line holds at most so many numbers
abbrev pub numbers_most : ℕ
numbers_most = 32

-- a layout that can be read: it has a column, and no more numbers than that
pub record Usable (c : Columns) : Type 0 where
  pub some : 1 ≤ number_count c + place_count c
  pub most : number_count c ≤ numbers_most

-- nothing comes next
unfoldable pub is_end : List ℕ → Bool
is_end l = eqb (length l) 0

-- a comma and a cell for each column, and the end of the line
unfoldable pub are_cells : List Column → List ℕ → Bool
are_cells [] l = is_end l
are_cells (k ∷ ks) l =
    let rest = are_cells ks (after_cell k l) in
    is_comma l && is_cell k (drop 1 l) && rest

-- the numbers in such cells, their names as they stand, and the place of each name, the first cell starting at i
unfoldable pub cell_numbers : List Column → List ℕ → List ℕ
cell_numbers [] l = []
cell_numbers (Numbers ∷ ks) l = number_of (drop 1 l) ∷ cell_numbers ks (after_cell Numbers l)
cell_numbers (Names ∷ ks) l = cell_numbers ks (after_cell Names l)

unfoldable pub cell_names : List Column → List ℕ → List (List ℕ)
cell_names [] l = []
cell_names (Numbers ∷ ks) l = cell_names ks (after_cell Numbers l)
cell_names (Names ∷ ks) l = take (name_length (drop 1 l)) (drop 1 l) ∷ cell_names ks (after_cell Names l)

unfoldable pub cell_places : List Column → ℕ → List ℕ → List Place
cell_places [] i l = []
cell_places (Numbers ∷ ks) i l = cell_places ks (i + cell_length Numbers (drop 1 l) + 1) (after_cell Numbers l)
cell_places (Names ∷ ks) i l =
    record { start = i; size = name_length (drop 1 l) } ∷ cell_places ks (i + cell_length Names (drop 1 l) + 1) (after_cell Names l)

-- a line is its cells without the first comma; an empty line is none
unfoldable pub is_line : List Column → List ℕ → Bool
is_line ks l = are_cells ks (44 ∷ l)

unfoldable pub numbers_of : List Column → List ℕ → List ℕ
numbers_of ks l = cell_numbers ks (44 ∷ l)

unfoldable pub names_of : List Column → List ℕ → List (List ℕ)
names_of ks l = cell_names ks (44 ∷ l)

unfoldable pub places_of : List Column → ℕ → List ℕ → List Place
places_of ks i l = cell_places ks i (44 ∷ l)

-- numbers with zeros behind them
unfoldable pub padded : ℕ → List ℕ → List ℕ
padded most xs = xs ++ replicate (most - length xs) 0

-- the first place, if there is one, and such a place as a list
abbrev pub first_place : List Place → Option Place
first_place [] = None
first_place (p ∷ ps) = Some p

abbrev pub listed : Option Place → List Place
listed None = []
listed (Some p) = p ∷ []

-- what the reader of a line that starts at i answers
unfoldable pub line_read : List Column → ℕ → List ℕ → Option LineRead
line_read ks i l =
    cond (is_line ks l) (Some (record { numbers = padded numbers_most (numbers_of ks l); name = first_place (places_of ks i l) })) None
