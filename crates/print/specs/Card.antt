-- The card, with the columns that were added [02 §3], and a refusal as they are printed [01 §6]. Definitions only.
use Rattle.std.specs.Prelude.{◌≡◌, Bool, true, cond, ◌&&◌, List, [], ◌∷◌, ◌++◌, ℕ, zero, suc, ◌+◌, ◌-◌, ◌*◌, ◌/◌, ◌≤◌, leb, length, get_or, take, drop}
use Rattle.layout.specs.Counts.{column_count}
use Rattle.answers.specs.Answer.{number_count}
use Rattle.std.specs.List.{list_all}
use Rattle.cursor.specs.Pieces.{name_most}
use Rattle.cursor.specs.declared.Place.{Place}
use Rattle.cursor.specs.Names.{names_at}
use Rattle.print.specs.Write.{digits_most, number_text, written}

-- name,pickup,delay,cutoff,law,multiplier
abbrev pub card_header : List ℕ
card_header =
    110 ∷ 97 ∷ 109 ∷ 101 ∷ 44 ∷  -- name
    112 ∷ 105 ∷ 99 ∷ 107 ∷ 117 ∷ 112 ∷ 44 ∷  -- pickup
    100 ∷ 101 ∷ 108 ∷ 97 ∷ 121 ∷ 44 ∷  -- delay
    99 ∷ 117 ∷ 116 ∷ 111 ∷ 102 ∷ 102 ∷ 44 ∷  -- cutoff
    108 ∷ 97 ∷ 119 ∷ 44 ∷  -- law
    109 ∷ 117 ∷ 108 ∷ 116 ∷ 105 ∷ 112 ∷ 108 ∷ 105 ∷ 101 ∷ 114 ∷  -- multiplier
    13 ∷ 10 ∷ []

-- refused,place,field
abbrev pub refusal_header : List ℕ
refusal_header = 114 ∷ 101 ∷ 102 ∷ 117 ∷ 115 ∷ 101 ∷ 100 ∷ 44 ∷ 112 ∷ 108 ∷ 97 ∷ 99 ∷ 101 ∷ 44 ∷ 102 ∷ 105 ∷ 101 ∷ 108 ∷ 100 ∷ 13 ∷ 10 ∷ []

abbrev pub line_end : List ℕ
line_end = 13 ∷ 10 ∷ []

-- k numbers, each behind a comma
unfoldable pub fields_text : ℕ → List ℕ → List ℕ
fields_text zero values = []
fields_text (suc k) values = (44 ∷ number_text (get_or values 0 0)) ++ fields_text k (drop 1 values)

-- the name and the numbers of one row
unfoldable pub line_text : List ℕ → List ℕ → List ℕ
line_text name card = name ++ fields_text column_count card ++ line_end

-- a line for each name, with the next numbers of the card
unfoldable pub rows_text : List (List ℕ) → List ℕ → List ℕ
rows_text [] card = []
rows_text (name ∷ names) card = line_text name card ++ rows_text names (drop column_count card)

unfoldable pub card_text : List (List ℕ) → List ℕ → List ℕ
card_text names card = card_header ++ rows_text names card

-- k numbers, at least one, with commas between, in a line of their own
unfoldable pub numbers_text : ℕ → List ℕ → List ℕ
numbers_text k values = number_text (get_or values 0 0) ++ fields_text (k - 1) (drop 1 values) ++ line_end

-- a refusal: its header, and its numbers
unfoldable pub refusal_text : List ℕ → List ℕ
refusal_text numbers = refusal_header ++ numbers_text number_count numbers

-- the bytes of the card's header, and at most those of a field, of the fields, of a line of the card, of a line of k numbers and of a refusal
abbrev pub header_size : ℕ
header_size = 41

abbrev pub field_most : ℕ
field_most = digits_most + 1

abbrev pub fields_most : ℕ
fields_most = column_count * field_most

abbrev pub line_most : ℕ
line_most = name_most + fields_most + 2

abbrev pub numbers_line_most : ℕ → ℕ
numbers_line_most k = digits_most + (k - 1) * field_most + length line_end

abbrev pub refusal_most : ℕ
refusal_most = length refusal_header + numbers_line_most number_count

-- a name has at most 24 bytes and stands inside a text of so many bytes
unfoldable pub place_right : ℕ → Place → Bool
place_right size p = leb p.size name_most && leb p.start size && leb p.size (size - p.start)

-- what printing n rows from `at` on asks
pub record RowsFit (size : ℕ) (places : List Place) (card n at room : ℕ) : Type 0 where
  pub out-room : at + n * line_most ≤ room
  pub names : n ≤ length places
  pub numbers : n * column_count ≤ card
  pub right : list_all (place_right size) (take n places) ≡ true

-- what printing a row at `at` asks
pub record RowFits (size : ℕ) (p : Place) (numbers at room : ℕ) : Type 0 where
  pub out-room : at + line_most ≤ room
  pub count : numbers ≡ column_count
  pub right : place_right size p ≡ true

-- n rows can be printed: there is room for the longest lines, and names and card have n rows
unfoldable pub printable : ℕ → List Place → ℕ → ℕ → ℕ → Bool
printable size places card n room =
    leb header_size room && leb n ((room - header_size) / line_most) && leb n (length places) && leb n (card / column_count) &&
    list_all (place_right size) (take n places)

-- what is printed: the card, or nothing where it cannot be
unfoldable pub card_printed : List ℕ → List Place → List ℕ → ℕ → ℕ → List ℕ
card_printed s places card n room =
    cond (printable (length s) places (length card) n room) (card_text (names_at s n places) card) []

unfoldable pub refusal_printed : List ℕ → ℕ → List ℕ
refusal_printed numbers room = cond (leb refusal_most room) (refusal_text numbers) []

-- What printing leaves: the bytes at the start of the buffer, their number as the answer, and the rest of the buffer as it was.
pub record Printed (out xs out' : List ℕ) (r : ℕ) : Type 0 where
  pub fits : r ≤ length out'
  pub bytes : take r out' ≡ xs
  pub buffer : out' ≡ written out 0 xs
  pub count : r ≡ length xs
