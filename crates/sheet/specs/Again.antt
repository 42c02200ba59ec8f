-- [01 §6], [02 §3] A printed card read again: its header line, its columns, and the rows that it says. Definitions only.
use Rattle.std.specs.Prelude.{List, [], ◌∷◌, ℕ, ◌-◌, ◌*◌, ◌≤◌, ◌<◌, length, get_or, take, drop, replicate}
use Rattle.cursor.specs.declared.Column.{Column}
use Rattle.cursor.specs.declared.Column.TheVariants.{Numbers, Names}
use Rattle.layout.specs.Counts.{column_count}
use Rattle.text.specs.Grammar.{IsNameText, Row}
use Rattle.print.specs.Card.{card_header, header_size, line_end}

-- name,pickup,delay,cutoff,law,multiplier, without the CRLF behind it
abbrev pub card_header_line : List ℕ
card_header_line = take (header_size - length line_end) card_header

-- the name, and the numbers of a card's row
abbrev pub card_columns : List Column
card_columns = Names ∷ replicate column_count Numbers

-- a row for each name, with the next numbers of the card
unfoldable pub card_rows : List (List ℕ) → List ℕ → List Row
card_rows [] card = []
card_rows (name ∷ names) card = record { numbers = take column_count card; names = name ∷ [] } ∷ card_rows names (drop column_count card)

-- every one of these is a name
abbrev pub EachName : List (List ℕ) → Type 0
EachName [] = Unit
EachName (name ∷ names) = IsNameText name × EachName names

-- the card has its numbers for n rows, each below 1,000,000,000
pub record CardFor (n : ℕ) (card : List ℕ) : Type 0 where
  pub numbers-there : n * column_count ≤ length card
  pub below : (i : ℕ) → i < n * column_count → get_or card i 0 < 1000000000
