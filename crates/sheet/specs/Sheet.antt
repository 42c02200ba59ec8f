-- [01 §6] From the text of a list to the printed card or refusal. TEXT comes before all other refusals, its size test first.
-- Definitions only.
use Rattle.std.specs.Prelude.{◌≡◌, Bool, cond, List, [], ℕ, ◌+◌, ◌*◌, leb, eqb, length, get_or, replicate, Ok, Err}
use Rattle.layout.specs.Counts.{rows_most, card_most}
use Rattle.answers.specs.declared.Refusal.TheVariants as refusal
use Rattle.answers.specs.Answer.{given_by}
use Rattle.text.specs.Text.{Reading}
use Rattle.text.specs.Grammar.{all_names}
use Rattle.list.specs.List.{reading, row_numbers, rows_of}
use Rattle.print.specs.Card.{header_size, line_most, card_text, refusal_text, Printed}
use Rattle.calculate.specs.Whole.{whole}

-- the names of a text's rows, as they stand in it
unfoldable pub names_of : List ℕ → List (List ℕ)
names_of s = all_names (rows_of s)

-- room for the card of 256 rows
unfoldable pub blank_card : List ℕ
blank_card = replicate card_most 0

-- what is given for a text: the answer's numbers, and the bytes printed with them
pub record Sheet : Type 0 where
  pub given : List ℕ
  pub text : List ℕ

-- an answer is done where its number is 0
abbrev pub done : List ℕ → Bool
done given = eqb (get_or given 0 0) 0

abbrev pub refused_with : List ℕ → Sheet
refused_with given = record { given = given; text = refusal_text given }

-- the card where the answer is done, and otherwise the refusal
unfoldable pub sheet_with : List (List ℕ) → List ℕ → List ℕ → Sheet
sheet_with names card given = cond (done given) (record { given = given; text = card_text names card }) (refused_with given)

-- what is given for the reading of a text
unfoldable pub sheet_by : List ℕ → Reading → Sheet
sheet_by s (Err bad) = refused_with (given_by (Err (refusal.Text bad.0)))
sheet_by s (Ok n) = sheet_with (names_of s) (whole (row_numbers s) blank_card).card (given_by (whole (row_numbers s) blank_card).answer)

unfoldable pub sheet_of : List ℕ → Sheet
sheet_of s = sheet_by s (reading s)

-- a buffer with so much room gets all of it or nothing; a card that does not fit is ROOM, and a refusal keeps its numbers
unfoldable pub fitted : ℕ → Sheet → Sheet
fitted room z =
    cond (leb (length z.text) room) z
    (record { given = cond (done z.given) (given_by (Err refusal.Room)) z.given; text = [] })

-- the most bytes that are printed: the card's header and 256 of its longest lines
abbrev pub sheet_most : ℕ
sheet_most = header_size + rows_most * line_most

-- the numbers given, and the buffer with the bytes at its start and the rest as it was
pub record Filled (z : Sheet) (out given : List ℕ) (bytes : ℕ) (out' : List ℕ) : Type 0 where
  pub numbers : given ≡ z.given
  pub printed : Printed out z.text out' bytes
