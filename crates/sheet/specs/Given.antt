-- Demand 1 for texts [01 §4, §6]: what a text is given. TEXT comes before all others; then it is the whole calculation of the text's rows that gives
-- the number. Definitions only.
use Rattle.std.specs.Prelude.{List, [], ◌∷◌, ℕ, ◌≤◌, length}
use Rattle.answers.specs.Answer.{given_by}
use Rattle.text.specs.Gets.{TextGets}
use Rattle.text.specs.Grammar.{Row, numbers_in}
use Rattle.text.specs.Text.{text_most, bad_line}
use Rattle.list.specs.Header.{header}
use Rattle.list.specs.List.{list_columns, ListText}
use Rattle.calculate.specs.Whole.{Result, whole}
use Rattle.sheet.specs.Sheet.{blank_card}

-- the whole calculation of the numbers of rows, with room for the card of 256 rows
abbrev pub whole_of : List Row → Result
whole_of rs = whole (numbers_in rs) blank_card

-- the line with which the text s is refused: 0 where it is too long, 1 where its first line is no header, or the first bad line
abbrev pub RefusedLine : List ℕ → ℕ → Type 0
RefusedLine s line = TextGets header list_columns 1 s (bad_line line)

-- the numbers that a text is given
pub data TextGiven (s : List ℕ) : List ℕ → Type 0 where
  refused : {line : ℕ} → RefusedLine s line → TextGiven s (1 ∷ line ∷ 0 ∷ [])
  calculated : (rs : List Row) → length s ≤ text_most → ListText s rs → TextGiven s (given_by (whole_of rs).answer)
