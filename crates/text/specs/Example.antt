-- Texts of other layouts, for worked cases: a card's, whose lines have a name and three numbers, and lines of eight numbers without a name.
-- Definitions only.
use Rattle.std.specs.Prelude.{true, false, List, [], ◌∷◌, ◌++◌, ℕ}
use Rattle.cursor.specs.declared.Column.{Column}
use Rattle.cursor.specs.Spelt.{spelt}
use Rattle.text.specs.Line.{columns_of}

unfoldable pub card_header : List ℕ
card_header = spelt "name,pickup,delay,cutoff"

unfoldable pub first_card : List ℕ
first_card = spelt "F1,318000,1900,1300000"

unfoldable pub second_card : List ℕ
second_card = spelt "\"I,N\",360000,2200,4290000"

unfoldable pub inputs : List ℕ
inputs = spelt "30,300,150,800,400,20,15,100"

unfoldable pub card_example : List ℕ
card_example = card_header ++ (13 ∷ 10 ∷ first_card) ++ (13 ∷ 10 ∷ second_card) ++ (13 ∷ 10 ∷ [])

-- a card's line: the name and three numbers; the differential's: eight numbers
unfoldable pub card_columns : List Column
card_columns = columns_of (record { before = 0; named = true; after = 3 })

unfoldable pub input_columns : List Column
input_columns = columns_of (record { before = 8; named = false; after = 0 })
