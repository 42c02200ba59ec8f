-- [02 §11] What is printed for a text of lines of inputs: a line each, or the refusal of the text as section 6 prints one. Definitions only.
use Rattle.std.specs.Prelude.{cond, Ok, Err, List, [], ◌∷◌, ◌++◌, ℕ, zero, suc, ◌+◌, ◌-◌, ◌*◌, ◌/◌, leb, get_or, drop}
use Rattle.answers.specs.declared.Refusal.TheVariants.{Text}
use Rattle.answers.specs.Answer.{given_by}
use Rattle.cursor.specs.Spelt.{spelt}
use Rattle.text.specs.Grammar.{Row, rows_as}
use Rattle.text.specs.Text.{Reading, text_most}
use Rattle.print.specs.Card.{numbers_text, numbers_line_most, refusal_text}
use Rattle.differential.specs.declared.Given.{Given}
use Rattle.differential.specs.declared.Inputs.{Inputs}
use Rattle.differential.specs.Given.{differential_of}
use Rattle.differential.specs.Inputs.{input_count}
use Rattle.diffsheet.specs.Lines.{input_columns, reading}

-- the header of what is printed, with its CRLF
unfoldable pub output_header : List ℕ
output_header = spelt "number,place,start,bend,slope,blocking,cutoff,verdict\r\n"

-- the inputs of row i, where the rows stand one behind the other
abbrev pub inputs_at : List ℕ → ℕ → Inputs
inputs_at xs i =
    record {
      start = get_or xs (i * input_count + 0) 0;
      blocking = get_or xs (i * input_count + 1) 0;
      cutoff = get_or xs (i * input_count + 2) 0;
      through = get_or xs (i * input_count + 3) 0;
      first = get_or xs (i * input_count + 4) 0;
      second = get_or xs (i * input_count + 5) 0;
      differential = get_or xs (i * input_count + 6) 0;
      restraint = get_or xs (i * input_count + 7) 0;
    }

-- what is given, number by number, and its line
abbrev pub given_numbers : Given → List ℕ
given_numbers g = g.number ∷ g.place ∷ g.start ∷ g.bend ∷ g.slope ∷ g.blocking ∷ g.cutoff ∷ g.verdict ∷ []

abbrev pub given_count : ℕ
given_count = 8

unfoldable pub line_given : Given → List ℕ
line_given g = numbers_text given_count (given_numbers g)

-- the line that is printed for a row of inputs
unfoldable pub line_of : List ℕ → List ℕ
line_of xs = line_given (differential_of (inputs_at xs 0))

-- "a line each": for each row of a text, and for each of n rows that stand one behind the other
unfoldable pub lines_of : List Row → List ℕ
lines_of [] = []
lines_of (r ∷ rs) = line_of r.numbers ++ lines_of rs

unfoldable pub lines_from : ℕ → List ℕ → List ℕ
lines_from zero xs = []
lines_from (suc n) xs = line_of xs ++ lines_from n (drop input_count xs)

-- what is printed for the reading of a text
unfoldable pub diff_by : List ℕ → Reading → List ℕ
diff_by s (Err bad) = refusal_text (given_by (Err (Text bad.0)))
diff_by s (Ok n) = output_header ++ lines_of (rows_as input_columns s)

unfoldable pub diff_of : List ℕ → List ℕ
diff_of s = diff_by s (reading s)

-- the bytes of the text's own header; of a line of it at least: a digit for each input, commas between them, CRLF; and so the most lines of a text
abbrev pub input_size : ℕ
input_size = 75

abbrev pub input_least : ℕ
input_least = 2 * input_count + 1

abbrev pub lines_most : ℕ
lines_most = (text_most - input_size) / input_least

-- the bytes of the printed header, and the most of a printed line and of all that is printed
abbrev pub output_size : ℕ
output_size = 55

abbrev pub line_most : ℕ
line_most = numbers_line_most given_count

abbrev pub diff_most : ℕ
diff_most = output_size + lines_most * line_most

-- what is printed into a buffer with so much room: nothing where it might not suffice
unfoldable pub diff_printed : List ℕ → ℕ → List ℕ
diff_printed s room = cond (leb diff_most room) (diff_of s) []
