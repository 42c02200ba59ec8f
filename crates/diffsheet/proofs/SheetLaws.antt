-- What is printed for a text is what the printers leave: the refusal of a bad line, or a line for each row that was read.
use Rattle.std.proofs.Common.{Ok, Err}
use Rattle.text.specs.Text.{bad_line}
use Rattle.text.specs.Text.{Reading}
use mathlib.Core.Path.{◌≡◌, refl, sym, ap, ◌∙◌}
use mathlib.Core.List.{List, ◌++◌}
use Prim.Native.Nat.{ℕ, ◌+◌, ◌*◌, ◌/◌, ◌≤◌, ◌<◌}
use native.Mathlib.Omega.{arith}
use lib.ListN.{length, drop, length-append}
use borrow.Author.Tests.{le-leb, lt-leb}
use Rattle.answers.specs.declared.Refusal.TheVariants as refusal
use Rattle.answers.specs.Answer.{given_by}
use Rattle.cursor.specs.Spelt.{spelt}
use Rattle.text.specs.Gets.{NoCrlf}
use Rattle.text.specs.Grammar.{rows_as}
use Rattle.text.specs.Line.{columns_of}
use Rattle.text.specs.Text.{row_lines, numbers_as, all_numbers}
use Rattle.text.proofs.BlockLaws.{blocks-front}
use Rattle.text.proofs.CountLaws.{text-many, rows-read, all-numbers-long}
use Rattle.text.proofs.GrammarText.{no_cr, all-test, no-cr-no-crlf}
use Rattle.text.proofs.GrammarTheorem.{accepted}
use Rattle.text.proofs.TextTheorem.{rows-exactly}
use Rattle.differential.specs.Inputs.{input_count}
use Rattle.print.specs.Card.{Printed, refusal_most, refusal_printed}
use Rattle.print.specs.Write.{Wrote}
use Rattle.print.proofs.PrintLaws.{wrote-printed, nothing-printed}
use Rattle.print.proofs.WriteLaws.{wrote_then}
use Rattle.diffsheet.specs.Lines.{input_header, input_layout, input_columns, reading, InputsTaken}
use Rattle.diffsheet.specs.Sheet.{input_size, output_header, output_size, lines_of, lines_from, diff_by, diff_of, lines_most, line_most, diff_most, diff_printed}
use Rattle.diffsheet.proofs.LinesLaws.{lines-short, lines-of-rows}

-- ---- the two headers

pub header-one-line : NoCrlf input_header
unfolding input_header spelt
header-one-line = no-cr-no-crlf input_header (all-test no_cr input_header refl)

header-long : length input_header ≡ input_size
unfolding input_header spelt
header-long = refl

columns-long : length input_columns ≡ input_count
unfolding columns_of
columns-long = refl

output-long : length output_header ≡ output_size
unfolding output_header spelt
output-long = refl

-- header and lines, one behind the other
pub lines-printed :
    (n : ℕ) (xs out o₁ o₂ : List ℕ) (r₁ r₂ : ℕ) → output_size + n * line_most ≤ length out → length o₂ ≡ length out → Wrote out 0 output_header o₁ r₁ →
    Wrote o₁ r₁ (lines_from n xs) o₂ r₂ → Printed out (output_header ++ lines_from n xs) o₂ r₂
lines-printed n xs out o₁ o₂ r₁ r₂ h same w₁ w₂ =
    let k = lines-short n xs in
    wrote-printed out (output_header ++ lines_from n xs) o₂ r₂ (omega (arith, output-long, k, length-append output_header (lines_from n xs))) same
    (wrote_then out 0 output_header o₁ r₁ (lines_from n xs) o₂ r₂ (omega (arith, output-long, k)) w₁ w₂)

module _ (s : List ℕ) where
  -- a text has at most so many lines
  pub lines-few : (n : ℕ) → reading s ≡ Ok n → n ≤ lines_most
  lines-few n e =
      let r = (rows-exactly input_header input_columns 1 s header-one-line n).0 e in
      omega (arith, header-long, r.0, r.1.1.1, rw columns-long at (text-many r.1.1.0))

  -- too little room: nothing; and enough of it: all
  pub no_room : (out : List ℕ) → length out < diff_most → Printed out (diff_printed s (length out)) out 0
  unfolding diff_printed
  no_room out h = rw (lt-leb diff_most (length out) h) (nothing-printed out)

  pub room-for-all : (room : ℕ) → diff_most ≤ room → diff_printed s room ≡ diff_of s
  unfolding diff_printed
  room-for-all room h = rw (le-leb diff_most room h)

  -- a bad line: its refusal
  pub bad-printed :
      (line : ℕ) (given out out' : List ℕ) (bytes : ℕ) → reading s ≡ bad_line line → given ≡ given_by (Err (refusal.Text line)) → diff_most ≤ length out →
      Printed out (refusal_printed given (length out)) out' bytes → Printed out (diff_printed s (length out)) out' bytes
  unfolding diff_of diff_by refusal_printed
  bad-printed line given out out' bytes e g h p =
      rw (room-for-all (length out) h, e) (rw (g, le-leb refusal_most (length out) (omega arith)) at p)

  -- rows: a line for each, from the numbers that were read
  module _ (n : ℕ) (e : reading s ≡ Ok n) where
    read-front :
        (inputs inputs' : List ℕ) (r : Reading) → length inputs ≡ lines_most * input_count → InputsTaken s inputs inputs' r →
        inputs' ≡ numbers_as input_columns s ++ drop (length (numbers_as input_columns s)) inputs
    unfolding numbers_as
    read-front inputs inputs' r long t =
        let room : length inputs / input_count ≡ lines_most = omega arith in
        let a = accepted input_header input_columns 1 s n e in
        t.numbers
        ∙ rw (room, rows-read input_header input_columns 1 s n e)
        (blocks-front lines_most input_count n (numbers_as input_columns s) inputs (lines-few n e)
        (all-numbers-long input_layout (row_lines s) ∙ ap (λ (k : ℕ). k * input_count) a.count))

    lines_are : (rest : List ℕ) → lines_from n (numbers_as input_columns s ++ rest) ≡ lines_of (rows_as input_columns s)
    unfolding numbers_as rows_as
    lines_are rest =
        let a = accepted input_header input_columns 1 s n e in
        ap (λ (k : ℕ). lines_from k (all_numbers input_columns (row_lines s) ++ rest)) (sym a.count) ∙ lines-of-rows (row_lines s) rest

    pub rows-printed :
        (inputs inputs' : List ℕ) (r : Reading) (out out' : List ℕ) (bytes : ℕ) → length inputs ≡ lines_most * input_count → diff_most ≤ length out →
        InputsTaken s inputs inputs' r → Printed out (output_header ++ lines_from n inputs') out' bytes →
        Printed out (diff_printed s (length out)) out' bytes
    unfolding diff_of diff_by
    rows-printed inputs inputs' r out out' bytes long h t p =
        rw (room-for-all (length out) h, e)
        (rw (read-front inputs inputs' r long t, lines_are (drop (length (numbers_as input_columns s)) inputs)) at p)
