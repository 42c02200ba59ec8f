-- The text of Example.antt [02 §11], read and printed by the definitions: a trip, a blocked pair, and a line refused for its sixth input; the edges
-- around it, and the order of the numbers in a line.
use mathlib.Core.Path.{◌≡◌, refl}
use mathlib.Core.List.{[], ◌∷◌, ◌++◌}
use Rattle.cursor.specs.Bytes.{digit_byte, crlf, passes, run}
use Rattle.cursor.specs.Pieces.{digits, is_number, decimal, number_of, is_comma, is_cell, cell_length, after_cell}
use Rattle.cursor.specs.Spelt.{spelt}
use Rattle.fold.specs.First.{first}
use Rattle.grid.specs.Grid.{count, value_at, least_on}
use Rattle.layout.specs.Fields.{in_bounds}
use Rattle.text.specs.Grammar.{row_of, rows_as}
use Rattle.text.specs.Line.{columns_of, is_end, are_cells, cell_numbers, is_line, numbers_of}
use Rattle.text.specs.Text.{onto, lines, line_length, after_line, same_bytes, size_right, headed, row_lines, next_is_line, good_lines, lines_read, read_as}
use Rattle.print.specs.Card.{fields_text, numbers_text, refusal_text}
use Rattle.print.specs.Write.{last_digit, last_digits, number_text}
use Rattle.differential.specs.Slope.{slope_fits, least_slope}
use Rattle.differential.specs.Verdict.{characteristic, both_block, verdict_of}
use Rattle.differential.specs.Given.{by_slope, by_input, differential_of}
use Rattle.diffsheet.specs.Example.{example, printed}
use Rattle.diffsheet.specs.Lines.{input_header}
use Rattle.diffsheet.specs.Sheet.{output_header, inputs_at, line_given, line_of, lines_of, diff_by, diff_of}

pub example-printed : diff_of example ≡ printed
unfolding example printed spelt input_header output_header digit_byte crlf passes run digits is_number decimal number_of is_comma is_cell cell_length after_cell
    first count value_at least_on in_bounds row_of rows_as columns_of is_end are_cells cell_numbers is_line numbers_of onto lines line_length after_line same_bytes
    size_right headed row_lines next_is_line good_lines lines_read read_as fields_text numbers_text last_digit last_digits number_text slope_fits least_slope
    characteristic both_block verdict_of by_slope by_input differential_of line_given line_of lines_of diff_by diff_of
example-printed = refl

-- an empty text, the header alone, and a ninth number in the second line
pub example-edges :
    (diff_of [] ≡ spelt "refused,place,field\r\n1,1,0\r\n") × (diff_of input_header ≡ output_header) ×
    (diff_of (input_header ++ spelt "\r\n30,200,700,400,0,0,0,0,0") ≡ spelt "refused,place,field\r\n1,2,0\r\n")
unfolding spelt input_header output_header digit_byte crlf passes run digits is_number decimal number_of is_comma is_cell cell_length after_cell
    row_of rows_as columns_of is_end are_cells cell_numbers is_line numbers_of onto lines line_length after_line same_bytes
    size_right headed row_lines next_is_line good_lines lines_read read_as fields_text numbers_text refusal_text last_digit last_digits number_text lines_of diff_by diff_of
example-edges = (refl, refl, refl)

-- the order of the inputs in a line, in the second one: its input n is 100 + n; and the order of what is printed for one
pub inputs-in-order :
    inputs_at (1 ∷ 2 ∷ 3 ∷ 4 ∷ 5 ∷ 6 ∷ 7 ∷ 8 ∷ 101 ∷ 102 ∷ 103 ∷ 104 ∷ 105 ∷ 106 ∷ 107 ∷ 108 ∷ []) 1 ≡
    record { start = 101; blocking = 102; cutoff = 103; through = 104; first = 105; second = 106; differential = 107; restraint = 108 }
inputs-in-order = refl

pub given-in-order :
    line_given (record { number = 1; place = 2; start = 3; bend = 4; slope = 5; blocking = 6; cutoff = 7; verdict = 8 }) ≡ spelt "1,2,3,4,5,6,7,8\r\n"
unfolding line_given spelt fields_text numbers_text last_digit last_digits number_text
given-in-order = refl
