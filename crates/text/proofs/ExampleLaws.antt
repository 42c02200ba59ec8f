-- Other layouts, read by the definitions: a card's text, whose lines have a name and three numbers, and lines of eight numbers without a name;
-- the second of two texts that stand one behind the other, read from its place and line on.
use Rattle.text.specs.Text.{bad_line}
use Rattle.std.proofs.Common.{Ok}
use mathlib.Core.Path.{◌≡◌, refl}
use mathlib.Core.Bool.{true, false}
use mathlib.Core.List.{[], ◌∷◌, ◌++◌}
use lib.ListN.{length, drop}
use Rattle.cursor.specs.Bytes.{digit_byte, plain_byte, bare_byte, crlf, passes, run}
use Rattle.cursor.specs.Pieces.{digits, is_number, decimal, number_of, plain_part, bare_end, name_end}
use Rattle.cursor.specs.Pieces.{is_found, place_found, is_name, name_length, is_comma, is_cell, cell_length, after_cell}
use Rattle.text.specs.Line.{columns_of, is_end, are_cells, cell_numbers, cell_names, cell_places, is_line, numbers_of, names_of, places_of}
use Rattle.text.specs.Text.{onto, lines, line_length, after_line, same_bytes, size_right, headed}
use Rattle.text.specs.Text.{row_lines, next_is_line, good_lines, lines_read, read_as, all_places, places_as}
use Rattle.text.specs.Example.{card_header, first_card, second_card, inputs, card_example, card_columns, input_columns}
use Rattle.text.specs.Grammar.{row_of, rows_as, all_names, numbers_in}
use Rattle.cursor.specs.Names.{name_at_place, names_at}
use Rattle.cursor.specs.Spelt.{spelt}

pub card-read :
    (read_as card_header card_columns 1 card_example ≡ Ok 2) ×
    (rows_as card_columns card_example ≡
    record { numbers = 318000 ∷ 1900 ∷ 1300000 ∷ []; names = spelt "F1" ∷ [] } ∷
    record { numbers = 360000 ∷ 2200 ∷ 4290000 ∷ []; names = spelt "\"I,N\"" ∷ [] } ∷ [])
unfolding spelt card_example card_header first_card second_card card_columns columns_of digit_byte plain_byte bare_byte crlf passes run digits is_number decimal
    number_of plain_part bare_end name_end is_found place_found is_name name_length is_comma is_cell cell_length after_cell is_end are_cells cell_numbers
    cell_names is_line numbers_of names_of onto lines line_length after_line same_bytes size_right headed row_lines next_is_line good_lines lines_read read_as
    row_of rows_as
card-read = (refl, refl)

-- its numbers and its names, in the order of the rows
pub card-numbers-names :
    (numbers_in (rows_as card_columns card_example) ≡ 318000 ∷ 1900 ∷ 1300000 ∷ 360000 ∷ 2200 ∷ 4290000 ∷ []) ×
    (all_names (rows_as card_columns card_example) ≡ spelt "F1" ∷ spelt "\"I,N\"" ∷ [])
unfolding numbers_in all_names
card-numbers-names = (rw card-read.1, rw card-read.1)

pub inputs_read :
    (is_line input_columns inputs ≡ true) ×
    (row_of input_columns inputs ≡ record { numbers = 30 ∷ 300 ∷ 150 ∷ 800 ∷ 400 ∷ 20 ∷ 15 ∷ 100 ∷ []; names = [] }) ×
    (is_line input_columns first_card ≡ false)
unfolding spelt inputs first_card input_columns columns_of digit_byte passes run digits is_number decimal number_of is_comma is_cell cell_length after_cell is_end
    are_cells cell_numbers cell_names is_line numbers_of names_of row_of
inputs_read = (refl, refl, refl)

-- the same text behind another: line numbers and places go on from there
pub second-read :
    (read_as card_header card_columns 4 (drop (length card_example) (card_example ++ card_example)) ≡ Ok 2) ×
    (read_as card_header card_columns 4 (drop (length card_example) (card_example ++ card_example ++ (65 ∷ []))) ≡ bad_line 7) ×
    (names_at (card_example ++ card_example) 2 (places_as card_columns (length card_example) (drop (length card_example) (card_example ++ card_example))) ≡
    spelt "F1" ∷ spelt "\"I,N\"" ∷ [])
unfolding spelt card_example card_header first_card second_card card_columns columns_of digit_byte plain_byte bare_byte crlf passes run digits is_number plain_part
    bare_end name_end is_found place_found is_name name_length is_comma is_cell cell_length after_cell is_end are_cells cell_places is_line places_of onto lines
    line_length after_line same_bytes size_right headed row_lines next_is_line good_lines lines_read read_as all_places places_as name_at_place names_at
second-read = (refl, refl, refl)
