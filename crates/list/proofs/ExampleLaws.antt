-- The text of section 6 [01 §6] with the columns of requests §1 and §3, read by the definitions: two rows, with the numbers and the names that
-- stand there; and the edges around it.
use Rattle.text.specs.Text.{bad_line}
use Rattle.std.proofs.Common.{Ok}
use mathlib.Core.Path.{◌≡◌, refl}
use mathlib.Core.List.{List, [], ◌∷◌, ◌++◌}
use Prim.Native.Nat.{ℕ}
use Rattle.cursor.specs.Bytes.{digit_byte, plain_byte, bare_byte, crlf, passes, run}
use Rattle.cursor.specs.Pieces.{digits, is_number, decimal, number_of, plain_part, bare_end, name_end, is_found, place_found, is_name, name_length}
use Rattle.cursor.specs.Pieces.{is_comma, is_cell, cell_length, after_cell}
use Rattle.cursor.specs.Spelt.{spelt}
use Rattle.text.specs.Grammar.{row_of, rows_as}
use Rattle.text.specs.Line.{columns_of, is_end, are_cells, cell_numbers, cell_names, cell_places, is_line, numbers_of, names_of, places_of}
use Rattle.cursor.specs.Names.{name_at_place, names_at}
use Rattle.text.specs.Text.{onto, lines, line_length, after_line, same_bytes, size_right, headed}
use Rattle.text.specs.Text.{row_lines, next_is_line, good_lines, lines_read, read_as, all_places, places_as}
use Rattle.list.specs.Example.{first, second, crlf_bytes, example}
use Rattle.list.specs.Header.{header}
use Rattle.list.specs.List.{reading, rows_of, row_places}

pub example-read : reading example ≡ Ok 2
unfolding example first second spelt header columns_of digit_byte plain_byte bare_byte crlf passes run digits is_number plain_part bare_end name_end is_found
    place_found is_name name_length is_comma is_cell cell_length after_cell is_end are_cells is_line onto lines line_length after_line same_bytes size_right
    headed row_lines next_is_line good_lines lines_read read_as
example-read = refl

pub example-rows :
    rows_of example ≡
    record {
      numbers =
          1 ∷ 2 ∷ 1 ∷ 35000 ∷ 180000 ∷ 1500 ∷ 935 ∷ 900000 ∷ 1000000 ∷ 1800000 ∷ 1300 ∷ 50000 ∷ 5000000 ∷ 1000 ∷
          1 ∷ 1900 ∷ 5000 ∷ 1 ∷ 0 ∷ 0 ∷ 0 ∷ 1800000 ∷ [];
      names = spelt "F1" ∷ [];
    } ∷
    record {
      numbers =
          2 ∷ 0 ∷ 1 ∷ 35000 ∷ 200000 ∷ 1500 ∷ 935 ∷ 1500000 ∷ 3300000 ∷ 5200000 ∷ 1300 ∷ 50000 ∷ 10000000 ∷ 10000 ∷
          1 ∷ 0 ∷ 3000 ∷ 0 ∷ 0 ∷ 0 ∷ 0 ∷ 5200000 ∷ [];
      names = spelt "IN" ∷ [];
    } ∷
    []
unfolding example first second spelt header columns_of digit_byte plain_byte bare_byte crlf passes run digits decimal number_of plain_part bare_end name_end
    place_found name_length cell_length after_cell cell_numbers cell_names numbers_of names_of onto lines line_length after_line row_lines row_of rows_as
example-rows = refl

-- around it: an empty text, the header alone, with its CRLF, the last CRLF left out, an empty line at the end and between, a comma too many
pub example-edges :
    (reading [] ≡ bad_line 1) × (reading header ≡ Ok 0) × (reading (header ++ crlf_bytes) ≡ Ok 0) ×
    (reading (header ++ crlf_bytes ++ first ++ crlf_bytes ++ second) ≡ Ok 2) × (reading (example ++ crlf_bytes) ≡ bad_line 4) ×
    (reading (header ++ crlf_bytes ++ crlf_bytes ++ first) ≡ bad_line 2) × (reading (example ++ first ++ (44 ∷ [])) ≡ bad_line 4)
unfolding example first second spelt header columns_of digit_byte plain_byte bare_byte crlf passes run digits is_number plain_part bare_end name_end is_found
    place_found is_name name_length is_comma is_cell cell_length after_cell is_end are_cells is_line onto lines line_length after_line same_bytes size_right
    headed row_lines next_is_line good_lines lines_read read_as
example-edges = (refl, refl, refl, refl, refl, refl, refl)

-- section 6's header and first line as document 01 has them
abbrev base-header : List ℕ
base-header = spelt "row,name,feeds_from,kind,volts,work,selfstart,return,far,clear,near,factor,low,high,step,device,floor,ceiling,backed"

abbrev base-line : List ℕ
base-line = spelt "1,F1,2,1,35000,180000,1500,935,900000,1000000,1800000,1300,50000,5000000,1000,1,1900,5000,1"

-- [02 §1] they are bad without the ratings
pub ratings-wanted : (reading base-header ≡ bad_line 1) × (reading (header ++ crlf_bytes ++ base-line) ≡ bad_line 2)
unfolding spelt header columns_of digit_byte plain_byte bare_byte crlf passes run digits is_number plain_part bare_end name_end is_found place_found is_name
    name_length is_comma is_cell cell_length after_cell is_end are_cells is_line onto lines line_length after_line same_bytes size_right headed row_lines
    next_is_line good_lines lines_read read_as
ratings-wanted = (refl, refl)

-- [02 §3] and with the ratings, but without law and near_greatest
pub laws-wanted :
    (reading (base-header ++ spelt ",rated_primary,rated_secondary") ≡ bad_line 1) ×
    (reading (header ++ crlf_bytes ++ base-line ++ spelt ",0,0") ≡ bad_line 2)
unfolding spelt header columns_of digit_byte plain_byte bare_byte crlf passes run digits is_number plain_part bare_end name_end is_found place_found is_name
    name_length is_comma is_cell cell_length after_cell is_end are_cells is_line onto lines line_length after_line same_bytes size_right headed row_lines
    next_is_line good_lines lines_read read_as
laws-wanted = (refl, refl)

-- the names found by their places in the text
pub example-names : names_at example 2 (row_places example) ≡ spelt "F1" ∷ spelt "IN" ∷ []
unfolding example first second spelt header columns_of digit_byte plain_byte bare_byte crlf passes run digits plain_part bare_end name_end place_found
    name_length cell_length after_cell cell_places places_of onto lines line_length after_line row_lines all_places places_as name_at_place names_at
example-names = refl
