-- The worked cases of cells, all at once: each computes to what its line of the table says.
use mathlib.Core.Path.{◌≡◌, refl}
use mathlib.Core.List.{map}
use Rattle.cursor.specs.Bytes.{digit_byte, plain_byte, bare_byte, passes, run}
use Rattle.cursor.specs.Pieces.{digits, is_number, decimal, number_of, plain_part, bare_end, name_end, is_found, place_found, is_name, name_length}
use Rattle.cursor.specs.Pieces.{is_comma, number_at, name_at, cell_at, field_at}
use Rattle.cursor.specs.Spelt.{spelt}
use Rattle.cursor.specs.Cases.{Case, cell_of, cell_cases}

pub cells-read : map cell_of cell_cases ≡ map (λ (c : Case). c.cell) cell_cases
unfolding digit_byte plain_byte bare_byte passes run digits is_number decimal number_of plain_part bare_end name_end is_found place_found is_name name_length
    is_comma number_at name_at cell_at field_at spelt cell_cases
cells-read = refl
