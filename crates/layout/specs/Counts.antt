-- [01 §2, §4] How many numbers a list, a card and their rows have. A request that adds a field or a card number changes
-- these and the tables beside them; nothing else types such a count. Definitions only.
use Rattle.std.specs.Prelude.{ℕ, ◌*◌}

-- a row of a list has so many fields
abbrev pub field_count : ℕ
field_count = 22

-- a row of a card has so many numbers, its columns
abbrev pub column_count : ℕ
column_count = 5

-- a list has at most so many rows, and a list and a card so many numbers
abbrev pub rows_most : ℕ
rows_most = 256

abbrev pub list_most : ℕ
list_most = rows_most * field_count

abbrev pub card_most : ℕ
card_most = rows_most * column_count
