-- How many lines a text can have, and how many numbers its rows. A line has a byte at least for each of its columns, and commas between them;
-- CRLF stands between lines.
use Rattle.std.proofs.Common.{Ok}
use mathlib.Core.Path.{◌≡◌, sym, ◌∙◌}
use mathlib.Core.List.{List, [], ◌∷◌}
use Prim.Native.Nat.{ℕ, ◌+◌, ◌*◌, ◌≤◌}
use native.Mathlib.Nat.{suc-mul, zero-mul}
use native.Mathlib.Omega.{arith}
use lib.ListN.{length, length-append}
use Rattle.cursor.specs.declared.Column.{Column}
use Rattle.text.specs.declared.Columns.{Columns}
use Rattle.text.specs.Grammar.{Row, Cells, Lines, Text}
use Rattle.text.specs.Line.{columns_of, number_count, numbers_of}
use Rattle.text.specs.Text.{read_as, rows_read_as, all_numbers}
use Rattle.text.proofs.ColumnLaws.{numbers-long}
use Rattle.text.proofs.GrammarTheorem.{accepted}

cells-long : {ks : List Column} {l : List ℕ} {r : Row} → Cells ks l r → 2 * length ks ≤ length l
cells-long Cells.none = omega arith
cells-long (Cells.number {w = w} {l = l} i c) = omega (arith, i.some, cells-long c, length-append w l)
cells-long (Cells.name {w = w} {l = l} i c) = omega (arith, i.some, cells-long c, length-append w l)

lines-many : {ks : List Column} {s : List ℕ} {rs : List Row} → Lines ks s rs → length rs * (2 * length ks + 1) ≤ length s + 2
lines-many Lines.none = omega arith
lines-many (Lines.last {ks = ks} c) = omega (arith, cells-long c, suc-mul 0 (2 * length ks + 1))
lines-many (Lines.more {ks = ks} {l = l} {s = s} {rs = rs} c t) =
    omega (arith, cells-long c, lines-many t, suc-mul (length rs) (2 * length ks + 1), length-append l (13 ∷ 10 ∷ s))

pub text-many : {h : List ℕ} {ks : List Column} {s : List ℕ} {rs : List Row} → Text h ks s rs → length h + length rs * (2 * length ks + 1) ≤ length s
text-many Text.alone = omega arith
text-many (Text.rows {h = h} {s = s} t) = omega (arith, lines-many t, length-append h (13 ∷ 10 ∷ s))

-- a text that was read whole: as many rows are read as it has, and each has its numbers
pub rows-read : (h : List ℕ) (ks : List Column) (k : ℕ) (s : List ℕ) (n : ℕ) → read_as h ks k s ≡ Ok n → rows_read_as h ks s ≡ n
unfolding rows_read_as
rows-read h ks k s n e = let a = accepted h ks k s n e in rw (a.size, a.headed-is) (a.good ∙ a.count)

pub all-numbers-long : (c : Columns) (ls : List (List ℕ)) → length (all_numbers (columns_of c) ls) ≡ length ls * number_count c
unfolding all_numbers
all-numbers-long c [] = sym (zero-mul (number_count c))
all-numbers-long c (l ∷ ls) =
    let a = length-append (numbers_of (columns_of c) l) (all_numbers (columns_of c) ls) in
    omega (arith, a, numbers-long c l, all-numbers-long c ls, suc-mul (length ls) (number_count c))
