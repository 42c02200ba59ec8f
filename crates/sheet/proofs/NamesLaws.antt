-- The names of a text's rows: each is a name of the grammar, and the rows of a list have one each.
use mathlib.Core.Path.{◌≡◌, refl, ap}
use mathlib.Core.List.{List, [], ◌∷◌, ◌++◌}
use Prim.Native.Nat.{ℕ, suc}
use native.Mathlib.Omega.{arith}
use lib.ListN.{length, length-append}
use Rattle.cursor.specs.declared.Column.{Column}
use Rattle.cursor.specs.declared.Column.TheVariants.{Numbers, Names}
use Rattle.text.specs.Grammar.{Row, Cells, Lines, Text, alone, rows, all_names}
use Rattle.text.specs.Line.{columns_of}
use Rattle.list.specs.List.{list_columns, ListText}
use Rattle.sheet.specs.Again.{EachName}

-- the names of a text of any layout are names
each_append : (a b : List (List ℕ)) → EachName a → EachName b → EachName (a ++ b)
each_append [] b h k = k
each_append (n ∷ a) b h k = (h.0, each_append a b h.1 k)

cells-names : {ks : List Column} {l : List ℕ} {r : Row} → Cells ks l r → EachName r.names
cells-names Cells.none = tt
cells-names (Cells.number n r) = cells-names r
cells-names (Cells.name w r) = (w, cells-names r)

lines-names : {ks : List Column} {s : List ℕ} {rs : List Row} → Lines ks s rs → EachName (all_names rs)
unfolding all_names
lines-names Lines.none = tt
lines-names (Lines.last {r = r} h) = each_append r.names [] (cells-names h) tt
lines-names (Lines.more {r = r} {rs = rs} h t) = each_append r.names (all_names rs) (cells-names h) (lines-names t)

pub text-names : {h : List ℕ} {ks : List Column} {s : List ℕ} {rs : List Row} → Text h ks s rs → EachName (all_names rs)
unfolding all_names
text-names alone = tt
text-names (rows r) = lines-names r

-- a row of a list has one name
abbrev name_count : List Column → ℕ
name_count [] = 0
name_count (Numbers ∷ ks) = name_count ks
name_count (Names ∷ ks) = suc (name_count ks)

cells_count : {ks : List Column} {l : List ℕ} {r : Row} → Cells ks l r → length r.names ≡ name_count ks
cells_count Cells.none = refl
cells_count (Cells.number n r) = cells_count r
cells_count (Cells.name w r) = ap suc (cells_count r)

lines-count : {ks : List Column} {s : List ℕ} {rs : List Row} → Lines ks s rs → name_count ks ≡ 1 → length (all_names rs) ≡ length rs
unfolding all_names
lines-count Lines.none e = refl
lines-count (Lines.last {r = r} h) e = omega (arith, length-append r.names [], cells_count h)
lines-count (Lines.more {r = r} {rs = rs} h t) e = omega (arith, length-append r.names (all_names rs), cells_count h, lines-count t e)

one_name : name_count list_columns ≡ 1
unfolding columns_of
one_name = refl

pub names-count : {s : List ℕ} {rs : List Row} → ListText s rs → length (all_names rs) ≡ length rs
unfolding all_names
names-count alone = refl
names-count (rows r) = lines-count r one_name
