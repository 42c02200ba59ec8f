-- A line is well formed exactly where the grammar has it so, and the row read is the grammar's.
use mathlib.Core.Path.{◌≡◌, refl, sym, ap, subst, ◌∙◌}
use mathlib.Core.Bool.{true, ◌&&◌, false≢true}
use mathlib.Core.List.{List, [], ◌∷◌, ◌++◌}
use Prim.Native.Nat.{ℕ, suc, ◌+◌}
use native.Mathlib.Numerals.{one-add}
use native.Mathlib.Omega.{arith}
use lib.ListN.{length, take, drop, take-append-drop}
use lib.Seq.{drop-append_seam, take-append_seam, drop-drop}
use borrow.Author.Tests.{eqb-true}
use Rattle.fold.proofs.BoolLaws.{and_left, and_right}
use Rattle.cursor.specs.declared.Column.{Column}
use Rattle.cursor.specs.declared.Column.TheVariants.{Numbers, Names}
use Rattle.cursor.specs.Bytes.{digit_byte, passes, run}
use Rattle.cursor.specs.Pieces.{digits, is_number, is_name, name_length, is_comma, is_cell, cell_length, after_cell}
use Rattle.text.specs.Line.{is_end, are_cells, cell_numbers, cell_names, is_line, numbers_of, names_of}
use Rattle.text.specs.Grammar.{Row, Cells, Line, row_of}
use Rattle.text.proofs.GrammarNumbers.{number-sound, number-complete}
use Rattle.text.proofs.GrammarNames.{name-sound, CellEnd, name-complete}

-- a comma comes next: the first byte
comma-first : (l : List ℕ) → is_comma l ≡ true → l ≡ 44 ∷ drop 1 l
unfolding is_comma
comma-first [] h = absurd (false≢true h)
comma-first (b ∷ l) h = ap (λ (x : ℕ). x ∷ l) (eqb-true b 44 h)

end_empty : (l : List ℕ) → is_end l ≡ true → l ≡ []
unfolding is_end
end_empty [] h = refl
end_empty (b ∷ l) h = absurd (let z = eqb-true (suc (length l)) 0 h in omega arith)

-- a comma, a cell and what is left
cell-split : (k : Column) (l : List ℕ) → is_comma l ≡ true → l ≡ 44 ∷ take (cell_length k (drop 1 l)) (drop 1 l) ++ after_cell k l
unfolding after_cell
cell-split k l h =
    let n = cell_length k (drop 1 l) in
    let behind : drop (1 + n) l ≡ drop n (drop 1 l) = sym (drop-drop n 1 l) in
    comma-first l h ∙ ap (λ (x : List ℕ). 44 ∷ x) (sym (take-append-drop n (drop 1 l)) ∙ ap (λ (x : List ℕ). take n (drop 1 l) ++ x) (sym behind))

abbrev pub cells_row : List Column → List ℕ → Row
cells_row ks l = record { numbers = cell_numbers ks l; names = cell_names ks l }

pub cells-sound : (ks : List Column) (l : List ℕ) → are_cells ks l ≡ true → Cells ks l (cells_row ks l)
unfolding are_cells cell_numbers cell_names is_cell cell_length
cells-sound [] l h = rw (end_empty l h) Cells.none
cells-sound (Numbers ∷ ks) l h =
    let a = and_left (is_comma l && is_number (drop 1 l)) (are_cells ks (after_cell Numbers l)) h in
    let r = cells-sound ks (after_cell Numbers l) (and_right (is_comma l && is_number (drop 1 l)) (are_cells ks (after_cell Numbers l)) h) in
    let n = number-sound (drop 1 l) (and_right (is_comma l) (is_number (drop 1 l)) a) in
    subst (λ (x : List ℕ). Cells (Numbers ∷ ks) x (cells_row (Numbers ∷ ks) l))
    (sym (cell-split Numbers l (and_left (is_comma l) (is_number (drop 1 l)) a))) (Cells.number n r)
cells-sound (Names ∷ ks) l h =
    let a = and_left (is_comma l && is_name (drop 1 l)) (are_cells ks (after_cell Names l)) h in
    let r = cells-sound ks (after_cell Names l) (and_right (is_comma l && is_name (drop 1 l)) (are_cells ks (after_cell Names l)) h) in
    let n = name-sound (drop 1 l) (and_right (is_comma l) (is_name (drop 1 l)) a) in
    subst (λ (x : List ℕ). Cells (Names ∷ ks) x (cells_row (Names ∷ ks) l))
    (sym (cell-split Names l (and_left (is_comma l) (is_name (drop 1 l)) a))) (Cells.name n.name r)

cells-end : {ks : List Column} {l : List ℕ} {r : Row} → Cells ks l r → CellEnd l
cells-end Cells.none = CellEnd.over
cells-end (Cells.number n r) = CellEnd.comma
cells-end (Cells.name n r) = CellEnd.comma

no_digit : {l : List ℕ} → CellEnd l → digits l ≡ 0
unfolding digits run passes digit_byte
no_digit CellEnd.over = refl
no_digit CellEnd.comma = refl

pub record CellsThere (ks : List Column) (l : List ℕ) (r : Row) : Type 0 where
  pub good : are_cells ks l ≡ true
  pub row : cells_row ks l ≡ r

row-of :
    {ns ns' : List ℕ} {vs vs' : List (List ℕ)} → ns ≡ ns' → vs ≡ vs' →
    ◌≡◌ {A = Row} (record { numbers = ns; names = vs }) (record { numbers = ns'; names = vs' })
row-of p q = rw (p, q)

pub cells-complete : {ks : List Column} {l : List ℕ} {r : Row} → Cells ks l r → CellsThere ks l r
unfolding are_cells cell_numbers cell_names is_end is_comma is_cell cell_length after_cell
cells-complete Cells.none = record { good = refl; row = refl }
cells-complete (Cells.number {ks} {n} {w} {l} {ns} {vs} h r) =
    let f = cells-complete r in
    let m = number-complete w l n h (no_digit (cells-end r)) in
    let e : drop (1 + digits (w ++ l)) (44 ∷ w ++ l) ≡ l = rw (m.long, one-add (length w)) (drop-append_seam w l) in
    record {
      good = rw (m.number, e) f.good;
      row = rw (m.value, e) (row-of (ap (λ (x : Row). n ∷ x.numbers) f.row) (ap (λ (x : Row). x.names) f.row));
    }
cells-complete (Cells.name {ks} {w} {l} {ns} {vs} h r) =
    let f = cells-complete r in
    let m = name-complete w l h (cells-end r) in
    let e : drop (1 + name_length (w ++ l)) (44 ∷ w ++ l) ≡ l = rw (m.long, one-add (length w)) (drop-append_seam w l) in
    record {
      good = rw (m.name, e) f.good;
      row = rw (e, m.long, take-append_seam w l) (row-of (ap (λ (x : Row). x.numbers) f.row) (ap (λ (x : Row). w ∷ x.names) f.row));
    }

pub line-sound : (ks : List Column) (l : List ℕ) → is_line ks l ≡ true → Line ks l (row_of ks l)
unfolding is_line row_of numbers_of names_of
line-sound ks l h = cells-sound ks (44 ∷ l) h

pub record LineThere (ks : List Column) (l : List ℕ) (r : Row) : Type 0 where
  pub good : is_line ks l ≡ true
  pub row : row_of ks l ≡ r

pub line-complete : {ks : List Column} {l : List ℕ} {r : Row} → Line ks l r → LineThere ks l r
unfolding is_line row_of numbers_of names_of
line-complete h = let c = cells-complete h in record { good = c.good; row = c.row }
