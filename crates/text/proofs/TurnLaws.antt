-- The reader of a line, turn by turn, met at a cursor; and where all columns are read.
use Rattle.cursor.specs.declared.Place.{Place}
use Rattle.cursor.specs.declared.Cell.{Cell}
use Rattle.cursor.specs.declared.Cell.TheVariants.{Number}
use Rattle.cursor.specs.Pieces.{cell_read, name_cell}
use Rattle.text.proofs.FillLaws.{named-done}
use Rattle.std.proofs.Common.{Option, Some, None}
use mathlib.Core.Path.{◌≡◌, refl, sym, ◌∙◌}
use mathlib.Core.Bool.{Bool, true, false, cond}
use mathlib.Core.List.{List, [], ◌∷◌}
use Prim.Native.Nat.{ℕ, ◌+◌, ◌-◌, ◌≤◌, ◌<◌}
use native.Mathlib.Numerals.{add-one}
use native.Mathlib.Omega.{arith}
use lib.Dec.{eqb}
use lib.ListN.{length, get_or, drop, set, length-drop, drop_of_length-le}
use lib.Seq.{drop-cons}
use borrow.Author.Tests.{eq-eqb, ne_eqb}
use Rattle.cursor.specs.declared.Column.{Column}
use Rattle.cursor.specs.declared.Column.TheVariants.{Numbers, Names}
use Rattle.cursor.specs.declared.Cursor.{Cursor}
use Rattle.cursor.specs.Pieces.{cell_length, after_cell, field_at}
use Rattle.cursor.proofs.FieldLaws.{lead, start_of, FieldWas, number-field, name-field, no_field}
use Rattle.cursor.proofs.CellLaws.{NumberIs}
use Rattle.text.specs.declared.Columns.{Columns}
use Rattle.text.specs.Line.{columns_of, numbers_most, Usable, is_end, are_cells, cell_numbers}
use Rattle.text.specs.Line.{cell_places, is_line, numbers_of, places_of, line_read}
use Rattle.text.proofs.ColumnLaws.{some-columns, cell-numbers-long, cell-places-long, counted}
use Rattle.text.proofs.FillLaws.{filled-done}
use Rattle.text.proofs.LineLaws.{Reads, number_read, number-room, name-read, cell-bad, ReadTo}

-- a turn of the reader: what was read so far, and what it finds at column k
pub record Turn (b : Columns) (s : List ℕ) (at : ℕ) (numbers : List ℕ) (name : Option Place) (c : Cursor) (k n : ℕ) (r : Option (Cell × Cursor)) : Type 0 where
  pub usable : Usable b
  pub read : ReadTo (columns_of b) s at numbers name c k n
  pub inside : k < length (columns_of b)
  pub answer : r ≡ field_at (eqb k 0) (get_or (columns_of b) k Numbers) c (drop c.at s)

module _ (b : Columns) (s : List ℕ) (at : ℕ) (numbers : List ℕ) (name : Option Place) (c : Cursor) (k n : ℕ) (r : Option (Cell × Cursor)) (t : Turn b s at numbers name c k n r) where
  ks : List Column
  ks = columns_of b

  rest : List ℕ
  rest = lead (eqb k 0) (drop c.at s)

  start : ℕ
  start = start_of (eqb k 0) c.at

  next : (x : Column) → get_or (columns_of b) k Numbers ≡ x → Reads ks at (44 ∷ drop at s) numbers name (x ∷ drop (k + 1) ks) start rest n
  unfolding ks rest start
  next x kind =
      let e : drop k (columns_of b) ≡ x ∷ drop (k + 1) (columns_of b) = rw (add-one k, ← kind) (drop-cons (columns_of b) k Numbers t.inside) in
      rw e at t.read

  -- behind the first cell no comma is put before what is left
  later :
      (x : Column) (d : Cursor) (numbers' : List ℕ) (name' : Option Place) (n' : ℕ) → d.at ≡ start + cell_length x (drop 1 rest) → after_cell x
      rest ≡ drop d.at s →
      Reads ks at (44 ∷ drop at s) numbers' name' (drop (k + 1) ks) (start + cell_length x (drop 1 rest) + 1) (after_cell x rest) n' →
      ReadTo ks s at numbers' name' d (k + 1) n'
  unfolding ks
  later x d numbers' name' n' p q r = rw (ne_eqb (k + 1) 0 (λ z. omega arith)) (rw (q, ← p) at r)

  numbers_fit : length (cell_numbers ks (44 ∷ drop at s)) ≤ numbers_most
  unfolding ks
  numbers_fit = let e = cell-numbers-long (columns_of b) (44 ∷ drop at s) in omega (arith, (counted b).0, t.usable.most)

  places-fit : length (cell_places ks at (44 ∷ drop at s)) ≤ 1
  unfolding ks
  places-fit = let e = cell-places-long (columns_of b) at (44 ∷ drop at s) in let m = (counted b).1 in rw (e, m) (by-test b.named)
    where
      by-test : (y : Bool) → cond y 1 0 ≤ 1
      by-test true = omega arith
      by-test false = omega arith

  module _ (v : ℕ) (d : Cursor) (e : r ≡ cell_read (Number v) d) where
    number-was : FieldWas (eqb k 0) (get_or ks k Numbers) s c.at d × NumberIs (get_or ks k Numbers) start (drop 1 rest) v d
    unfolding ks rest start
    number-was = number-field (eqb k 0) (get_or (columns_of b) k Numbers) s c v d (sym e ∙ t.answer)

    pub turn-room : n < numbers_most
    unfolding ks
    turn-room = number-room ks at (44 ∷ drop at s) numbers name (drop (k + 1) ks) start rest n (next Numbers number-was.1.is) numbers_fit

    pub turn-number : ReadTo (columns_of b) s at (set numbers n v) name d (k + 1) (n + 1)
    unfolding ks rest start
    turn-number =
        let w = number-was in
        let f = rw w.1.is at w.0 in
        let g = rw w.1.is at w.1 in
        later Numbers d _ _ _ g.cell.past f.behind
        (number_read ks at (44 ∷ drop at s) numbers name (drop (k + 1) ks) start rest n (next Numbers w.1.is) numbers_fit
        f.comma g.cell.is-cell v g.value)

  pub turn-name : (a z : ℕ) (d : Cursor) → r ≡ cell_read (name_cell a z) d → ReadTo (columns_of b) s at numbers (Some (record { start = a; size = z })) d (k + 1) n
  unfolding ks rest start
  turn-name a z d e =
      let w = name-field (eqb k 0) (get_or (columns_of b) k Numbers) s c a z d (sym e ∙ t.answer) in
      let f = rw w.1.is at w.0 in
      let g = rw w.1.is at w.1 in
      later Names d _ _ _ g.cell.past f.behind
      (name-read ks at (44 ∷ drop at s) numbers name (drop (k + 1) ks) start rest n (next Names w.1.is) places-fit
      f.comma g.cell.is-cell a z g.start g.size)

  pub turn-none : r ≡ None → None ≡ line_read (columns_of b) at (drop at s)
  unfolding line_read is_line ks rest start
  turn-none e =
      let w = no_field (eqb k 0) (get_or (columns_of b) k Numbers) s c (sym e ∙ t.answer) in
      rw (cell-bad ks at (44 ∷ drop at s) numbers name _ (drop (k + 1) ks) start rest n (next _ refl) w)

-- all columns are read: the line is good exactly where it ends there
pub end-there : (s : List ℕ) (i : ℕ) → length s ≤ i → is_end (drop i s) ≡ true
unfolding is_end
end-there s i h = rw (length-drop i s) (eq-eqb (length s - i) 0 (omega arith))

pub end-not-there : (s : List ℕ) (i : ℕ) → i < length s → is_end (drop i s) ≡ false
unfolding is_end
end-not-there s i h = rw (length-drop i s) (ne_eqb (length s - i) 0 (λ z. omega arith))

module _
    (b : Columns) (s : List ℕ) (at : ℕ) (numbers : List ℕ) (name : Option Place) (c : Cursor) (k n : ℕ) (u : Usable b)
    (h : ReadTo (columns_of b) s at numbers name c k n)
    (all : length (columns_of b) ≤ k) where
  last : Reads (columns_of b) at (44 ∷ drop at s) numbers name [] (c.at + 1) (drop c.at s) n
  last =
      let e : eqb k 0 ≡ false = ne_eqb k 0 (λ z. omega (arith, some-columns b u)) in
      rw (e, drop_of_length-le (columns_of b) all) at h

  pub line-over : c.at < length s → None ≡ line_read (columns_of b) at (drop at s)
  unfolding line_read is_line are_cells
  line-over o =
      let g : are_cells (columns_of b) (44 ∷ drop at s) ≡ false = sym last.good ∙ end-not-there s c.at o in
      rw g

  pub line-done : length s ≤ c.at → Some (record { numbers = numbers; name = name }) ≡ line_read (columns_of b) at (drop at s)
  unfolding line_read is_line numbers_of places_of are_cells cell_numbers cell_places
  line-done o =
      let g : are_cells (columns_of b) (44 ∷ drop at s) ≡ true = sym last.good ∙ end-there s c.at o in
      rw (g, filled-done _ _ _ _ last.numbers-filled, named-done _ _ last.named)
