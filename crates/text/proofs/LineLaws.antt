-- A line read cell by cell: the cells read so far and the cells left make up the line.
use Rattle.cursor.specs.declared.Place.{Place}
use Rattle.text.proofs.FillLaws.{named-one, Named}
use Rattle.std.proofs.Common.{Option, Some, None}
use mathlib.Core.Path.{◌≡◌, refl, sym}
use mathlib.Core.Bool.{true, false, ◌&&◌}
use mathlib.Core.List.{List, ◌∷◌}
use Prim.Native.Nat.{ℕ, ◌+◌, ◌≤◌, ◌<◌}
use lib.Dec.{eqb}
use lib.ListN.{length, drop, set, replicate}
use Rattle.cursor.specs.declared.Column.{Column}
use Rattle.cursor.specs.declared.Column.TheVariants.{Numbers, Names}
use Rattle.cursor.specs.declared.Cursor.{Cursor}
use Rattle.cursor.specs.Pieces.{number_of, name_length, is_comma, is_cell, cell_length, after_cell}
use Rattle.cursor.proofs.FieldLaws.{lead, start_of}
use Rattle.text.specs.Line.{numbers_most, are_cells, cell_numbers}
use Rattle.text.specs.Line.{cell_places}
use Rattle.text.proofs.FillLaws.{Filled, filled_none, filled-room, filled_more}

-- of the cells ks in l, the first starting at `at`, those of `left` in `rest` are still to be read, the next starting at i
pub record Reads (ks : List Column) (at : ℕ) (l numbers : List ℕ) (name : Option Place) (left : List Column) (i : ℕ) (rest : List ℕ) (n : ℕ) : Type 0 where
  pub good : are_cells left rest ≡ are_cells ks l
  pub numbers-filled : Filled numbers_most numbers (cell_numbers left rest) (cell_numbers ks l) n
  pub named : Named name (cell_places left i rest) (cell_places ks at l)

module _ (ks : List Column) (at : ℕ) (l numbers : List ℕ) (name : Option Place) (left : List Column) (i : ℕ) (rest : List ℕ) (n : ℕ) where
  pub number_read :
      Reads ks at l numbers name (Numbers ∷ left) i rest n → length (cell_numbers ks l) ≤ numbers_most → is_comma rest ≡ true →
      is_cell Numbers (drop 1 rest) ≡ true → (v : ℕ) → v ≡ number_of (drop 1 rest) →
      Reads ks at l (set numbers n v) name left (i + cell_length Numbers (drop 1 rest) + 1) (after_cell Numbers rest) (n + 1)
  unfolding are_cells cell_numbers cell_places
  number_read h fits comma cell v e =
      record {
        good = rw (comma, cell) at h.good;
        numbers-filled = rw e (filled_more _ _ _ _ _ _ h.numbers-filled fits);
        named = h.named;
      }

  pub number-room : Reads ks at l numbers name (Numbers ∷ left) i rest n → length (cell_numbers ks l) ≤ numbers_most → n < numbers_most
  unfolding cell_numbers
  number-room h fits = filled-room _ _ _ _ _ _ h.numbers-filled fits

  pub name-read :
      Reads ks at l numbers name (Names ∷ left) i rest n → length (cell_places ks at l) ≤ 1 → is_comma rest ≡ true →
      is_cell Names (drop 1 rest) ≡ true → (x y : ℕ) → x ≡ i → y ≡ name_length (drop 1 rest) →
      Reads ks at l numbers (Some (record { start = x; size = y })) left (i + cell_length Names (drop 1 rest) + 1) (after_cell Names rest) n
  unfolding are_cells cell_numbers cell_places
  name-read h fits comma cell x y e f =
      record {
        good = rw (comma, cell) at h.good;
        numbers-filled = h.numbers-filled;
        named = rw (e, f) (named-one name _ _ _ h.named fits);
      }

pub cell-bad :
    (ks : List Column) (at : ℕ) (l numbers : List ℕ) (name : Option Place) (x : Column) (left : List Column) (i : ℕ) (rest : List ℕ) (n : ℕ) →
    Reads ks at l numbers name (x ∷ left) i rest n → (is_comma rest && is_cell x (drop 1 rest)) ≡ false → are_cells ks l ≡ false
unfolding are_cells
cell-bad ks at l numbers name x left i rest n h e = sym (rw e at h.good)

-- the same at column k, met at a cursor on the bytes s
abbrev pub ReadTo : (ks : List Column) (s : List ℕ) (at : ℕ) (numbers : List ℕ) (name : Option Place) (c : Cursor) (k n : ℕ) → Type 0
ReadTo ks s at numbers name c k n =
    Reads ks at (44 ∷ drop at s) numbers name (drop k ks) (start_of (eqb k 0) c.at) (lead (eqb k 0) (drop c.at s)) n

pub read_none : (ks : List Column) (s : List ℕ) (c : Cursor) → ReadTo ks s c.at (replicate numbers_most 0) None c 0 0
read_none ks s c =
    record {
      good = refl;
      numbers-filled = filled_none numbers_most (cell_numbers ks (44 ∷ drop c.at s));
      named = refl;
    }
