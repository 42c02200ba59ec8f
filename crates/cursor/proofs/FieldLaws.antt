-- A field, which is a cell with the comma before it unless it is a line's first, met at a cursor on the bytes s.
use Rattle.std.proofs.Common.{Option, None}
use mathlib.Core.Path.{◌≡◌, refl, sym, ap, ◌∙◌}
use mathlib.Core.Bool.{Bool, true, false, cond, ◌&&◌}
use mathlib.Core.Logic.{◌⊎◌, inl, inr, ⊎_elim}
use mathlib.Core.List.{List, ◌∷◌}
use Prim.Native.Nat.{ℕ, ◌+◌}
use native.Mathlib.Numerals.{one-add}
use native.Mathlib.Omega.{arith}
use lib.Dec.{eqb}
use lib.ListN.{drop, get_or}
use lib.Seq.{drop-drop}
use Rattle.fold.proofs.BoolLaws.{zero-not-one}
use Rattle.cursor.specs.declared.Column.{Column}
use Rattle.cursor.specs.declared.Cursor.{Cursor}
use Rattle.cursor.specs.declared.Cell.{Cell}
use Rattle.cursor.specs.declared.Cell.TheVariants.{Number}
use Rattle.cursor.specs.Pieces.{cell_read, name_cell, moved, is_comma, is_cell, cell_length, after_cell, cell_at, field_at}
use Rattle.cursor.proofs.CellLaws.{CellIs, NumberIs, NameIs, number_is, name-is, none_is}

-- the bytes with the comma that a line's first cell lacks, and where the cell starts
abbrev pub lead : Bool → List ℕ → List ℕ
lead first l = cond first (44 ∷ l) l

abbrev pub start_of : Bool → ℕ → ℕ
start_of first i = cond first i (i + 1)

lead_after :
    (first : Bool) (column : Column) (s : List ℕ) (i : ℕ) →
    after_cell column (lead first (drop i s)) ≡ drop (start_of first i + cell_length column (drop 1 (lead first (drop i s)))) s
unfolding after_cell
lead_after true column s i = rw (one-add (cell_length column (drop i s))) (drop-drop (cell_length column (drop i s)) i s)
lead_after false column s i =
    let n = cell_length column (drop 1 (drop i s)) in
    let z : i + (1 + n) ≡ i + 1 + n = omega arith in
    drop-drop (1 + n) i s ∙ ap (λ (k : ℕ). drop k s) z

-- what any cell that was read says, the cursor d standing past it: its comma, and what is left behind it
pub record FieldWas (first : Bool) (column : Column) (s : List ℕ) (i : ℕ) (d : Cursor) : Type 0 where
  pub comma : is_comma (lead first (drop i s)) ≡ true
  pub behind : after_cell column (lead first (drop i s)) ≡ drop d.at s

module _ (first : Bool) (column : Column) (s : List ℕ) (c d : Cursor) where
  behind : CellIs column (start_of first c.at) (drop 1 (lead first (drop c.at s))) d → after_cell column (lead first (drop c.at s)) ≡ drop d.at s
  behind h = lead_after first column s c.at ∙ ap (λ (k : ℕ). drop k s) (sym h.past)

-- a field is a cell behind a comma, the first cell's comma being the one put before it
cell-of-field :
    (first : Bool) (column : Column) (s : List ℕ) (c : Cursor) (r : Option (Cell × Cursor)) → r ≡ field_at first column c (drop c.at s) →
    ((is_comma (lead first (drop c.at s)) ≡ true) ×
    (r ≡ cell_at column (record { at = start_of first c.at; line = c.line }) (drop 1 (lead first (drop c.at s))))) ⊎
    ((is_comma (lead first (drop c.at s)) ≡ false) × (r ≡ None))
unfolding field_at is_comma
cell-of-field true column s c r e = inl (refl, e)
cell-of-field false column s c r e = by-test (eqb (get_or (drop c.at s) 0 0) 44) refl e
  where
    by-test :
        (t : Bool) → eqb (get_or (drop c.at s) 0 0) 44 ≡ t →
        r ≡ cond t (cell_at column (moved c 1) (drop 1 (drop c.at s))) None →
        ((eqb (get_or (drop c.at s) 0 0) 44 ≡ true) × (r ≡ cell_at column (moved c 1) (drop 1 (drop c.at s)))) ⊎
        ((eqb (get_or (drop c.at s) 0 0) 44 ≡ false) × (r ≡ None))
    by-test true t e = inl (t, e)
    by-test false t e = inr (t, e)

module _ (first : Bool) (column : Column) (s : List ℕ) (c : Cursor) where
  pub number-field :
      (v : ℕ) (d : Cursor) → cell_read (Number v) d ≡ field_at first column c (drop c.at s) →
      FieldWas first column s c.at d × NumberIs column (start_of first c.at) (drop 1 (lead first (drop c.at s))) v d
  number-field v d e =
      ⊎_elim
      (λ w.
      let n = number_is column (record { at = start_of first c.at; line = c.line }) d (drop 1 (lead first (drop c.at s))) v w.1 in
      (record { comma = w.0; behind = behind first column s c d n.cell }, n))
      (λ w. absurd (zero-not-one (let q = w.1 in cc)))
      (cell-of-field first column s c (cell_read (Number v) d) e)

  pub name-field :
      (a n : ℕ) (d : Cursor) → cell_read (name_cell a n) d ≡ field_at first column c (drop c.at s) →
      FieldWas first column s c.at d × NameIs column (start_of first c.at) (drop 1 (lead first (drop c.at s))) a n d
  name-field a n d e =
      ⊎_elim
      (λ w.
      let m = name-is column (record { at = start_of first c.at; line = c.line }) d (drop 1 (lead first (drop c.at s))) a n w.1 in
      (record { comma = w.0; behind = behind first column s c d m.cell }, m))
      (λ w. absurd (zero-not-one (let q = w.1 in cc)))
      (cell-of-field first column s c (cell_read (name_cell a n) d) e)

  pub no_field :
      None ≡ field_at first column c (drop c.at s) →
      (is_comma (lead first (drop c.at s)) && is_cell column (drop 1 (lead first (drop c.at s)))) ≡ false
  no_field e =
      ⊎_elim
      (λ w. rw w.0 (none_is column (record { at = start_of first c.at; line = c.line }) (drop 1 (lead first (drop c.at s))) w.1))
      (λ w. rw w.0)
      (cell-of-field first column s c None e)
