-- A cell of a column, read at a cursor, and what it says.
use Rattle.std.proofs.Common.{None}
use Rattle.std.proofs.lemmas.Option.{some_pair_parts}
use mathlib.Core.Path.{◌≡◌, refl, ap}
use mathlib.Core.Bool.{Bool, true, false, cond}
use mathlib.Core.List.{List}
use Prim.Native.Nat.{ℕ, ◌+◌, ◌-◌}
use native.Mathlib.Nat.{add-sub_cancel_left}
use Rattle.fold.proofs.BoolLaws.{zero-not-one}
use Rattle.cursor.specs.declared.Column.{Column}
use Rattle.cursor.specs.declared.Column.TheVariants.{Numbers, Names}
use Rattle.cursor.specs.declared.Cursor.{Cursor}
use Rattle.cursor.specs.declared.Place.{Place}
use Rattle.cursor.specs.declared.Cell.{Cell}
use Rattle.cursor.specs.declared.Cell.TheVariants.{Number}
use Rattle.cursor.specs.Pieces.{cell_read, name_cell, moved, digits, is_number, number_of, is_name, name_length, is_cell, cell_length, number_at, cell_at}
use Rattle.cursor.proofs.NameLaws.{NameWas}

-- cells that are read alike are alike, and the cursors past them
pub read-parts : (x y : Cell) (d e : Cursor) → cell_read x d ≡ cell_read y e → (x ≡ y) × (d ≡ e)
read-parts x y d e h = some_pair_parts x y d e h

-- a cell by its column
pub cell-number : (column : Column) (c : Cursor) (l : List ℕ) → column ≡ Numbers → number_at c l ≡ cell_at column c l
unfolding cell_at
cell-number column c l e = rw e

pub cell-name :
    (column : Column) (c d : Cursor) (l : List ℕ) → column ≡ Names → NameWas c l d → cell_read (name_cell c.at (d.at - c.at)) d ≡ cell_at column c l
unfolding cell_at
cell-name column c d l e w = rw (e, w.name, w.past, add-sub_cancel_left c.at (name_length l))

pub cell-no-name : (column : Column) (c : Cursor) (l : List ℕ) → column ≡ Names → is_name l ≡ false → None ≡ cell_at column c l
unfolding cell_at
cell-no-name column c l e h = rw (e, h)

-- what a cell says, by its column
pub record CellIs (column : Column) (i : ℕ) (l : List ℕ) (d : Cursor) : Type 0 where
  pub is-cell : is_cell column l ≡ true
  pub past : d.at ≡ i + cell_length column l

pub record NumberIs (column : Column) (i : ℕ) (l : List ℕ) (v : ℕ) (d : Cursor) : Type 0 where
  pub is : column ≡ Numbers
  pub cell : CellIs column i l d
  pub value : v ≡ number_of l

pub record NameIs (column : Column) (i : ℕ) (l : List ℕ) (a n : ℕ) (d : Cursor) : Type 0 where
  pub is : column ≡ Names
  pub cell : CellIs column i l d
  pub start : a ≡ i
  pub size : n ≡ name_length l

pub number_is : (column : Column) (c d : Cursor) (l : List ℕ) (v : ℕ) → cell_read (Number v) d ≡ cell_at column c l → NumberIs column c.at l v d
unfolding cell_at number_at is_cell cell_length
number_is Numbers c d l v = by-test (is_number l) refl
  where
    by-test :
        (t : Bool) → is_number l ≡ t → cell_read (Number v) d ≡ cond t (cell_read (Number (number_of l)) (moved c (digits l))) None → NumberIs Numbers c.at l v d
    by-test true n e =
        let p = read-parts _ _ _ _ e in
        let q = p.0 in
        record { is = refl; cell = record { is-cell = n; past = ap (λ (q : Cursor). q.at) p.1 }; value = cc }
    by-test false n e = absurd (zero-not-one cc)
number_is Names c d l v = by-test (is_name l)
  where
    by-test : (t : Bool) → cell_read (Number v) d ≡ cond t (cell_read (name_cell c.at (name_length l)) (moved c (name_length l))) None → NumberIs Names c.at l v d
    by-test true e = absurd (zero-not-one (let q = (read-parts _ _ _ _ e).0 in cc))
    by-test false e = absurd (zero-not-one cc)

pub name-is : (column : Column) (c d : Cursor) (l : List ℕ) (a n : ℕ) → cell_read (name_cell a n) d ≡ cell_at column c l → NameIs column c.at l a n d
unfolding cell_at number_at is_cell cell_length
name-is Names c d l a n = by-test (is_name l) refl
  where
    by-test :
        (t : Bool) → is_name l ≡ t → cell_read (name_cell a n) d ≡ cond t (cell_read (name_cell c.at (name_length l)) (moved c (name_length l))) None →
        NameIs Names c.at l a n d
    by-test true t e =
        let p = read-parts _ _ _ _ e in
        let q = p.0 in
        let r : ◌≡◌ {A = Place} (record { start = a; size = n }) (record { start = c.at; size = name_length l }) = cc in
        record {
          is = refl;
          cell = record { is-cell = t; past = ap (λ (q : Cursor). q.at) p.1 };
          start = ap (λ (v : Place). v.start) r;
          size = ap (λ (v : Place). v.size) r;
        }
    by-test false t e = absurd (zero-not-one cc)
name-is Numbers c d l a n = by-test (is_number l)
  where
    by-test : (t : Bool) → cell_read (name_cell a n) d ≡ cond t (cell_read (Number (number_of l)) (moved c (digits l))) None → NameIs Numbers c.at l a n d
    by-test true e = absurd (zero-not-one (let q = (read-parts _ _ _ _ e).0 in cc))
    by-test false e = absurd (zero-not-one cc)

pub none_is : (column : Column) (c : Cursor) (l : List ℕ) → None ≡ cell_at column c l → is_cell column l ≡ false
unfolding cell_at number_at is_cell
none_is Numbers c l = by-test (is_number l)
  where
    by-test : (t : Bool) → None ≡ cond t (cell_read (Number (number_of l)) (moved c (digits l))) None → t ≡ false
    by-test true e = absurd (zero-not-one cc)
    by-test false e = refl
none_is Names c l = by-test (is_name l)
  where
    by-test : (t : Bool) → None ≡ cond t (cell_read (name_cell c.at (name_length l)) (moved c (name_length l))) None → t ≡ false
    by-test true e = absurd (zero-not-one cc)
    by-test false e = refl
