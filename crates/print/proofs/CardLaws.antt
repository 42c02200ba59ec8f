-- The lines of a card written one after the other.
use native.Mathlib.Nat.{add-sub_cancel_left}
use Rattle.std.proofs.Common.{◌∷◌, add-one, drop-cons, ◌∙◌}
use Rattle.cursor.specs.declared.Place.{Place}
use Rattle.print.proofs.PlaceLaws.{right-at}
use Rattle.print.proofs.FieldsLaws.{fields-front}
use mathlib.Core.Path.{◌≡◌, ap}
use mathlib.Core.Bool.{true}
use mathlib.Core.List.{List, [], ◌++◌}
use Prim.Native.Nat.{ℕ, suc, ◌+◌, ◌-◌, ◌*◌, ◌≤◌, ◌<◌}
use native.Mathlib.Omega.{arith}
use lib.ListN.{length, take, drop, get_or, length-append, length-take, length-drop}
use lib.Seq.{drop-drop, length-take-le}
use Rattle.layout.specs.Counts.{column_count}
use Rattle.cursor.specs.Pieces.{name_most}
use Rattle.cursor.specs.Names.{name_at_place, names_at}
use Rattle.print.specs.Card.{line_most, line_end, fields_text, line_text, rows_text, place_right, RowsFit, RowFits}
use Rattle.print.proofs.FieldsLaws.{fields-short}
use Rattle.print.proofs.PlaceLaws.{place-was}
use Rattle.print.proofs.PartlyLaws.{Partly}

pub line-short : (name card : List ℕ) → length name ≤ name_most → length (line_text name card) ≤ line_most
unfolding line_text
line-short name card h =
    let f = fields_text column_count card in
    omega (arith, fields-short column_count card, length-append (name ++ f) line_end, length-append name f)

pub name-short : (size : ℕ) (s : List ℕ) (p : Place) → place_right size p ≡ true → length (name_at_place s p) ≤ name_most
unfolding name_at_place
name-short size s p h = omega (arith, length-take p.size (drop p.start s), (place-was size p h).short)

-- a line of the next numbers alone
pub line-front : (name card : List ℕ) → column_count ≤ length card → line_text name (take column_count card) ≡ line_text name card
unfolding line_text
line-front name card h = ap (λ (x : List ℕ). name ++ x ++ line_end) (fields-front column_count card h)

-- what is left of n rows behind i of them
abbrev pub rows_left : List ℕ → List Place → List ℕ → ℕ → ℕ → List ℕ
rows_left s places card n i = rows_text (names_at s (n - i) (drop i places)) (drop (i * column_count) card)

module _ (s : List ℕ) (places : List Place) (card : List ℕ) (n i : ℕ) (d : Place) where
  -- the numbers of row i, as its part of the card, and its line
  abbrev pub row_numbers : List ℕ
  row_numbers = take (i * column_count + column_count - i * column_count) (drop (i * column_count) card)

  row_front : row_numbers ≡ take column_count (drop (i * column_count) card)
  row_front = rw (add-sub_cancel_left (i * column_count) column_count)

  abbrev pub row_text : List ℕ
  row_text = line_text (name_at_place s (get_or places i d)) row_numbers

  pub rows_end : n ≤ i → rows_left s places card n i ≡ []
  unfolding rows_text names_at
  rows_end l = let e : n - i ≡ 0 = omega arith in rw e

  module _ (out : List ℕ) (at : ℕ) (fit : RowsFit (length s) places (length card) n at (length out)) (l : i < n) where
    inside : i * column_count + column_count ≤ length card
    inside = omega (arith, fit.numbers)

    pub rows_next : rows_left s places card n i ≡ row_text ++ rows_left s places card n (i + 1)
    unfolding rows_text names_at
    rows_next =
        let e : n - i ≡ suc (n - (i + 1)) = omega arith in
        let b : i * column_count + column_count ≡ (i + 1) * column_count = omega arith in
        let p : drop i places ≡ get_or places i d ∷ drop (i + 1) places = rw (add-one i, drop-cons places i d (omega (arith, fit.names))) in
        let f = line-front (name_at_place s (get_or places i d)) (drop (i * column_count) card)
        (omega (arith, inside, length-drop (i * column_count) card)) in
        rw (row_front, e, p, f, drop-drop column_count (i * column_count) card, b)

    pub right : place_right (length s) (get_or places i d) ≡ true
    right = right-at (length s) places n i d fit.right l (omega (arith, fit.names))

    pub row-short : length row_text ≤ line_most
    row-short = line-short _ _ (name-short (length s) s (get_or places i d) right)

    pub row_fits :
        (out' : List ℕ) (next : ℕ) → Partly n line_most (rows_left s places card n) out at out' next i →
        RowFits (length s) (get_or places i d) (length row_numbers) next (length out')
    row_fits out' next h =
        record {
          out-room = omega (arith, fit.out-room, h.short, h.wrote.end, h.long);
          count = ap length row_front ∙ length-take-le column_count (drop (i * column_count) card) (omega (arith, inside, length-drop (i * column_count) card));
          right = right;
        }

pub rows_all : (s : List ℕ) (places : List Place) (card : List ℕ) (n : ℕ) → rows_left s places card n 0 ≡ rows_text (names_at s n places) card
rows_all s places card n = let e : n - 0 ≡ n = omega arith in rw e
