-- Names by their places: which are right, and what room a card takes.
use mathlib.Core.List.{[], ◌∷◌}
use Rattle.cursor.specs.declared.Place.{Place}
use Rattle.std.specs.List.{list_all}
use mathlib.Core.Path.{refl, ◌≡◌}
use mathlib.Core.Bool.{true, ◌&&◌}
use mathlib.Core.List.{List, ◌∷◌}
use Prim.Native.Nat.{suc, zero, ℕ, ◌+◌, ◌-◌, ◌/◌, ◌≤◌, ◌<◌}
use native.Mathlib.Nat.{add-sub_cancel_left}
use native.Mathlib.Omega.{arith}
use lib.Dec.{leb}
use lib.ListN.{length, take, drop, get_or, length-take}
use borrow.Author.Tests.{leb-true, le-leb}
use Rattle.layout.specs.Counts.{column_count}
use Rattle.fold.proofs.BoolLaws.{and_left, and_right, and_both}
use Rattle.cursor.specs.Pieces.{name_most}
use Rattle.cursor.specs.Names.{name_at_place}
use Rattle.print.specs.Card.{header_size, line_most, place_right, printable, RowsFit}

-- what a right place says
pub record PlaceWas (size : ℕ) (p : Place) : Type 0 where
  pub short : p.size ≤ name_most
  pub inside : p.start + p.size ≤ size

pub place-was : (size : ℕ) (p : Place) → place_right size p ≡ true → PlaceWas size p
unfolding place_right
place-was size p h =
    let a = and_left (leb p.size name_most && leb p.start size) (leb p.size (size - p.start)) h in
    let x = leb-true p.size name_most (and_left (leb p.size name_most) (leb p.start size) a) in
    let y = leb-true p.start size (and_right (leb p.size name_most) (leb p.start size) a) in
    let z = leb-true p.size (size - p.start) (and_right (leb p.size name_most && leb p.start size) (leb p.size (size - p.start)) h) in
    record { short = x; inside = omega arith }

pub place-is-right : (size : ℕ) (p : Place) → PlaceWas size p → place_right size p ≡ true
unfolding place_right
place-is-right size p w =
    and_both (and_both (le-leb p.size name_most w.short) (le-leb p.start size (omega (arith, w.inside))))
    (le-leb p.size (size - p.start) (omega (arith, w.inside)))

-- all of the first n are right, where each is
pub right-all :
    (size n : ℕ) (places : List Place) → ((k : ℕ) → k < n → (d : Place) → PlaceWas size (get_or places k d)) → n ≤ length places →
    list_all (place_right size) (take n places) ≡ true
right-all size zero places h l = refl
right-all size (suc n) [] h l = absurd (omega arith)
right-all size (suc n) (p ∷ ps) h l =
    and_both (place-is-right size p (h 0 (omega arith) p)) (right-all size n ps (λ k i d. h (suc k) (omega arith) d) (omega arith))

-- each of the first n is right
pub right-at :
    (size : ℕ) (places : List Place) (n i : ℕ) (d : Place) → list_all (place_right size) (take n places) ≡ true → i < n → i < length places →
    place_right size (get_or places i d) ≡ true
right-at size [] n i d h k l = absurd (omega arith)
right-at size (p ∷ ps) zero i d h k l = absurd (omega arith)
right-at size (p ∷ ps) (suc n) zero d h k l = and_left (place_right size p) (list_all (place_right size) (take n ps)) h
right-at size (p ∷ ps) (suc n) (suc i) d h k l =
    right-at size ps n i d (and_right (place_right size p) (list_all (place_right size) (take n ps)) h) (omega arith) (omega arith)

-- the part of the text from its start to its end is the name there
pub name-part : (s : List ℕ) (p : Place) → take (p.start + p.size - p.start) (drop p.start s) ≡ name_at_place s p
unfolding name_at_place
name-part s p = rw (add-sub_cancel_left p.start p.size)

pub part-short : (s : List ℕ) (a n : ℕ) → length (take (a + n - a) (drop a s)) ≤ n
part-short s a n = omega (arith, length-take (a + n - a) (drop a s))

-- what a card that can be printed says
pub record Room (size : ℕ) (places : List Place) (card n room : ℕ) : Type 0 where
  pub header : header_size ≤ room
  pub rows : RowsFit size places card n header_size room

pub printable-room : (size : ℕ) (places : List Place) (card n room : ℕ) → printable size places card n room ≡ true → Room size places card n room
unfolding printable
printable-room size places card n room h =
    let e = list_all (place_right size) (take n places) in
    let a = leb header_size room in
    let b = leb n ((room - header_size) / line_most) in
    let c = leb n (length places) in
    let d = leb n (card / column_count) in
    let h₁ = and_left (a && b && c && d) e h in
    let h₂ = and_left (a && b && c) d h₁ in
    let h₃ = and_left (a && b) c h₂ in
    let p = leb-true header_size room (and_left a b h₃) in
    let q = leb-true n ((room - header_size) / line_most) (and_right a b h₃) in
    let r = leb-true n (length places) (and_right (a && b) c h₂) in
    let t = leb-true n (card / column_count) (and_right (a && b && c) d h₁) in
    record {
      header = p;
      rows =
          record {
            out-room = omega arith;
            names = omega arith;
            numbers = omega arith;
            right = and_right (a && b && c && d) e h;
          };
    }
