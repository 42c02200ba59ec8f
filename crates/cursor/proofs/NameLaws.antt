-- A name read at the place i of the bytes w, how a name's place moves with its start, and what a name that was read says.
use Rattle.std.proofs.lemmas.List.{drop-take}
use Rattle.std.proofs.Common.{min, ⊎_elim, ◌<◌, ◌≤◌, length-drop, take_all, Option, Some, None}
use mathlib.Core.Path.{◌≡◌, refl}
use mathlib.Core.Bool.{Bool, true, false, cond}
use mathlib.Core.List.{List, [], ◌∷◌}
use Prim.Native.Nat.{ℕ, ◌+◌}
use native.Mathlib.Nat.{add_assoc, zero-add}
use native.Mathlib.Omega.{arith}
use lib.Dec.{eqb}
use lib.ListN.{length, take, drop, get_or, length-drop}
use lib.Seq.{take_all}
use Rattle.fold.proofs.BoolLaws.{zero-not-one, lt-or-le}
use Rattle.cursor.specs.declared.Class.TheVariants.{Bare}
use Rattle.cursor.specs.declared.Cursor.{Cursor}
use Rattle.cursor.specs.Bytes.{plain_byte, passes, run}
use Rattle.cursor.specs.Pieces.{moved, plain_part, quote_part, name_most, bare_end, name_end, is_found, place_found, is_name, name_length, name_at, name_to}

-- a place i further on
abbrev pub further : ℕ → Option ℕ → Option ℕ
further i (Some n) = Some (i + n)
further i None = None

further-cond : (i : ℕ) (t : Bool) (a b : Option ℕ) → cond t (further i a) (further i b) ≡ further i (cond t a b)
further-cond i true a b = refl
further-cond i false a b = refl

pub record Moves (i k : ℕ) (l : List ℕ) : Type 0 where
  pub plain : plain_part (i + k) l ≡ further i (plain_part k l)
  pub quote : quote_part (i + k) l ≡ further i (quote_part k l)

pub parts-move : (l : List ℕ) (i k : ℕ) → Moves i k l
unfolding plain_part
parts-move [] i k = record { plain = refl; quote = refl }
parts-move (b ∷ l) i k =
    let h = parts-move l i (k + 1) in
    record {
      plain =
          rw (add_assoc i k 1, h.plain, h.quote, further-cond i (plain_byte b) (plain_part (k + 1) l) None)
          (further-cond i (eqb b 34) (quote_part (k + 1) l) (cond (plain_byte b) (plain_part (k + 1) l) None));
      quote = rw (add_assoc i k 1, h.plain) (further-cond i (eqb b 34) (plain_part (k + 1) l) (Some k));
    }

bare-moves : (i n : ℕ) → bare_end i n ≡ further i (bare_end 0 n)
unfolding bare_end
bare-moves i n = rw (zero-add n) (further-cond i (eqb n 0) None (Some n))

pub name-moves : (i : ℕ) (w : List ℕ) → name_end i w ≡ further i (name_end 0 w)
unfolding name_end
name-moves i w =
    rw (bare-moves i (run (passes Bare) w), (parts-move (drop 1 w) i 1).plain)
    (further-cond i (eqb (get_or w 0 0) 34) (plain_part 1 (drop 1 w)) (bare_end 0 (run (passes Bare) w)))

-- a name within the next 24 bytes is what the definition says
pub name-read : (c : Cursor) (l w : List ℕ) → w ≡ take name_most l → name_to c.line (name_end c.at w) ≡ name_at c l
unfolding name_at is_name name_length is_found place_found
name-read c l w e = rw (e, name-moves c.at (take name_most l)) (by_cases (name_end 0 (take name_most l)))
  where
    by_cases : (f : Option ℕ) → name_to c.line (further c.at f) ≡ cond (is_found f) (Some (moved c (place_found f))) None
    by_cases (Some n) = refl
    by_cases None = refl

-- the 24 bytes from i on, or all that are left
pub window : (s : List ℕ) (i end : ℕ) → end ≡ min (i + name_most) (length s) → drop i (take end s) ≡ take name_most (drop i s)
window s i end e =
    ⊎_elim
    (λ (h : i + name_most < length s). let k : end ≡ i + name_most = omega arith in rw (k, drop-take i name_most s))
    (λ (h : length s ≤ i + name_most).
    let k : end ≡ length s = omega arith in
    let n : length (drop i s) ≤ name_most = omega (arith, length-drop i s) in
    rw (k, take_all (length s) s (omega arith), take_all name_most (drop i s) n))
    (lt-or-le (i + name_most) (length s))

-- what a name that was read says, and what none says
pub record NameWas (c : Cursor) (l : List ℕ) (d : Cursor) : Type 0 where
  pub name : is_name l ≡ true
  pub past : d ≡ moved c (name_length l)

pub name-was : (c d : Cursor) (l : List ℕ) → Some d ≡ name_at c l → NameWas c l d
unfolding name_at
name-was c d l = by-test (is_name l) refl
  where
    by-test : (t : Bool) → is_name l ≡ t → Some d ≡ cond t (Some (moved c (name_length l))) None → NameWas c l d
    by-test true n e = record { name = n; past = cc }
    by-test false n e = absurd (zero-not-one cc)

pub name-was-none : (c : Cursor) (l : List ℕ) → None ≡ name_at c l → is_name l ≡ false
unfolding name_at
name-was-none c l = by-test (is_name l) refl
  where
    by-test : (t : Bool) → is_name l ≡ t → None ≡ cond t (Some (moved c (name_length l))) None → is_name l ≡ false
    by-test true n e = absurd (zero-not-one cc)
    by-test false n e = n
