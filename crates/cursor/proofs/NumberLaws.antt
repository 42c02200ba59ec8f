-- A number at the start of the bytes l: its digits, and what the reader tests of them.
use Rattle.std.proofs.Common.{◌≡◌, sym, ap, ◌∙◌, true, false, ◌⊎◌, List, ℕ, ◌-◌, ◌≤◌, ◌<◌, None, leb, length, take, drop, get_or, ap₂, not, ◌||◌, eqb, Bool}
use Rattle.std.proofs.Common.{arith, get_or-take, length-take-le, length-drop}
use mathlib.Core.Bool.{◌&&◌, and-false, or-true}
use mathlib.Core.Logic.{⊎_elim}
use borrow.Author.Tests.{le-leb, lt-leb, eq-eqb, ne_eqb, leb-true}
use Rattle.fold.proofs.BoolLaws.{and_left, and_right, and_both}
use Rattle.cursor.specs.declared.Class.TheVariants.{Digit}
use Rattle.cursor.specs.declared.Cursor.{Cursor}
use Rattle.cursor.specs.declared.Cell.TheVariants.{Number}
use Rattle.cursor.specs.Bytes.{digit_byte, passes, run}
use Rattle.cursor.specs.Digits.{Digits}
use Rattle.cursor.specs.Pieces.{cell_read, moved, digits, is_number, decimal, number_of, number_at}
use Rattle.cursor.proofs.RunLaws.{first-left, run_length, run_at}

-- the digits that come next
abbrev pub digits_next : List ℕ → List ℕ
digits_next l = take (digits l) l

module _ (l : List ℕ) where
  digits-inside : digits l ≤ length l
  unfolding digits
  digits-inside = run_length (passes Digit) 0 l

  digits-long : length (digits_next l) ≡ digits l
  digits-long = length-take-le (digits l) l digits-inside

  pub number-none : digits l ≡ 0 → is_number l ≡ false
  unfolding is_number
  number-none h = rw h

  pub number-long : 9 < length (digits_next l) → is_number l ≡ false
  unfolding is_number
  number-long h =
      let d = digits l in
      let n = digits-long in
      ap₂ (λ (x y : Bool). x && y && (leb d 1 || not (eqb (get_or l 0 0) 48))) (le-leb 1 d (omega arith)) (lt-leb d 9 (omega arith))

  pub number-zero : 1 < length (digits_next l) → get_or (digits_next l) 0 0 ≡ 48 → is_number l ≡ false
  unfolding is_number
  number-zero h z =
      let d = digits l in
      let n = digits-long in
      let e : get_or l 0 0 ≡ 48 = sym (get_or-take d l 0 0 (omega arith)) ∙ z in
      let more : (leb d 1 || not (eqb (get_or l 0 0) 48)) ≡ false =
      ap₂ (λ (x y : Bool). x || not y) (lt-leb d 1 (omega arith)) (eq-eqb (get_or l 0 0) 48 e) in
      ap (λ (x : Bool). leb 1 d && leb d 9 && x) more ∙ and-false (leb 1 d && leb d 9)

  pub number-right :
      (digits l ≡ 0 → ⊥) → length (digits_next l) ≤ 9 → (length (digits_next l) ≤ 1) ⊎ (get_or (digits_next l) 0 0 ≡ 48 → ⊥) → is_number l ≡ true
  unfolding is_number
  number-right h k z =
      let d = digits l in
      let n = digits-long in
      and_both (and_both (le-leb 1 d (omega (arith, h))) (le-leb d 9 (omega arith)))
      (⊎_elim
      (λ (o : length (digits_next l) ≤ 1). ap (λ (x : Bool). x || not (eqb (get_or l 0 0) 48)) (le-leb d 1 (omega arith)))
      (λ (o : get_or (digits_next l) 0 0 ≡ 48 → ⊥).
      ap (λ (x : Bool). leb d 1 || not x) (ne_eqb (get_or l 0 0) 48 (λ q. o (get_or-take d l 0 0 (omega (arith, h)) ∙ q))) ∙
      or-true (leb d 1))
      z)

  digit_at : (j : ℕ) → j < length (digits_next l) → digit_byte (get_or (digits_next l) j 0) ≡ true
  unfolding digits passes
  digit_at j h =
      let k : j < digits l = omega (arith, digits-long) in
      rw (get_or-take (digits l) l j 0 k) (rw (first-left l j) at (run_at (passes Digit) 0 l j k))

  pub digits-there : length (digits_next l) ≤ 9 → Digits (digits_next l)
  unfolding digit_byte
  digits-there k =
      record {
        few = k;
        least = λ j b. leb-true 48 _ (and_left (leb 48 (get_or (digits_next l) j 0)) (leb (get_or (digits_next l) j 0) 57) (digit_at j b));
        most = λ j b. leb-true _ 57 (and_right (leb 48 (get_or (digits_next l) j 0)) (leb (get_or (digits_next l) j 0) 57) (digit_at j b));
      }

-- past the run of digits
pub run-was : (c p : Cursor) (s : List ℕ) → p ≡ moved c (run (passes Digit) (drop c.at s)) → p.at - c.at ≡ digits (drop c.at s)
unfolding digits
run-was c p s e = omega (arith, ap (λ (q : Cursor). q.at) e)

pub run-some :
    (c p : Cursor) (s : List ℕ) → p ≡ moved c (run (passes Digit) (drop c.at s)) → (p.at ≡ c.at → ⊥) → digits (drop c.at s) ≡ 0 → ⊥
unfolding digits
run-some c p s e h d = h (omega (arith, d, ap (λ (q : Cursor). q.at) e))

pub run-inside : (c p : Cursor) (s : List ℕ) → p ≡ moved c (run (passes Digit) (drop c.at s)) → (p.at ≡ c.at → ⊥) → p.at ≤ length s
unfolding digits
run-inside c p s e h = omega (arith, h, ap (λ (q : Cursor). q.at) e, digits-inside (drop c.at s), length-drop c.at s)

-- no number is none, and a number is what the definition says
pub number-bad : (c : Cursor) (l : List ℕ) → is_number l ≡ false → None ≡ number_at c l
unfolding number_at
number-bad c l h = rw h

pub number-read :
    (c p : Cursor) (s : List ℕ) (v : ℕ) → p ≡ moved c (run (passes Digit) (drop c.at s)) → is_number (drop c.at s) ≡ true →
    v ≡ decimal 0 (digits_next (drop c.at s)) → cell_read (Number v) p ≡ number_at c (drop c.at s)
unfolding number_at number_of digits
number-read c p s v e h k = rw (h, e, k)
