-- A number comes next exactly where the bytes that come next are a number, and its value is theirs.
use mathlib.Core.Path.{◌≡◌, refl, sym, ◌∙◌}
use mathlib.Core.Bool.{Bool, true, false, not, ◌&&◌, ◌||◌, or-true}
use mathlib.Core.Logic.{◌⊎◌, inl, inr, ⊎_elim}
use mathlib.Core.List.{List, ◌∷◌, ◌++◌}
use Prim.Native.Nat.{ℕ, ◌≤◌}
use native.Mathlib.Nat.{add-zero}
use native.Mathlib.Omega.{arith}
use lib.Dec.{leb, eqb}
use lib.ListN.{length, take, get_or, get_or-append}
use lib.Seq.{length-take-le, take-append_seam, get_or-take}
use borrow.Author.Tests.{le-leb, leb-true, ne_eqb, eqb-false, not-true}
use Rattle.fold.proofs.BoolLaws.{and_left, and_right}
use Rattle.cursor.specs.declared.Class.TheVariants.{Digit}
use Rattle.cursor.specs.Bytes.{digit_byte, passes}
use Rattle.cursor.specs.Pieces.{digits, is_number, number_of}
use Rattle.cursor.proofs.RunLaws.{run_length}
use Rattle.text.specs.Grammar.{All, IsNumber}
use Rattle.text.proofs.GrammarRuns.{run-all, run-append}

digit-first : (b : ℕ) (l : List ℕ) → passes Digit (b ∷ l) ≡ true → digit_byte b ≡ true
unfolding passes
digit-first b l h = h

digit-passes : (b : ℕ) (l : List ℕ) → digit_byte b ≡ true → passes Digit (b ∷ l) ≡ true
unfolding passes
digit-passes b l h = h

or_cases : (a b : Bool) → (a || b) ≡ true → (a ≡ true) ⊎ (b ≡ true)
or_cases true b h = inl refl
or_cases false b h = inr h

pub digits-fit : (l : List ℕ) → digits l ≤ length l
unfolding digits
digits-fit l = run_length (passes Digit) 0 l

digits-all : (l : List ℕ) → All digit_byte (take (digits l) l)
unfolding digits
digits-all l = run-all digit_byte (passes Digit) digit-first l

pub number-sound : (l : List ℕ) → is_number l ≡ true → IsNumber (take (digits l) l) (number_of l)
unfolding is_number number_of
number-sound l h =
    let k : length (take (digits l) l) ≡ digits l = length-take-le (digits l) l (digits-fit l) in
    let a = and_left (leb 1 (digits l) && leb (digits l) 9) (leb (digits l) 1 || not (eqb (get_or l 0 0) 48)) h in
    let z = and_right (leb 1 (digits l) && leb (digits l) 9) (leb (digits l) 1 || not (eqb (get_or l 0 0) 48)) h in
    let p : 1 ≤ digits l = leb-true 1 (digits l) (and_left (leb 1 (digits l)) (leb (digits l) 9) a) in
    let q : digits l ≤ 9 = leb-true (digits l) 9 (and_right (leb 1 (digits l)) (leb (digits l) 9) a) in
    record {
      digits = digits-all l;
      some = omega arith;
      most = omega arith;
      no-leading-zero =
          ⊎_elim
          (λ (o : leb (digits l) 1 ≡ true). let m = leb-true (digits l) 1 o in inl (omega arith))
          (λ (o : not (eqb (get_or l 0 0) 48) ≡ true).
          inr (rw (get_or-take (digits l) l 0 0 p) (eqb-false (get_or l 0 0) 48 (not-true (eqb (get_or l 0 0) 48) o))))
          (or_cases (leb (digits l) 1) (not (eqb (get_or l 0 0) 48)) z);
      value = refl;
    }

digits-next : (w v : List ℕ) → All digit_byte w → digits v ≡ 0 → digits (w ++ v) ≡ length w
unfolding digits
digits-next w v h z = run-append digit_byte (passes Digit) digit-passes w v h ∙ rw z (add-zero (length w))

-- what comes behind a number does not start with a digit
pub record NumberNext (w v : List ℕ) (n : ℕ) : Type 0 where
  pub number : is_number (w ++ v) ≡ true
  pub long : digits (w ++ v) ≡ length w
  pub value : number_of (w ++ v) ≡ n

pub number-complete : (w v : List ℕ) (n : ℕ) → IsNumber w n → digits v ≡ 0 → NumberNext w v n
unfolding is_number number_of
number-complete w v n h z =
    let k = digits-next w v h.digits z in
    record {
      number =
          rw (k, le-leb 1 (length w) h.some, le-leb (length w) 9 h.most)
          (⊎_elim
          (λ (o : length w ≤ 1). rw (le-leb (length w) 1 o))
          (λ o. rw (get_or-append w v 0 0 h.some, ne_eqb (get_or w 0 0) 48 o) (or-true (leb (length w) 1)))
          h.no-leading-zero);
      long = k;
      value = rw (k, take-append_seam w v) (sym h.value);
    }
