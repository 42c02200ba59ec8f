-- Printed numbers obey section 6's own rule for numbers [01 §6]: digits only, one at least, at most nine below 1,000,000,000, no leading zero but 0
-- itself, and the value is the number printed (`number-value` of DigitLaws).
use mathlib.Core.Path.{◌≡◌}
use mathlib.Core.Logic.{◌⊎◌, inl, inr, ⊎_elim}
use mathlib.Core.List.{List, [], ◌∷◌, ◌++◌}
use Prim.Native.Nat.{ℕ, zero, suc, ◌/◌, ◌^◌, ◌≤◌, ◌<◌}
use native.Mathlib.Nat.{lt_of_lt_of_le}
use native.Mathlib.Omega.{arith}
use lib.Dec.{lit≤}
use lib.ListN.{length, get_or, length-append, get_or-append}
use Rattle.fold.proofs.BoolLaws.{lt-or-le}
use Rattle.print.specs.Write.{last_digit, last_digits, digits_most, number_text, word_most}
use Rattle.print.proofs.DigitLaws.{digits-none, digits-one, digits_step, tenth}

-- a byte from 48 to 57
abbrev IsDigit : ℕ → Type 0
IsDigit b = (48 ≤ b) × (b ≤ 57)

last-digit : (v : ℕ) → IsDigit (last_digit v)
unfolding last_digit
last-digit v = (omega arith, omega arith)

-- digits and one digit more
one_more :
    (l : List ℕ) (b : ℕ) → ((i : ℕ) → i < length l → IsDigit (get_or l i 0)) → IsDigit b →
    (i : ℕ) → i < length (l ++ (b ∷ [])) → IsDigit (get_or (l ++ (b ∷ [])) i 0)
one_more [] b f d zero h = d
one_more [] b f d (suc i) h = absurd (omega arith)
one_more (a ∷ l) b f d zero h = f 0 (omega arith)
one_more (a ∷ l) b f d (suc i) h = one_more l b (λ j k. f (suc j) (omega arith)) d i (omega arith)

digits-all : (k v i : ℕ) → i < length (last_digits k v) → IsDigit (get_or (last_digits k v) i 0)
digits-all zero v i = rw (digits-none v) (λ h. absurd (omega arith))
digits-all (suc k) v i =
    ⊎_elim
    (λ (p : v < 10). rw (digits-one k v p) (one_more [] (last_digit v) (λ j l. absurd (omega arith)) (last-digit v) i))
    (λ (p : 10 ≤ v). rw (digits_step k v p) (one_more (last_digits k (v / 10)) (last_digit v) (digits-all k (v / 10)) (last-digit v) i))
    (lt-or-le v 10)

digits-some : (k v : ℕ) → 1 ≤ length (last_digits (suc k) v)
digits-some k v =
    ⊎_elim
    (λ (p : v < 10). rw (digits-one k v p) (omega arith))
    (λ (p : 10 ≤ v). rw (digits_step k v p) (omega (arith, length-append (last_digits k (v / 10)) (last_digit v ∷ []))))
    (lt-or-le v 10)

-- no more digits than the number asks
digits-short : (k m v : ℕ) → v < 10 ^ suc k → length (last_digits m v) ≤ suc k
digits-short k zero v h = rw (digits-none v) (omega arith)
digits-short zero (suc m) v h = rw (digits-one m v h) (omega arith)
digits-short (suc k) (suc m) v h =
    ⊎_elim
    (λ (p : v < 10). rw (digits-one m v p) (omega arith))
    (λ (p : 10 ≤ v).
    rw (digits_step m v p)
    (omega (arith, digits-short k m (v / 10) (tenth (suc k) v h), length-append (last_digits m (v / 10)) (last_digit v ∷ []))))
    (lt-or-le v 10)

-- the first digit of a number that is not 0 is not 0
first_one : (k v : ℕ) → 1 ≤ v → v < 10 → get_or (last_digits (suc k) v) 0 0 ≡ 48 → ⊥
unfolding last_digit
first_one k v n p = rw (digits-one k v p) (λ e. omega arith)

first-digit : (k v : ℕ) → 1 ≤ v → v < 10 ^ suc k → get_or (last_digits (suc k) v) 0 0 ≡ 48 → ⊥
first-digit zero v n h = first_one 0 v n h
first-digit (suc k) v n h =
    ⊎_elim
    (λ (p : v < 10). first_one (suc k) v n p)
    (λ (p : 10 ≤ v).
    rw (digits_step (suc k) v p, get_or-append (last_digits (suc k) (v / 10)) (last_digit v ∷ []) 0 0 (digits-some k (v / 10)))
    (first-digit k (v / 10) (omega arith) (tenth (suc k) v h)))
    (lt-or-le v 10)

module _ (v : ℕ) where
  pub number_digits : (i : ℕ) → i < length (number_text v) → (48 ≤ get_or (number_text v) i 0) × (get_or (number_text v) i 0 ≤ 57)
  unfolding number_text
  number_digits i h = digits-all digits_most v i h

  pub number-some : 1 ≤ length (number_text v)
  unfolding number_text
  number-some = digits-some 19 v

  pub number-nine : v < 1000000000 → length (number_text v) ≤ 9
  unfolding number_text
  number-nine h = digits-short 8 digits_most v h

  pub number-no-leading-zero : v < word_most → (length (number_text v) ≤ 1) ⊎ (get_or (number_text v) 0 0 ≡ 48 → ⊥)
  unfolding number_text
  number-no-leading-zero h =
      ⊎_elim
      (λ (p : v < 10). inl (rw (digits-one 19 v p) (omega arith)))
      (λ (p : 10 ≤ v). inr (first-digit 19 v (omega arith) (lt_of_lt_of_le h (lit≤ tt))))
      (lt-or-le v 10)
