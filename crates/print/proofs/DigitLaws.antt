-- The decimal digits of a number: how many, and that reading them gives the number back.
use mathlib.Core.Path.{◌≡◌, refl, sym, ap, ◌∙◌}
use mathlib.Core.Bool.{Bool, cond}
use mathlib.Core.Logic.{⊎_elim}
use mathlib.Core.List.{List, [], ◌∷◌, ◌++◌}
use Prim.Native.Nat.{ℕ, zero, suc, ◌+◌, ◌-◌, ◌*◌, ◌/◌, ◌%◌, ◌^◌, ◌≤◌, ◌<◌}
use native.Mathlib.Nat.{pow-suc, lt_of_lt_of_le}
use native.Mathlib.Omega.{arith}
use lib.Dec.{lit≤}
use lib.ListN.{length, length-append}
use borrow.Author.Tests.{lt-ltb, le-ltb}
use Rattle.fold.proofs.BoolLaws.{lt-or-le}
use Rattle.cursor.specs.Pieces.{decimal}
use Rattle.print.specs.Write.{last_digit, last_digits, digits_most, number_text, word_most}

pub digits-one : (k v : ℕ) → v < 10 → last_digits (suc k) v ≡ last_digit v ∷ []
unfolding last_digits
digits-one k v h = ap (λ (t : Bool). cond t (last_digit v ∷ []) (last_digits k (v / 10) ++ (last_digit v ∷ []))) (lt-ltb v 10 h)

pub digits_step : (k v : ℕ) → 10 ≤ v → last_digits (suc k) v ≡ last_digits k (v / 10) ++ (last_digit v ∷ [])
unfolding last_digits
digits_step k v h = ap (λ (t : Bool). cond t (last_digit v ∷ []) (last_digits k (v / 10) ++ (last_digit v ∷ []))) (le-ltb v 10 h)

pub digits-none : (v : ℕ) → last_digits 0 v ≡ []
unfolding last_digits
digits-none v = refl

pub digits-few : (k v : ℕ) → length (last_digits k v) ≤ k
digits-few zero v = rw (digits-none v) (omega arith)
digits-few (suc k) v =
    ⊎_elim
    (λ (p : v < 10). rw (digits-one k v p) (omega arith))
    (λ (p : 10 ≤ v).
    rw (digits_step k v p) (omega (arith, digits-few k (v / 10), length-append (last_digits k (v / 10)) (last_digit v ∷ []))))
    (lt-or-le v 10)

pub tenth : (k v : ℕ) → v < 10 ^ suc k → v / 10 < 10 ^ k
tenth k v h = let e : v < 10 ^ k * 10 = rw (pow-suc 10 k) at h in omega arith

-- one digit more than enough changes nothing
digits-enough : (k v : ℕ) → v < 10 ^ suc k → last_digits (suc (suc k)) v ≡ last_digits (suc k) v
digits-enough zero v h = digits-one 1 v h ∙ sym (digits-one 0 v h)
digits-enough (suc k) v h =
    ⊎_elim
    (λ (p : v < 10). digits-one (suc (suc k)) v p ∙ sym (digits-one (suc k) v p))
    (λ (p : 10 ≤ v).
    digits_step (suc (suc k)) v p ∙
    ap (λ (l : List ℕ). l ++ (last_digit v ∷ [])) (digits-enough k (v / 10) (tenth (suc k) v h)) ∙
    sym (digits_step (suc k) v p))
    (lt-or-le v 10)

-- reading the digits gives the number back
decimal-last : (v : ℕ) (l : List ℕ) (b : ℕ) → decimal v (l ++ (b ∷ [])) ≡ decimal v l * 10 + (b - 48)
unfolding decimal
decimal-last v [] b = refl
decimal-last v (a ∷ l) b = decimal-last (v * 10 + (a - 48)) l b

digits_value : (k v : ℕ) → v < 10 ^ suc k → decimal 0 (last_digits (suc k) v) ≡ v
unfolding decimal last_digit
digits_value zero v h = rw (digits-one 0 v h) (omega arith)
digits_value (suc k) v h =
    ⊎_elim
    (λ (p : v < 10). rw (digits-one (suc k) v p) (omega arith))
    (λ (p : 10 ≤ v).
    rw (digits_step (suc k) v p, decimal-last 0 (last_digits (suc k) (v / 10)) (v % 10 + 48), digits_value k (v / 10) (tenth (suc k) v h))
    (omega arith))
    (lt-or-le v 10)

pub number-value : (v : ℕ) → v < word_most → decimal 0 (number_text v) ≡ v
unfolding number_text
number-value v h = digits_value 19 v (lt_of_lt_of_le h (lit≤ tt))

pub number-few : (v : ℕ) → length (number_text v) ≤ digits_most
unfolding number_text
number-few v = digits-few digits_most v

pub number-one : (v : ℕ) → v < 10 → number_text v ≡ last_digit v ∷ []
unfolding number_text
number-one v h = digits-one 19 v h

pub number_more : (v : ℕ) → 10 ≤ v → v < word_most → number_text v ≡ number_text (v / 10) ++ (last_digit v ∷ [])
unfolding number_text
number_more v h k =
    digits_step 19 v h ∙ ap (λ (l : List ℕ). l ++ (last_digit v ∷ [])) (sym (digits-enough 18 (v / 10) (tenth 19 v (lt_of_lt_of_le k (lit≤ tt)))))

pub number-shorter : (v : ℕ) → 10 ≤ v → v < word_most → length (number_text (v / 10)) + 1 ≤ digits_most
number-shorter v h k =
    omega (arith, number-few v, ap length (number_more v h k), length-append (number_text (v / 10)) (last_digit v ∷ []))
