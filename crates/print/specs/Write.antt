-- Bytes written into a buffer, and the decimal digits of a number [01 §6]. Definitions only.
use Rattle.std.specs.Prelude.{◌≡◌, cond, List, [], ◌∷◌, ◌++◌, ℕ, zero, suc, ◌+◌, ◌/◌, ◌%◌, ltb, length, take, drop}

-- the buffer with xs written into it from `at` on
unfoldable pub written : List ℕ → ℕ → List ℕ → List ℕ
written out at xs = take at out ++ xs ++ drop (at + length xs) out

-- a writer wrote xs at `at` and answered the place behind it
pub record Wrote (out : List ℕ) (at : ℕ) (xs out' : List ℕ) (r : ℕ) : Type 0 where
  pub bytes : out' ≡ written out at xs
  pub end : r ≡ at + length xs

-- the byte of the last digit of v
unfoldable pub last_digit : ℕ → ℕ
last_digit v = v % 10 + 48

-- the last digits of v, at most k of them
unfoldable pub last_digits : ℕ → ℕ → List ℕ
last_digits zero v = []
last_digits (suc k) v =
    let more = last_digits k (v / 10) ++ (last_digit v ∷ []) in
    cond (ltb v 10) (last_digit v ∷ []) more

-- a number has at most so many digits
abbrev pub digits_most : ℕ
digits_most = 20

-- a number in decimal, without leading zeros
unfoldable pub number_text : ℕ → List ℕ
number_text v = last_digits digits_most v

-- a number of 64 bits lies below this, and so has no more digits than that
abbrev pub word_most : ℕ
word_most = 18446744073709551616
