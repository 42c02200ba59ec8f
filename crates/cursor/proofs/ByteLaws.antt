-- What is left at a place, and what a test says of its byte: the set `left`, which the readers' proofs try.
use Rattle.std.proofs.Common.{arith, ◌≡◌, refl, false, List, [], ◌∷◌, ℕ, ◌+◌, ◌≤◌, ◌<◌, length, drop, get_or, drop_of_length-le, add-one, drop-cons}
use Rattle.std.proofs.lemmas.Bool.Decides.{nat_tests}
use Rattle.cursor.specs.declared.Class.TheVariants.{Digit, Bare}
use Rattle.cursor.specs.Bytes.{digit_byte, plain_byte, bare_byte, passes}

-- nothing past the end, or a byte with what follows
pub none_left : (s : List ℕ) (i : ℕ) → length s ≤ i → drop i s ≡ []
none_left s i h = drop_of_length-le s h

pub byte_left : (s : List ℕ) (i : ℕ) → i < length s → drop i s ≡ get_or s i 0 ∷ drop (i + 1) s
byte_left s i h = rw (add-one i, drop-cons s i 0 h)

-- nothing passes as neither a digit nor a name's byte
pub no_digit : (l : List ℕ) → length l < 1 → passes Digit l ≡ false
unfolding digit_byte passes
no_digit [] h = refl
no_digit (b ∷ l) h = absurd (omega arith)

pub no_bare : (l : List ℕ) → length l < 1 → passes Bare l ≡ false
unfolding plain_byte bare_byte passes
no_bare [] h = refl
no_bare (b ∷ l) h = absurd (omega arith)

pub ruleset left = (none_left, byte_left, no_digit, no_bare, nat_tests)
