-- The bytes of section 6 by their numbers [01 §6]: which are digits, which stand in a name without quotes and within quotes, and what CRLF is.
use mathlib.Core.Path.{◌≡◌, ap, ap₂}
use mathlib.Core.Bool.{true, false, not, ◌&&◌, false≢true}
use mathlib.Core.Logic.{◌↔◌}
use mathlib.Core.List.{List, [], ◌∷◌}
use Prim.Native.Nat.{ℕ, ◌≤◌}
use lib.Dec.{leb, eqb}
use lib.ListN.{get_or}
use borrow.Author.Tests.{leb-true, le-leb, eqb-true, eqb-false, ne_eqb, not-true}
use Rattle.fold.proofs.BoolLaws.{and_left, and_right, and_both}
use Rattle.cursor.specs.Bytes.{digit_byte, plain_byte, bare_byte, crlf}

pub digit-exactly : (b : ℕ) → (digit_byte b ≡ true) ↔ ((48 ≤ b) × (b ≤ 57))
unfolding digit_byte
digit-exactly b = (
  λ h. (leb-true 48 b (and_left (leb 48 b) (leb b 57) h), leb-true b 57 (and_right (leb 48 b) (leb b 57) h)),
  λ h. and_both (le-leb 48 b h.0) (le-leb b 57 h.1),
)

pub plain-exactly : (b : ℕ) → (plain_byte b ≡ true) ↔ ((32 ≤ b) × ((b ≤ 126) × (b ≡ 34 → ⊥)))
unfolding plain_byte
plain-exactly b = (
  λ h.
      let r = and_left (leb 32 b && leb b 126) (not (eqb b 34)) h in
      let q = and_right (leb 32 b && leb b 126) (not (eqb b 34)) h in (
        leb-true 32 b (and_left (leb 32 b) (leb b 126) r),
        (leb-true b 126 (and_right (leb 32 b) (leb b 126) r), eqb-false b 34 (not-true (eqb b 34) q)),
      ),
  λ h. and_both (and_both (le-leb 32 b h.0) (le-leb b 126 h.1.0)) (ap not (ne_eqb b 34 h.1.1)),
)

pub bare-exactly : (b : ℕ) → (bare_byte b ≡ true) ↔ ((b ≡ 44 → ⊥) × ((32 ≤ b) × ((b ≤ 126) × (b ≡ 34 → ⊥))))
unfolding bare_byte
bare-exactly b = (
  λ h. (
    eqb-false b 44 (not-true (eqb b 44) (and_left (not (eqb b 44)) (plain_byte b) h)),
    (plain-exactly b).0 (and_right (not (eqb b 44)) (plain_byte b) h),
  ),
  λ h. and_both (ap not (ne_eqb b 44 h.0)) ((plain-exactly b).1 h.1),
)

pub crlf-exactly : (l : List ℕ) → (crlf l ≡ true) ↔ ((rest : List ℕ) × (l ≡ 13 ∷ 10 ∷ rest))
unfolding crlf
crlf-exactly l = (to l, λ e. rw e.1)
  where
    to : (l : List ℕ) → (eqb (get_or l 0 0) 13 && eqb (get_or l 1 0) 10) ≡ true → (rest : List ℕ) × (l ≡ 13 ∷ 10 ∷ rest)
    to [] h = absurd (false≢true h)
    to (b ∷ []) h = absurd (false≢true (and_right (eqb b 13) false h))
    to (b ∷ c ∷ l) h =
        (l, ap₂ (λ (x y : ℕ). x ∷ y ∷ l) (eqb-true b 13 (and_left (eqb b 13) (eqb c 10) h)) (eqb-true c 10 (and_right (eqb b 13) (eqb c 10) h)))
