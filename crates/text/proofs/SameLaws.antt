-- `same_bytes` passes exactly where two lists are equal.
use Rattle.std.proofs.Common.{◌&&◌}
use Rattle.std.specs.Cmp.Lexicographic.{pointwise}
use mathlib.Core.Path.{ap}
use mathlib.Core.Path.{◌≡◌, refl, ap₂}
use mathlib.Core.Bool.{Bool, true, false≢true}
use mathlib.Core.List.{List, [], ◌∷◌}
use Prim.Native.Nat.{ℕ}
use lib.Dec.{eqb}
use borrow.Author.Tests.{eq-eqb, eqb-true}
use Rattle.fold.proofs.BoolLaws.{and_left, and_right}
use Rattle.text.specs.Text.{same_bytes}

pub same-equal : (a b : List ℕ) → same_bytes a b ≡ true → a ≡ b
unfolding same_bytes
same-equal [] [] h = refl
same-equal [] (y ∷ b) h = absurd (false≢true h)
same-equal (x ∷ a) [] h = absurd (false≢true h)
same-equal (x ∷ a) (y ∷ b) h =
    ap₂ ◌∷◌ (eqb-true x y (and_left (eqb x y) (same_bytes a b) h)) (same-equal a b (and_right (eqb x y) (same_bytes a b) h))

pub same_refl : (a : List ℕ) → same_bytes a a ≡ true
unfolding same_bytes
same_refl [] = refl
same_refl (x ∷ a) = rw (eq-eqb x x refl) (same_refl a)

-- the library's comparison
pub same-pointwise : (a b : List ℕ) → pointwise eqb a b ≡ same_bytes a b
unfolding same_bytes
same-pointwise [] [] = refl
same-pointwise [] (y ∷ b) = refl
same-pointwise (x ∷ a) [] = refl
same-pointwise (x ∷ a) (y ∷ b) = ap (λ (t : Bool). eqb x y && t) (same-pointwise a b)
