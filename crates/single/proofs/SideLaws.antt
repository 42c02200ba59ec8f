-- Both sides of a fraction, over plain numbers [02 §9]: they hold it between them, differ by at most 1, and are equal exactly where it is whole; each is
-- the fraction rounded its way. So equal fractions have the same sides.
use Prim.Native.Nat.{ℕ, suc, ◌*◌, ◌≤◌, ◌<◌}
use native.Mathlib.Nat.{le_refl, le_trans, le_of_eq, le_of_lt, le_antisymm, le_of_mul-le-mul_right}
use native.Mathlib.Omega.{arith}
use mathlib.Core.Path.{◌≡◌, refl, sym, ap, ◌∙◌, subst}
use mathlib.Core.Logic.{◌↔◌, ⊎_elim}
use Rattle.fold.proofs.BoolLaws.{lt-or-le}
use Rattle.single.specs.declared.Rounding.{Rounding}
use Rattle.single.specs.declared.Rounding.TheVariants.{Up, Down}
use Rattle.single.specs.declared.Sides.{Sides}
use Rattle.single.specs.Exact.{whole_of, Rounds, sides_of, used, HasSides}
use Rattle.single.proofs.RoundLaws.{whole-rounds, rounds-unique, whole_same}

pub sides-are : (n d : ℕ) → 0 < d → HasSides n d (sides_of n d)
sides-are n d D = record { lower = whole-rounds Down n d D; upper = whole-rounds Up n d D }

pub used-of-sides : (to : Rounding) (n d : ℕ) → used to (sides_of n d) ≡ whole_of to n d
used-of-sides Up n d = refl
used-of-sides Down n d = refl

-- the side that is used lies between them, being one of them
pub used-between : (s : Sides) → s.lower ≤ s.upper → (to : Rounding) → (s.lower ≤ used to s) × (used to s ≤ s.upper)
used-between s h Up = (h, le_refl s.upper)
used-between s h Down = (le_refl s.lower, h)

-- ---- equal fractions

pub sides-same : (a b c d : ℕ) → 0 < b → 0 < d → a * d ≡ c * b → sides_of a b ≡ sides_of c d
sides-same a b c d B D e = λ i. record { lower = whole_same Down a b c d B D e i; upper = whole_same Up a b c d B D e i }

-- ---- the sides of n / d

module _ (n d : ℕ) (s : Sides) (h : HasSides n d s) where
  pub used-rounds : (to : Rounding) → Rounds to n d (used to s)
  used-rounds Up = h.upper
  used-rounds Down = h.lower

  pub sides-unique : (t : Sides) → HasSides n d t → s ≡ t
  sides-unique t g = λ i. record { lower = rounds-unique Down n d _ _ h.lower g.lower i; upper = rounds-unique Up n d _ _ h.upper g.upper i }

  pub sides-hold : (s.lower * d ≤ n) × (n ≤ s.upper * d)
  sides-hold = (h.lower.0, h.upper.0)

  pub at-most-1-apart : 0 < d → (s.lower ≤ s.upper) × (s.upper ≤ suc s.lower)
  at-most-1-apart D = (
    le_of_mul-le-mul_right (le_trans sides-hold.0 sides-hold.1) D,
    ⊎_elim
        (λ (l : n < suc s.lower * d). h.upper.1 (suc s.lower) (le_of_lt l))
        (λ (l : suc s.lower * d ≤ n). absurd (omega (arith, h.lower.1 (suc s.lower) l)))
        (lt-or-le n (suc s.lower * d)),
  )

  pub sides-equal-exactly : 0 < d → (s.lower ≡ s.upper) ↔ ((k : ℕ) × (k * d ≡ n))
  sides-equal-exactly D = (
    λ e. (s.lower, le_antisymm sides-hold.0 (le_trans sides-hold.1 (le_of_eq (ap (λ (k : ℕ). k * d) (sym e))))),
    λ w. le_antisymm (at-most-1-apart D).0 (le_trans (h.upper.1 w.0 (le_of_eq (sym w.1))) (h.lower.1 w.0 (le_of_eq w.1))),
  )

  -- they are those of every fraction that is equal to it
  pub sides-of-equal : (a b : ℕ) → 0 < d → 0 < b → n * b ≡ a * d → HasSides a b s
  sides-of-equal a b D B e = subst (HasSides a b) (sym (sides-unique (sides_of n d) (sides-are n d D) ∙ sides-same n d a b D B e)) (sides-are a b B)
