-- The study across the C boundary, whatever is handed over: a unit's number that stands for none of the three is STUDY at place 0, with all else 0, and
-- the current that is used is one of the sides [02 §9].
use Prim.Native.Nat.{ℕ}
use mathlib.Core.Path.{◌≡◌, refl, ap, ◌∙◌}
use lib.Ieee.{Float}
use borrow.Author.Tests.{ne_eqb}
use Rattle.study.proofs.BothSides as sides
use Rattle.std.specs.Prelude.{Option, Some, None}
use Rattle.study.specs.declared.Quantity.{Quantity}
use Rattle.surfpocket.specs.Studies.{unit_of, study_of}
use Rattle.surfpocket.specs.Cases.{refused}

-- ---- units that there are not

module _ (u : ℕ) (x : Float) (not-1 : u ≡ 1 → ⊥) (not-2 : u ≡ 2 → ⊥) (not-3 : u ≡ 3 → ⊥) where
  pub no-unit : unit_of u x ≡ None
  no-unit = simp (ne_eqb u 1 not-1, ne_eqb u 2 not-2, ne_eqb u 3 not-3)

  pub no-unit-of-greatest : (r : ℕ) (l : Option Quantity) (t : ℕ) → study_of (unit_of u x) r l t ≡ refused 0
  no-unit-of-greatest r l t = ap (λ (g : Option Quantity). study_of g r l t) no-unit

  pub no-unit-of-least : (g : Option Quantity) (r t : ℕ) → study_of g r (unit_of u x) t ≡ refused 0
  no-unit-of-least g r t = ap (λ (l : Option Quantity). study_of g r l t) no-unit ∙ either g
    where
      either : (g : Option Quantity) → study_of g r None t ≡ refused 0
      either (Some q) = refl
      either None = refl

-- ---- the upper side for the greatest, the lower one for the least

pub used-are-sides : (g : Option Quantity) (r : ℕ) (l : Option Quantity) (t : ℕ)
    → ((study_of g r l t).greatest ≡ (study_of g r l t).greatest_upper) × ((study_of g r l t).least ≡ (study_of g r l t).least_lower)
used-are-sides None r l t = (refl, refl)
used-are-sides (Some g) r None t = (refl, refl)
used-are-sides (Some g) r (Some l) t =
    sides.used-are-sides (record { greatest = record { quantity = g; rated = r }; least = record { quantity = l; rated = t } })
