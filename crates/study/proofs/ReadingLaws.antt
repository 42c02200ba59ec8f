-- What one reading gives [01 §5, 02 §9]: the test of its rated current is what section 5 says of it, and `reading_of` gives sides exactly where
-- `ReadingGives` and `ReadingSides` say so. By cases on the unit, and then by the laws of a single at a scale.
use Prim.Native.Nat.{ℕ}
use mathlib.Core.Path.{◌≡◌, refl, sym, ◌∙◌}
use mathlib.Core.Logic.{◌↔◌}
use mathlib.Core.Bool.{true, not, ◌||◌}
use lib.Dec.{leb}
use lib.Ieee.{Float}
use borrow.Author.Tests.{leb-true, le-leb}
use Rattle.fold.proofs.BoolLaws.{and_left, and_right, and_both}
use Rattle.single.specs.Exact.{used}
use Rattle.single.specs.SingleCurrent.{allowed, Gives, SidesAt}
use Rattle.single.specs.declared.Sides.{Sides}
use Rattle.std.proofs.Common.{Option, Some, None}
use Rattle.std.proofs.lemmas.Option.{none-some}
use Rattle.single.specs.declared.Rounding.{Rounding}
use Rattle.single.proofs.CurrentLaws.{current-gives, gives-current, gives-sides, used-is-side}
use Rattle.study.specs.declared.Quantity.{Quantity}
use Rattle.study.specs.declared.Quantity.TheVariants.{Amperes, Kiloamperes, PerUnit}
use Rattle.study.specs.declared.Reading.{Reading}
use Rattle.study.specs.Currents.{single_of, scale_of, reading_of, needed}
use Rattle.study.specs.Gets.{AtScale, ReadingGives, ReadingGivesNone, ReadingSides, IsRated}

pub rated-exactly : (q : Quantity) (rated : ℕ) → ((not (needed q) || allowed rated) ≡ true) ↔ IsRated q rated
rated-exactly (Amperes x) rated = (λ t. tt, λ h. refl)
rated-exactly (Kiloamperes x) rated = (λ t. tt, λ h. refl)
rated-exactly (PerUnit x) rated = (
  λ t.
      (leb-true 1 rated (and_left (leb 1 rated) (leb rated 100000000) t), leb-true rated 100000000 (and_right (leb 1 rated) (leb rated 100000000) t)),
  λ h. and_both (le-leb 1 rated h.0) (le-leb rated 100000000 h.1),
)

-- the scale of each unit
in-unit : (P : Float → ℕ → Type 0) (q : Quantity) (rated : ℕ) → AtScale P q rated ↔ P (single_of q) (scale_of q rated)
in-unit P (Amperes x) rated = (λ h. h, λ h. h)
in-unit P (Kiloamperes x) rated = (λ h. h, λ h. h)
in-unit P (PerUnit x) rated = (λ h. h, λ h. h)

module _ (to : Rounding) (r : Reading) where
  abbrev x : Float
  x = single_of r.quantity

  abbrev scale : ℕ
  scale = scale_of r.quantity r.rated

  gives_at : (k : ℕ) → ReadingGives to r k ↔ Gives to x scale k
  gives_at k = in-unit (λ y n. Gives to y n k) r.quantity r.rated

  pub sides-at : (s : Sides) → ReadingSides r s ↔ SidesAt x scale s
  sides-at s = in-unit (λ y n. SidesAt y n s) r.quantity r.rated

  pub reading-gives : (s : Sides) → reading_of to r ≡ Some s → ReadingGives to r (used to s) × ReadingSides r s
  reading-gives s e = let w = current-gives to x scale s e in ((gives_at (used to s)).1 w.0, (sides-at s).1 w.1)

  pub gives-reading : (k : ℕ) (s : Sides) → ReadingGives to r k → ReadingSides r s → reading_of to r ≡ Some s
  gives-reading k s h g = gives-current to x scale k s ((gives_at k).0 h) ((sides-at s).0 g)

  pub reading-used : (k : ℕ) (s : Sides) → ReadingGives to r k → ReadingSides r s → k ≡ used to s
  reading-used k s h g = used-is-side to x scale k s ((gives_at k).0 h) ((sides-at s).0 g)

  pub reading-sides : (k : ℕ) → ReadingGives to r k → (s : Sides) × ReadingSides r s
  reading-sides k h = let w = gives-sides to x scale k ((gives_at k).0 h) in (w.0, (sides-at w.0).1 w.1)

  pub none-refused : ReadingGivesNone to r → reading_of to r ≡ None
  none-refused n = by_cases (reading_of to r) refl
    where
      by_cases : (c : Option Sides) → reading_of to r ≡ c → reading_of to r ≡ None
      by_cases (Some s) e = absurd (n (used to s) (reading-gives s e).0)
      by_cases None e = e

  pub refused_none : reading_of to r ≡ None → ReadingGivesNone to r
  refused_none e k h =
      let sided = reading-sides k h in
      none-some sided.0 (sym e ∙ gives-reading k sided.0 h sided.1)
