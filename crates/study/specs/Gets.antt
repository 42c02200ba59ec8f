-- What a study gets [01 §4, §5; 02 §9], by inequalities: for the theorems that hold `convert_of` to it. `Gives` is the rounded product of a single and a
-- scale, from 1 to 100,000,000, and `SidesAt` has the whole numbers on both its sides. Definitions only.
use Rattle.std.specs.Prelude.{ℕ, ◌≤◌, Float}
use Rattle.single.specs.SingleCurrent.{Gives, SidesAt}
use Rattle.single.specs.declared.Rounding.{Rounding}
use Rattle.single.specs.declared.Rounding.TheVariants.{Up, Down}
use Rattle.single.specs.declared.Sides.{Sides}
use Rattle.study.specs.declared.Quantity.{Quantity}
use Rattle.study.specs.declared.Quantity.TheVariants.{Amperes, Kiloamperes, PerUnit}
use Rattle.study.specs.declared.Reading.{Reading}
use Rattle.study.specs.declared.Study.{Study}
use Rattle.study.specs.declared.Converted.{Converted}

-- "the exact binary number is multiplied by 1,000, by 1,000,000 or by the rated mA": P holds of the number at its scale
abbrev pub AtScale : (Float → ℕ → Type 0) → Quantity → ℕ → Type 0
AtScale P (Amperes x) rated = P x 1000
AtScale P (Kiloamperes x) rated = P x 1000000
AtScale P (PerUnit x) rated = P x rated

abbrev pub ReadingGives : Rounding → Reading → ℕ → Type 0
ReadingGives to r k = AtScale (λ x scale. Gives to x scale k) r.quantity r.rated

abbrev pub ReadingGivesNone : Rounding → Reading → Type 0
ReadingGivesNone to r = (k : ℕ) → ReadingGives to r k → ⊥

-- [02 §9] "the greatest whole mA not above it and the least not below it"
abbrev pub ReadingSides : Reading → Sides → Type 0
ReadingSides r s = AtScale (λ x scale. SidesAt x scale s) r.quantity r.rated

-- a rated current is needed per unit only, and then lies from 1 to 100,000,000
abbrev pub IsRated : Quantity → ℕ → Type 0
IsRated (Amperes x) rated = Unit
IsRated (Kiloamperes x) rated = Unit
IsRated (PerUnit x) rated = (1 ≤ rated) × (rated ≤ 100000000)

pub record RatedRight (s : Study) : Type 0 where
  pub greatest : IsRated s.greatest.quantity s.greatest.rated
  pub least : IsRated s.least.quantity s.least.rated

-- 0, done, with the two currents and the sides of the two readings
abbrev pub done_with : ℕ → ℕ → Sides → Sides → Converted
done_with g l gs ls = record { number = 0; place = 0; greatest = g; least = l; sides = record { greatest = gs; least = ls } }

-- 8, STUDY, at a place, "both currents returned are 0", and [02 §9] the sides, "all 0 on STUDY"
abbrev pub study_at : ℕ → Converted
study_at place =
    record {
      number = 8;
      place = place;
      greatest = 0;
      least = 0;
      sides = record { greatest = record { lower = 0; upper = 0 }; least = record { lower = 0; upper = 0 } };
    }

-- place 0, "tested first"; "place 1 for the greatest, then 2 for the least"; "the greatest is rounded up .., the least down"
pub data StudyGets (s : Study) : Converted → Type 0 where
  both :
      (g l : ℕ) (gs ls : Sides) →
      RatedRight s →
      ReadingGives Up s.greatest g →
      ReadingGives Down s.least l →
      ReadingSides s.greatest gs →
      ReadingSides s.least ls →
      StudyGets s (done_with g l gs ls)
  rated-outside : (RatedRight s → ⊥) → StudyGets s (study_at 0)
  no-greatest : RatedRight s → ReadingGivesNone Up s.greatest → StudyGets s (study_at 1)
  no-least : (g : ℕ) → RatedRight s → ReadingGives Up s.greatest g → ReadingGivesNone Down s.least → StudyGets s (study_at 2)
