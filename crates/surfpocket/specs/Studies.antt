-- The study across the C boundary [01 §5, 02 §9], a reading's unit being a number: 1 amperes, 2 kiloamperes, 3 per unit.
-- The document has no other unit. Any other number is answered 8 STUDY at place 0, before all else. Definitions only.
use Rattle.std.specs.Prelude.{cond, ℕ, eqb, Float, Option, Some, None}
use Rattle.study.specs.Currents.{refused_at, convert_of}
use Rattle.study.specs.declared.Converted.{Converted}
use Rattle.study.specs.declared.Quantity.{Quantity}
use Rattle.study.specs.declared.Quantity.TheVariants.{Amperes, Kiloamperes, PerUnit}
use Rattle.surfpocket.specs.declared.SurfpocketStudy.{SurfpocketStudy}

abbrev pub unit_of : ℕ → Float → Option Quantity
unit_of u x =
    cond (eqb u 1) (Some (Amperes x)) (cond (eqb u 2) (Some (Kiloamperes x)) (cond (eqb u 3) (Some (PerUnit x)) None))

-- what is given back, the sides of [02 §9] last
abbrev pub handed : Converted → SurfpocketStudy
handed c =
    record {
      number = c.number;
      place = c.place;
      greatest = c.greatest;
      least = c.least;
      greatest_lower = c.sides.greatest.lower;
      greatest_upper = c.sides.greatest.upper;
      least_lower = c.sides.least.lower;
      least_upper = c.sides.least.upper;
    }

-- two readings, each with the rated mA beside it
abbrev pub study_of : Option Quantity → ℕ → Option Quantity → ℕ → SurfpocketStudy
study_of None r l t = handed (refused_at 0)
study_of (Some g) r None t = handed (refused_at 0)
study_of (Some g) r (Some l) t =
    handed (convert_of (record { greatest = record { quantity = g; rated = r }; least = record { quantity = l; rated = t } }))
