-- The study's currents [01 §5] with their sides [02 §9], and what is given back for them [01 §4]: DONE or STUDY.
-- `cond b x y` is x where b is true and y where it is false. Definitions only.
use Rattle.std.specs.Prelude.{ℕ, Bool, true, false, not, ◌&&◌, ◌||◌, cond, Float, Option, Some, None, Result, Ok, Err}
use Rattle.answers.specs.declared.Refusal.{Refusal}
use Rattle.answers.specs.declared.Refusal.TheVariants as refusal
use Rattle.answers.specs.Answer.{number_of, place_of, Answer, done}
use Rattle.single.specs.Exact.{used}
use Rattle.single.specs.SingleCurrent.{allowed, current_of}
use Rattle.single.specs.declared.Rounding.{Rounding}
use Rattle.single.specs.declared.Rounding.TheVariants.{Up, Down}
use Rattle.single.specs.declared.Sides.{Sides}
use Rattle.study.specs.declared.Quantity.{Quantity}
use Rattle.study.specs.declared.Quantity.TheVariants.{Amperes, Kiloamperes, PerUnit}
use Rattle.study.specs.declared.Reading.{Reading}
use Rattle.study.specs.declared.Study.{Study}
use Rattle.study.specs.declared.StudySides.{StudySides}
use Rattle.study.specs.declared.Converted.{Converted}

-- a quantity's single, and the scale that turns it into mA
abbrev pub single_of : Quantity → Float
single_of (Amperes x) = x
single_of (Kiloamperes x) = x
single_of (PerUnit x) = x

abbrev pub scale_of : Quantity → ℕ → ℕ
scale_of (Amperes x) rated = 1000
scale_of (Kiloamperes x) rated = 1000000
scale_of (PerUnit x) rated = rated

abbrev pub reading_of : Rounding → Reading → Option Sides
reading_of to r = current_of to (single_of r.quantity) (scale_of r.quantity r.rated)

-- the rated current is needed per unit only, and is then an allowed one
abbrev pub needed : Quantity → Bool
needed (Amperes x) = false
needed (Kiloamperes x) = false
needed (PerUnit x) = true

abbrev pub rated_fits : Reading → Bool
rated_fits r = not (needed r.quantity) || allowed r.rated

-- an answer's number and place, with both currents and the sides of both readings
abbrev pub given : Answer → Sides → Sides → Converted
given a g l =
    record { number = number_of a; place = place_of a; greatest = used Up g; least = used Down l; sides = record { greatest = g; least = l } }

abbrev pub zero_sides : Sides
zero_sides = record { lower = 0; upper = 0 }

-- the numbers of both readings' sides, or of a refusal
abbrev pub given_for : Result StudySides Refusal → Converted
given_for (Ok sides) = given done sides.greatest sides.least
given_for (Err why) = given (Err why) zero_sides zero_sides

-- STUDY at a place: both currents and all sides are 0
abbrev pub refused_at : ℕ → Converted
refused_at place = given (Err (refusal.Study place)) zero_sides zero_sides

-- what is given for the two currents
abbrev pub answer_of : Option Sides → Option Sides → Converted
answer_of (Some g) (Some l) = given done g l
answer_of (Some g) None = refused_at 2
answer_of None l = refused_at 1

-- the rated currents are tested first; the greatest is rounded up, the least down
unfoldable pub convert_of : Study → Converted
convert_of s =
    cond (rated_fits s.greatest && rated_fits s.least)
    (answer_of (reading_of Up s.greatest) (reading_of Down s.least))
    (refused_at 0)
