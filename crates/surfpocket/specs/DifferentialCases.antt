-- Worked cases of the differential card across the C boundary [02 §11]: each input at its place, and each number given in its own. Definitions only.
use Rattle.std.specs.Prelude.{ℕ, List, [], ◌∷◌}
use Rattle.surfpocket.specs.Differentials.{differential_for}
use Rattle.surfpocket.specs.declared.SurfpocketDifferential.{SurfpocketDifferential}

pub record Case : Type 0 where
  pub comes : SurfpocketDifferential
  pub is : SurfpocketDifferential

abbrev case : SurfpocketDifferential → SurfpocketDifferential → Case
case comes is = record { comes = comes; is = is }

-- number and place, start, bend, slope, blocking and cutoff, and the verdict
abbrev numbers : ℕ → ℕ → ℕ → ℕ → ℕ → ℕ → ℕ → ℕ → SurfpocketDifferential
numbers n p s e k b c v = record { number = n; place = p; start = s; bend = e; slope = k; blocking = b; cutoff = c; verdict = v }

abbrev refused : ℕ → SurfpocketDifferential
refused place = numbers 16 place 0 0 0 0 0 0

unfoldable pub table : List Case
table =
    -- the request's example: at restraint 4.00 the characteristic is 1.80
    case (differential_for 30 200 700 400 150 160 180 400) (numbers 0 0 30 100 50 200 700 1)
    ∷ case (differential_for 30 200 700 400 150 160 179 400) (numbers 0 0 30 100 50 200 700 2)
    ∷ case (differential_for 30 200 700 400 200 210 180 400) (numbers 0 0 30 100 50 200 700 3)
    -- each input alone out of its range, and no slope that fits
    ∷ case (differential_for 19 200 700 400 150 160 180 400) (refused 1)
    ∷ case (differential_for 30 149 700 400 150 160 180 400) (refused 2)
    ∷ case (differential_for 30 200 649 400 150 160 180 400) (refused 3)
    ∷ case (differential_for 30 200 700 99 150 160 180 400) (refused 4)
    ∷ case (differential_for 30 200 700 400 10001 160 180 400) (refused 5)
    ∷ case (differential_for 30 200 700 400 150 10001 180 400) (refused 6)
    ∷ case (differential_for 30 200 700 400 150 160 10001 400) (refused 7)
    ∷ case (differential_for 30 200 700 400 150 160 180 10001) (refused 8)
    ∷ case (differential_for 43 200 700 100 150 160 180 400) (numbers 17 0 0 0 0 0 0 0)
    ∷ []
