-- A fraction rounded to a whole number ([01 §5] "the greatest is rounded up to a whole mA, the least down"), and both its sides [02 §9].
-- Definitions only.
use Rattle.std.specs.Prelude.{ℕ, ◌+◌, ◌-◌, ◌*◌, ◌/◌, ◌≤◌}
use Rattle.single.specs.declared.Rounding.{Rounding}
use Rattle.single.specs.declared.Rounding.TheVariants.{Up, Down}
use Rattle.single.specs.declared.Sides.{Sides}

-- n / d to a whole number, for a d above 0; `/` is the quotient without its remainder
abbrev pub whole_of : Rounding → ℕ → ℕ → ℕ
whole_of Up n d = (n + (d - 1)) / d
whole_of Down n d = n / d

-- The same by inequalities, for the theorems. Rounded up, k is the least whole number at or above n / d; rounded down, the greatest at or below.
abbrev pub Rounds : Rounding → ℕ → ℕ → ℕ → Type 0
Rounds Up n d k = (n ≤ k * d) × ((j : ℕ) → n ≤ j * d → k ≤ j)
Rounds Down n d k = (k * d ≤ n) × ((j : ℕ) → j * d ≤ n → j ≤ k)

-- [02 §9] the sides of n / d, "the greatest whole mA not above it and the least not below it"
abbrev pub sides_of : ℕ → ℕ → Sides
sides_of n d = record { lower = whole_of Down n d; upper = whole_of Up n d }

-- the side that is used: rounded up the upper one, rounded down the lower one
abbrev pub used : Rounding → Sides → ℕ
used Up s = s.upper
used Down s = s.lower

-- the sides by inequalities, for the theorems
pub record HasSides (n d : ℕ) (s : Sides) : Type 0 where
  pub lower : Rounds Down n d s.lower
  pub upper : Rounds Up n d s.upper
