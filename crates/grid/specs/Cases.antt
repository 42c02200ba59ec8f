-- Worked cases of the least available value and of division rounded up, on each side of every bound. Definitions only.
use Rattle.std.specs.Prelude.{List, [], ◌∷◌, ℕ, leb, Option, Some, None}
use Rattle.grid.specs.Grid.{least_on}
use Rattle.grid.specs.Round.{ceil_div}

pub record Case : Type 0 where
  pub comes : Option ℕ
  pub is : Option ℕ

-- the least of low, low + step, .. up to high that is at least the bound
abbrev from : ℕ → ℕ → ℕ → ℕ → Option ℕ → Case
from low high step bound f = record { comes = least_on low high step (leb bound); is = f }

-- n / d rounded up
abbrev upward : ℕ → ℕ → ℕ → Case
upward n d q = record { comes = Some (ceil_div n d); is = Some q }

unfoldable pub table : List Case
table =
    -- 5, 12, 19, 26: below the first, at a value, past it, at the last, past the last
    from 5 26 7 0 (Some 5)
    ∷ from 5 26 7 5 (Some 5)
    ∷ from 5 26 7 6 (Some 12)
    ∷ from 5 26 7 12 (Some 12)
    ∷ from 5 26 7 20 (Some 26)
    ∷ from 5 26 7 26 (Some 26)
    ∷ from 5 26 7 27 None
    -- up to 25 the last is 19, and up to 5 the first is all there is
    ∷ from 5 25 7 19 (Some 19)
    ∷ from 5 25 7 20 None
    ∷ from 5 5 7 5 (Some 5)
    ∷ from 5 5 7 6 None
    ∷ from 5 4 7 0 None
    ∷ upward 0 3 0
    ∷ upward 1 3 1
    ∷ upward 3 3 1
    ∷ upward 4 3 2
    ∷ upward 4 0 0
    ∷ []
