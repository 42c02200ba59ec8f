-- Worked cases of the time of a curve across the C boundary [02 §3], on both sides of each bound. Definitions only.
use Rattle.std.specs.Prelude.{List, [], ◌∷◌, ℕ}
use Rattle.surfpocket.specs.Times.{time_asked}

pub record Case : Type 0 where
  pub comes : ℕ
  pub is : ℕ

-- the time of the law at M with the multiplier
abbrev time : ℕ → ℕ → ℕ → ℕ → Case
time law m x t = record { comes = time_asked law m x; is = t }

unfoldable pub table : List Case
table =
    -- 13.5 / (2 − 1) s; 80 / (2² − 1) × 0.137 s, 3.653333..
    time 1 2000 1000 13500
    ∷ time 2 2000 137 3654
    -- law, M and multiplier each at its bounds and past them
    ∷ time 0 2000 1000 0
    ∷ time 3 2000 1000 0
    ∷ time 1 1000 1000 0
    ∷ time 1 1001 1000 13500000
    ∷ time 2 1001 1500 59970015
    ∷ time 1 20000 1000 711
    ∷ time 2 20000 10 3
    ∷ time 2 20001 10 0
    ∷ time 1 2000 9 0
    ∷ time 1 2000 10 135
    ∷ time 2 2000 1500 40000
    ∷ time 2 2000 1501 0
    ∷ []
