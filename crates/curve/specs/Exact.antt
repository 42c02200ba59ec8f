-- [02 §3] What the sentences on M and on the two curves say, by inequalities on whole numbers: no division, nothing of the definitions
-- that the contracts cite. M = m / 1,000, a multiplier is x / 1,000, a time is t ms. Definitions only.
use Rattle.std.specs.Prelude.{ℕ, ◌+◌, ◌-◌, ◌*◌, ◌≤◌, ◌<◌}

-- "M being current over pickup", x over y: "M is rounded down to thousandths and taken as 20 above 20"
pub record IsMultiple (x y m : ℕ) : Type 0 where
  pub capped : m ≤ 20000
  pub not-above : m * y ≤ 1000 * x
  pub nearest : m < 20000 → 1000 * x < (m + 1) * y

-- t is the least whole number that is enough: "rounded up once to a whole millisecond"
pub record IsLeast (enough : ℕ → Type 0) (t : ℕ) : Type 0 where
  pub holds : enough t
  pub least : (s : ℕ) → enough s → t ≤ s

-- t / 1,000 s are at least 13.5 / (M − 1) s times the multiplier, multiplied out
abbrev pub EnoughVeryInverse : ℕ → ℕ → ℕ → Type 0
EnoughVeryInverse m x t = 135 * 1000 * x ≤ 10 * t * (m - 1000)

-- t / 1,000 s are at least 80 / (M² − 1) s times the multiplier, multiplied out
abbrev pub EnoughExtremelyInverse : ℕ → ℕ → ℕ → Type 0
EnoughExtremelyInverse m x t = 80 * 1000000 * x ≤ t * (m * m - 1000000)
