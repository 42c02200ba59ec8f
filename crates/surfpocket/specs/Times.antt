-- The time of a curve across the C boundary [02 §3]: law 1 is curve B, 2 curve C; M and the multiplier are in thousandths, the time is in ms.
-- Definitions only.
use Rattle.std.specs.Prelude.{Bool, cond, ◌&&◌, ℕ, ◌≤◌, leb}
use Rattle.curve.specs.Curve.{time_of}

unfoldable pub between : ℕ → ℕ → ℕ → Bool
between least x greatest = leb least x && leb x greatest

-- one of the two curves; an M above 1.000 and at most 20; a multiplier that relays have
abbrev pub curve_right : ℕ → Bool
curve_right law = between 1 law 2

abbrev pub multiple_right : ℕ → Bool
multiple_right m = between 1001 m 20000

abbrev pub multiplier_right : ℕ → Bool
multiplier_right x = between 10 x 1500

unfoldable pub may_be_asked : ℕ → ℕ → ℕ → Bool
may_be_asked law m x = curve_right law && (multiple_right m && multiplier_right x)

-- the same by inequalities
pub record Asked (law m x : ℕ) : Type 0 where
  pub law-from : 1 ≤ law
  pub law-to : law ≤ 2
  pub multiple-from : 1001 ≤ m
  pub multiple-to : m ≤ 20000
  pub multiplier-from : 10 ≤ x
  pub multiplier-to : x ≤ 1500

-- the time of the law at M = m / 1,000 with the multiplier x / 1,000; 0 where it may not be asked
unfoldable pub time_asked : ℕ → ℕ → ℕ → ℕ
time_asked law m x = cond (may_be_asked law m x) (time_of law m x) 0
