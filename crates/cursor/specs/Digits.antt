-- What reading a value asks of its bytes. Definitions only.
use Rattle.std.specs.Prelude.{List, ℕ, ◌≤◌, ◌<◌, length, get_or}

-- at most nine digits
pub record Digits (w : List ℕ) : Type 0 where
  pub few : length w ≤ 9
  pub least : (j : ℕ) → j < length w → 48 ≤ get_or w j 0
  pub most : (j : ℕ) → j < length w → get_or w j 0 ≤ 57
