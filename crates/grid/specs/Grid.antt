-- The values that a relay offers: low, low + step, .. up to high [01 §2, fields 12 to 14]. Definitions only.
use Rattle.std.specs.Prelude.{◌≡◌, Bool, true, ℕ, ◌+◌, ◌-◌, ◌*◌, ◌/◌, ◌≤◌, Option, Some, None}
use Rattle.fold.specs.First.{first}

-- x is one of the values low, low + step, .. up to high
pub record Available (low high step x : ℕ) : Type 0 where
  pub steps : ℕ
  pub on-grid : x ≡ low + steps * step
  pub within : x ≤ high

-- x is the least of them that passes the test `ok`
pub record Least (low high step : ℕ) (ok : ℕ → Bool) (x : ℕ) : Type 0 where
  pub available : Available low high step x
  pub passes : ok x ≡ true
  pub least : (y : ℕ) → Available low high step y → ok y ≡ true → x ≤ y

-- how many values there are; none is counted where the step is 0, which section 2 does not allow
unfoldable pub count : ℕ → ℕ → ℕ → ℕ
count low high step = (high + step - low) / step

-- the value that stands m steps above low
unfoldable pub value_at : ℕ → ℕ → Option ℕ → Option ℕ
value_at low step (Some m) = Some (low + m * step)
value_at low step None = None

-- the least available value that passes the test `ok`
unfoldable pub least_on : ℕ → ℕ → ℕ → (ℕ → Bool) → Option ℕ
least_on low high step ok = value_at low step (first (λ m. ok (low + m * step)) 0 (count low high step))
