-- Demand 2, in two stages [02 §3]: when settings meet every condition of section 3 in all rows at once. "Pickups least as before; then, at
-- those pickups, multipliers and delays exist or not, and are least." k gives each row its settings; rows are counted from 0. The
-- conditions of one row are settle's (specs/Inequalities.antt). Definitions only.
use Rattle.std.specs.Prelude.{◌≡◌, ℕ, ◌≤◌, ◌<◌}
use Rattle.layout.specs.View.{View, Settings}
use Rattle.settle.specs.Conditions.{pickup_at, setting_of}
use Rattle.settle.specs.Inequalities.{AvailableOn, PickupMet, TimeMet}

-- every row's pickup is available and meets P1 to P4
pub record PickupsMeet (v : View) (k : Settings) : Type 0 where
  pub available : (i : ℕ) → i < v.count → AvailableOn (v.row i) (k i).pickup
  pub met : (i : ℕ) → i < v.count → PickupMet v k i (pickup_at v k i)

-- and no other set of pickups that are is lower in any row, in primary
pub record LeastPickups (v : View) (k : Settings) : Type 0 where
  pub meet : PickupsMeet v k
  pub least : (k' : Settings) → PickupsMeet v k' → (i : ℕ) → i < v.count → (pickup_at v k i).0 ≤ (pickup_at v k' i).0

-- every row has the list's law and, at its pickup, a delay or a multiplier that is offered and meets D1 and D2, every M needed being over
-- 1.000
pub record TimesMeet (v : View) (k : Settings) : Type 0 where
  pub law : (i : ℕ) → i < v.count → (k i).law ≡ (v.row i).law
  pub met : (i : ℕ) → i < v.count → TimeMet v k i (pickup_at v k i) (setting_of (k i))

pub record Meets (v : View) (k : Settings) : Type 0 where
  pub pickups : LeastPickups v k
  pub times : TimesMeet v k

-- a list without curve rows
abbrev pub NoCurves : View → Type 0
NoCurves v = (i : ℕ) → i < v.count → (v.row i).law ≡ 0

-- demand 2 as it stood before curves, in one stage: pickups and delays that meet every condition together
pub record MeetsTogether (v : View) (k : Settings) : Type 0 where
  pub pickups : PickupsMeet v k
  pub times : TimesMeet v k
