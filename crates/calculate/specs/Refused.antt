-- [01 §4], [02 §2, §3] What a refusal by row says: the first row for which, the rows below at their least settings, no pickup fits, and why;
-- or, at its least pickup, an M that is needed is at most 1.000, and whose; or no delay or multiplier fits. Definitions only.
use Rattle.answers.specs.declared.Refusal.TheVariants.{Unsettled}
use Rattle.answers.specs.Answer.{Answer}
use Rattle.std.specs.Prelude.{ℕ, ◌+◌, ◌<◌, Err}
use Rattle.answers.specs.declared.Cause.{Cause}
use Rattle.answers.specs.declared.Reason.TheVariants.{Pickup, Curve, Delay}
use Rattle.layout.specs.View.{View, Settings}
use Rattle.settle.specs.Conditions.{primary_of}
use Rattle.settle.specs.Inequalities.{CauseIs, LeastPickup, CurveIs, Runs, NoTime, LeastRow}
use Rattle.sides.specs.declared.Secondary.{Secondary}

-- row i is next: the rows below it are at their least settings
pub record UpTo (v : View) (k : Settings) (i : ℕ) : Type 0 where
  pub is_row : i < v.count
  pub rows-below : (j : ℕ) → j < i → LeastRow v k j

-- 11 RANGE, 12 OWN ZONE and 13 BACKUP, then 14 CURVE, then 7 DELAY: no pickup fits the row that is next, for this cause; or x is its least
-- pickup, and there the M of the row at this place is at most 1.000; or every M needed is over 1.000, and no delay or multiplier fits
pub data RefusedAt (v : View) : Answer → Type 0 where
  NO-PICKUP : (k : Settings) (i : ℕ) (why : Cause) → UpTo v k i → CauseIs v k i why → RefusedAt v (Err (Unsettled (i + 1) (Pickup why)))
  CURVE :
      (k : Settings) (i : ℕ) (x : Secondary) (place : ℕ) → UpTo v k i → LeastPickup v k i x → CurveIs v k i (primary_of (v.row i) x) place →
      RefusedAt v (Err (Unsettled (i + 1) (Curve place)))
  DELAY :
      (k : Settings) (i : ℕ) (x : Secondary) → UpTo v k i → LeastPickup v k i x → Runs v k i (primary_of (v.row i) x) →
      NoTime v k i (primary_of (v.row i) x) → RefusedAt v (Err (Unsettled (i + 1) Delay))
