-- [01 §4], [02 §2, §3, §8] "A replacement reads the card rows off the path as it finds them. If the card doesn't belong to the list, the
-- answer is still fixed: the conditions applied along the path to those numbers", up to the first feeding row, after the replaced one,
-- whose new card row equals its old one; "rows past the stop keep what they had". l is the list with the new row in it, i that row, c
-- the card as it is found, k the settings of every row. The rows of a path ascend. Rows are counted from 0. Definitions only.
use Rattle.answers.specs.declared.Refusal.TheVariants.{Unsettled}
use Rattle.answers.specs.Answer.{Answer}
use Rattle.std.specs.Prelude.{◌≡◌, ◌⊎◌, List, ℕ, ◌+◌, ◌≤◌, ◌<◌, Err}
use Rattle.answers.specs.declared.Cause.{Cause}
use Rattle.answers.specs.declared.Reason.TheVariants.{Pickup, Curve, Delay}
use Rattle.layout.specs.Card.{card_row_at}
use Rattle.layout.specs.Fields.{at_feeder}
use Rattle.layout.specs.List.{rows, field, row_at}
use Rattle.layout.specs.View.{view_of, Settings}
use Rattle.path.specs.Path.{OnPath, Nth}
use Rattle.settle.specs.Conditions.{primary_of, pickup_at, setting_of}
use Rattle.settle.specs.Inequalities.{AvailableOn, PickupMet, CauseIs, LeastPickup, CurveIs, Runs, TimeMet, NoTime, LeastRow}
use Rattle.sides.specs.declared.Secondary.{Secondary}

-- off the path of row i, k has the numbers found on the card
abbrev pub AsFound : List ℕ → ℕ → List ℕ → Settings → Type 0
AsFound l i c k = (j : ℕ) → j < rows l → (OnPath l i j → ⊥) → k j ≡ card_row_at c j

-- and in each row of the path below row n k has an available pickup that meets P1 to P4
pub record PickupsBelow (l : List ℕ) (i : ℕ) (c : List ℕ) (k : Settings) (n : ℕ) : Type 0 where
  pub off-path : AsFound l i c k
  pub available : (j : ℕ) → OnPath l i j → j < n → AvailableOn (row_at l j) (k j).pickup
  pub met : (j : ℕ) → OnPath l i j → j < n → PickupMet (view_of l) k j (pickup_at (view_of l) k j)

-- [02 §3] in two stages: there each pickup is the least above the rows below it, the law is the list's, and at that pickup the setting is
-- offered and meets D1 and D2
pub record MeetsBelow (l : List ℕ) (i : ℕ) (c : List ℕ) (k : Settings) (n : ℕ) : Type 0 where
  pub off-path : AsFound l i c k
  pub pickups : (j : ℕ) → OnPath l i j → j < n → LeastPickup (view_of l) k j (k j).pickup
  pub law : (j : ℕ) → OnPath l i j → j < n → (k j).law ≡ (row_at l j).law
  pub times : (j : ℕ) → OnPath l i j → j < n → TimeMet (view_of l) k j (pickup_at (view_of l) k j) (setting_of (k j))

-- the climb goes on past row j: it is the replaced row, or its new card row is not its old one
abbrev pub GoesOn : ℕ → List ℕ → Settings → ℕ → Type 0
GoesOn i c k j = (j ≡ i → ⊥) → k j ≡ card_row_at c j → ⊥

-- row j of the path is next: the rows of the path below it are at their least settings, and none of them stopped the climb
pub record PathUpTo (l : List ℕ) (i : ℕ) (c : List ℕ) (k : Settings) (j : ℕ) : Type 0 where
  pub on-path : OnPath l i j
  pub off-path : AsFound l i c k
  pub rows-below : (m : ℕ) → OnPath l i m → m < j → LeastRow (view_of l) k m
  pub went_on : (m : ℕ) → OnPath l i m → m < j → GoesOn i c k m

-- 11 RANGE, 12 OWN ZONE and 13 BACKUP, then 14 CURVE, then 7 DELAY, along the path: no pickup fits the row that is next, for this cause; or
-- x is its least pickup, and there the M of the row at this place, which may be off the path, is at most 1.000; or every M needed is
-- over 1.000, and no delay or multiplier fits
pub data PathRefused (l : List ℕ) (i : ℕ) (c : List ℕ) : Answer → Type 0 where
  NO-PICKUP :
      (k : Settings) (j : ℕ) (why : Cause) → PathUpTo l i c k j → CauseIs (view_of l) k j why →
      PathRefused l i c (Err (Unsettled (j + 1) (Pickup why)))
  CURVE :
      (k : Settings) (j : ℕ) (x : Secondary) (place : ℕ) → PathUpTo l i c k j → LeastPickup (view_of l) k j x →
      CurveIs (view_of l) k j (primary_of (row_at l j) x) place → PathRefused l i c (Err (Unsettled (j + 1) (Curve place)))
  DELAY :
      (k : Settings) (j : ℕ) (x : Secondary) → PathUpTo l i c k j → LeastPickup (view_of l) k j x → Runs (view_of l) k j (primary_of (row_at l j) x) →
      NoTime (view_of l) k j (primary_of (row_at l j) x) → PathRefused l i c (Err (Unsettled (j + 1) Delay))

-- the climb ends at the row `last` of the path: the rows up to it are at their least settings; it is the first feeding row, after the
-- replaced one, whose new card row equals its old one, or there is none and the source feeds it; the rows past it keep what they had
pub record WorkedTo (l : List ℕ) (i : ℕ) (c : List ℕ) (k : Settings) (last : ℕ) : Type 0 where
  pub on-path : OnPath l i last
  pub off-path : AsFound l i c k
  pub least : (j : ℕ) → OnPath l i j → j ≤ last → LeastRow (view_of l) k j
  pub went_on : (j : ℕ) → OnPath l i j → j < last → GoesOn i c k j
  pub stopped : (field l last at_feeder ≡ 0) ⊎ ((last ≡ i → ⊥) × (k last ≡ card_row_at c last))
  pub past : (j : ℕ) → OnPath l i j → last < j → k j ≡ card_row_at c j

-- "The count equals the rows of the path up to and including that one, or the whole path if there is none"
pub record Visits (l : List ℕ) (i : ℕ) (c : List ℕ) (k : Settings) (count : ℕ) : Type 0 where
  pub last : ℕ
  pub worked : WorkedTo l i c k last
  pub counted : Nth l i count last
