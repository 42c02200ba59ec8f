-- [01 §3, §4], [02 §1, §2, §3, §5] The conditions as a reader of the section writes them, by inequalities: of one row, the rows that it
-- feeds being at the settings k. Available is what the relay offers on its own side; conditions are on primary currents, in fifths of a mA
-- on both sides, and "lower" is lower in primary. The tests of Conditions.antt and the settling of Settle.antt are proved to say exactly
-- this, and the demands are stated with it. Rows are counted from 0: row i has number i + 1. Definitions only.
use Rattle.std.specs.Prelude.{◌≡◌, not, cond, ◌&&◌, List, ℕ, ◌+◌, ◌*◌, ◌≤◌, ◌<◌, eqb, Ok}
use Rattle.answers.specs.declared.Cause.{Cause}
use Rattle.answers.specs.declared.Cause.TheVariants.{Range, OwnZone, Backup}
use Rattle.grid.specs.Grid.{Available}
use Rattle.layout.specs.declared.CardRow.{CardRow}
use Rattle.layout.specs.declared.Row.{Row}
use Rattle.fold.specs.Fold.{sum_to}
use Rattle.layout.specs.Fields.{at_volts, at_work, at_primary, at_secondary}
use Rattle.layout.specs.List.{rows, field}
use Rattle.layout.specs.View.{View, view_of, Settings}
use Rattle.settle.specs.declared.Cutoff.{Cutoff}
use Rattle.settle.specs.declared.Cutoff.TheVariants.{Fitted, NotFitted}
use Rattle.settle.specs.declared.Outcome.{Outcome}
use Rattle.sides.specs.declared.Primary.{Primary}
use Rattle.sides.specs.declared.Secondary.{Secondary}
use Rattle.settle.specs.Conditions.{primary_of, pickup_at, fed, others_load, margin, multiple_at, time_at, setting_of, fed_multiple, fed_time}
use Rattle.settle.specs.Settle.{cutoff_of, printed, shown, settled}

-- "available pickups: low, low + step, .. up to high", steps of secondary mA where the row has a ratio: x is one of them
abbrev pub AvailableOn : Row → Secondary → Type 0
AvailableOn r x = Available r.low.0 r.high.0 r.step.0 x.0

-- "fed rows are those it feeds directly": row i feeds row j
abbrev pub Feeding : View → ℕ → ℕ → Type 0
Feeding v i j = (v.row j).feeder ≡ i + 1

-- [02 §1] "with 0 in both it stays primary": row i of a list has 0 in both ratings
pub record NoRatio (l : List ℕ) (i : ℕ) : Type 0 where
  pub no-primary : field l i at_primary ≡ 0
  pub no-secondary : field l i at_secondary ≡ 0

-- the sum, over the fed rows other than j, of work × volts: by the fields of a list, in mA
abbrev pub others_work : List ℕ → ℕ → ℕ → ℕ
others_work l i j = sum_to (rows l) (λ k. cond (fed (view_of l) i k && not (eqb k j)) (field l k at_work * field l k at_volts) 0)

-- pickup I of row i meets P1 and P2, the bounds from below
pub record LowerMet (v : View) (k : Settings) (i : ℕ) (I : Primary) : Type 0 where
  pub P1 : 11 * (v.row i).selfstart * (v.row i).work.0 ≤ 10 * I.0 * (v.row i).returnfactor
  pub P2 :
      (j : ℕ) → j < v.count → Feeding v i j → 11 * ((pickup_at v k j).0 * (v.row j).volts + others_load v i j) ≤ 10 * I.0 * (v.row i).volts

-- pickup I of row i meets P3; it meets P4 for the fed row j
abbrev pub SeesOwnZone : View → ℕ → Primary → Type 0
SeesOwnZone v i I = 15 * I.0 ≤ 10 * (v.row i).far.0

abbrev pub BacksUp : View → ℕ → ℕ → Primary → Type 0
BacksUp v i j I = (v.row j).backed ≡ 1 → 12 * I.0 * (v.row i).volts ≤ 10 * (v.row j).far.0 * (v.row j).volts

-- pickup I of row i meets P1 to P4
pub record PickupMet (v : View) (k : Settings) (i : ℕ) (I : Primary) : Type 0 where
  pub P1-P2 : LowerMet v k i I
  pub P3 : SeesOwnZone v i I
  pub P4 : (j : ℕ) → j < v.count → Feeding v i j → BacksUp v i j I

-- x is the least available pickup of row i that meets P1 to P4, in primary
pub record LeastPickup (v : View) (k : Settings) (i : ℕ) (x : Secondary) : Type 0 where
  pub available : AvailableOn (v.row i) x
  pub met : PickupMet v k i (primary_of (v.row i) x)
  pub no_lower :
      (y : Secondary) → AvailableOn (v.row i) y → PickupMet v k i (primary_of (v.row i) y) →
      (primary_of (v.row i) x).0 ≤ (primary_of (v.row i) y).0

-- [02 §3] a law is a curve: B or C
abbrev pub Curved : ℕ → Type 0
Curved law = law ≡ 0 → ⊥

-- "delays .. in steps of 1 from 0 to 100,000"; "a multiplier from 0.010 to 1.500 in steps of 0.001": x is offered by a relay of this law
pub record Offered (law x : ℕ) : Type 0 where
  pub delay : law ≡ 0 → x ≤ 100000
  pub multiplier : Curved law → (10 ≤ x) × (x ≤ 1500)

-- the M that are needed are over 1.000: those of curve rows. At the near end of the row f that row r feeds, f's and r's; of row i
-- with the pickup I, its own at its own near end, and at that of each fed row both
pub record RunsAbove (r f : Row) (s : CardRow) (I : Primary) : Type 0 where
  pub fed-runs : Curved s.law → 1000 < fed_multiple f s
  pub own_runs : Curved r.law → 1000 < multiple_at r f I

abbrev pub OwnRuns : Row → Primary → Type 0
OwnRuns r I = Curved r.law → 1000 < multiple_at r r I

pub record Runs (v : View) (k : Settings) (i : ℕ) (I : Primary) : Type 0 where
  pub own : OwnRuns (v.row i) I
  pub above : (j : ℕ) → j < v.count → Feeding v i j → RunsAbove (v.row i) (v.row j) (k j) I

-- row j is the first that row i feeds, ascending, where one of the two is not; the row's own M at its own near end is
pub record FirstSlow (v : View) (k : Settings) (i : ℕ) (I : Primary) (j : ℕ) : Type 0 where
  pub own : OwnRuns (v.row i) I
  pub is_row : j < v.count
  pub feeding : Feeding v i j
  pub earlier : (x : ℕ) → x < j → Feeding v i x → RunsAbove (v.row i) (v.row x) (k x) I

-- 14 CURVE, by the number of "the row whose M it is": "its own M, then by fed rows ascending the fed row's, then its own there"
pub data CurveIs (v : View) (k : Settings) (i : ℕ) (I : Primary) : ℕ → Type 0 where
  OWN : Curved (v.row i).law → multiple_at (v.row i) (v.row i) I ≤ 1000 → CurveIs v k i I (i + 1)
  FED : (j : ℕ) → FirstSlow v k i I j → Curved (k j).law → fed_multiple (v.row j) (k j) ≤ 1000 → CurveIs v k i I (j + 1)
  THERE :
      (j : ℕ) → FirstSlow v k i I j → (Curved (k j).law → 1000 < fed_multiple (v.row j) (k j)) → Curved (v.row i).law →
      multiple_at (v.row i) (v.row j) I ≤ 1000 → CurveIs v k i I (i + 1)

-- [02 §3, §5] "the larger of the two rows' steps": with the setting x row r keeps, at the near end of the row f that it feeds, the step of
-- f, whose settings are s, and its own
pub record GradedAbove (r f : Row) (s : CardRow) (I : Primary) (x : ℕ) : Type 0 where
  pub fed-step : fed_time f s + margin f.device ≤ time_at r f I x
  pub own-step : fed_time f s + margin r.device ≤ time_at r f I x

-- D1 for a time t
abbrev pub WithinDelays : Row → ℕ → Type 0
WithinDelays r t = (r.floor ≤ t) × (t ≤ r.ceiling) × (r.kind ≡ 3 → 100 ≤ t)

-- setting x of row i at its pickup I: it is offered, every M that is needed is over 1.000, and it meets D1 and D2
pub record TimeMet (v : View) (k : Settings) (i : ℕ) (I : Primary) (x : ℕ) : Type 0 where
  pub offered : Offered (v.row i).law x
  pub runs : Runs v k i I
  pub D1 : WithinDelays (v.row i) (time_at (v.row i) (v.row i) I x)
  pub D2 : (j : ℕ) → j < v.count → Feeding v i j → GradedAbove (v.row i) (v.row j) (k j) I x

-- "its pickup is the least available C with 1,000 × C ≥ factor × clear"
pub record CutoffPickup (r : Row) (C : Secondary) : Type 0 where
  pub available : AvailableOn r C
  pub stays-clear : r.factor * r.clear.0 ≤ 1000 * (primary_of r C).0
  pub least : (x : Secondary) → AvailableOn r x → r.factor * r.clear.0 ≤ 1000 * (primary_of r x).0 → (primary_of r C).0 ≤ (primary_of r x).0

-- "10 × near ≥ 12 × C for a line, 10 × near ≥ 20 × C for a transformer or motor"
pub record SeesNear (r : Row) (C : Primary) : Type 0 where
  pub line : r.kind ≡ 1 → 12 * C.0 ≤ 10 * r.near.0
  pub other : (r.kind ≡ 1 → ⊥) → 20 * C.0 ≤ 10 * r.near.0

-- "fitted exactly when such C exists and" it sees its near fault
pub data CutoffIs (r : Row) : Cutoff → Type 0 where
  fitted : (C : Secondary) → CutoffPickup r C → SeesNear r (primary_of r C) → CutoffIs r (Fitted C)
  not-fitted : ((C : Secondary) → CutoffPickup r C → SeesNear r (primary_of r C) → ⊥) → CutoffIs r NotFitted

-- some available pickup of row i meets P1 to P4; none does; no delay or multiplier meets D1 and D2 at its pickup
abbrev pub SomePickup : View → Settings → ℕ → Type 0
SomePickup v k i = (x : Secondary) × AvailableOn (v.row i) x × PickupMet v k i (primary_of (v.row i) x)

abbrev pub NoPickup : View → Settings → ℕ → Type 0
NoPickup v k i = (x : Secondary) → AvailableOn (v.row i) x → PickupMet v k i (primary_of (v.row i) x) → ⊥

abbrev pub NoTime : View → Settings → ℕ → Primary → Type 0
NoTime v k i I = (x : ℕ) → TimeMet v k i I x → ⊥

-- [02 §2] x is the candidate of row i: "its least available pickup meeting P1 and P2"
pub record Candidate (v : View) (k : Settings) (i : ℕ) (x : Secondary) : Type 0 where
  pub available : AvailableOn (v.row i) x
  pub lower-met : LowerMet v k i (primary_of (v.row i) x)
  pub least :
      (y : Secondary) → AvailableOn (v.row i) y → LowerMet v k i (primary_of (v.row i) y) →
      (primary_of (v.row i) x).0 ≤ (primary_of (v.row i) y).0

-- "if there is none": no available pickup of row i meets P1 and P2
abbrev pub NoCandidate : View → Settings → ℕ → Type 0
NoCandidate v k i = (x : Secondary) → AvailableOn (v.row i) x → LowerMet v k i (primary_of (v.row i) x) → ⊥

-- "the fed rows ascending": row j is the first of them for which pickup I of row i fails P4
pub record FirstUnbacked (v : View) (i : ℕ) (I : Primary) (j : ℕ) : Type 0 where
  pub is_row : j < v.count
  pub feeding : Feeding v i j
  pub fails : BacksUp v i j I → ⊥
  pub earlier : (x : ℕ) → x < j → Feeding v i x → BacksUp v i x I

-- why no available pickup of row i meets P1 to P4: 11 RANGE, there is no candidate; 12 OWN ZONE, it fails P3; 13 BACKUP, it passes P3
-- and fails P4 for a fed row, the first of which is named by its number
pub data CauseIs (v : View) (k : Settings) (i : ℕ) : Cause → Type 0 where
  RANGE : NoCandidate v k i → CauseIs v k i Range
  OWN-ZONE : (x : Secondary) → Candidate v k i x → (SeesOwnZone v i (primary_of (v.row i) x) → ⊥) → CauseIs v k i OwnZone
  BACKUP :
      (x : Secondary) (j : ℕ) → Candidate v k i x → SeesOwnZone v i (primary_of (v.row i) x) →
      FirstUnbacked v i (primary_of (v.row i) x) j →
      CauseIs v k i (Backup (j + 1))

-- row i stands at its least settings: no pickup that fits it is lower in primary; at that pickup, by the list's law, no shorter delay
-- and no smaller multiplier meets D1 and D2; "a curve row's delay is 0, a definite row's multiplier 0"
pub record LeastRow (v : View) (k : Settings) (i : ℕ) : Type 0 where
  pub pickup : LeastPickup v k i (k i).pickup
  pub law : (k i).law ≡ (v.row i).law
  pub time : TimeMet v k i (pickup_at v k i) (setting_of (k i))
  pub no-shorter : (x : ℕ) → TimeMet v k i (pickup_at v k i) x → setting_of (k i) ≤ x
  pub curve-delay : Curved (k i).law → (k i).delay ≡ 0
  pub definite-multiplier : (k i).law ≡ 0 → (k i).multiplier ≡ 0
  pub cutoff : (k i).cutoff ≡ printed (cutoff_of (v.row i))

-- row i's settings are what settling it gives
pub record RowSettled (v : View) (k : Settings) (i : ℕ) : Type 0 where
  pub outcome : Outcome
  pub settles : settled v k i ≡ Ok outcome
  pub shows : k i ≡ shown outcome
