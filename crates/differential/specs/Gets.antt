-- [02 §11] What eight numbers get, by inequalities and by the request's own numbers: for the theorems that hold `differential_of` to it. `InRange` is
-- what private functions ask too.
-- Currents and slopes are whole hundredths. Definitions only.
use Rattle.std.specs.Prelude.{ℕ, ◌+◌, ◌*◌, ◌≤◌, ◌<◌}
use Rattle.grid.specs.Grid.{Available}
use Rattle.differential.specs.declared.Given.{Given}
use Rattle.differential.specs.declared.Inputs.{Inputs}
use Rattle.differential.specs.declared.Verdict.{Verdict}
use Rattle.differential.specs.declared.Verdict.TheVariants.{Trip, Hold, Blocked}

-- the input at a place, from 1, is in its range
pub data RightAt (x : Inputs) : ℕ → Type 0 where
  start : 20 ≤ x.start → x.start ≤ 100 → RightAt x 1
  blocking : 150 ≤ x.blocking → x.blocking ≤ 300 → RightAt x 2
  cutoff : 650 ≤ x.cutoff → x.cutoff ≤ 1200 → RightAt x 3
  through : 100 ≤ x.through → x.through ≤ 2000 → RightAt x 4
  first : x.first ≤ 10000 → RightAt x 5
  second : x.second ≤ 10000 → RightAt x 6
  differential : x.differential ≤ 10000 → RightAt x 7
  restraint : x.restraint ≤ 10000 → RightAt x 8

-- all are
abbrev pub InRange : Inputs → Type 0
InRange x = (place : ℕ) → 1 ≤ place → place ≤ 8 → RightAt x place

-- "16 INPUT (place, lowest first ..)": the lowest place of an input that is out of its range
pub record LowestOutside (x : Inputs) (place : ℕ) : Type 0 where
  pub from : 1 ≤ place
  pub to : place ≤ 8
  pub lower : (p : ℕ) → 1 ≤ p → p < place → RightAt x p
  pub outside : RightAt x place → ⊥

-- "0.2, 0.3, .. 0.7"
abbrev pub Offered : ℕ → Type 0
Offered slope = Available 20 70 10 slope

-- "start + slope × (through − 1) is at least 1.1 × 0.4 × through", each side 1,000,000 times, 1.1 and 0.4 being 110 and 40 hundredths, and
-- slope × 1 taken to the other side
abbrev pub Fits : Inputs → ℕ → Type 0
Fits x slope = 110 * 40 * x.through + 100 * 100 * slope ≤ 100 * 100 * x.start + 100 * slope * x.through

-- "the least of" them
pub record LeastFits (x : Inputs) (slope : ℕ) : Type 0 where
  pub offered : Offered slope
  pub fits : Fits x slope
  pub no-lesser : (other : ℕ) → Offered other → Fits x other → slope ≤ other

-- "both sides are at or above blocking"
pub record BothBlock (x : Inputs) : Type 0 where
  pub first-side : x.blocking ≤ x.first
  pub second-side : x.blocking ≤ x.second

-- "the differential is at or above the characteristic, which is the start up to the bend and start + slope × (restraint − 1) above it": above
-- the bend each side 10,000 times, and slope × 1 taken to the other side
pub record Reaches (x : Inputs) (slope : ℕ) : Type 0 where
  pub up-to-bend : x.restraint ≤ 100 → x.start ≤ x.differential
  pub above-bend : 100 < x.restraint → 100 * x.start + slope * x.restraint ≤ 100 * x.differential + 100 * slope

-- the verdict, each way to it
pub data VerdictIs (x : Inputs) (slope : ℕ) : Verdict → Type 0 where
  at-cutoff : x.cutoff ≤ x.differential → VerdictIs x slope Trip
  both-block : x.differential < x.cutoff → BothBlock x → VerdictIs x slope Blocked
  reaches : x.differential < x.cutoff → (BothBlock x → ⊥) → Reaches x slope → VerdictIs x slope Trip
  falls-short : x.differential < x.cutoff → (BothBlock x → ⊥) → (Reaches x slope → ⊥) → VerdictIs x slope Hold

-- "1 trip, 2 hold, 3 blocked"
pub data Numbered : Verdict → ℕ → Type 0 where
  trip : Numbered Trip 1
  hold : Numbered Hold 2
  blocked : Numbered Blocked 3

-- number, place, the card's five and the verdict
abbrev pub eight : ℕ → ℕ → ℕ → ℕ → ℕ → ℕ → ℕ → ℕ → Given
eight n p s e k b c v = record { number = n; place = p; start = s; bend = e; slope = k; blocking = b; cutoff = c; verdict = v }

pub data Gets (x : Inputs) : Given → Type 0 where
  done :
      (slope : ℕ) {v : Verdict} {n : ℕ} → InRange x → LeastFits x slope → VerdictIs x slope v → Numbered v n →
      Gets x (eight 0 0 x.start 100 slope x.blocking x.cutoff n)
  INPUT : (place : ℕ) → LowestOutside x place → Gets x (eight 16 place 0 0 0 0 0 0)
  SLOPE : InRange x → ((slope : ℕ) → Offered slope → Fits x slope → ⊥) → Gets x (eight 17 0 0 0 0 0 0 0)

-- the same inputs with another differential
abbrev pub with_differential : Inputs → ℕ → Inputs
with_differential x d =
    record {
      start = x.start;
      blocking = x.blocking;
      cutoff = x.cutoff;
      through = x.through;
      first = x.first;
      second = x.second;
      differential = d;
      restraint = x.restraint;
    }
