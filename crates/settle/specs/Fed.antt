-- What the rows that a row feeds ask of its pickup, in three numbers, so that it is found without looking at them again, but to
-- name the first for which P4 fails. What they ask of its time depends on the pickup found, so they are gone through for that.
-- `gathered` says what the numbers are; that settling by them is settling by section 3 is a law. Definitions only.
use Rattle.settle.specs.Outcomes.{Picked, Settled}
use Rattle.std.specs.Prelude.{Bool, cond, ◌&&◌, ℕ, ◌+◌, ◌-◌, ◌*◌, ◌≤◌, eqb, Option, None}
use Rattle.fold.specs.Fold.{sum_to, max_to}
use Rattle.layout.specs.declared.CardRow.{CardRow}
use Rattle.layout.specs.declared.Row.{Row}
use Rattle.layout.specs.View.{View, Settings}
use Rattle.settle.specs.declared.Fed.{Fed}
use Rattle.sides.specs.declared.Primary.{Primary}
use Rattle.sides.specs.Sides.{setting_most}
use Rattle.curve.specs.Curve.{setting_to}
use Rattle.settle.specs.Conditions.{at_least, primary_of, fed, load_of, returns_after_self_start, setting_of}
use Rattle.settle.specs.Settle.{first_unbacked, least_pickup, picked, stalled, meets_time, least_setting, outcome_of}

-- 1.2 times the greatest product of a primary current, in fifths of a mA, and volts that a list in range holds: 500,000,000 × 500,000
abbrev pub reach : ℕ
reach = 300000000000000

-- what one fed row f with the settings s adds: by how much its pickup exceeds its own load, from `reach` on; how far its
-- fault current stays below `reach`, where it is backed
abbrev pub excess : Row → CardRow → ℕ
excess f s = (primary_of f s.pickup).0 * f.volts + (reach - f.work.0 * f.volts)

abbrev pub shortfall : Row → ℕ
shortfall f = cond (eqb f.backed 1) (reach - f.far.0 * f.volts) 0

abbrev pub asked : Row → CardRow → Fed
asked f s = record { load = f.work.0 * f.volts; excess = excess f s; shortfall = shortfall f }

-- over the rows that row i feeds: the sum of their loads, and the greatest of each of the two others
abbrev pub gathered : View → Settings → ℕ → Fed
gathered v k i =
    record {
      load = sum_to v.count (λ j. cond (fed v i j) (load_of v j) 0);
      excess = max_to v.count (λ j. cond (fed v i j) (excess (v.row j) (k j)) 0);
      shortfall = max_to v.count (λ j. cond (fed v i j) (shortfall (v.row j)) 0);
    }

-- P2 and P4 of all fed rows at once
unfoldable pub clear_of_all : Row → Fed → Primary → Bool
clear_of_all r f I = at_least (10 * I.0 * r.volts) (11 * (f.excess + f.load - reach))

unfoldable pub backs_up_all : Row → Fed → Primary → Bool
backs_up_all r f I = at_least (10 * (reach - f.shortfall)) (12 * I.0 * r.volts)

-- the first fed row for which pickup I fails P4: the fed rows are gone through only where it fails for one of them
unfoldable pub unbacked_by : View → ℕ → Row → Fed → Primary → Option ℕ
unbacked_by v i r f I = cond (backs_up_all r f I) None (first_unbacked v i r I)

-- P1 and P2 by the three numbers, and the pickup
unfoldable pub lower_by : Row → Fed → Primary → Bool
lower_by r f I = returns_after_self_start r I && clear_of_all r f I

unfoldable pub picked_by : View → ℕ → Row → Fed → Picked
picked_by v i r f = picked r (least_pickup r (lower_by r f)) (unbacked_by v i r f)

-- the least settings of row i, by its fields r
unfoldable pub settled_by : View → Settings → ℕ → Row → Fed → Settled
settled_by v k i r f = outcome_of r (picked_by v i r f) (stalled v k i r) (λ I. least_setting r (meets_time v k i r I))

-- the range of a primary current, in fifths of a mA, in which nothing overflows: 500,000 mA at the relay with the greatest ratio, 20,000 A
-- to 1 A. A list in range has at most 500,000,000; a lent card can have this
abbrev pub PrimaryBounded : Primary → Type 0
PrimaryBounded I = I.0 ≤ 50000000000

-- the range in which the three numbers cannot overflow
pub record FedBounded (f : Fed) : Type 0 where
  pub load-to : f.load ≤ 64000000000000000
  pub excess-to : f.excess ≤ 25300000000000000
  pub shortfall-to : f.shortfall ≤ reach

-- the range of a card row's settings, for row r, in which they do not
pub record CardBounded (r : Row) (s : CardRow) : Type 0 where
  pub pickup-to : s.pickup.0 ≤ setting_most r.ratio.primary
  pub setting-to : setting_of s ≤ setting_to s.law
