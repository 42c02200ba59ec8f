-- [01 §3, §4], [02 §1, §2, §3] The least settings of one row, the rows below at the settings k, or why there are none. Definitions only.
use Rattle.settle.specs.Outcomes.{Picked, Settled}
use Rattle.std.specs.Prelude.{Bool, not, cond, ◌&&◌, ◌||◌, ℕ, ◌+◌, Option, Some, None, Ok, Err}
use Rattle.answers.specs.declared.Cause.TheVariants.{Range, OwnZone, Backup}
use Rattle.answers.specs.declared.Reason.TheVariants.{Pickup, Curve, Delay}
use Rattle.curve.specs.Curve.{is_curve, setting_from, setting_to}
use Rattle.fold.specs.First.{first}
use Rattle.grid.specs.Grid.{least_on}
use Rattle.layout.specs.declared.CardRow.{CardRow}
use Rattle.layout.specs.declared.Row.{Row}
use Rattle.layout.specs.View.{View, Settings}
use Rattle.settle.specs.declared.Cutoff.{Cutoff}
use Rattle.settle.specs.declared.Cutoff.TheVariants.{Fitted, NotFitted}
use Rattle.settle.specs.declared.Outcome.{Outcome}
use Rattle.sides.specs.declared.Primary.{Primary}
use Rattle.sides.specs.declared.Secondary.{Secondary}
use Rattle.sides.specs.Sides.{keyed}
use Rattle.settle.specs.Conditions.{primary_of, fed, each_fed, returns_after_self_start, clear_of, sees_own_zone, backs_up}
use Rattle.settle.specs.Conditions.{time_at, fed_stalls, stalls_at, within_delays, graded_above, stays_clear, sees_near}

-- pickup I of row i meets P1 and P2, the bounds from below
unfoldable pub meets_lower : View → Settings → ℕ → Primary → Bool
meets_lower v k i I = returns_after_self_start (v.row i) I && each_fed v i (λ j. clear_of v k i j I)

-- row i, by its fields r, feeds row j, and pickup I fails P4 for it; the first such row, ascending
unfoldable pub unbacked : View → ℕ → Row → Primary → ℕ → Bool
unbacked v i r I j = fed v i j && not (backs_up r (v.row j) I)

unfoldable pub first_unbacked : View → ℕ → Row → Primary → Option ℕ
first_unbacked v i r I = first (unbacked v i r I) 0 v.count

-- setting x of row i, by its fields r and at its pickup I, meets D1 and D2
unfoldable pub meets_time : View → Settings → ℕ → Row → Primary → ℕ → Bool
meets_time v k i r I x = within_delays r (time_at r r I x) && each_fed v i (λ j. graded_above r (v.row j) (k j) I x)

-- row i feeds row j, and an M that is needed there is at most 1.000; the first such row, ascending
unfoldable pub stalls_by : View → Settings → ℕ → Row → Primary → ℕ → Bool
stalls_by v k i r I j = fed v i j && (fed_stalls (v.row j) (k j) || stalls_at r (v.row j) I)

unfoldable pub first_stalling : View → Settings → ℕ → Row → Primary → Option ℕ
first_stalling v k i r I = first (stalls_by v k i r I) 0 v.count

-- 14 CURVE, by the number of the row whose M it is: "its own M, then by fed rows ascending the fed row's, then its own there"
unfoldable pub stalled_there : View → Settings → ℕ → Option ℕ → Option ℕ
stalled_there v k i None = None
stalled_there v k i (Some j) = Some (cond (fed_stalls (v.row j) (k j)) (j + 1) (i + 1))

unfoldable pub stalled : View → Settings → ℕ → Row → Primary → Option ℕ
stalled v k i r I = cond (stalls_at r r I) (Some (i + 1)) (stalled_there v k i (first_stalling v k i r I))

-- the least available pickup whose primary current passes, as it is keyed
abbrev pub least_pickup : Row → (Primary → Bool) → Option ℕ
least_pickup r ok = least_on r.low.0 r.high.0 r.step.0 (λ x. ok (primary_of r (keyed x)))

-- [02 §2] the candidate of row i: "its least available pickup meeting P1 and P2"
unfoldable pub candidate : View → Settings → ℕ → Option ℕ
candidate v k i = least_pickup (v.row i) (meets_lower v k i)

-- "otherwise test the own zone, then the fed rows ascending": candidate x, the first fed row for which it fails P4 being u
unfoldable pub by_backup : Secondary → Option ℕ → Picked
by_backup x None = Ok x
by_backup x (Some j) = Err (Backup (j + 1))

unfoldable pub judged : Row → Secondary → Option ℕ → Picked
judged r x u = cond (sees_own_zone r (primary_of r x)) (by_backup x u) (Err OwnZone)

-- "if there is none it is RANGE"; `failed` gives, for a pickup, the first fed row for which it fails P4
unfoldable pub picked : Row → Option ℕ → (Primary → Option ℕ) → Picked
picked r None failed = Err Range
picked r (Some x) failed = judged r (keyed x) (failed (primary_of r (keyed x)))

-- the pickup of row i, or why it has none
abbrev pub pickup_of : View → Settings → ℕ → Picked
pickup_of v k i = picked (v.row i) (candidate v k i) (first_unbacked v i (v.row i))

-- the least delay or multiplier that passes: multipliers as they are offered; delays come in steps of 1, and D1 keeps them between floor and
-- ceiling
unfoldable pub tried_from : Row → ℕ
tried_from r = cond (is_curve r.law) (setting_from r.law) r.floor

unfoldable pub tried_to : Row → ℕ
tried_to r = cond (is_curve r.law) (setting_to r.law) r.ceiling

abbrev pub least_setting : Row → (ℕ → Bool) → Option ℕ
least_setting r ok = least_on (tried_from r) (tried_to r) 1 ok

-- the cutoff is fitted exactly when such C exists and sees its near fault
unfoldable pub fitting : Row → Option ℕ → Cutoff
fitting r (Some C) = cond (sees_near r (primary_of r (keyed C))) (Fitted (keyed C)) NotFitted
fitting r None = NotFitted

unfoldable pub cutoff_of : Row → Cutoff
cutoff_of r = fitting r (least_pickup r (stays_clear r))

-- not fitted is printed as 0
unfoldable pub printed : Cutoff → Secondary
printed (Fitted C) = C
printed NotFitted = keyed 0

-- the card row that shows an outcome: "a curve row's delay is 0, a definite row's multiplier 0"
unfoldable pub shown : Outcome → CardRow
shown o =
    record {
      pickup = o.pickup;
      delay = cond (is_curve o.law) 0 o.setting;
      cutoff = printed o.cutoff;
      law = o.law;
      multiplier = cond (is_curve o.law) o.setting 0;
    }

-- the second stage, at the pickup x: CURVE before DELAY
unfoldable pub timed : Row → Secondary → Option ℕ → Option ℕ → Settled
timed r x (Some place) setting = Err (Curve place)
timed r x None None = Err Delay
timed r x None (Some t) = Ok (record { pickup = x; law = r.law; setting = t; cutoff = cutoff_of r })

-- a row's outcome, the cause that no pickup fits before both; `slow` and `least` give, for a pickup, the row whose M is at most 1.000, and
-- the least setting
unfoldable pub outcome_of : Row → Picked → (Primary → Option ℕ) → (Primary → Option ℕ) → Settled
outcome_of r (Err why) slow least = Err (Pickup why)
outcome_of r (Ok x) slow least = timed r x (slow (primary_of r x)) (least (primary_of r x))

-- the least settings of row i, or why it has none
unfoldable pub settled : View → Settings → ℕ → Settled
settled v k i =
    outcome_of (v.row i) (pickup_of v k i) (stalled v k i (v.row i)) (λ I. least_setting (v.row i) (meets_time v k i (v.row i) I))
