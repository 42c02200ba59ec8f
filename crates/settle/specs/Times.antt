-- [02 §3] How the second stage of settling a row goes, by what the rows that it feeds ask one by one; that it comes to what Settle.antt says
-- is a law. Definitions only.
use Rattle.settle.specs.declared.Stalled.{Stalled}
use Rattle.answers.specs.declared.Reason.TheVariants.{Curve, Delay}
use Rattle.answers.specs.declared.Reason.{Reason}
use Rattle.std.specs.Prelude.{◌≡◌, true, false, cond, ℕ, leb, Option, Some, None, Result, Ok, Err, ok_or}
use Rattle.curve.specs.Curve.{is_curve}
use Rattle.layout.specs.declared.CardRow.{CardRow}
use Rattle.layout.specs.declared.Row.{Row}
use Rattle.layout.specs.View.{View, Settings}
use Rattle.sides.specs.declared.Primary.{Primary}
use Rattle.settle.specs.Conditions.{each_fed, multiple_at, fed_time, fed_stalls, stalls_at, graded_above}
use Rattle.settle.specs.Settle.{first_stalling, stalled_there}

-- "needed are only the M of curve rows": M where this law is one
unfoldable pub needed_multiple : ℕ → Row → Row → Primary → ℕ
needed_multiple law r f I = cond (is_curve law) (multiple_at r f I) 0

-- a fed row's time, or none
unfoldable pub fed_time_of : Row → CardRow → Option ℕ
fed_time_of f s = cond (fed_stalls f s) None (Some (fed_time f s))

-- CURVE before DELAY
unfoldable pub timed_by : Option ℕ → Option ℕ → Result ℕ Reason
timed_by (Some place) setting = Err (Curve place)
timed_by None setting = ok_or setting Delay

-- what fed row j asks of row i, by its fields r and at its pickup I: its M or row i's there is at most 1.000, in this order; or the
-- settings that meet D2 above it are those from b on
abbrev pub WantedIs : View → Settings → ℕ → Row → Primary → ℕ → Result ℕ Stalled → Type 0
WantedIs v k i r I j (Err s) =
    (stalled_there v k i (Some j) ≡ Some s.0) × (((fed_stalls (v.row j) (k j) ≡ false) → (stalls_at r (v.row j) I ≡ true)))
WantedIs v k i r I j (Ok b) =
    (fed_stalls (v.row j) (k j) ≡ false) × (stalls_at r (v.row j) I ≡ false) × ((x : ℕ) → leb b x ≡ graded_above r (v.row j) (k j) I x)

-- what all fed rows ask
abbrev pub WalkIs : View → Settings → ℕ → Row → Primary → Result ℕ Stalled → Type 0
WalkIs v k i r I (Err s) = stalled_there v k i (first_stalling v k i r I) ≡ Some s.0
WalkIs v k i r I (Ok b) =
    (first_stalling v k i r I ≡ None) × ((x : ℕ) → leb b x ≡ each_fed v i (λ j. graded_above r (v.row j) (k j) I x))
