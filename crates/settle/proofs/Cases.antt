-- The worked cases of section 3 hold of the definitions that the contracts cite: the tables compute to what the section says.
use mathlib.Core.Path.{◌≡◌, refl}
use mathlib.Core.Bool.{true}
use Rattle.fold.specs.First.{first}
use Rattle.fold.specs.Fold.{sum_to, every}
use Rattle.grid.specs.Grid.{count, value_at, least_on}
use Rattle.grid.specs.Round.{ceil_div}
use Rattle.curve.specs.Curve.{multiple, stalls, setting_from, setting_to, numerator, denominator, time_of}
use Rattle.sides.specs.Sides.{scale}
use Rattle.settle.specs.Cases.{network, below, conditions, same, settlings, all}
use Rattle.settle.specs.Conditions.{returns_after_self_start, clear_of, sees_own_zone, backs_up, within_delays}
use Rattle.settle.specs.Conditions.{multiple_at, setting_of, margin, margin_between, graded_above, stays_clear, sees_near}
use Rattle.settle.specs.Settle.{meets_lower, unbacked, first_unbacked, candidate, by_backup, judged, picked}
use Rattle.settle.specs.Settle.{meets_time, stalls_by, first_stalling, stalled_there, stalled, tried_from, tried_to}
use Rattle.settle.specs.Settle.{fitting, cutoff_of, printed, shown, timed, outcome_of, settled}

pub condition-cases : all conditions ≡ true
unfolding all conditions network below scale sum_to every returns_after_self_start clear_of sees_own_zone backs_up within_delays margin margin_between
    graded_above stays_clear sees_near multiple stalls numerator denominator time_of ceil_div multiple_at setting_of
condition-cases = refl

pub settling-cases : all settlings ≡ true
unfolding all same settlings network below scale first sum_to every count value_at least_on returns_after_self_start clear_of sees_own_zone backs_up
    within_delays margin margin_between graded_above stays_clear sees_near meets_lower unbacked first_unbacked candidate by_backup judged picked
    fitting cutoff_of printed shown outcome_of settled multiple stalls setting_from setting_to numerator denominator time_of ceil_div multiple_at
    setting_of meets_time stalls_by first_stalling stalled_there stalled tried_from tried_to timed
settling-cases = refl
