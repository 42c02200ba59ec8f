-- The table of replacements with curve rows holds, of the definitions that the contracts cite: every case computes to what the documents say.
use mathlib.Core.Path.{◌≡◌, refl}
use mathlib.Core.List.{map}
use Rattle.fold.specs.First.{first}
use Rattle.fold.specs.Fold.{sum_to, every}
use Rattle.grid.specs.Grid.{count, value_at, least_on}
use Rattle.grid.specs.Round.{ceil_div}
use Rattle.curve.specs.Curve.{multiple, stalls, setting_from, setting_to, numerator, denominator, time_of}
use Rattle.sides.specs.Sides.{scale, setting_most}
use Rattle.layout.specs.Card.{put_card_row}
use Rattle.layout.specs.Fields.{in_bounds}
use Rattle.rows.specs.Tests.{size_test, rows_test, rating_right, field_right, high_right, order_fault, fault_after, row_fault}
use Rattle.rows.specs.Tests.{feeds_right, tree_answer, tree_test, field_answer}
use Rattle.settle.specs.Conditions.{returns_after_self_start, clear_of, sees_own_zone, backs_up, within_delays}
use Rattle.settle.specs.Conditions.{multiple_at, setting_of, margin, margin_between, graded_above, stays_clear, sees_near}
use Rattle.settle.specs.Settle.{meets_lower, unbacked, first_unbacked, candidate, by_backup, judged, picked}
use Rattle.settle.specs.Settle.{meets_time, stalls_by, first_stalling, stalled_there, stalled, tried_from, tried_to}
use Rattle.settle.specs.Settle.{fitting, cutoff_of, printed, shown, timed, outcome_of, settled}
use Rattle.rowwise.specs.WorkOut.{on_settled, work_out, on_passed}
use Rattle.cases.specs.Case.{Worked, comes, worked}
use Rattle.cases.specs.CurveCases.{drive}
use Rattle.cases.specs.CurveChanges.{drive_card, fork_card, changes, climbs, lent_curves, lent_tests, curve_change_table}
use Rattle.path.specs.Path.{path_from, path_of}
use Rattle.path.specs.Reach.{onward, reach_from}
use Rattle.change.specs.Edit.{put_list, edit_right, edit_test}
use Rattle.change.specs.Replace.{reworked, outcome, replaced}
use Rattle.path.specs.CardTest.{lent_most, within_table, card_answer, card_test}

pub curve-changes : map (λ (w : Worked). comes w.case) curve_change_table ≡ map (λ (w : Worked). w.is) curve_change_table
unfolding first sum_to every count value_at least_on ceil_div scale setting_most multiple stalls setting_from setting_to numerator denominator time_of
    size_test rows_test in_bounds rating_right field_right high_right order_fault fault_after row_fault feeds_right tree_answer tree_test field_answer
    returns_after_self_start clear_of sees_own_zone backs_up within_delays multiple_at setting_of margin margin_between graded_above stays_clear sees_near
    meets_lower unbacked first_unbacked candidate by_backup judged picked meets_time stalls_by first_stalling stalled_there stalled tried_from tried_to
    fitting cutoff_of printed shown timed outcome_of settled put_card_row on_settled work_out on_passed
    path_from path_of onward reach_from put_list edit_right edit_test lent_most within_table card_answer card_test reworked outcome replaced
    comes worked curve_change_table changes climbs lent_curves lent_tests drive drive_card fork_card
curve-changes = refl
