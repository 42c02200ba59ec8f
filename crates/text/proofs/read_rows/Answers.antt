-- `read_rows` meets its contract.
use mathlib.Core.Path.{sym, ap}
use Prim.Native.Nat.{◌≤◌}
use native.Mathlib.Nat.{le_of_lt}
use native.Mathlib.Omega.{arith}
use lib.ListN.{length}
use lib.Seq.{length-take-le}
use Rattle.cursor.specs.declared.Cursor.{Cursor}
use Rattle.text.specs.Text.{line_length}
use Rattle.text.specs.Text.{line_length}
use Rattle.text.proofs.WalkLaws.{walk_start, walk_step, walk-done, walk-bad}
use Rattle.text.proofs.CutLaws.{line-inside}
use Rattle.text.proofs.read_rows.Goals as goal
use Rattle.text.proofs.read_rows.Goals.{After-skip-past}

-- the line's end lies inside the text
ends-inside : (c : After-skip-past) → c.skip-past.result.at ≤ length c.args.text.now
unfolding line_length
ends-inside c =
    line-inside c.args.text.now c.loop-c.c c.skip-past.result c.skip-past.ensures (le_of_lt c.loop-c-test.true)

pub loop-c-init : goal.loop-c-init
loop-c-init c = walk_start _ _ c.args.from _ _ c.requires.early

pub slice_bounds-read_line-end : goal.slice_bounds-read_line-end
slice_bounds-read_line-end c = sym (length-take-le _ _ (ends-inside (goal.at.slice_bounds-read_line-end c).After-skip-past))

pub returns-in_default : goal.returns-in_default
unfolding line_length
returns-in_default c =
    walk-bad _ _ _ _ _ _ _ c.loop-c.c _ c.loop-c.invariant c.skip-past.result c.loop-c-test.true c.skip-past.ensures c.in_default.ensures

pub next_line-c-requires : goal.next_line-c-requires
unfolding line_length
next_line-c-requires c =
    let inside = ends-inside (goal.at.next_line-c-requires c).After-skip-past in
    (omega (arith, inside), omega (arith, ap (λ (q : Cursor). q.line) c.skip-past.ensures, c.loop-c.invariant.early, c.loop-c-test.true))

pub loop-c-preserved : goal.loop-c-preserved
unfolding line_length
loop-c-preserved c =
    walk_step _ _ _ _ _ _ _ c.loop-c.c _ c.loop-c.invariant c.skip-past.result c.next_line-c.result c.in-Some.row _ _
    c.loop-c-test.true c.skip-past.ensures c.in-Some.ensures
    c.keep_row.ensures.numbers_after c.keep_row.ensures.names_after c.keep_row.auto.numbers c.keep_row.auto.names c.next_line-c.ensures

pub returns : goal.returns
returns c = walk-done _ _ _ _ _ _ _ c.loop-c.c _ c.loop-c.invariant c.loop-c-test.false
