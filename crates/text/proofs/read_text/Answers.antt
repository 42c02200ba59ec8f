-- `read_text` meets its contract: the size decides first, then the header, and then `read_rows`.
use Rattle.std.proofs.Math.Bool.{not-not}
use Rattle.std.proofs.Common.{rules, ap, not, ◌∙◌, sym, ◌≡◌}
use Rattle.text.specs.Text.{headed}
use mathlib.Core.Path.{sym, ◌∙◌}
use Prim.Native.Nat.{◌≤◌}
use lib.ListN.{length, drop, length-drop}
use Rattle.text.specs.Text.{text_most, line_length}
use Rattle.text.specs.Text.{text_most, line_length}
use Rattle.text.proofs.CutLaws.{line-inside}
use Rattle.text.proofs.TextLaws.{text-long, text-unheaded, text-rows, headed-is}
use Rattle.text.proofs.SameLaws.{same-pointwise}
use Rattle.text.proofs.read_text.Goals as goal
use Rattle.text.proofs.read_text.Goals.{After-skip-past, After-ne}

ends-inside : (c : After-skip-past) → c.skip-past.result.at ≤ length c.args.text.now
unfolding line_length
ends-inside c =
    line-inside c.args.text.now c.args.from c.skip-past.result c.skip-past.ensures c.requires.at_in_bounds

short : (c : After-skip-past) → length (drop c.args.from.at c.args.text.now) ≤ text_most
short c = rw (length-drop c.args.from.at c.args.text.now) c.if-text-from-gt-TEXT_MOST.false

pub returns-then-text-from-gt-TEXT_MOST : goal.returns-then-text-from-gt-TEXT_MOST
returns-then-text-from-gt-TEXT_MOST c =
    let a = c.args in
    text-long _ _ _ _ _ _ _ (rw (length-drop a.from.at a.text.now) c.if-text-from-gt-TEXT_MOST.true)

pub slice_bounds-ne-end : goal.slice_bounds-ne-end
slice_bounds-ne-end c = let h = ends-inside (goal.at.slice_bounds-ne-end c).After-skip-past in search rules

-- the first line is the header, by the library's comparison
header-tested : (c : After-ne) → headed c.args.header.now (drop c.args.from.at c.args.text.now) ≡ not c.ne.result
unfolding line_length
header-tested c =
    let a = c.args in
    rw c.ne.ensures
    (sym (headed-is _ a.columns a.text.now a.from c.skip-past.result c.skip-past.ensures _ (same-pointwise _ _)) ∙
    sym (not-not _))

pub returns-then-ne : goal.returns-then-ne
returns-then-ne c =
    text-unheaded _ _ _ _ _ _ _ (short (goal.at.returns-then-ne c).After-skip-past)
    (header-tested (goal.at.returns-then-ne c).After-ne ∙ ap not c.if-ne.true)

pub returns : goal.returns
unfolding line_length
returns c =
    let a = c.args in
    text-rows _ _ a.text.now a.from c.skip-past.result c.skip-past.ensures _ _ _ _ _ c.next_line.result c.next_line.ensures
    (short (goal.at.returns c).After-skip-past)
    (header-tested (goal.at.returns c).After-ne ∙ ap not c.if-ne.false)
    c.read_rows.ensures
