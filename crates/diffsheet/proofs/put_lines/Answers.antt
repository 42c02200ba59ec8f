-- `diffsheet::put_lines` meets its contract. The loop's invariant: the lines written and those left make up all. The measure is the number left.
use mathlib.Core.Path.{sym, ap, ◌∙◌, subst}
use mathlib.Core.List.{List, ◌++◌}
use Prim.Native.Nat.{ℕ, ◌+◌}
use Rattle.differential.specs.declared.Given.{Given}
use Rattle.differential.specs.Given.{differential_of}
use Rattle.print.specs.Write.{Wrote}
use Rattle.print.proofs.PartlyLaws.{partly_none, partly_more, partly-all}
use Rattle.diffsheet.specs.Sheet.{line_most, line_given}
use Rattle.diffsheet.proofs.LinesLaws.{lines_left, lines_next, lines_end, lines-all, line-short}
use native.Mathlib.Omega.{arith}
use Rattle.diffsheet.proofs.put_lines.Goals as goal

pub loop-i-init : goal.loop-i-init
loop-i-init c = let a = c.args in
    partly_none a.n line_most (lines_left a.n a.inputs.now) a.out.now a.at

pub inputs_at-requires : goal.inputs_at-requires
inputs_at-requires c = omega arith

pub put_given-next-requires : goal.put_given-next-requires
put_given-next-requires c = let l = c.loop-i in
    omega (arith, l.invariant.long, l.invariant.short, l.invariant.wrote.end, c.loop-i-test.true, c.requires.0)

pub loop-i-preserved : goal.loop-i-preserved
loop-i-preserved c = let l = c.loop-i in
    let a = c.args in
    let below = c.loop-i-test.true in
    let given = c.differential_card.ensures ∙ ap differential_of c.inputs_at.ensures in
    partly_more a.n line_most (lines_left a.n a.inputs.now) a.out.now a.at l.out l.next l.i l.invariant _ _ _ below
    (lines_next a.n a.inputs.now l.i below ∙ ap (λ (g : Given). line_given g ++ lines_left a.n a.inputs.now (l.i + 1)) (sym given))
    (line-short _) c.requires.0 c.put_given-next.ensures c.put_given-next.auto.out

pub shape_of-out : goal.shape_of-out
shape_of-out c = c.loop-i.invariant.long

pub returns : goal.returns
returns c = let a = c.args in
    let l = c.loop-i in
    let left = lines_left a.n a.inputs.now in
    subst (λ (xs : List ℕ). Wrote a.out.now a.at xs l.out l.next) (lines-all a.n a.inputs.now)
    (partly-all a.n line_most left a.out.now a.at l.out l.next l.i l.invariant
    (lines_end a.n a.inputs.now l.i c.loop-i-test.false))
