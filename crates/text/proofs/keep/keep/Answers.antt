-- `keep` meets its contract: a block for which there is room is copied to its place, and any other changes nothing.
use mathlib.Core.Path.{◌∙◌}
use Rattle.text.proofs.BlockLaws.{kept-empty, kept-below, kept_above}
use Rattle.text.proofs.keep.keep.Goals as goal

pub returns-then-w-eq0 : goal.returns-then-w-eq0
returns-then-w-eq0 g c =
    let a = c.args in
    kept-empty a.n a.block.now a.out.now c.if-w-eq0.true

pub returns-then-n-out : goal.returns-then-n-out
returns-then-n-out g c =
    let a = c.args in
    c.put.ensures ∙ kept-below _ a.n a.block.now a.out.now c.if-n-out.true

pub returns-else-n-out : goal.returns-else-n-out
returns-else-n-out g c =
    let a = c.args in
    kept_above _ a.n a.block.now a.out.now c.if-n-out.false
