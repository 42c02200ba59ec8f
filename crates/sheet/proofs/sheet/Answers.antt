-- `sheet::sheet` meets its contract: what `print_text` printed aside is copied where it fits, and otherwise nothing is.
use native.Mathlib.Omega.{arith}
use mathlib.Core.Path.{sym, ap, ◌∙◌}
use lib.ListN.{length}
use Rattle.sheet.proofs.SheetLaws.{fits-filled, card-unfit, refusal-unfit}
use Rattle.sheet.proofs.sheet.Goals as goal

pub slice_bounds-put-end : goal.slice_bounds-put-end
slice_bounds-put-end c = let p = c.print_text-page.ensures.printed in
    p.count ∙ ap length (sym p.bytes)

pub put-requires : goal.put-requires
put-requires c = let p = c.print_text-page.ensures.printed in
    omega (arith, p.count, ap length p.bytes, c.if-bytes-out.true)

pub returns-then-bytes-out : goal.returns-then-bytes-out
returns-then-bytes-out c = fits-filled _ _ _ _ _ c.print_text-page.ensures _ _ c.if-bytes-out.true c.put.ensures

pub returns-then-given-eq0 : goal.returns-then-given-eq0
returns-then-given-eq0 c = card-unfit _ _ _ _ _ c.print_text-page.ensures _ c.if-bytes-out.false _ c.if-given-eq0.true c.numbers.ensures

pub returns : goal.returns
returns c = refusal-unfit _ _ _ _ _ c.print_text-page.ensures _ c.if-bytes-out.false c.if-given-eq0.false
