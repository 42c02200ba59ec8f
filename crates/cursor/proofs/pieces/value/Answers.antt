-- `value` meets its contract.
use Rattle.std.proofs.Common.{◌∙◌, sym, arith, get_or, ◌-◌}
use Rattle.cursor.proofs.DecimalLaws.{ten-more, decimal-more, decimal-over}
use Rattle.cursor.proofs.pieces.value.Goals as goal

pub loop-b-preserved : goal.loop-b-preserved
loop-b-preserved c =
    let l = c.loop-b in
    let w = c.args.digits.now in
    let m = c.requires.most l.b-index c.loop-b-test.true in
    rw c.from.ensures (
      ten-more l.v (get_or w l.b-index 0 - 48) l.b-index l.invariant.0 (omega (arith, m)),
      sym (decimal-more w l.v l.b-index c.loop-b-test.true) ∙ l.invariant.1,
    )

pub returns : goal.returns
returns c =
    sym (decimal-over c.args.digits.now c.loop-b.v c.loop-b.b-index c.loop-b-test.false) ∙ c.loop-b.invariant.1
