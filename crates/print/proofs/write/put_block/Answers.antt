-- `put_block` meets its contract: the block is copied, and the place behind it given.
use Rattle.std.proofs.Common.{refl, ◌∙◌}
use Rattle.print.proofs.WriteLaws.{pasted-written}
use Rattle.print.proofs.write.put_block.Goals as goal

pub returns : goal.returns
returns c =
    let a = c.args in
    record { bytes = c.put.ensures ∙ pasted-written a.out.now a.at a.block.now; end = refl }
