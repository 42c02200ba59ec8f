-- `diffcard::print_read` meets its contract: the bytes that were read are the text, and there is room for what is printed for it.
use mathlib.Core.Path.{sym}
use lib.ListN.{length}
use lib.Seq.{length-take-le}
use Rattle.diffsheet.proofs.SheetLaws.{room-for-all}
use Rattle.diffcard.proofs.print_read.Goals as goal

pub slice_bounds-diffsheet-end : goal.slice_bounds-diffsheet-end
slice_bounds-diffsheet-end c = sym (length-take-le c.args.size c.args.text.now c.requires.0)

pub returns : goal.returns
returns c = rw (room-for-all _ (length c.args.out.now) c.requires.1) at c.diffsheet.ensures
