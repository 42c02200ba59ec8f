-- `card::print_read` meets its contract: the buffer has room for any sheet, so nothing is refused for room.
use mathlib.Core.Path.{sym}
use lib.Seq.{length-take-le}
use Rattle.sheet.proofs.RoomLaws.{room-enough}
use Rattle.card.proofs.print_read.Goals as goal

pub slice_bounds-sheet-end : goal.slice_bounds-sheet-end
slice_bounds-sheet-end c = sym (length-take-le c.args.size c.args.text.now c.requires.0)

pub returns : goal.returns
returns c = rw (room-enough _ _ c.requires.1) at c.sheet-page.ensures.printed
