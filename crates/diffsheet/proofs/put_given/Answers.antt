-- `diffsheet::put_given` meets its contract: the eight numbers in their order.
use Rattle.diffsheet.specs.Sheet.{line_given}
use Rattle.diffsheet.proofs.put_given.Goals as goal

pub returns : goal.returns
unfolding line_given
returns c = c.put_numbers.ensures
