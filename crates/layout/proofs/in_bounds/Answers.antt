-- `layout::in_bounds` meets its contract: a number below its least is out of bounds, any other is judged by its greatest.
use borrow.Author.Tests.{lt-leb, le-leb}
use Rattle.layout.specs.Fields.{in_bounds}
use Rattle.layout.proofs.in_bounds.Goals as goal

pub returns-then-x-table : goal.returns-then-x-table
unfolding in_bounds
returns-then-x-table c = rw (lt-leb _ _ c.if-x-table.true)

pub returns : goal.returns
unfolding in_bounds
returns c = rw (le-leb _ _ c.if-x-table.false)
