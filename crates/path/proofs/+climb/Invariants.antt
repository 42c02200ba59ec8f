-- The measure of `climb` is the rows left above.
use Prim.Native.Nat.{◌-◌}
use Rattle.layout.specs.List.{rows}
use Rattle.path.proofs.+climb.Given as goal

abbrev pub decreases-climb : goal.decreases-climb
decreases-climb l = rows l.tree.now.list.now - l.i
