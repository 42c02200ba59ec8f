-- `read_rows` meets its contract. The loop's invariant: the lines read and the lines left make up all lines, and the buffers hold what was
-- read. The measure is what is left of the text.
use Prim.Native.Nat.{◌-◌}
use lib.ListN.{length}
use Rattle.text.proofs.WalkLaws.{Walk}
use Rattle.text.proofs.read_rows.Given as goal

abbrev pub invariant-loop-c : goal.invariant-loop-c
invariant-loop-c l = Walk l.columns l.text l.initial.c l.initial.numbers l.initial.names l.numbers l.names l.c l.n

abbrev pub decreases-loop-c : goal.decreases-loop-c
decreases-loop-c l = length l.text - l.c.at
