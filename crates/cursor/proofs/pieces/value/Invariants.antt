-- `value` meets its contract. The loop's invariant: the value so far, followed by the digits left, is the value of all digits; it stays below
-- 10 to the number of digits read, so that nothing wraps.
use Rattle.std.proofs.Common.{◌≡◌, ◌<◌, ◌^◌, drop}
use Rattle.cursor.specs.Pieces.{decimal}
use Rattle.cursor.proofs.pieces.value.Given as goal

abbrev pub invariant-loop-b : goal.invariant-loop-b
invariant-loop-b l = (l.v < 10 ^ l.b-index) × (decimal l.v (drop l.b-index l.digits) ≡ decimal 0 l.digits)
