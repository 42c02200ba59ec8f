-- `Cursor::skip` meets its contract. The loop's invariant: the place and the run left there end where the whole run ends.
use Rattle.std.proofs.Common.{◌≡◌, ◌+◌, drop}
use Rattle.cursor.specs.Bytes.{passes, run}
use Rattle.cursor.proofs.Cursor.skip.Given as goal

abbrev pub invariant-loop-i : goal.invariant-loop-i
invariant-loop-i l =
    (l.past ≡ record { at = l.i; line = l.fn.self.line }) ×
    (l.i + run (passes l.class) (drop l.i l.s) ≡ l.fn.self.at + run (passes l.class) (drop l.fn.self.at l.s))
