-- `Cursor::plain` and `Cursor::quote` call each other. Each call stands one byte further on, so the measure is what is left of the slice.
use Rattle.std.proofs.Common.{length, ◌-◌}
use Rattle.cursor.proofs.Cursor.+plain_quote.Given as goal

abbrev pub decreases-plain : goal.decreases-plain
decreases-plain l = length l.s.now - l.self.at

abbrev pub decreases-quote : goal.decreases-quote
decreases-quote l = length l.s.now - l.self.at
