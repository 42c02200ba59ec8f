-- `put_number` calls itself: the number without its last digit is written first, so the measure is the number.
use Rattle.print.proofs.write.+put_number.Given as goal

abbrev pub decreases-put_number : goal.decreases-put_number
decreases-put_number l = l.v
