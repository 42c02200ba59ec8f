-- `test_card` names the first card row out of range: the rows that the loop has passed are in range.
use mathlib.Core.Bool.{not}
use Rattle.fold.proofs.FirstLaws.{Passed}
use Rattle.path.specs.CardTest.{card_right}
use Rattle.path.proofs.test_card.Given as goal

abbrev pub invariant-loop-j : goal.invariant-loop-j
invariant-loop-j l = Passed (λ j. not (card_right l.list l.i l.card j)) l.n l.j
