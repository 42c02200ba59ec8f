-- `calculate::whole_calculation` meets its contract: the answer's numbers, and the card that `answer` leaves.
use mathlib.Core.Path.{ap, ◌∙◌}
use Rattle.answers.specs.Answer.{given_by}
use Rattle.calculate.proofs.whole_calculation.Goals as goal

pub returns : goal.returns
returns c = let a = c.answer.ensures in
    record { numbers = c.numbers.ensures ∙ ap given_by a.answer; card = a.card }
