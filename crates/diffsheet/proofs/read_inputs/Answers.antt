-- `diffsheet::read_inputs` meets its contract: the byte string is the header of the specification, and the columns are eight numbers.
use Rattle.cursor.specs.Spelt.{spelt}
use Rattle.diffsheet.specs.Lines.{input_header}
use Rattle.diffsheet.proofs.read_inputs.Goals as goal

pub returns : goal.returns
unfolding input_header spelt
returns c = let t = c.read_text.ensures in
    record { answer = t.answer; numbers = t.taken.numbers-are }
