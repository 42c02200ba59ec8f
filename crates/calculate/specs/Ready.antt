-- What the functions of the whole calculation ask of their callers, and the shape of their promises. Definitions only.
use Rattle.std.specs.Prelude.{◌≡◌, List, ℕ, ◌*◌, ◌≤◌, length}
use Rattle.answers.specs.Answer.{given_by, Answer, done}
use Rattle.layout.specs.Counts.{column_count, rows_most}
use Rattle.layout.specs.List.{rows}
use Rattle.rows.specs.Tests.{rows_test}
use Rattle.calculate.specs.Whole.{Result}

-- a list of at most 256 rows that passed the tests of its rows, with room for its card
pub record WorkTested (l c : List ℕ) : Type 0 where
  pub rows-to : rows l ≤ rows_most
  pub tested : rows_test l ≡ done
  pub card-room : rows l * column_count ≤ length c

-- the answer and the card are the result's
pub record Answered (z : Result) (a : Answer) (c : List ℕ) : Type 0 where
  pub answer : a ≡ z.answer
  pub card : c ≡ z.card

-- the same, the answer in section 4's numbers
pub record Gave (z : Result) (g c : List ℕ) : Type 0 where
  pub numbers : g ≡ given_by z.answer
  pub card : c ≡ z.card
