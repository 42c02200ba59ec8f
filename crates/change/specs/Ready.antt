-- What the functions of a replacement ask of their callers, and the shape of their promises. Definitions only.
use Rattle.std.specs.Prelude.{◌≡◌, List, ℕ, length, Ok, Err}
use Rattle.layout.specs.Counts.{field_count}
use Rattle.answers.specs.Answer.{given_by, Answer, done}
use Rattle.path.specs.Ready.{ReworkReady, HowFar}
use Rattle.change.specs.Edit.{put_list}
use Rattle.change.specs.Replace.{reworked, outcome, Replaced}

pub record ExchangeReady (l : List ℕ) (i : ℕ) (c row : List ℕ) : Type 0 where
  pub rework : ReworkReady l i c
  pub row-length : length row ≡ field_count

-- a new row in the place of row i
abbrev pub exchanged : List ℕ → List ℕ → ℕ → List ℕ → Replaced
exchanged l c i row = outcome l c (put_list l i row) i (reworked (put_list l i row) i c)

-- the answer of a working out, and the count of its rows
unfoldable pub answer_of : HowFar → Answer
answer_of (Ok n) = done
answer_of (Err a) = Err a

unfoldable pub count_of : HowFar → ℕ
count_of (Ok n) = n
count_of (Err a) = 0

-- the answer, the count, the list and the card are the replacement's
pub record Exchanged (z : Replaced) (f : HowFar) (l c : List ℕ) : Type 0 where
  pub answer : answer_of f ≡ z.answer
  pub count : count_of f ≡ z.count
  pub list : l ≡ z.list
  pub card : c ≡ z.card

-- the same, the answer in section 4's numbers g, and n rows
pub record Gave (z : Replaced) (g : List ℕ) (n : ℕ) (l c : List ℕ) : Type 0 where
  pub numbers : g ≡ given_by z.answer
  pub count : n ≡ z.count
  pub list : l ≡ z.list
  pub card : c ≡ z.card
