-- [01 §4] Rows worked out one after the other on a card: each at its least settings, the rows below as the card has them,
-- or refused for its own reason. Definitions only.
use Rattle.settle.specs.Outcomes.{Settled}
use Rattle.answers.specs.declared.Refusal.{Refusal}
use Rattle.answers.specs.declared.Refusal.TheVariants.{Unsettled}
use Rattle.answers.specs.Answer.{Answer}
use Rattle.std.specs.Prelude.{List, [], ◌∷◌, ℕ, zero, suc, ◌+◌, Ok, Err}
use Rattle.layout.specs.declared.CardRow.{CardRow}
use Rattle.layout.specs.Card.{card_row_at, put_card_row}
use Rattle.layout.specs.View.{view_of}
use Rattle.settle.specs.Settle.{shown, settled}

-- how working out ends: with the card, or with a refusal
pub data Worked : Type 0 where
  finished : List ℕ → Worked
  refused : Refusal → Worked

-- a test passed goes on with what is next
unfoldable pub on_passed : Answer → Worked → Worked
on_passed (Ok _) next = next
on_passed (Err a) next = refused a

-- what follows the outcome of row i
unfoldable pub on_settled : ℕ → Settled → (CardRow → Worked) → Worked
on_settled i (Ok o) next = next (shown o)
on_settled i (Err why) next = refused (Unsettled (i + 1) why)

-- the rows of `is` worked out in their order, for the list l on the card c
unfoldable pub work_out : List ℕ → List ℕ → List ℕ → Worked
work_out l [] c = finished c
work_out l (i ∷ is) c = on_settled i (settled (view_of l) (card_row_at c) i) (λ k. work_out l is (put_card_row c i k))

-- the n rows i, i + 1, ..
unfoldable pub up_from : ℕ → ℕ → List ℕ
up_from i zero = []
up_from i (suc n) = i ∷ up_from (suc i) n
