-- What each row's fed rows ask of its pickup, kept while rows are worked out. Definitions only.
use Rattle.settle.specs.Outcomes.{Settled}
use Rattle.answers.specs.declared.Refusal.TheVariants.{Unsettled}
use Rattle.answers.specs.Answer.{Answer, done}
use Rattle.std.specs.Prelude.{cond, List, ℕ, zero, suc, ◌+◌, ◌-◌, max, eqb, slice_index_or, slice_set, Ok, Err}
use Rattle.layout.specs.declared.CardRow.{CardRow}
use Rattle.layout.specs.declared.Row.{Row}
use Rattle.layout.specs.Card.{card_row_at, put_card_row}
use Rattle.layout.specs.List.{row_at}
use Rattle.layout.specs.View.{view_of}
use Rattle.settle.specs.declared.Fed.{Fed}
use Rattle.settle.specs.Fed.{asked, settled_by}
use Rattle.settle.specs.Settle.{shown}

-- nothing is asked
abbrev pub nothing : Fed
nothing = record { load = 0; excess = 0; shortfall = 0 }

abbrev pub fed_at : List Fed → ℕ → Fed
fed_at s i = slice_index_or s i nothing

-- what two sets of fed rows ask together
abbrev pub joined : Fed → Fed → Fed
joined a b =
    record {
      load = a.load + b.load;
      excess = max a.excess b.excess;
      shortfall = max a.shortfall b.shortfall;
    }

-- the sums with what row r, with the settings k, asks joined in at its feeder's place
unfoldable pub pushed : Row → CardRow → List Fed → List Fed
pushed r k s = cond (eqb r.feeder 0) s (slice_set s (r.feeder - 1) (joined (fed_at s (r.feeder - 1)) (asked r k)))

-- one row worked out by what its fed rows ask: the answer, the card and the sums afterwards
pub record Step : Type 0 where
  pub tested : Answer
  pub card : List ℕ
  pub sums : List Fed

unfoldable pub step_by : List ℕ → ℕ → List ℕ → List Fed → Settled → Step
step_by l i c s (Ok o) = record { tested = done; card = put_card_row c i (shown o); sums = pushed (row_at l i) (shown o) s }
step_by l i c s (Err why) = record { tested = Err (Unsettled (i + 1) why); card = c; sums = s }

-- row i settled by what is asked of it, and by the card rows of those that it feeds
abbrev pub settled_at : List ℕ → ℕ → List ℕ → List Fed → Settled
settled_at l i c s = settled_by (view_of l) (card_row_at c) i (row_at l i) (fed_at s i)

unfoldable pub step : List ℕ → ℕ → List ℕ → List Fed → Step
step l i c s = step_by l i c s (settled_at l i c s)

-- what follows a step: the next one, unless it is refused
unfoldable pub on_step : Answer → Step → Step → Step
on_step (Ok _) z next = next
on_step (Err a) z next = z

-- the n rows i, i + 1, .. worked out so, one after the other, up to the first that is refused
unfoldable pub steps : List ℕ → ℕ → ℕ → List ℕ → List Fed → Step
steps l i zero c s = record { tested = done; card = c; sums = s }
steps l i (suc n) c s =
    on_step (steps l i n c s).tested (steps l i n c s) (step l (i + n) (steps l i n c s).card (steps l i n c s).sums)
