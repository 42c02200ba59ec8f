-- What one row's working out asks of its callers, and its promise. Definitions only.
use Rattle.settle.specs.declared.Fed.{Fed}
use Rattle.answers.specs.Answer.{Answer, done}
use Rattle.std.specs.Prelude.{◌≡◌, List, ℕ, ◌+◌, ◌-◌, ◌*◌, ◌≤◌, ◌<◌, length}
use Rattle.layout.specs.declared.CardRow.{CardRow}
use Rattle.layout.specs.declared.Row.{Row}
use Rattle.layout.specs.Counts.{column_count}
use Rattle.layout.specs.List.{rows, row_at}
use Rattle.layout.specs.Range.{Bounded, AllBounded}
use Rattle.layout.specs.View.{view_of}
use Rattle.settle.specs.Fed.{FedBounded, CardBounded}
use Rattle.settle.specs.Ready.{FedReady}
use Rattle.rowwise.specs.Sums.{fed_at, Step, steps}

-- a row's feeder has its place in the sums, and a load more does not overflow there
pub record HasFeeder (r : Row) (s : List Fed) : Type 0 where
  pub has-place : 1 ≤ r.feeder → r.feeder - 1 < length s
  pub load_fits : 1 ≤ r.feeder → (fed_at s (r.feeder - 1)).load ≤ 64000000000000000

-- what a row with these settings asks can be added for its feeder
pub record PushReady (r : Row) (k : CardRow) (s : List Fed) : Type 0 where
  pub bounded : Bounded r
  pub settings : CardBounded r k
  pub feeder : HasFeeder r s

-- row i can be worked out
pub record WorkReady (l : List ℕ) (i : ℕ) (c : List ℕ) (s : List Fed) : Type 0 where
  pub is_row : i < rows l
  pub in-card : i * column_count + column_count ≤ length c
  pub in-sums : i < length s
  pub all-bounded : AllBounded (view_of l)
  pub fed-bounded : FedBounded (fed_at s i)
  pub fed-ready : FedReady l c i
  pub feeder : HasFeeder (row_at l i) s

-- each of n rows from i on can be worked out on the card and the sums that those before it leave
pub record RowsReady (l : List ℕ) (i n : ℕ) (c : List ℕ) (s : List Fed) : Type 0 where
  pub each :
      (k : ℕ) → k < n → (steps l i k c s).tested ≡ done → WorkReady l (i + k) (steps l i k c s).card (steps l i k c s).sums

-- the answer, the card and the sums are the step's
pub record Stepped (z : Step) (t : Answer) (c : List ℕ) (s : List Fed) : Type 0 where
  pub answer : t ≡ z.tested
  pub card : c ≡ z.card
  pub sums : s ≡ z.sums
