-- What settling a row of a list asks of its callers. Definitions only.
use Rattle.std.specs.Prelude.{◌≡◌, true, List, ℕ, ◌+◌, ◌*◌, ◌≤◌, ◌<◌, length}
use Rattle.layout.specs.declared.Row.{Row}
use Rattle.layout.specs.List.{rows, row_at}
use Rattle.layout.specs.Range.{Bounded, AllBounded}
use Rattle.layout.specs.View.{view_of}
use Rattle.layout.specs.Card.{card_row_at}
use Rattle.layout.specs.Counts.{column_count}
use Rattle.sides.specs.declared.Primary.{Primary}
use Rattle.settle.specs.Conditions.{fed}
use Rattle.settle.specs.Fed.{PrimaryBounded, CardBounded}

-- row i of a list whose rows are in range; r stands for the fields of row i, and is in range too
pub record Listed (l : List ℕ) (i : ℕ) (r : Row) : Type 0 where
  pub is_row : i < rows l
  pub all-bounded : AllBounded (view_of l)
  pub bounded : Bounded r

-- the rows that row i feeds have a place on the card, and their settings there are such that nothing overflows
pub record FedReady (l c : List ℕ) (i : ℕ) : Type 0 where
  pub card-room : rows l * column_count ≤ length c
  pub settings-to : (j : ℕ) → j < rows l → fed (view_of l) i j ≡ true → CardBounded (row_at l j) (card_row_at c j)

-- fed row j can be asked about row i, by its fields r and at its pickup I
pub record AskReady (l c : List ℕ) (i : ℕ) (r : Row) (I : Primary) (j : ℕ) : Type 0 where
  pub listed : Listed l i r
  pub pickup-to : PrimaryBounded I
  pub is-fed-row : j < rows l
  pub in-card : j * column_count + column_count ≤ length c
  pub settings-to : CardBounded (row_at l j) (card_row_at c j)
