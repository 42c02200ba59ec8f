-- A list, a card and sums while rows are worked out: the sums hold, for each row that still matters, what its fed rows that
-- are done ask of it. Definitions only.
use Rattle.answers.specs.Answer.{done}
use Rattle.std.specs.Prelude.{◌≡◌, Bool, true, cond, ◌&&◌, List, ℕ, ◌*◌, ◌≤◌, ◌<◌, length}
use Rattle.fold.specs.Fold.{sum_to, max_to}
use Rattle.layout.specs.Card.{card_row_at}
use Rattle.layout.specs.Counts.{column_count, rows_most}
use Rattle.layout.specs.List.{rows, row_at}
use Rattle.layout.specs.View.{View, view_of, Settings}
use Rattle.rows.specs.InRange.{InRange, Feeds}
use Rattle.rows.specs.Tests.{rows_test}
use Rattle.settle.specs.declared.Fed.{Fed}
use Rattle.settle.specs.Conditions.{fed, load_of}
use Rattle.settle.specs.Fed.{excess, shortfall, CardBounded}
use Rattle.rowwise.specs.Sums.{nothing, fed_at}

-- what the rows that row i feeds ask of its pickup, as far as they are done
abbrev pub gathered_by : (ℕ → Bool) → View → Settings → ℕ → Fed
gathered_by done v k i =
    record {
      load = sum_to v.count (λ j. cond (done j && fed v i j) (load_of v j) 0);
      excess = max_to v.count (λ j. cond (done j && fed v i j) (excess (v.row j) (k j)) 0);
      shortfall = max_to v.count (λ j. cond (done j && fed v i j) (shortfall (v.row j)) 0);
    }

-- every row matters
abbrev pub every_row : ℕ → Bool
every_row j = true

-- a list, a card and sums in the midst of the work
pub record Working (l : List ℕ) (done matters : ℕ → Bool) (c : List ℕ) (s : List Fed) : Type 0 where
  pub rows-to : rows l ≤ rows_most
  pub in-range : InRange l
  pub feeds : Feeds l
  pub card-room : rows l * column_count ≤ length c
  pub sums-room : rows l ≤ length s
  pub settings-to : (j : ℕ) → j < rows l → done j ≡ true → CardBounded (row_at l j) (card_row_at c j)
  pub summed : (i : ℕ) → i < rows l → matters i ≡ true → fed_at s i ≡ gathered_by done (view_of l) (card_row_at c) i

-- a tested list, with room on the card and in the sums, before any row is worked out
pub record Unworked (l c : List ℕ) (s : List Fed) : Type 0 where
  pub rows-to : rows l ≤ rows_most
  pub tested : rows_test l ≡ done
  pub card-room : rows l * column_count ≤ length c
  pub sums-room : rows l ≤ length s
  pub sums-clear : (i : ℕ) → fed_at s i ≡ nothing
