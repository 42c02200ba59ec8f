-- What the pass over the rows, from the last one down, asks and leaves row by row. Definitions only.
use Rattle.std.specs.Prelude.{◌≡◌, true, List, ℕ, ◌+◌, ◌≤◌, ◌<◌, length}
use Rattle.layout.specs.Counts.{rows_most}
use Rattle.layout.specs.List.{rows}
use Rattle.feeding.specs.declared.Links.{Links}
use Rattle.feeding.specs.Fed.{feeds, next_fed, link_at, link_to, FeederBehind}

-- the rows from k on are linked
pub record Linking (l : List ℕ) (links : List Links) (k : ℕ) : Type 0 where
  pub within : k ≤ rows l
  pub links-room : rows l ≤ length links
  pub firsts : (i : ℕ) → i < rows l → (link_at links i).first ≡ link_to (next_fed l i k)
  pub nexts :
      (i j : ℕ) → k ≤ j → j < rows l → feeds l i j ≡ true → (link_at links j).next ≡ link_to (next_fed l i (j + 1))

-- row k is the next to link
pub record RowReady (l : List ℕ) (links : List Links) (k : ℕ) : Type 0 where
  pub rows-to : rows l ≤ rows_most
  pub is_row : k < rows l
  pub feeder : FeederBehind l k
  pub above : Linking l links (k + 1)
