-- [01 §2] The rows that a row feeds, ascending: "fed rows are those it feeds directly". They are found once for the whole list and kept as
-- two numbers a row, so that going through the fed rows of every row takes no more steps than the list has rows. Rows are counted
-- from 0, but the numbers kept are those of the list, from 1. Definitions only.
use Rattle.std.specs.Prelude.{◌≡◌, Bool, true, cond, ◌≢◌, List, ℕ, ◌+◌, ◌-◌, ◌≤◌, ◌<◌, eqb, ltb, length, slice_index_or, Option, Some, None}
use Rattle.fold.specs.First.{first}
use Rattle.layout.specs.Counts.{rows_most}
use Rattle.layout.specs.Fields.{at_feeder}
use Rattle.layout.specs.List.{rows, field}
use Rattle.feeding.specs.declared.Links.{Links}

-- the number of the row that feeds row j, from 1; 0 for the source
abbrev pub feeder_of : List ℕ → ℕ → ℕ
feeder_of l j = field l j at_feeder

-- row i feeds row j
abbrev pub feeds : List ℕ → ℕ → ℕ → Bool
feeds l i j = eqb (feeder_of l j) (i + 1)

-- the first row from j on that row i feeds
abbrev pub next_fed : List ℕ → ℕ → ℕ → Option ℕ
next_fed l i j = first (feeds l i) j (rows l - j)

-- a row that was found, or the number of rows where none was
unfoldable pub found_or : ℕ → Option ℕ → ℕ
found_or n (Some j) = j
found_or n None = n

-- the first row from j on that row i feeds, or the number of rows where there is none
unfoldable pub fed_from : List ℕ → ℕ → ℕ → ℕ
fed_from l i j = found_or (rows l) (next_fed l i j)

-- the same said by the feeders' numbers: x is the least row from j on whose feeder is row number i + 1; or it is the number of rows,
-- and no row from j on has that feeder
pub record NextFed (l : List ℕ) (i j x : ℕ) : Type 0 where
  pub from : j ≤ x
  pub to : x ≤ rows l
  pub fed : x < rows l → field l x at_feeder ≡ i + 1
  pub none_before : (y : ℕ) → j ≤ y → y < x → field l y at_feeder ≢ i + 1

-- what is kept for a row that is not linked yet
abbrev pub unlinked : Links
unlinked = record { first = 0; next = 0 }

-- what is kept for row i
abbrev pub link_at : List Links → ℕ → Links
link_at links i = slice_index_or links i unlinked

-- row x of n rows, if it is one of them
unfoldable pub row_among : ℕ → ℕ → Option ℕ
row_among n x = cond (ltb x n) (Some x) None

-- the number that is kept for a row, from 1; 0 for none
abbrev pub link_to : Option ℕ → ℕ
link_to (Some x) = x + 1
link_to None = 0

pub record Linked (l : List ℕ) (links : List Links) : Type 0 where
  pub room : rows l ≤ length links
  pub firsts : (i : ℕ) → i < rows l → (link_at links i).first ≡ link_to (next_fed l i 0)
  pub nexts : (i j : ℕ) → j < rows l → feeds l i j ≡ true → (link_at links j).next ≡ link_to (next_fed l i (j + 1))

-- row j is fed by the source, or by a row behind it
abbrev pub FeederBehind : List ℕ → ℕ → Type 0
FeederBehind l j = feeder_of l j ≢ 0 → (j + 1 < feeder_of l j) × (feeder_of l j ≤ rows l)

-- every row is; no row is linked yet; and there is room
pub record LinkReady (l : List ℕ) (links : List Links) : Type 0 where
  pub rows-to : rows l ≤ rows_most
  pub feeders : (j : ℕ) → j < rows l → FeederBehind l j
  pub links-room : rows l ≤ length links
  pub links-clear : (i : ℕ) → link_at links i ≡ unlinked
