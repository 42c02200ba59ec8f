-- [00, demand 3; 01 §4] What is claimed of a series of replacements, of one on an accepted list and its card, and of one that is done
-- with any card. An accepted list l with its card c: `whole l c₀` is Done with card c, where c₀ is the card as it was lent.
-- Definitions only.
use Rattle.answers.specs.Answer.{done}
use Rattle.std.specs.Prelude.{◌≡◌, ◌⊎◌, List, ℕ, ◌+◌, ◌-◌, ◌*◌, ◌≤◌, ◌<◌, length, get_or, drop}
use Rattle.layout.specs.Card.{card_row_at}
use Rattle.layout.specs.Counts.{field_count, column_count}
use Rattle.layout.specs.List.{rows}
use Rattle.calculate.specs.Whole.{whole}
use Rattle.path.specs.Path.{OnPath}
use Rattle.change.specs.Edit.{put_list}
use Rattle.change.specs.Replace.{replaced}
use Rattle.change.specs.Series.{Request, replacements, ledger}

-- "After every series, the replacements' answers equal the ledger's one by one, in number and place. The lent list equals the
-- ledger's. The lent card is, to its last number, what the whole calculation of that list leaves in the card as it was at the
-- start": as it was lent, and as the first calculation left it.
pub record AfterSeries (l c₀ c : List ℕ) (series : List Request) : Type 0 where
  pub answers : (replacements l c series).answers ≡ (ledger l series).answers
  pub list : (replacements l c series).list ≡ (ledger l series).list
  pub accepted : (whole (ledger l series).list c₀).answer ≡ done
  pub card : (replacements l c series).card ≡ (whole (ledger l series).list c₀).card
  pub card-again : (replacements l c series).card ≡ (whole (ledger l series).list c).card

-- "Any other is done exactly when the whole calculation accepts the list it would make; if not, it gives the number and place the
-- whole calculation gives for that list."
pub record AsWhole (l c₀ c : List ℕ) (place : ℕ) (row : List ℕ) : Type 0 where
  pub answer : (replaced l c place row).answer ≡ (whole (put_list l (place - 1) row) c₀).answer
  pub answer-on-card : (replaced l c place row).answer ≡ (whole (put_list l (place - 1) row) c).answer
  pub list-when-done : (replaced l c place row).answer ≡ done → (replaced l c place row).list ≡ put_list l (place - 1) row
  pub card-when-done : (replaced l c place row).answer ≡ done → (replaced l c place row).card ≡ (whole (put_list l (place - 1) row) c₀).card

-- "After a replacement that is done the list holds the new row in the old one's place and is otherwise unchanged"; "card rows off
-- the replaced row's path to the source keep their numbers"; "card numbers past 3 per row are unchanged" (5 per row with [02 §3]): with any card. l' and c'
-- are the list and the card afterwards.
pub record LeftAlone (l c : List ℕ) (place : ℕ) (row l' c' : List ℕ) : Type 0 where
  pub list : l' ≡ put_list l (place - 1) row
  pub list_length : length l' ≡ length l
  pub new_row : (k : ℕ) → k < field_count → get_or l' ((place - 1) * field_count + k) 0 ≡ get_or row k 0
  pub other-rows : (x : ℕ) → (x < (place - 1) * field_count) ⊎ ((place - 1) * field_count + field_count ≤ x) → get_or l' x 0 ≡ get_or l x 0
  pub card-length : length c' ≡ length c
  pub off-path : (j : ℕ) → (OnPath l (place - 1) j → ⊥) → card_row_at c' j ≡ card_row_at c j
  pub past-rows : drop (rows l * column_count) c' ≡ drop (rows l * column_count) c
