-- [02 §8] How far a change goes: "Stop climbing at the first feeding row, after the replaced one, whose new card row equals its old
-- one." The rows of a path that are worked out, one after the other as `work_out` does. `Reaches` says it as a reader would; `reach`
-- lists the same rows (proofs/ReachLaws.antt). What they come to, by inequalities, is in specs/AnyCard.antt of `change`. Rows are
-- counted from 0. Definitions only.
use Rattle.settle.specs.Outcomes.{Settled}
use Rattle.std.specs.Prelude.{◌≡◌, Bool, true, false, cond, ◌&&◌, List, [], ◌∷◌, ℕ, ◌-◌, Ok, Err}
use Rattle.answers.specs.declared.Reason.{Reason}
use Rattle.layout.specs.declared.CardRow.{CardRow}
use Rattle.layout.specs.Card.{card_row_at, put_card_row, same_card_row}
use Rattle.layout.specs.Fields.{at_feeder}
use Rattle.layout.specs.List.{field}
use Rattle.layout.specs.View.{view_of}
use Rattle.settle.specs.declared.Outcome.{Outcome}
use Rattle.settle.specs.Settle.{shown, settled}
use Rattle.path.specs.Path.{path_of}

-- what row j comes to on the card c
abbrev pub comes_to : List ℕ → ℕ → List ℕ → Settled
comes_to l j c = settled (view_of l) (card_row_at c) j

-- the rows worked out from row j on, on the card c; `feeding` is false where row j is the replaced one. Row j is the last of them where
-- it is refused, where the source feeds it, and, if it is a feeding row, where it comes out as it was; otherwise the row that feeds it
-- is next, on the card with row j put in
pub data Reaches (l : List ℕ) : Bool → ℕ → List ℕ → List ℕ → Type 0 where
  refused-there : (feeding : Bool) (j : ℕ) (c : List ℕ) (why : Reason) → comes_to l j c ≡ Err why → Reaches l feeding j c (j ∷ [])
  at_source : (feeding : Bool) (j : ℕ) (c : List ℕ) (o : Outcome) → comes_to l j c ≡ Ok o → field l j at_feeder ≡ 0 → Reaches l feeding j c (j ∷ [])
  as_it_was : (j : ℕ) (c : List ℕ) (o : Outcome) → comes_to l j c ≡ Ok o → card_row_at c j ≡ shown o → Reaches l true j c (j ∷ [])
  goes_on :
      (feeding : Bool) (j : ℕ) (c : List ℕ) (o : Outcome) (is : List ℕ) → comes_to l j c ≡ Ok o → (field l j at_feeder ≡ 0 → ⊥) →
      (feeding ≡ true → card_row_at c j ≡ shown o → ⊥) → Reaches l true (field l j at_feeder - 1) (put_card_row c j (shown o)) is →
      Reaches l feeding j c (j ∷ is)

-- the rows after one that was `old`, by what it comes to
unfoldable pub onward : Bool → CardRow → Settled → (CardRow → List ℕ) → List ℕ
onward feeding old (Ok o) next = cond (feeding && same_card_row old (shown o)) [] (next (shown o))
onward feeding old (Err why) next = []

-- the rows of `is`, each fed by the one before it, that are worked out on the card c
unfoldable pub reach_from : List ℕ → Bool → List ℕ → List ℕ → List ℕ
reach_from l feeding [] c = []
reach_from l feeding (j ∷ is) c = j ∷ onward feeding (card_row_at c j) (comes_to l j c) (λ k. reach_from l true is (put_card_row c j k))

-- those of the path of the replaced row i
abbrev pub reach : List ℕ → ℕ → List ℕ → List ℕ
reach l i c = reach_from l false (path_of l i) c
