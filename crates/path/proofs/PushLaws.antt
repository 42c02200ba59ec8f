-- A row that is counted as done with the settings found on the card, and what it asks added to the sums, keeps the sums true.
use Rattle.settle.specs.declared.Fed.{Fed}
use mathlib.Core.Path.{◌≡◌, ◌∙◌, subst}
use mathlib.Core.Bool.{Bool, true, false, ◌||◌}
use mathlib.Core.List.{List}
use Prim.Native.Nat.{ℕ, ◌-◌, ◌≤◌, ◌<◌}
use lib.Dec.{eqb}
use Rattle.fold.proofs.FoldLaws.{sum_to-same, max_to-same}
use Rattle.layout.specs.Card.{card_row_at}
use Rattle.layout.specs.List.{rows, row_at}
use Rattle.layout.proofs.CardLaws.{put_card_row-stands}
use Rattle.settle.specs.Fed.{CardBounded}
use Rattle.rowwise.specs.Ready.{PushReady}
use Rattle.rowwise.specs.Sums.{pushed}
use Rattle.rowwise.specs.Working.{Working}
use Rattle.rowwise.proofs.SumsLaws.{same-fed}
use Rattle.rowwise.proofs.WorkingLaws.{has-feeder, work-next}

-- the same rows done, and no more that matter
pub working-same :
    (l : List ℕ) (done done' matters matters' : ℕ → Bool) (c : List ℕ) (s : List Fed) → ((j : ℕ) → j < rows l → done j ≡ done' j) →
    ((j : ℕ) → matters' j ≡ true → matters j ≡ true) → Working l done matters c s → Working l done' matters' c s
working-same l done done' matters matters' c s e f w =
    record {
      rows-to = w.rows-to;
      in-range = w.in-range;
      feeds = w.feeds;
      card-room = w.card-room;
      sums-room = w.sums-room;
      settings-to = λ j b g. w.settings-to j b (e j b ∙ g);
      summed =
          λ k b m.
          w.summed k b (f k m) ∙
          same-fed
          (sum_to-same _ _ (rows l) (λ j h. rw (e j h)))
          (max_to-same _ _ (rows l) (λ j h. rw (e j h)))
          (max_to-same _ _ (rows l) (λ j h. rw (e j h)));
    }

module _ (l : List ℕ) (done matters : ℕ → Bool) (c : List ℕ) (s : List Fed) (w : Working l done matters c s) (i : ℕ) (h : i < rows l)
    (to : CardBounded (row_at l i) (card_row_at c i)) where
  pub push-ready : (1 ≤ (row_at l i).feeder → matters ((row_at l i).feeder - 1) ≡ true) → PushReady (row_at l i) (card_row_at c i) s
  push-ready f =
      record { bounded = (w.in-range i h).bounded; settings = to; feeder = has-feeder l done matters c s w i h f }

  -- the settings found are those that stand there
  pub push-next :
      done i ≡ false → (done' : ℕ → Bool) → ((j : ℕ) → done' j ≡ (done j || eqb j i)) →
      Working l done' matters c (pushed (row_at l i) (card_row_at c i) s)
  push-next new done' next =
      subst (λ (x : List ℕ). Working l done' matters x (pushed (row_at l i) (card_row_at c i) s))
      (put_card_row-stands c i)
      (work-next l done matters c s w i h new done' next matters (λ j m. m) (card_row_at c i) to)
