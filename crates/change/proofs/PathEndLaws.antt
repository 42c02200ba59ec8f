-- A replacement that passes 2, 3, 10, 4, 5 and 9 comes down to its path, worked out on the card as it is found; how that ends.
use Rattle.std.proofs.Common.{Err}
use Rattle.answers.specs.Answer.{Answer, done}
use mathlib.Core.Path.{◌≡◌, ap, ◌∙◌}
use mathlib.Core.List.{List}
use Prim.Native.Nat.{ℕ, ◌-◌, ◌*◌, ◌≤◌, ◌<◌}
use lib.ListN.{length}
use Rattle.answers.proofs.AnswerLaws.{unsettled-not-done}
use Rattle.layout.specs.Card.{card_row_at}
use Rattle.layout.specs.Counts.{column_count}
use Rattle.layout.specs.List.{rows}
use Rattle.layout.specs.Range.{AllBounded}
use Rattle.layout.specs.View.{view_of}
use Rattle.rows.specs.InRange.{SizeGets, RowsGet}
use Rattle.rows.specs.Tests.{size_test, rows_test}
use Rattle.rows.proofs.ExactLaws.{get-size, size-rows, get_rows}
use Rattle.rowwise.specs.WorkOut.{Worked, on_passed, work_out}
use Rattle.path.specs.CardTest.{CardGets}
use Rattle.path.specs.Reach.{reach}
use Rattle.path.proofs.CardTestLaws.{get-card}
use Rattle.change.specs.AnyCard.{PathRefused, NO-PICKUP, CURVE, DELAY, Visits}
use Rattle.change.specs.Gets.{made, Passes}
use Rattle.change.specs.Replace.{Replaced, reworked, outcome, replaced}
use Rattle.change.proofs.ReachedLaws.{Climbed}
use Rattle.change.proofs.AlongLaws.{climbed}
use Rattle.change.proofs.EditedLaws.{edited-rows, edited-is-row}
use Rattle.change.proofs.SeriesLaws.{replaced-edited}

-- a refusal along the path is no Done
pub refused-not-done : {l : List ℕ} {i : ℕ} {c : List ℕ} {x : Answer} → PathRefused l i c x → x ≡ done → ⊥
refused-not-done (NO-PICKUP k j why u n) e = unsettled-not-done e
refused-not-done (CURVE k j x place u p n) e = unsettled-not-done e
refused-not-done (DELAY k j x u p r n) e = unsettled-not-done e

module _ (l c : List ℕ) (place : ℕ) (row : List ℕ) (p : Passes l c place row) where
  abbrev l' : List ℕ
  l' = made l place row

  same_rows : rows l ≡ rows l'
  same_rows = edited-rows l place row p.fits.edit

  pub is_row : place - 1 < rows (made l place row)
  is_row = rw (← same_rows) (edited-is-row l place row p.fits.edit)

  bounded : AllBounded (view_of l')
  bounded j h = (p.in-range j h).bounded

  room : rows l' * column_count ≤ length c
  room = rw (← same_rows) p.fits.room

  size-passed : size_test (length l) (length c) ≡ done
  size-passed = get-size l (length c) (SizeGets.passed p.fits.right-size p.fits.room)

  rows-passed : rows_test l' ≡ done
  rows-passed = get_rows l' (rw (← same_rows) (size-rows l p.fits.right-size)) (RowsGet.passed p.in-range p.feeds)

  works : replaced l c place row ≡ outcome l c l' (place - 1) (work_out l' (reach l' (place - 1) c) c)
  unfolding reworked on_passed
  works =
      replaced-edited l c place row size-passed p.fits.edit ∙
      ap (outcome l c l' (place - 1)) (rw (rows-passed, get-card l' (place - 1) c (CardGets.passed p.card)))

  -- how it ends
  pub data Ended : Type 0 where
    worked :
        (replaced l c place row).answer ≡ done →
        Visits (made l place row) (place - 1) c (card_row_at (replaced l c place row).card) (replaced l c place row).count → Ended
    refused-by : (x : Answer) → (replaced l c place row).answer ≡ x → PathRefused (made l place row) (place - 1) c x → Ended

  pub ended : Ended
  unfolding outcome
  ended = by_cases (climbed l' bounded p.feeds (place - 1) is_row c room) works
    where
      by_cases :
          {w : Worked} → Climbed l' (place - 1) c (place - 1) (reach l' (place - 1) c) w →
          replaced l c place row ≡ outcome l c l' (place - 1) w → Ended
      by_cases (Climbed.worked-to c' s w n) e =
          worked (ap (λ (r : Replaced). r.answer) e)
          (rw e (record { last = s; worked = w; counted = n }))
      by_cases (Climbed.refused-by x z) e = refused-by (Err x) (ap (λ (r : Replaced). r.answer) e) z
