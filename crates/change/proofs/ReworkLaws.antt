-- After an edit of an accepted list, a row that is not the new one and does not feed it has the same fields, fed rows and card numbers
-- as before, so it stands at its own least settings. So do the rows off the path, and those past its first two: the path worked out on
-- the card, as far as the climb goes, is then the whole calculation of the new list.
use Rattle.answers.specs.Answer.{Answer, done}
use Rattle.std.proofs.Common.{Ok, Err}
use mathlib.Core.Path.{◌≡◌, refl, sym, ap, ◌∙◌, subst}
use mathlib.Core.Bool.{true, false}
use mathlib.Core.Logic.{⊎_elim}
use borrow.Author.Tests.{eqb-true, eqb-false}
use mathlib.Core.List.{List}
use Prim.Native.Nat.{ℕ, ◌+◌, ◌-◌, ◌*◌, ◌≤◌, ◌<◌}
use native.Mathlib.Omega.{arith}
use lib.Dec.{eqb}
use lib.ListN.{length, drop}
use Rattle.rowwise.specs.WorkOut.{on_passed}
use Rattle.fold.proofs.BoolLaws.{passes-or-fails, not-both, fails}
use Rattle.layout.specs.Card.{card_row_at}
use Rattle.layout.specs.Counts.{column_count}
use Rattle.layout.specs.List.{rows, row_at}
use Rattle.layout.specs.declared.Row.{Row}
use Rattle.layout.specs.Range.{CardRowInRange}
use Rattle.layout.proofs.RangeLaws.{widen}
use Rattle.sides.specs.Sides.{setting_most}
use Rattle.sides.proofs.SidesLaws.{setting-to}
use Rattle.layout.specs.View.{view_of}
use Rattle.rows.specs.InRange.{Feeds}
use Rattle.rows.specs.Tests.{rows_test}
use Rattle.rows.proofs.InRangeLaws.{passed-in-range, passed-feeds}
use Rattle.settle.specs.Conditions.{fed}
use Rattle.settle.proofs.SameLaws.{settled_same}
use Rattle.calculate.specs.Whole.{calculation}
use Rattle.calculate.proofs.FrameLaws.{calculation-keeps}
use Rattle.calculate.proofs.SettledLaws.{Settles}
use Rattle.path.specs.Path.{on_path}
use Rattle.change.specs.Edit.{put_list, EditFits}
use Rattle.change.specs.Replace.{reworked}
use Rattle.path.specs.CardTest.{lent_most, CardGets, card_test}
use Rattle.change.proofs.AcceptLaws.{Accepts, settled-fits, accepted-room, accepted-length, rows_settled}
use Rattle.change.proofs.EditedLaws.{edited-rows, edited-is-row, edited-row, edited-feeder}
use Rattle.path.proofs.PathLaws.{on-self, on-within}
use Rattle.change.proofs.SkipLaws.{Rests, fed-off, calculation-path, calculation-same}
use Rattle.change.proofs.StopLaws.{Stand, reach-whole}
use Rattle.path.proofs.CardTestLaws.{lent-replaced, lent_other, get-card}

module _ (l c₀ c : List ℕ) (x : Accepts l c₀ c) (place : ℕ) (row : List ℕ) (f : EditFits l place row) where
  abbrev l' : List ℕ
  l' = put_list l (place - 1) row

  same_rows : (P : ℕ → Type 0) → P (rows l) → P (rows l')
  same_rows P h = subst P (edited-rows l place row f) h

  -- 4 and 5 pass for the new list too
  module _ (e : rows_test l' ≡ done) where
    feeds : Feeds l'
    feeds = passed-feeds l' e

    is_row : place - 1 < rows l'
    is_row = same_rows (λ n. place - 1 < n) (edited-is-row l place row f)

    below : (j : ℕ) → j < rows l' → j < rows l
    below j h = rw (edited-rows l place row f) h

    -- a card row in range for the old list is in range for the new one: the new row's own goes by document 01's limits
    lent_fits :
        (j : ℕ) → CardRowInRange (setting_most (row_at l j).ratio.primary) (card_row_at c j) → CardRowInRange (lent_most l' (place - 1) j) (card_row_at c j)
    lent_fits j r =
        ⊎_elim
        (λ (e : eqb j (place - 1) ≡ true).
        subst (λ (m : ℕ). CardRowInRange m (card_row_at c j)) (sym (lent-replaced l' (place - 1) j (eqb-true j (place - 1) e)))
        (widen (card_row_at c j) (setting-to (row_at l j).ratio.primary) r))
        (λ (e : eqb j (place - 1) ≡ false).
        let n = eqb-false j (place - 1) e in
        subst (λ (m : ℕ). CardRowInRange m (card_row_at c j))
        (ap (λ (x : Row). setting_most x.ratio.primary) (edited-row l place row f j n) ∙ sym (lent_other l' (place - 1) j n)) r)
        (passes-or-fails (eqb j (place - 1)))

    card-passes : card_test l' (place - 1) c ≡ done
    card-passes =
        get-card l' (place - 1) c
        (CardGets.passed
        (λ j h. lent_fits j (settled-fits l (passed-in-range l x.tested) c j (below j h) (rows_settled l c₀ c x j (below j h)))))

    -- a row off the path is not the new one
    not_new : (j : ℕ) → on_path l' (place - 1) j ≡ false → j ≡ place - 1 → ⊥
    not_new j off q = not-both (on-self l' feeds (place - 1) is_row) (rw q at off)

    stands : (j : ℕ) → j < rows l' → (j ≡ place - 1 → ⊥) → fed (view_of l') j (place - 1) ≡ false → Settles l' c j
    stands j h other not-fed =
        let s = rows_settled l c₀ c x j (below j h) in
        record {
          outcome = s.outcome;
          settles =
              settled_same (view_of l') (view_of l) (card_row_at c) (card_row_at c) j (sym (edited-rows l place row f))
              (sym (edited-row l place row f j other))
              (λ k _. ap (λ (f : ℕ). eqb f (j + 1)) (sym (edited-feeder l place row f k)))
              (λ k _ g. sym (edited-row l place row f k (λ q. not-both g (rw q not-fed))))
              (λ k _ _. refl) ∙
              s.settles;
          shows = s.shows;
        }

    rests : Rests l' feeds (place - 1) is_row c
    unfolding Rests
    rests j h off =
        stands j h (not_new j off)
        (fails (fed (view_of l') j (place - 1)) (λ g. not_new (place - 1) (fed-off l' feeds (place - 1) is_row j (place - 1) off g) refl))

    stand : Stand l' feeds false (place - 1) c
    stand y o g not-fed = stands y (on-within l' feeds (place - 1) y is_row o) (λ q. omega arith) (not-fed refl)

    same-calculation : calculation l' c ≡ calculation l' c₀
    same-calculation =
        let room = same_rows (λ n. n * column_count ≤ length c₀) (accepted-room l c₀ c x) in
        calculation-same l' feeds c c₀ (rw (accepted-length l c₀ c x) room) room
        (same_rows (λ n. drop (n * column_count) c ≡ drop (n * column_count) c₀) (calculation-keeps l c₀ c x.calculated).past-rows)

  pub reworked-whole :
      reworked (put_list l (place - 1) row) (place - 1) c ≡ on_passed (rows_test (put_list l (place - 1) row))
      (calculation (put_list l (place - 1) row) c₀)
  unfolding reworked on_passed
  reworked-whole = by_cases (rows_test l') refl
    where
      by_cases : (t : Answer) → rows_test l' ≡ t → reworked l' (place - 1) c ≡ on_passed (rows_test l') (calculation l' c₀)
      by_cases (Ok _) e =
          rw (e, card-passes e)
          (reach-whole l' (feeds e) (place - 1) c (is_row e) (stand e) ∙
          sym (calculation-path l' (feeds e) (place - 1) (is_row e) c (rests e)) ∙ same-calculation e)
      by_cases (Err a) e = rw e
