-- DEMAND 2, for a list in range whose rows feed as section 2 says, with room for its card:
--     accepted-meets          the card given meets every condition of pickup, sensitivity, delay and step together, its pickups being the least
--     settings-accepted       where, at the least pickups, some delays and multipliers that are offered meet them all, a card is given
--     accepted-exactly        the two together
--     no-lower-pickup         no other set of pickups that meet P1 to P4 is lower in primary in any row
--     no-lower-no-shorter     no other set of settings that meets every condition has a lower pickup, a shorter delay or a lesser multiplier
--     law-column, cutoff-column      the law column is the list's; the cutoff column is section 3's, by `cutoff-exactly` of settle
--     refused-names           any other list gets 11, 12, 13, 14 or 7 at the first row that no pickup, or else no setting, fits
--     past-the-card-kept, refused-card-kept      what stands in the lent card otherwise
-- That the least pickups exist where any do is `least-pickups-exist` (LeastSetLaws.antt).
-- `whole` is the definition that the public entry's contract cites (specs/Whole.antt).
use Rattle.answers.specs.declared.Refusal.TheVariants.{Unsettled}
use Rattle.answers.specs.Answer.{Answer, done}
use Rattle.std.proofs.Common.{Ok, Err}
use mathlib.Core.Path.{◌≡◌, refl, sym, ap, ◌∙◌}
use mathlib.Core.Logic.{◌↔◌, ◌⊎◌, inl, inr, ⊎_elim}
use mathlib.Core.List.{List}
use Prim.Native.Nat.{ℕ, ◌*◌, ◌≤◌, ◌<◌}
use native.Mathlib.Omega.{arith}
use lib.ListN.{length, drop}
use Rattle.fold.proofs.BoolLaws.{zero-not-one, not-both}
use Rattle.answers.specs.declared.Cause.{Cause}
use Rattle.answers.proofs.AnswerLaws.{unsettled-not-done}
use Rattle.answers.specs.declared.Reason.TheVariants.{Pickup, Curve, Delay}
use Rattle.layout.specs.Card.{card_row_at}
use Rattle.layout.specs.Counts.{column_count}
use Rattle.layout.specs.List.{rows, row_at}
use Rattle.layout.specs.View.{View, view_of, Settings}
use Rattle.layout.specs.Range.{AllBounded}
use Rattle.rows.specs.InRange.{RightSize, HasRoom, InRange, Feeds, SizeGets}
use Rattle.rows.specs.Tests.{size_test, rows_test}
use Rattle.rows.proofs.InRangeLaws.{in-range-passes}
use Rattle.rows.proofs.ExactLaws.{get-size, size-rows}
use Rattle.settle.specs.Settle.{cutoff_of, printed}
use Rattle.settle.specs.Conditions.{primary_of, pickup_at, setting_of}
use Rattle.settle.specs.Inequalities.{CauseIs, LeastPickup, TimeMet, LeastRow, RowSettled}
use Rattle.sides.specs.declared.Secondary.{Secondary}
use Rattle.settle.proofs.SameLaws.{fed-below}
use Rattle.settle.proofs.CauseTheorems.{cause-no-pickup}
use Rattle.settle.proofs.SettledTheorems.{settled-least}
use Rattle.rowwise.specs.WorkOut.{Worked, finished, refused, on_passed}
use Rattle.rowwise.specs.Working.{every_row}
use Rattle.calculate.specs.Meets.{PickupsMeet, Meets}
use Rattle.calculate.specs.Refused.{UpTo, RefusedAt, NO-PICKUP, CURVE, DELAY}
use Rattle.calculate.specs.Whole.{Result, ending, calculation, whole}
use Rattle.calculate.proofs.FrameLaws.{calculation-keeps}
use Rattle.calculate.proofs.LeastLaws.{same-primary, least-pickup-same, pickups-under-on, pickup-fits-on, time-fits-on, times-under-on}
use Rattle.calculate.proofs.LeastSetLaws.{least-row-by-row, set-of-rows}
use Rattle.calculate.proofs.MeetsLaws.{Under, curve-not-runs}
use Rattle.calculate.proofs.RefusedLaws.{refused-not-done, calculation-refused}
use Rattle.calculate.proofs.SettledLaws.{calculation-settled}

-- no answer is two things at once
pickup-not-delay : {row row' : ℕ} {why : Cause} → ◌≡◌ {A = Answer} (Err (Unsettled row (Pickup why))) (Err (Unsettled row' Delay)) → ⊥
pickup-not-delay e = zero-not-one cc

pickup-not-curve : {row row' place : ℕ} {why : Cause} → ◌≡◌ {A = Answer} (Err (Unsettled row (Pickup why))) (Err (Unsettled row' (Curve place))) → ⊥
pickup-not-curve e = zero-not-one cc

module _ (l c : List ℕ) (size : RightSize l) (room : HasRoom l (length c)) (a : InRange l) (b : Feeds l) where
  v : View
  v = view_of l

  -- the card that stands there afterwards
  card : Settings
  card = card_row_at (whole l c).card

  bounded : AllBounded v
  unfolding v
  bounded j h = (a j h).bounded

  calculates : whole l c ≡ ending c (calculation l c)
  unfolding whole ending on_passed
  calculates = rw (get-size l (length c) (SizeGets.passed size room), in-range-passes l (size-rows l size) a b)

  -- a card is given exactly where the calculation finishes, and it is that card; any other list is refused by row
  data Ended : Type 0 where
    accepted : (whole l c).answer ≡ done → calculation l c ≡ finished (whole l c).card → Ended
    refused-by : (x : Answer) → (whole l c).answer ≡ x → RefusedAt v x → Ended

  ended : Ended
  unfolding ending v
  ended = by_cases (calculation l c) refl
    where
      by_cases : (w : Worked) → calculation l c ≡ w → Ended
      by_cases (finished c') f =
          let q = calculates ∙ ap (ending c) f in
          accepted (ap (λ (r : Result). r.answer) q) (f ∙ ap finished (sym (ap (λ (r : Result). r.card) q)))
      by_cases (refused x) f =
          refused-by (Err x) (ap (λ (r : Result). r.answer) (calculates ∙ ap (ending c) f)) (calculation-refused l bounded b c x room f)

  every-row-settled : (whole l c).answer ≡ done → (j : ℕ) → j < rows l → RowSettled v card j
  unfolding v card
  every-row-settled e = by_cases ended
    where
      by_cases : Ended → (j : ℕ) → j < rows l → RowSettled v card j
      by_cases (accepted d f) = calculation-settled l b c (whole l c).card room f
      by_cases (refused-by x d z) = absurd (refused-not-done z (sym d ∙ e))

  -- each row of the card stands at its own least settings
  pub accepted-least : (whole l c).answer ≡ done → (j : ℕ) → j < rows l → LeastRow (view_of l) (card_row_at (whole l c).card) j
  unfolding v card
  accepted-least e j h = settled-least v card j (bounded j h) (every-row-settled e j h)

  pub accepted-meets : (whole l c).answer ≡ done → Meets (view_of l) (card_row_at (whole l c).card)
  unfolding v card
  accepted-meets e =
      record {
        pickups = set-of-rows v (fed-below l b) card (λ j h. (accepted-least e j h).pickup);
        times = record { law = λ i h. (accepted-least e i h).law; met = λ i h. (accepted-least e i h).time };
      }

  -- pickups that meet P1 to P4: no row is refused with RANGE, OWN ZONE or BACKUP, and none of the card's is higher
  module _ (k : Settings) (m : PickupsMeet (view_of l) k) where
    fits-too : (s : Settings) (i : ℕ) (why : Cause) → UpTo v s i → CauseIs v s i why → ⊥
    unfolding v
    fits-too s i why u n =
        pickup-fits-on v (fed-below l b) every_row (rows l) s k (λ j _ o. absurd (not-both refl o)) (λ i h _. m.available i h) (λ i h _. m.met i h)
        i u.is_row refl (λ j g _. (u.rows-below j g).pickup) (cause-no-pickup v s i n)

    pub pickups-exist : (row : ℕ) (why : Cause) → (whole l c).answer ≡ Err (Unsettled row (Pickup why)) → ⊥
    pickups-exist row why e = by_cases ended
      where
        by_cases : Ended → ⊥
        by_cases (accepted d f) = unsettled-not-done (sym e ∙ d)
        by_cases (refused-by x d (NO-PICKUP s i why u n)) = fits-too s i why u n
        by_cases (refused-by x d (CURVE s i y place u p n)) = pickup-not-curve (sym e ∙ d)
        by_cases (refused-by x d (DELAY s i y u p r n)) = pickup-not-delay (sym e ∙ d)

    pub no-lower-pickup : (whole l c).answer ≡ done → (i : ℕ) → i < rows l → (pickup_at (view_of l) (card_row_at (whole l c).card) i).0 ≤ (pickup_at (view_of l) k i).0
    no-lower-pickup e = (accepted-meets e).pickups.least k m

  -- settings whose pickups are the least and which meet every condition
  module _ (k : Settings) (m : Meets (view_of l) k) where
    abbrev least : (i : ℕ) → i < rows l → LeastPickup (view_of l) k i (k i).pickup
    least = least-row-by-row (view_of l) k m.pickups

    -- rows at their least pickups below row i have those of k
    same-pickups :
        (s : Settings) (i : ℕ) → i ≤ rows l → ((j : ℕ) → j < i → LeastPickup v s j (s j).pickup) → (j : ℕ) → j < i → pickup_at v s j ≡ pickup_at v k j
    unfolding v
    same-pickups s i h all j g =
        same-primary
        (pickups-under-on v (fed-below l b) every_row i s k (λ j _ o. absurd (not-both refl o)) (λ x q _. m.pickups.meet.available x (omega arith))
        (λ x q _. m.pickups.meet.met x (omega arith)) i (omega arith) (λ x q _. all x q) j g)
        (pickups-under-on v (fed-below l b) every_row i k s (λ j _ o. absurd (not-both refl o)) (λ x q _. (all x q).available) (λ x q _. (all x q).met)
        i (omega arith) (λ x q _. least x (omega arith)) j g)

    -- and then, row by row, no greater settings
    under : (s : Settings) (i : ℕ) → i ≤ rows l → ((j : ℕ) → j < i → LeastRow v s j) → (j : ℕ) → j < i → Under v s k j
    unfolding v
    under s i h all =
        times-under-on v (fed-below l b) every_row (rows l) s k (λ j _ o. absurd (not-both refl o)) (λ x q _. m.times.law x q)
        (λ x q _. m.times.met x q) i h (λ j g _. all j g) (λ j g _. same-pickups s i h (λ j g. (all j g).pickup) j g)

    -- so the setting of k meets the conditions of the next row, at its least pickup
    setting-fits : (s : Settings) (i : ℕ) (x : Secondary) → UpTo v s i → LeastPickup v s i x → TimeMet v s i (primary_of (v.row i) x) (setting_of (k i))
    unfolding v
    setting-fits s i x u p =
        time-fits-on v (fed-below l b) every_row (rows l) s k (λ j _ o. absurd (not-both refl o)) (λ x q _. m.times.law x q)
        (λ x q _. m.times.met x q) i u.is_row refl (under s i (omega (arith, u.is_row)) u.rows-below) (primary_of (v.row i) x)
        (least-pickup-same v (fed-below l b) s k i (same-pickups s i (omega (arith, u.is_row)) (λ j g. (u.rows-below j g).pickup)) x (k i).pickup p
        (least i u.is_row))

    pub settings-accepted : (whole l c).answer ≡ done
    unfolding v
    settings-accepted = by_cases ended
      where
        by_cases : Ended → (whole l c).answer ≡ done
        by_cases (accepted d f) = d
        by_cases (refused-by x d (NO-PICKUP s i why u n)) = absurd (fits-too k m.pickups.meet s i why u n)
        by_cases (refused-by x d (CURVE s i y place u p n)) = absurd (curve-not-runs v s i _ n (setting-fits s i y u p).runs)
        by_cases (refused-by x d (DELAY s i y u p r n)) = absurd (n _ (setting-fits s i y u p))

    pub no-lower-no-shorter :
        (i : ℕ) → i < rows l →
        ((pickup_at (view_of l) (card_row_at (whole l c).card) i).0 ≤ (pickup_at (view_of l) k i).0) ×
        (setting_of (card_row_at (whole l c).card i) ≤ setting_of (k i))
    unfolding v card
    no-lower-no-shorter i h = (
      no-lower-pickup k m.pickups.meet settings-accepted i h,
      (under card (rows l) (omega arith) (accepted-least settings-accepted) i h).setting-to,
    )

  pub accepted-exactly : ((whole l c).answer ≡ done) ↔ ((k : Settings) × Meets (view_of l) k)
  accepted-exactly = (λ e. (card_row_at (whole l c).card, accepted-meets e), λ s. settings-accepted s.0 s.1)

  pub law-column : (whole l c).answer ≡ done → (i : ℕ) → i < rows l → (card_row_at (whole l c).card i).law ≡ (row_at l i).law
  unfolding v card
  law-column e i h = (accepted-least e i h).law

  pub cutoff-column : (whole l c).answer ≡ done → (i : ℕ) → i < rows l → (card_row_at (whole l c).card i).cutoff ≡ printed (cutoff_of (row_at l i))
  unfolding v card
  cutoff-column e i h = (accepted-least e i h).cutoff

  pub done-or-refused : ((whole l c).answer ≡ done) ⊎ RefusedAt (view_of l) (whole l c).answer
  unfolding v
  done-or-refused = by_cases ended
    where
      by_cases : Ended → ((whole l c).answer ≡ done) ⊎ RefusedAt (view_of l) (whole l c).answer
      by_cases (accepted d f) = inl d
      by_cases (refused-by x d z) = inr (rw d z)

  pub refused-names : ((whole l c).answer ≡ done → ⊥) → RefusedAt (view_of l) (whole l c).answer
  refused-names n = ⊎_elim (λ d. absurd (n d)) (λ z. z) done-or-refused

  pub past-the-card-kept : (whole l c).answer ≡ done → drop (rows l * column_count) (whole l c).card ≡ drop (rows l * column_count) c
  past-the-card-kept e = by_cases ended
    where
      by_cases : Ended → drop (rows l * column_count) (whole l c).card ≡ drop (rows l * column_count) c
      by_cases (accepted d f) = (calculation-keeps l c (whole l c).card f).past-rows
      by_cases (refused-by x d z) = absurd (refused-not-done z (sym d ∙ e))

-- whatever is refused, the lent card is as it was lent
kept_by :
    (c : List ℕ) (t u : Answer) (w : Worked) → ((ending c (on_passed t (on_passed u w))).answer ≡ done → ⊥) →
    (ending c (on_passed t (on_passed u w))).card ≡ c
unfolding ending on_passed
kept_by c (Err x) u w n = refl
kept_by c (Ok _) (Err x) w n = refl
kept_by c (Ok _) (Ok _) (finished c') n = absurd (n refl)
kept_by c (Ok _) (Ok _) (refused x) n = refl

pub refused-card-kept : (l c : List ℕ) → ((whole l c).answer ≡ done → ⊥) → (whole l c).card ≡ c
unfolding whole
refused-card-kept l c n = kept_by c (size_test (length l) (length c)) (rows_test l) (calculation l c) n
