-- A row is settled, or refused with RANGE, OWN ZONE or BACKUP, with CURVE or with DELAY, exactly as sections 3 and 4 and requests §2 and §3
-- say. That its fields are in range is section 2's. Read with specs/Inequalities.antt.
use Rattle.std.proofs.Common.{Option, Some, None, Ok, Err}
use mathlib.Core.Path.{◌≡◌, refl, sym, ap, ◌∙◌, subst}
use mathlib.Core.Bool.{true}
use mathlib.Core.Logic.{◌↔◌}
use Prim.Native.Nat.{ℕ, ◌≤◌}
use native.Mathlib.Omega.{arith}
use Rattle.fold.proofs.BoolLaws.{fails, not-both}
use Rattle.grid.specs.Grid.{Available}
use Rattle.grid.proofs.GridLaws.{least_on-least, least_on-nothing, least_on-is, least_on-none}
use Rattle.answers.specs.declared.Cause.{Cause}
use Rattle.answers.specs.declared.Cause.TheVariants.{Range}
use Rattle.answers.specs.declared.Reason.TheVariants.{Pickup, Curve, Delay}
use Rattle.layout.specs.declared.CardRow.{CardRow}
use Rattle.layout.specs.Range.{Bounded}
use Rattle.layout.specs.View.{View, Settings}
use Rattle.layout.proofs.CardLaws.{same-columns}
use Rattle.settle.specs.declared.Outcome.{Outcome}
use Rattle.sides.specs.declared.Primary.{Primary}
use Rattle.sides.specs.declared.Secondary.{Secondary}
use Rattle.settle.specs.Conditions.{primary_of, pickup_at, multiple_at, setting_of}
use Rattle.settle.specs.Inequalities.{LeastPickup, Runs, CurveIs, TimeMet, NoTime}
use Rattle.settle.specs.Inequalities.{NoCandidate, CauseIs, LeastRow, RowSettled}
use Rattle.settle.specs.Inequalities.CauseIs.{RANGE}
use Rattle.settle.specs.Settle.{pickup_of, stalled, meets_time, least_setting, tried_from, tried_to}
use Rattle.settle.specs.Settle.{cutoff_of, printed, shown, timed, outcome_of, settled}
use Rattle.settle.proofs.CauseTheorems.{range-means, cause-exactly, fits-exactly, least-candidate}
use Rattle.settle.proofs.TimeTheorems.{Timely, time-exactly, curve-exactly, runs-all-exactly}
use Rattle.settle.proofs.TimeLaws.{by-law, is-curve, no-curve, setting-shown, tried-offered, offered-tried}
use Rattle.settle.proofs.OutcomeLaws.{outcome-set, outcome-no-pickup, outcome-curve, outcome-no-delay}

module _ (v : View) (k : Settings) (i : ℕ) (a : Bounded (v.row i)) where
  -- the second stage, for a pickup: the row whose M is at most 1.000, and the least setting
  abbrev slow : Primary → Option ℕ
  slow = stalled v k i (v.row i)

  abbrev least : Primary → Option ℕ
  least I = least_setting (v.row i) (meets_time v k i (v.row i) I)

  -- the pickup that is found is the least
  pub pickup-exactly : (x : Secondary) → (pickup_of v k i ≡ Ok x) ↔ LeastPickup v k i x
  pickup-exactly x = (
    λ e.
        let m = (fits-exactly v k i a.step_from x).0 e in
        record { available = m.0.available; met = m.1; no_lower = λ y b h. m.0.least y b h.P1-P2 },
    λ m. (fits-exactly v k i a.step_from x).1 (least-candidate v k i x m.available m.met m.no_lower, m.met),
  )

  -- a setting that is tried and passes, where every M that is needed is over 1.000, is one that meets D1 and D2
  module _ (I : Primary) (runs : Runs v k i I) where
    met_of : (x : ℕ) → Timely v k i I x → Available (tried_from (v.row i)) (tried_to (v.row i)) 1 x → TimeMet v k i I x
    met_of x t b = record { offered = tried-offered (v.row i) a x b; runs = runs; D1 = t.D1; D2 = t.D2 }

    tried : (x : ℕ) → TimeMet v k i I x → Available (tried_from (v.row i)) (tried_to (v.row i)) 1 x
    tried x h = offered-tried (v.row i) (multiple_at (v.row i) (v.row i) I) x h.offered h.D1

    passes : (x : ℕ) → TimeMet v k i I x → meets_time v k i (v.row i) I x ≡ true
    passes x h = (time-exactly v k i I x).1 (record { D1 = h.D1; D2 = h.D2 })

    -- the least setting is the least that meets them
    least-time : (x : ℕ) → (least I ≡ Some x) ↔ (TimeMet v k i I x × ((y : ℕ) → TimeMet v k i I y → x ≤ y))
    least-time x = (
      λ e.
          let m = least_on-least _ _ 1 (omega arith) (meets_time v k i (v.row i) I) x e in
          (met_of x ((time-exactly v k i I x).0 m.passes) m.available, λ y h. m.least y (tried y h) (passes y h)),
      λ h.
          least_on-is _ _ 1 (omega arith) (meets_time v k i (v.row i) I) x
          (record {
            available = tried x h.0;
            passes = passes x h.0;
            least = λ y b t. h.1 y (met_of y ((time-exactly v k i I y).0 t) b);
          }),
    )

    none-time : (least I ≡ None) ↔ NoTime v k i I
    none-time = (
      λ e y h. not-both (passes y h) (least_on-nothing _ _ 1 (omega arith) (meets_time v k i (v.row i) I) e y (tried y h)),
      λ n.
          least_on-none _ _ 1 (omega arith) (meets_time v k i (v.row i) I)
          (λ y b. fails (meets_time v k i (v.row i) I y) (λ t. n y (met_of y ((time-exactly v k i I y).0 t) b))),
    )

  -- RANGE, OWN ZONE and BACKUP exactly where the cause is so
  pub no-pickup-exactly : (why : Cause) → (settled v k i ≡ Err (Pickup why)) ↔ CauseIs v k i why
  unfolding settled outcome_of
  no-pickup-exactly why = (
    λ e. (cause-exactly v k i a.step_from why).0 (outcome-no-pickup (v.row i) slow least (pickup_of v k i) why e),
    λ c. rw ((cause-exactly v k i a.step_from why).1 c),
  )

  -- RANGE exactly where no available pickup meets P1 and P2
  pub range-exactly : (settled v k i ≡ Err (Pickup Range)) ↔ NoCandidate v k i
  range-exactly = (λ e. range-means v k i refl ((no-pickup-exactly Range).0 e), λ n. (no-pickup-exactly Range).1 (RANGE n))

  -- CURVE exactly where, at the least pickup, an M that is needed is at most 1.000, the first of them in the order given
  pub no-curve-exactly :
      (place : ℕ) → (settled v k i ≡ Err (Curve place)) ↔
      ((x : Secondary) × LeastPickup v k i x × CurveIs v k i (primary_of (v.row i) x) place)
  unfolding settled outcome_of timed
  no-curve-exactly place = (
    λ e.
        let q = outcome-curve (v.row i) slow least (pickup_of v k i) place e in
        (q.pickup, (pickup-exactly q.pickup).0 q.pickup-fits, (curve-exactly v k i (primary_of (v.row i) q.pickup) place).0 q.stalls-at),
    λ m. rw ((pickup-exactly m.0).1 m.1, (curve-exactly v k i (primary_of (v.row i) m.0) place).1 m.2),
  )

  -- DELAY exactly where, at the least pickup, every M that is needed is over 1.000, and no delay or multiplier meets D1 and D2
  pub no-delay-exactly :
      (settled v k i ≡ Err Delay) ↔
      ((x : Secondary) × LeastPickup v k i x × Runs v k i (primary_of (v.row i) x) × NoTime v k i (primary_of (v.row i) x))
  unfolding settled outcome_of timed
  no-delay-exactly = (
    λ e.
        let q = outcome-no-delay (v.row i) slow least (pickup_of v k i) e in
        let I = primary_of (v.row i) q.pickup in
        let runs = (runs-all-exactly v k i I).0 q.runs in
        (q.pickup, (pickup-exactly q.pickup).0 q.pickup-fits, runs, (none-time I runs).0 q.none_found),
    λ m.
        let I = primary_of (v.row i) m.0 in
        rw ((pickup-exactly m.0).1 m.1, (runs-all-exactly v k i I).1 m.2, (none-time I m.2).1 m.3),
  )

  -- a card row shows the setting by its law
  shown-curve : (o : Outcome) → (o.law ≡ 0 → ⊥) → (shown o).delay ≡ 0
  unfolding shown
  shown-curve o n = rw (is-curve o.law n)

  shown-definite : (o : Outcome) → o.law ≡ 0 → (shown o).multiplier ≡ 0
  unfolding shown
  shown-definite o e = rw (no-curve o.law e)

  -- the least settings, whatever row of a card they stand in
  abbrev Stands : CardRow → Type 0
  Stands s =
      LeastPickup v k i s.pickup × (s.law ≡ (v.row i).law) × TimeMet v k i (primary_of (v.row i) s.pickup) (setting_of s) ×
      ((x : ℕ) → TimeMet v k i (primary_of (v.row i) s.pickup) x → setting_of s ≤ x) × ((s.law ≡ 0 → ⊥) → s.delay ≡ 0) ×
      (s.law ≡ 0 → s.multiplier ≡ 0) × (s.cutoff ≡ printed (cutoff_of (v.row i)))

  -- otherwise settled, and exactly at the least settings with section 3's cutoff
  pub settled-least : RowSettled v k i → LeastRow v k i
  unfolding settled shown
  settled-least s =
      let o = s.outcome in
      let q = outcome-set (v.row i) slow least (pickup_of v k i) o s.settles in
      let I = primary_of (v.row i) o.pickup in
      let m = (least-time I ((runs-all-exactly v k i I).0 q.runs) o.setting).0 q.setting-found in
      let back = sym (setting-shown o) in
      let stands : Stands (shown o) = (
        (pickup-exactly o.pickup).0 q.pickup-fits,
        q.law-is,
        subst (TimeMet v k i I) back m.0,
        λ x h. subst (λ (y : ℕ). y ≤ x) back (m.1 x h),
        shown-curve o,
        shown-definite o,
        ap printed q.cutoff-is,
      ) in
      let h = subst Stands (sym s.shows) stands in
      record { pickup = h.0; law = h.1; time = h.2; no-shorter = h.3; curve-delay = h.4; definite-multiplier = h.5; cutoff = h.6 }

  shows-it :
      LeastRow v k i →
      k i ≡ shown (record { pickup = (k i).pickup; law = (v.row i).law; setting = setting_of (k i); cutoff = cutoff_of (v.row i) })
  unfolding shown setting_of
  shows-it m =
      by-law (k i).law
      (λ e.
      same-columns refl (sym (rw (sym m.law, no-curve (k i).law e)))
      (ap (λ (x : Secondary). x.0) m.cutoff) m.law (m.definite-multiplier e ∙ sym (rw (sym m.law, no-curve (k i).law e))))
      (λ n.
      same-columns refl (m.curve-delay n ∙ sym (rw (sym m.law, is-curve (k i).law n)))
      (ap (λ (x : Secondary). x.0) m.cutoff) m.law (sym (rw (sym m.law, is-curve (k i).law n))))

  pub least-settled : LeastRow v k i → RowSettled v k i
  unfolding settled outcome_of timed
  least-settled m =
      let I = pickup_at v k i in
      let o : Outcome = record { pickup = (k i).pickup; law = (v.row i).law; setting = setting_of (k i); cutoff = cutoff_of (v.row i) } in
      record {
        outcome = o;
        settles =
            rw (
              (pickup-exactly (k i).pickup).1 m.pickup,
              (runs-all-exactly v k i I).1 m.time.runs,
              (least-time I m.time.runs (setting_of (k i))).1 (m.time, m.no-shorter),
            );
        shows = shows-it m;
      }

  pub settled-exactly : RowSettled v k i ↔ LeastRow v k i
  settled-exactly = (settled-least, least-settled)
