-- DEMAND 2 for a list without curve rows, in one stage, as it stood before request §3: times do not depend on pickups there, so that any
-- pickups that meet P1 to P4 can be put in the place of the least, and the other way round.
--     accepted-definite       a card is given exactly when some available pickups and delays meet every condition together
--     least-definite          no other set that does has a pickup lower in primary or a shorter delay in any row
use Rattle.answers.specs.Answer.{done}
use mathlib.Core.Path.{◌≡◌, refl, sym, ◌∙◌, subst}
use mathlib.Core.Logic.{◌↔◌}
use mathlib.Core.List.{List}
use Prim.Native.Nat.{ℕ, ◌≤◌, ◌<◌}
use native.Mathlib.Nat.{le_refl}
use native.Mathlib.Omega.{arith}
use lib.ListN.{length}
use Rattle.layout.specs.Card.{card_row_at}
use Rattle.layout.specs.List.{rows}
use Rattle.layout.specs.View.{View, view_of, Settings}
use Rattle.rows.specs.InRange.{RightSize, HasRoom, InRange, Feeds}
use Rattle.settle.specs.Conditions.{pickup_at, setting_of}
use Rattle.settle.specs.Inequalities.{Feeding, TimeMet}
use Rattle.settle.proofs.DefiniteTheorems.{definite-time-met}
use Rattle.settle.proofs.SameLaws.{fed-below}
use Rattle.settle.proofs.TimeLaws.{setting-definite}
use Rattle.calculate.specs.Meets.{LeastPickups, TimesMeet, Meets, NoCurves, MeetsTogether}
use Rattle.calculate.specs.Whole.{whole}
use Rattle.calculate.proofs.Demand2.{accepted-meets, settings-accepted, no-lower-pickup, no-lower-no-shorter, law-column}
use Rattle.calculate.proofs.LeastSetLaws.{with_pickup, least-pickups-exist}
use Rattle.calculate.proofs.MeetsLaws.{pickup-down}

-- the settings k with the pickups of p
abbrev merged : Settings → Settings → Settings
merged p k j = with_pickup (k j) (p j).pickup

same-setting : (p k : Settings) (j : ℕ) → setting_of (merged p k j) ≡ setting_of (k j)
unfolding setting_of
same-setting p k j = refl

module _ (v : View) (none : NoCurves v) (p k : Settings) where
  merged-pickups : LeastPickups v p → LeastPickups v (merged p k)
  merged-pickups m =
      record {
        meet =
            record {
              available = m.meet.available;
              met = λ i h. pickup-down v (merged p k) p i (pickup_at v p i) (λ j b f. le_refl _) (m.meet.met i h);
            };
        least = m.least;
      }

  merged-times : TimesMeet v k → TimesMeet v (merged p k)
  merged-times m =
      record {
        law = m.law;
        met =
            λ i h.
            subst (TimeMet v (merged p k) i (pickup_at v (merged p k) i)) (sym (same-setting p k i))
            (definite-time-met v i (none i h) k (merged p k) (pickup_at v k i) (pickup_at v (merged p k) i) (setting_of (k i)) (below i) (below i)
            (λ j b f. refl) (m.met i h));
      }
    where
      below : (i j : ℕ) → j < v.count → Feeding v i j → (k j).law ≡ 0
      below i j b f = m.law j b ∙ none j b

module _ (l c : List ℕ) (size : RightSize l) (room : HasRoom l (length c)) (a : InRange l) (b : Feeds l) (none : NoCurves (view_of l)) where
  two-stages : (k : Settings) → MeetsTogether (view_of l) k → (p : Settings) × Meets (view_of l) (merged p k)
  two-stages k m =
      let p = least-pickups-exist (view_of l) (fed-below l b) (λ j h. (a j h).bounded) k m.pickups in
      (p.0, record { pickups = merged-pickups (view_of l) none p.0 k p.1; times = merged-times (view_of l) none p.0 k m.times })

  pub accepted-definite : ((whole l c).answer ≡ done) ↔ ((k : Settings) × MeetsTogether (view_of l) k)
  accepted-definite = (
    λ e.
        let m = accepted-meets l c size room a b e in
        (card_row_at (whole l c).card, record { pickups = m.pickups.meet; times = m.times }),
    λ s. let m = two-stages s.0 s.1 in settings-accepted l c size room a b (merged m.0 s.0) m.1,
  )

  pub least-definite :
      (k : Settings) → MeetsTogether (view_of l) k → (i : ℕ) → i < rows l →
      ((pickup_at (view_of l) (card_row_at (whole l c).card) i).0 ≤ (pickup_at (view_of l) k i).0) × ((card_row_at (whole l c).card i).delay ≤ (k i).delay)
  least-definite k m i h =
      let e = accepted-definite.1 (k, m) in
      let s = two-stages k m in
      let shorter = (no-lower-no-shorter l c size room a b (merged s.0 k) s.1 i h).1 in
      let given = setting-definite (card_row_at (whole l c).card i) (law-column l c size room a b e i h ∙ none i h) in
      let other = setting-definite (k i) (m.times.law i h ∙ none i h) in
      let same = same-setting s.0 k i in
      (no-lower-pickup l c size room a b k m.pickups e i h, omega arith)
