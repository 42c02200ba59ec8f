-- [02 §3] The first stage by itself: pickups that are least as a set are least row by row; and where some pickups meet P1 to P4, the least do
-- exist, built row by row. So the second stage always has its pickups.
use Rattle.settle.specs.Outcomes.{Picked}
use Rattle.std.proofs.Common.{Ok, Err}
use mathlib.Core.Path.{◌≡◌, refl, sym, ap, subst}
use mathlib.Core.Bool.{true, false, cond}
use mathlib.Core.Logic.{⊎_elim}
use Prim.Native.Nat.{ℕ, zero, suc, ◌≤◌, ◌<◌}
use native.Mathlib.Nat.{le_of_eq, le_of_lt}
use native.Mathlib.Omega.{arith}
use lib.Dec.{eqb}
use borrow.Author.Tests.{eq-eqb, ne_eqb, eqb-true, eqb-false}
use Rattle.fold.proofs.BoolLaws.{passes-or-fails, lt-or-le, not-both}
use Rattle.fold.proofs.FoldLaws.{below-cases}
use Rattle.layout.specs.declared.CardRow.{CardRow}
use Rattle.layout.specs.Range.{AllBounded}
use Rattle.layout.specs.View.{View, Settings}
use Rattle.rowwise.specs.Working.{every_row}
use Rattle.sides.specs.declared.Secondary.{Secondary}
use Rattle.settle.specs.Conditions.{primary_of, pickup_at, fed}
use Rattle.settle.specs.Inequalities.{AvailableOn, Feeding, PickupMet, LeastPickup}
use Rattle.settle.specs.Settle.{pickup_of}
use Rattle.settle.proofs.CauseTheorems.{cause-exactly, cause-no-pickup}
use Rattle.settle.proofs.SettledTheorems.{pickup-exactly}
use Rattle.calculate.specs.Meets.{PickupsMeet, LeastPickups}
use Rattle.calculate.proofs.LeastLaws.{pickups-under-on, pickup-fits-on}
use Rattle.calculate.proofs.MeetsLaws.{pickup-down}

-- a card row with another pickup, and settings with another pickup in row i
abbrev pub with_pickup : CardRow → Secondary → CardRow
with_pickup s x = record { pickup = x; delay = s.delay; cutoff = s.cutoff; law = s.law; multiplier = s.multiplier }

unfoldable pub changed : Settings → ℕ → Secondary → Settings
changed k i x j = cond (eqb j i) (with_pickup (k j) x) (k j)

module _ (k : Settings) (i : ℕ) (x : Secondary) where
  changed-own : (changed k i x i).pickup ≡ x
  unfolding changed
  changed-own = rw (eq-eqb i i refl)

  changed-other : (j : ℕ) → (j ≡ i → ⊥) → changed k i x j ≡ k j
  unfolding changed
  changed-other j n = rw (ne_eqb j i n)

-- ---- least as a set is least row by row

module _ (v : View) (k : Settings) (i : ℕ) (x : Secondary) (a : AvailableOn (v.row i) x) (m : PickupMet v k i (primary_of (v.row i) x))
    (lower : (primary_of (v.row i) x).0 ≤ (pickup_at v k i).0) (all : PickupsMeet v k) where
  abbrev k' : Settings
  k' = changed k i x

  under : (j : ℕ) → (pickup_at v k' j).0 ≤ (pickup_at v k j).0
  under j =
      ⊎_elim
      (λ (e : eqb j i ≡ true).
      rw (eqb-true j i e) (subst (λ (y : Secondary). (primary_of (v.row i) y).0 ≤ (pickup_at v k i).0) (sym (changed-own k i x)) lower))
      (λ (e : eqb j i ≡ false). le_of_eq (ap (λ (s : CardRow). (primary_of (v.row j) s.pickup).0) (changed-other k i x j (eqb-false j i e))))
      (passes-or-fails (eqb j i))

  met-in : (j : ℕ) (y : Secondary) → PickupMet v k j (primary_of (v.row j) y) → PickupMet v k' j (primary_of (v.row j) y)
  met-in j y h = pickup-down v k' k j _ (λ z b f. under z) h

  still-meet : PickupsMeet v k'
  still-meet =
      record {
        available =
            λ j h.
            ⊎_elim
            (λ (e : eqb j i ≡ true). rw (eqb-true j i e) (subst (AvailableOn (v.row i)) (sym (changed-own k i x)) a))
            (λ (e : eqb j i ≡ false).
            subst (λ (s : CardRow). AvailableOn (v.row j) s.pickup) (sym (changed-other k i x j (eqb-false j i e))) (all.available j h))
            (passes-or-fails (eqb j i));
        met =
            λ j h.
            ⊎_elim
            (λ (e : eqb j i ≡ true).
            rw (eqb-true j i e)
            (subst (λ (y : Secondary). PickupMet v k' i (primary_of (v.row i) y)) (sym (changed-own k i x)) (met-in i x m)))
            (λ (e : eqb j i ≡ false).
            subst (λ (s : CardRow). PickupMet v k' j (primary_of (v.row j) s.pickup)) (sym (changed-other k i x j (eqb-false j i e)))
            (met-in j (k j).pickup (all.met j h)))
            (passes-or-fails (eqb j i));
      }

pub least-row-by-row : (v : View) (k : Settings) → LeastPickups v k → (i : ℕ) → i < v.count → LeastPickup v k i (k i).pickup
least-row-by-row v k p i h =
    record {
      available = p.meet.available i h;
      met = p.meet.met i h;
      no_lower =
          λ y a m.
          ⊎_elim
          (λ (g : (primary_of (v.row i) y).0 < (pickup_at v k i).0).
          subst (λ (z : Secondary). (pickup_at v k i).0 ≤ (primary_of (v.row i) z).0) (changed-own k i y)
          (p.least (changed k i y) (still-meet v k i y a m (le_of_lt g) p.meet) i h))
          (λ (g : (pickup_at v k i).0 ≤ (primary_of (v.row i) y).0). g)
          (lt-or-le (primary_of (v.row i) y).0 (pickup_at v k i).0);
    }

-- ---- and the other way round; they exist where any do

module _ (v : View) (below : (i j : ℕ) → j < v.count → fed v i j ≡ true → j < i) where
  abbrev LeastBelow : ℕ → Settings → Type 0
  LeastBelow n k = (j : ℕ) → j < n → LeastPickup v k j (k j).pickup

  pub set-of-rows : (k : Settings) → LeastBelow v.count k → LeastPickups v k
  set-of-rows k all =
      record {
        meet = record { available = λ i h. (all i h).available; met = λ i h. (all i h).met };
        least =
            λ k' m.
            pickups-under-on v below every_row v.count k k' (λ j _ o. absurd (not-both refl o)) (λ i h _. m.available i h) (λ i h _. m.met i h)
            v.count (omega arith) (λ j h _. all j h);
      }

  -- the least pickup of a row stays so where the rows below it stay
  same-below : (k k' : Settings) (i : ℕ) → ((j : ℕ) → j < i → k j ≡ k' j) → (x : Secondary) → LeastPickup v k i x → LeastPickup v k' i x
  same-below k k' i same x m =
      record {
        available = m.available;
        met = pickup-down v k' k i _ (λ j h f. le_of_eq (sym (at j h f))) m.met;
        no_lower = λ y a h. m.no_lower y a (pickup-down v k k' i _ (λ j h f. le_of_eq (at j h f)) h);
      }
    where
      at : (j : ℕ) → j < v.count → Feeding v i j → (pickup_at v k j).0 ≡ (pickup_at v k' j).0
      at j h f = ap (λ (s : CardRow). (primary_of (v.row j) s.pickup).0) (same j (below i j h (eq-eqb _ _ f)))

  next-least : (n : ℕ) (k : Settings) (x : Secondary) → LeastBelow n k → LeastPickup v k n x → LeastBelow (suc n) (changed k n x)
  next-least n k x all own j b =
      below-cases b
      (λ q.
      rw q
      (subst (LeastPickup v (changed k n x) n) (sym (changed-own k n x)) (same-below k (changed k n x) n (λ z g. sym (stays z g)) x own)))
      (λ g.
      subst (λ (s : CardRow). LeastPickup v (changed k n x) j s.pickup) (sym (stays j g))
      (same-below k (changed k n x) j (λ z h. sym (stays z (omega arith))) (k j).pickup (all j g)))
    where
      stays : (z : ℕ) → z < n → changed k n x z ≡ k z
      stays z g = changed-other k n x z (λ e. omega arith)

  module _ (a : AllBounded v) (k₀ : Settings) (m : PickupsMeet v k₀) where
    least-from : (n : ℕ) → n ≤ v.count → (k : Settings) × LeastBelow n k
    least-from zero h = (k₀, λ j b. absurd (omega arith))
    least-from (suc n) h =
        let s = least-from n (omega arith) in
        by_cases s.0 s.1 (pickup_of v s.0 n) refl
      where
        by_cases : (k : Settings) → LeastBelow n k → (p : Picked) → pickup_of v k n ≡ p → (k : Settings) × LeastBelow (suc n) k
        by_cases k all (Ok x) e = (changed k n x, next-least n k x all ((pickup-exactly v k n (a n h) x).0 e))
        by_cases k all (Err why) e =
            absurd
            (pickup-fits-on v below every_row v.count k k₀ (λ j _ o. absurd (not-both refl o)) (λ i b _. m.available i b) (λ i b _. m.met i b)
            n h refl (λ j b _. all j b) (cause-no-pickup v k n ((cause-exactly v k n (a n h).step_from why).0 e)))

    pub least-pickups-exist : (k : Settings) × LeastPickups v k
    least-pickups-exist = let s = least-from v.count (omega arith) in (s.0, set-of-rows s.0 s.1)
