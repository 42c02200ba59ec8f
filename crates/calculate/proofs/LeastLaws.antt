-- Rows at their least settings one above the other are no higher, in primary, than any pickups that meet P1 to P4; and where the pickups are the
-- same, their settings are no greater than any that meet D1 and D2: what meets the conditions above the given settings meets them above
-- the least ones. So where such pickups exist a pickup fits the next row, and where such settings exist a setting does, whatever the
-- laws. For the rows of a set below n, the others standing alike in both settings (for a path; for all rows the set is every row).
use mathlib.Core.Path.{◌≡◌, sym, ◌∙◌, subst}
use mathlib.Core.Bool.{Bool, true, false}
use mathlib.Core.Logic.{⊎_elim}
use Prim.Native.Nat.{ℕ, zero, suc, ◌≤◌, ◌<◌}
use native.Mathlib.Nat.{le_of_eq}
use native.Mathlib.Omega.{arith}
use borrow.Author.Tests.{eq-eqb}
use Rattle.fold.proofs.BoolLaws.{passes-or-fails}
use Rattle.fold.proofs.FoldLaws.{below-cases}
use Rattle.layout.specs.View.{View, Settings}
use Rattle.sides.specs.declared.Primary.{Primary}
use Rattle.sides.specs.declared.Secondary.{Secondary}
use Rattle.settle.specs.Conditions.{primary_of, pickup_at, setting_of, fed}
use Rattle.settle.specs.Inequalities.{AvailableOn, Feeding, PickupMet, LeastPickup, TimeMet, NoPickup, LeastRow}
use Rattle.calculate.proofs.MeetsLaws.{pickup-down, Under, time-down}

-- two primary currents of the same number are the same
pub same-primary : {I J : Primary} → I.0 ≤ J.0 → J.0 ≤ I.0 → I ≡ J
same-primary {I} {J} h g = let e : I.0 ≡ J.0 = omega arith in λ t. record { 0 = e t }

-- fed rows stand below their feeder
module _ (v : View) (below : (i j : ℕ) → j < v.count → fed v i j ≡ true → j < i) where
  -- the least pickups above the same pickups are the same
  pub least-pickup-same :
      (k k' : Settings) (i : ℕ) → ((j : ℕ) → j < i → pickup_at v k j ≡ pickup_at v k' j) → (x y : Secondary) → LeastPickup v k i x →
      LeastPickup v k' i y → primary_of (v.row i) x ≡ primary_of (v.row i) y
  least-pickup-same k k' i same x y a b =
      same-primary
      (a.no_lower y b.available (pickup-down v k k' i _ (λ j h f. le_of_eq (same_at j h f)) b.met))
      (b.no_lower x a.available (pickup-down v k' k i _ (λ j h f. le_of_eq (sym (same_at j h f))) a.met))
    where
      same_at : (j : ℕ) → j < v.count → Feeding v i j → (pickup_at v k j).0 ≡ (pickup_at v k' j).0
      same_at j h f = let e = same j (below i j h (eq-eqb _ _ f)) in λ t. (e t).0

-- the rows of `on` below n are at their least pickups in k, and meet the conditions in k'
module _ (v : View) (below : (i j : ℕ) → j < v.count → fed v i j ≡ true → j < i) (on : ℕ → Bool) (n : ℕ) (k k' : Settings) where
  module _ (off : (j : ℕ) → j < n → on j ≡ false → (pickup_at v k j).0 ≤ (pickup_at v k' j).0)
      (available : (i : ℕ) → i < n → on i ≡ true → AvailableOn (v.row i) (k' i).pickup)
      (m : (i : ℕ) → i < n → on i ≡ true → PickupMet v k' i (pickup_at v k' i)) where
    pickup-met-too : (i : ℕ) → i < n → on i ≡ true → ((j : ℕ) → j < i → (pickup_at v k j).0 ≤ (pickup_at v k' j).0) → PickupMet v k i (pickup_at v k' i)
    pickup-met-too i h o u = pickup-down v k k' i (pickup_at v k' i) (λ j g f. u j (below i j g (eq-eqb _ _ f))) (m i h o)

    pub pickups-under-on :
        (i : ℕ) → i ≤ n → ((j : ℕ) → j < i → on j ≡ true → LeastPickup v k j (k j).pickup) → (j : ℕ) → j < i →
        (pickup_at v k j).0 ≤ (pickup_at v k' j).0
    pickups-under-on zero h all j b = absurd (omega arith)
    pickups-under-on (suc i) h all j b =
        let under = pickups-under-on i (omega arith) (λ x g. all x (omega arith)) in
        below-cases b
        (λ q.
        rw q
        (⊎_elim
        (λ o. (all i (omega arith) o).no_lower (k' i).pickup (available i h o) (pickup-met-too i h o under))
        (λ o. off i h o)
        (passes-or-fails (on i))))
        (λ g. under j g)

    pub pickup-fits-on :
        (i : ℕ) → i < n → on i ≡ true → ((j : ℕ) → j < i → on j ≡ true → LeastPickup v k j (k j).pickup) → NoPickup v k i → ⊥
    pickup-fits-on i h o all none =
        none (k' i).pickup (available i h o) (pickup-met-too i h o (pickups-under-on i (omega arith) all))

  -- least settings of the same pickups
  module _ (off : (j : ℕ) → j < n → on j ≡ false → Under v k k' j) (law : (i : ℕ) → i < n → on i ≡ true → (k' i).law ≡ (v.row i).law)
      (m : (i : ℕ) → i < n → on i ≡ true → TimeMet v k' i (pickup_at v k' i) (setting_of (k' i))) where
    -- a setting of k' meets the conditions above k too
    pub time-fits-on :
        (i : ℕ) → i < n → on i ≡ true → ((j : ℕ) → j < i → Under v k k' j) → (I : Primary) → I ≡ pickup_at v k' i →
        TimeMet v k i I (setting_of (k' i))
    time-fits-on i h o u I e =
        subst (λ (I : Primary). TimeMet v k i I (setting_of (k' i))) (sym e)
        (time-down v k k' i (pickup_at v k' i) (setting_of (k' i)) (λ j g f. u j (below i j g (eq-eqb _ _ f))) (m i h o))

    pub times-under-on :
        (i : ℕ) → i ≤ n → ((j : ℕ) → j < i → on j ≡ true → LeastRow v k j) →
        ((j : ℕ) → j < i → on j ≡ true → pickup_at v k j ≡ pickup_at v k' j) → (j : ℕ) → j < i → Under v k k' j
    times-under-on zero h all same j b = absurd (omega arith)
    times-under-on (suc i) h all same j b =
        let under = times-under-on i (omega arith) (λ x g. all x (omega arith)) (λ x g. same x (omega arith)) in
        below-cases b
        (λ q.
        rw q
        (⊎_elim
        (λ o.
        let own = all i (omega arith) o in
        record {
          same-pickup = same i (omega arith) o;
          same-law = own.law ∙ sym (law i h o);
          setting-to = own.no-shorter (setting_of (k' i)) (time-fits-on i h o under (pickup_at v k i) (same i (omega arith) o));
        })
        (λ o. off i h o)
        (passes-or-fails (on i))))
        (λ g. under j g)
