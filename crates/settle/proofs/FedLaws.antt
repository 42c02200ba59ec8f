-- Settling a row by the three numbers gathered from its fed rows is settling it by section 3.
use mathlib.Core.Path.{◌≡◌, refl, sym, ap, ◌∙◌}
use mathlib.Core.Bool.{Bool, true, false, not, cond, ◌&&◌, and-false, and-true}
use mathlib.Core.Logic.{◌↔◌, ◌⊎◌, inl, inr, ⊎_elim}
use Prim.Native.Nat.{ℕ, ◌+◌, ◌-◌, ◌*◌, ◌≤◌, ◌<◌}
use native.Mathlib.Nat.{mul-le-mul, mul-le-mul_left, mul_assoc, le_trans}
use native.Mathlib.Omega.{arith}
use lib.Dec.{eqb}
use borrow.Author.Tests.{le-leb, leb-true, eq-eqb, ne_eqb, eqb-true}
use Rattle.fold.specs.Fold.{max_to}
use Rattle.fold.proofs.BoolLaws.{passes-or-fails, same_test}
use Rattle.fold.proofs.FoldLaws.{Attained, max_to-attained, le-max_to, sum_to-zero, sum_to-others}
use Rattle.layout.specs.declared.Row.{Row}
use Rattle.layout.specs.View.{View, Settings}
use Rattle.layout.specs.Range.{AllBounded}
use Rattle.sides.specs.declared.Primary.{Primary}
use Rattle.settle.specs.Conditions.{pickup_at, fed, each_fed, load_of, others_load, returns_after_self_start, clear_of}
use Rattle.settle.specs.Fed.{reach, excess, shortfall, gathered, clear_of_all, backs_up_all, unbacked_by, lower_by, picked_by, settled_by}
use Rattle.settle.specs.Inequalities.{Feeding, BacksUp}
use Rattle.settle.specs.Settle.{meets_lower, first_unbacked, least_pickup, candidate, picked, outcome_of, settled}
use Rattle.settle.specs.Settle.{stalled, meets_time, least_setting}
use Rattle.settle.proofs.ConditionTheorems.{P2-exactly, fed-exactly}
use Rattle.settle.proofs.MeetsTheorems.{each-fed-at, each-fed-of, backed-all-exactly}
use Rattle.settle.proofs.PickupLaws.{current-volts, load-bounded}

-- a number that counts only for fed rows
counted-fed : {b : Bool} (x : ℕ) → b ≡ true → cond b x 0 ≡ x
counted-fed x e = rw e

-- a row's shortfall counts only where it is backed
shortfall-by : (f : Row) (b : Bool) → eqb f.backed 1 ≡ b → shortfall f ≡ cond b (reach - f.far.0 * f.volts) 0
shortfall-by f b e = ap (λ (b : Bool). cond b (reach - f.far.0 * f.volts) 0) e

-- the greatest of the numbers that count is 0 or one of them
record Greatest (on : ℕ → Bool) (f : ℕ → ℕ) (n m : ℕ) : Type 0 where
  at : ℕ
  below : at < n
  counts : on at ≡ true
  is : f at ≡ m

greatest :
    (on : ℕ → Bool) (f : ℕ → ℕ) (n : ℕ) →
    (max_to n (λ j. cond (on j) (f j) 0) ≡ 0) ⊎ Greatest on f n (max_to n (λ j. cond (on j) (f j) 0))
greatest on f n =
    ⊎_elim inl
    (λ (m : Attained (λ j. cond (on j) (f j) 0) n (max_to n (λ j. cond (on j) (f j) 0))).
    ⊎_elim
    (λ (g : on m.at ≡ true).
    inr (record { at = m.at; below = m.below; counts = g; is = sym (counted-fed (f m.at) g) ∙ m.is }))
    (λ (g : on m.at ≡ false). inl (sym m.is ∙ rw g))
    (passes-or-fails (on m.at)))
    (max_to-attained (λ j. cond (on j) (f j) 0) n)

module _ (v : View) (a : AllBounded v) (k : Settings) (i : ℕ) (h : i < v.count) where
  -- the whole load is a fed row's own and the others'
  load-others : (j : ℕ) → j < v.count → fed v i j ≡ true → (gathered v k i).load ≡ others_load v i j + load_of v j
  load-others j b g =
      sum_to-others (λ x. cond (fed v i x) (load_of v x) 0) (λ x. cond (fed v i x && not (eqb x j)) (load_of v x) 0) v.count j b
      (rw (eq-eqb j j refl, and-false (fed v i j)))
      (λ x n. rw (ne_eqb x j n, and-true (fed v i x))) ∙
      ap (λ (x : ℕ). others_load v i j + x) (counted-fed (load_of v j) g)

  clear-at-most :
      (j : ℕ) → j < v.count → fed v i j ≡ true →
      (pickup_at v k j).0 * (v.row j).volts + others_load v i j ≤ (gathered v k i).excess + (gathered v k i).load - reach
  clear-at-most j b g =
      let m = le-max_to (λ j. cond (fed v i j) (excess (v.row j) (k j)) 0) v.count j b in
      omega (arith, load-bounded (a j b), load-others j b g, counted-fed (excess (v.row j) (k j)) g)

  -- where no excess counts, no row is fed
  no-excess : (gathered v k i).excess ≡ 0 → (gathered v k i).load ≡ 0
  no-excess z =
      sum_to-zero (λ j. cond (fed v i j) (load_of v j) 0) v.count
      (λ j b. ⊎_elim (λ g. absurd (counts j b g)) (λ g. rw g) (passes-or-fails (fed v i j)))
    where
      counts : (j : ℕ) → j < v.count → fed v i j ≡ true → ⊥
      counts j b g =
          omega (
            arith,
            le-max_to (λ j. cond (fed v i j) (excess (v.row j) (k j)) 0) v.count j b,
            counted-fed (excess (v.row j) (k j)) g,
            load-bounded (a j b),
          )

  -- P2 for every fed row, and for the greatest excess
  clear-each : (I : Primary) → clear_of_all (v.row i) (gathered v k i) I ≡ true → each_fed v i (λ j. clear_of v k i j I) ≡ true
  unfolding clear_of_all
  clear-each I t =
      let c = leb-true (11 * ((gathered v k i).excess + (gathered v k i).load - reach)) (10 * I.0 * (v.row i).volts) t in
      each-fed-of v i (λ j. clear_of v k i j I)
      (λ j b g. (P2-exactly v k i j I).1 (le_trans (mul-le-mul_left 11 (clear-at-most j b g)) c))

  clear-greatest :
      (I : Primary) → each_fed v i (λ j. clear_of v k i j I) ≡ true →
      11 * ((gathered v k i).excess + (gathered v k i).load - reach) ≤ 10 * I.0 * (v.row i).volts
  clear-greatest I t =
      ⊎_elim
      (λ z. omega (arith, no-excess z))
      (λ m.
      let c = (P2-exactly v k i m.at I).0 (each-fed-at v i (λ j. clear_of v k i j I) t m.at m.below m.counts) in
      omega (arith, load-bounded (a m.at m.below), load-others m.at m.below m.counts, m.is))
      (greatest (fed v i) (λ j. excess (v.row j) (k j)) v.count)

  pub clear-of-all : (I : Primary) → clear_of_all (v.row i) (gathered v k i) I ≡ each_fed v i (λ j. clear_of v k i j I)
  clear-of-all I = same_test _ _ (clear-each I) (λ t. unfold clear_of_all in le-leb _ _ (clear-greatest I t))

  -- P4 for every fed row, and for the greatest shortfall
  far-to : (j : ℕ) → j < v.count → (v.row j).far.0 * (v.row j).volts ≤ 250000000000000
  far-to j b = let q = a j b in current-volts q.far-to q.volts-to

  backs-each :
      (I : Primary) → backs_up_all (v.row i) (gathered v k i) I ≡ true → (j : ℕ) → j < v.count → Feeding v i j → BacksUp v i j I
  unfolding backs_up_all
  backs-each I t j b f backed =
      let r = v.row j in
      omega (
        arith,
        leb-true (12 * I.0 * (v.row i).volts) (10 * (reach - (gathered v k i).shortfall)) t,
        le-max_to (λ j. cond (fed v i j) (shortfall (v.row j)) 0) v.count j b,
        counted-fed (shortfall r) ((fed-exactly v i j).1 f),
        shortfall-by r true (eq-eqb r.backed 1 backed),
        mul_assoc 10 r.far.0 r.volts,
        far-to j b,
      )

  backs-greatest :
      (I : Primary) → I.0 ≤ 500000000 → ((j : ℕ) → j < v.count → Feeding v i j → BacksUp v i j I) →
      12 * I.0 * (v.row i).volts ≤ 10 * (reach - (gathered v k i).shortfall)
  backs-greatest I b all =
      let most : 12 * I.0 * (v.row i).volts ≤ 3000000000000000 = mul-le-mul (mul-le-mul_left 12 b) (a i h).volts-to in
      ⊎_elim
      (λ z. omega arith)
      (λ m.
      let r = v.row m.at in
      ⊎_elim
      (λ (backed : eqb r.backed 1 ≡ true).
      let c = all m.at m.below ((fed-exactly v i m.at).0 m.counts) (eqb-true r.backed 1 backed) in
      omega (arith, shortfall-by r true backed, mul_assoc 10 r.far.0 r.volts, m.is, far-to m.at m.below))
      (λ (backed : eqb r.backed 1 ≡ false). omega (arith, shortfall-by r false backed, m.is))
      (passes-or-fails (eqb r.backed 1)))
      (greatest (fed v i) (λ j. shortfall (v.row j)) v.count)

  pub backs-all-exactly :
      (I : Primary) → I.0 ≤ 500000000 → (backs_up_all (v.row i) (gathered v k i) I ≡ true) ↔
      ((j : ℕ) → j < v.count → Feeding v i j → BacksUp v i j I)
  unfolding backs_up_all
  backs-all-exactly I b = (backs-each I, λ all. le-leb _ _ (backs-greatest I b all))

  -- so the fed rows are gone through only where one of them fails P4, and the row is refused
  backs-found : (I : Primary) → unbacked_by v i (v.row i) (gathered v k i) I ≡ first_unbacked v i (v.row i) I
  unfolding unbacked_by
  backs-found I =
      ⊎_elim
      (λ (t : backs_up_all (v.row i) (gathered v k i) I ≡ true). rw t (sym ((backed-all-exactly v i I).1 (backs-each I t))))
      (λ (t : backs_up_all (v.row i) (gathered v k i) I ≡ false). rw t)
      (passes-or-fails (backs_up_all (v.row i) (gathered v k i) I))

  -- a row settled by the three numbers is settled by section 3
  pub settled-by : settled_by v k i (v.row i) (gathered v k i) ≡ settled v k i
  unfolding settled_by picked_by lower_by settled candidate meets_lower
  settled-by =
      λ t.
      outcome_of (v.row i)
      (picked (v.row i)
      (least_pickup (v.row i) (λ I. returns_after_self_start (v.row i) I && clear-of-all I t))
      (λ I. backs-found I t))
      (stalled v k i (v.row i))
      (λ I. least_setting (v.row i) (meets_time v k i (v.row i) I))
