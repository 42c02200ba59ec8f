-- While rows are worked out, the sums hold for each row that still matters what its fed rows that are done ask of it. So a row
-- whose fed rows are all done is settled by the sums as section 3 says, and its step keeps the sums true.
use lib.ListN.{set}
use Rattle.std.proofs.Common.{Ok}
use mathlib.Core.Path.{◌≡◌, refl, sym, ap, ◌∙◌, subst}
use mathlib.Core.Bool.{Bool, true, false, cond, ◌&&◌, ◌||◌}
use mathlib.Core.Logic.{⊎_elim}
use mathlib.Core.List.{List}
use Prim.Native.Nat.{ℕ, ◌+◌, ◌-◌, ◌*◌, ◌≤◌, ◌<◌, max}
use native.Mathlib.Nat.{le_trans, mul-le-mul, mul-le-mul_right, add-zero, max-zero}
use native.Mathlib.Omega.{arith}
use lib.Dec.{eqb}
use borrow.Author.Tests.{ne_eqb, eqb-true, eqb-false}
use Rattle.fold.proofs.BoolLaws.{passes-or-fails, not-both, and_left}
use Rattle.fold.proofs.FoldLaws.{sum_to-bound, max_to-bound, sum_to-same, max_to-same, sum-next, max-next}
use Rattle.layout.specs.declared.CardRow.{CardRow}
use Rattle.layout.specs.declared.Row.{Row}
use Rattle.layout.specs.Card.{card_row_at, put_card_row}
use Rattle.layout.specs.List.{rows, row_at}
use Rattle.layout.specs.View.{view_of}
use Rattle.layout.proofs.CardLaws.{put_card_row-length, put_card_row-own, put_card_row-other}
use Rattle.rows.proofs.InRangeLaws.{feeder-above, feeder-of-last}
use Rattle.settle.specs.declared.Fed.{Fed}
use Rattle.settle.specs.declared.Outcome.{Outcome}
use Rattle.settle.specs.Conditions.{primary_of, fed, load_of}
use Rattle.settle.specs.Fed.{reach, excess, shortfall, asked, settled_by, FedBounded, CardBounded}
use Rattle.settle.specs.Settle.{shown, settled}
use Rattle.settle.proofs.FedLaws.{settled-by}
use Rattle.settle.proofs.OutcomeLaws.{set-bounded}
use Rattle.settle.proofs.PickupLaws.{load-bounded, found-fits}
use Rattle.rowwise.specs.Ready.{HasFeeder, WorkReady}
use Rattle.rowwise.specs.Sums.{fed_at, joined, pushed, settled_at}
use Rattle.rowwise.specs.Working.{Working, gathered_by}
use Rattle.rowwise.proofs.StepLaws.{pushed-source, pushed-feeder, pushed-length}
use Rattle.rowwise.proofs.SumsLaws.{same-fed, put_fed-own, put_fed-other}

-- a number that counts only sometimes is at most what it is when it counts
counted-to : (b : Bool) (x m : ℕ) → (b ≡ true → x ≤ m) → cond b x 0 ≤ m
counted-to true x m h = h refl
counted-to false x m h = omega arith

-- where all that is fed is done, it counts as if nothing were asked of `done`
counted-all : (d f : Bool) (x : ℕ) → (f ≡ true → d ≡ true) → cond (d && f) x 0 ≡ cond f x 0
counted-all true f x h = refl
counted-all false true x h = absurd (not-both (h refl) refl)
counted-all false false x h = refl

shortfall-to : (r : Row) → shortfall r ≤ reach
shortfall-to r = counted-to (eqb r.backed 1) (reach - r.far.0 * r.volts) reach (λ _. omega arith)

module _ (l : List ℕ) (done matters : ℕ → Bool) (c : List ℕ) (s : List Fed) (w : Working l done matters c s) where
  excess-to : (j : ℕ) → j < rows l → done j ≡ true → excess (row_at l j) (card_row_at c j) ≤ 25300000000000000
  excess-to j b g =
      let q = (w.in-range j b).bounded in
      let pickup : (primary_of (row_at l j) (card_row_at c j).pickup).0 * (row_at l j).volts ≤ 25000000000000000 =
      mul-le-mul (found-fits (row_at l j) q (card_row_at c j).pickup (w.settings-to j b g).pickup-to) q.volts-to in
      omega arith

  gathered-bounded : (k : ℕ) → FedBounded (gathered_by done (view_of l) (card_row_at c) k)
  gathered-bounded k =
      record {
        load-to =
            le_trans
            (sum_to-bound _ 250000000000000 (rows l)
            (λ j b. counted-to (done j && fed (view_of l) k j) (load_of (view_of l) j) _ (λ _. load-bounded (w.in-range j b).bounded)))
            (mul-le-mul_right 250000000000000 w.rows-to);
        excess-to =
            max_to-bound _ 25300000000000000 (rows l)
            (λ j b. counted-to (done j && fed (view_of l) k j) _ _ (λ t. excess-to j b (and_left (done j) (fed (view_of l) k j) t)));
        shortfall-to =
            max_to-bound _ reach (rows l) (λ j b. counted-to (done j && fed (view_of l) k j) _ _ (λ _. shortfall-to (row_at l j)));
      }

  pub sums-bounded : (i : ℕ) → i < rows l → matters i ≡ true → FedBounded (fed_at s i)
  sums-bounded i h m = subst FedBounded (sym (w.summed i h m)) (gathered-bounded i)

  -- a row's feeder is a row of the list
  pub feeder-within : (i : ℕ) → i < rows l → 1 ≤ (row_at l i).feeder → (row_at l i).feeder - 1 < rows l
  feeder-within i h f =
      ⊎_elim
      (λ e. omega (arith, feeder-of-last l w.feeds i h (eqb-true (i + 1) (rows l) e)))
      (λ e. omega (arith, (feeder-above l w.feeds i h (eqb-false (i + 1) (rows l) e)).1))
      (passes-or-fails (eqb (i + 1) (rows l)))

  -- row i, whose feeder matters
  module _ (i : ℕ) (h : i < rows l) (f : 1 ≤ (row_at l i).feeder → matters ((row_at l i).feeder - 1) ≡ true) where
    pub has-feeder : HasFeeder (row_at l i) s
    has-feeder =
        record {
          has-place = λ q. omega (arith, w.sums-room, feeder-within i h q);
          load_fits = λ q. (sums-bounded ((row_at l i).feeder - 1) (feeder-within i h q) (f q)).load-to;
        }

    pub work-ready :
        matters i ≡ true → ((j : ℕ) → j < rows l → fed (view_of l) i j ≡ true → done j ≡ true) →
        WorkReady l i c s
    work-ready m all =
        record {
          is_row = h;
          in-card = omega (arith, w.card-room);
          in-sums = omega (arith, w.sums-room);
          all-bounded = λ j b. (w.in-range j b).bounded;
          fed-bounded = sums-bounded i h m;
          fed-ready = record { card-room = w.card-room; settings-to = λ j b g. w.settings-to j b (all j b g) };
          feeder = has-feeder;
        }

  -- where all rows that row i feeds are done, the sums settle it as section 3 does
  pub work-settles :
      (i : ℕ) → i < rows l → matters i ≡ true → ((j : ℕ) → j < rows l → fed (view_of l) i j ≡ true → done j ≡ true) →
      settled_at l i c s ≡ settled (view_of l) (card_row_at c) i
  work-settles i h m all =
      ap (settled_by (view_of l) (card_row_at c) i (row_at l i))
      (w.summed i h m ∙
      same-fed
      (sum_to-same _ _ (rows l) (λ j b. counted-all (done j) (fed (view_of l) i j) (load_of (view_of l) j) (all j b)))
      (max_to-same _ _ (rows l) (λ j b. counted-all (done j) (fed (view_of l) i j) (excess (row_at l j) (card_row_at c j)) (all j b)))
      (max_to-same _ _ (rows l) (λ j b. counted-all (done j) (fed (view_of l) i j) (shortfall (row_at l j)) (all j b)))) ∙
      settled-by (view_of l) (λ j b. (w.in-range j b).bounded) (card_row_at c) i h

  pub settled-to : (i : ℕ) → i < rows l → (o : Outcome) → Ok o ≡ settled_at l i c s → CardBounded (row_at l i) (shown o)
  settled-to i h o set = set-bounded _ _ _ _ _ o (w.in-range i h).bounded set

  -- row i is written into the card as k, and done from then on; what mattered no longer may
  module _ (i : ℕ) (h : i < rows l) (new : done i ≡ false) (done' : ℕ → Bool) (next : (j : ℕ) → done' j ≡ (done j || eqb j i))
      (matters' : ℕ → Bool) (weaker : (j : ℕ) → matters' j ≡ true → matters j ≡ true) (k : CardRow) (to : CardBounded (row_at l i) k) where
    r : Row
    r = row_at l i

    -- what row i asks of the row that feeds it
    asks : Fed
    asks = asked r k

    c' : List ℕ
    c' = put_card_row c i k

    before : ℕ → Fed
    before x = gathered_by done (view_of l) (card_row_at c) x

    after : ℕ → Fed
    after x = gathered_by done' (view_of l) (card_row_at c') x

    own : card_row_at c' i ≡ k
    unfolding c'
    own = put_card_row-own c i k (omega (arith, w.card-room))

    other : (j : ℕ) → (j ≡ i → ⊥) → card_row_at c' j ≡ card_row_at c j
    unfolding c'
    other j n = put_card_row-other c i k j n

    -- what row i asks counts where it is fed
    gather-next :
        (x : ℕ) → after x
        ≡ record {
          load = (before x).load + cond (fed (view_of l) x i) asks.load 0;
          excess = max (before x).excess (cond (fed (view_of l) x i) asks.excess 0);
          shortfall = max (before x).shortfall (cond (fed (view_of l) x i) asks.shortfall 0);
        }
    unfolding r asks before after
    gather-next x =
        let on = fed (view_of l) x in
        same-fed
        (sum-next (rows l) i h done done' new next on (load_of (view_of l)) (load_of (view_of l)) (λ j n. refl))
        (max-next (rows l) i h done done' new next on (λ j. excess (row_at l j) (card_row_at c j)) (λ j. excess (row_at l j) (card_row_at c' j))
        (λ j n. ap (excess (row_at l j)) (other j n)) ∙
        ap (λ (y : CardRow). max (before x).excess (cond (on i) (excess (row_at l i) y) 0)) own)
        (max-next (rows l) i h done done' new next on (λ j. shortfall (row_at l j)) (λ j. shortfall (row_at l j)) (λ j n. refl))

    gather-fed : (x : ℕ) → fed (view_of l) x i ≡ true → joined (before x) asks ≡ after x
    gather-fed x g = sym (gather-next x ∙ rw g)

    gather-unfed : (x : ℕ) → fed (view_of l) x i ≡ false → before x ≡ after x
    gather-unfed x g = sym (gather-next x ∙ rw g (same-fed (add-zero _) (max-zero _) (max-zero _)))

    -- the feeder's numbers joined with what row i asks
    for-feeder : Fed
    for-feeder = joined (fed_at s (r.feeder - 1)) asks

    module _ (x : ℕ) (b : x < rows l) (m : matters x ≡ true) where
      is-before : fed_at s x ≡ before x
      unfolding before
      is-before = w.summed x b m

      at-feeder : (r.feeder ≡ 0 → ⊥) → fed (view_of l) x i ≡ true → fed_at (set s (r.feeder - 1) for-feeder) x ≡ after x
      unfolding r for-feeder
      at-feeder n0 g =
          let e : r.feeder - 1 ≡ x = omega (arith, eqb-true r.feeder (x + 1) g) in
          rw e
          (put_fed-own s x (joined (fed_at s x) asks) (omega (arith, w.sums-room)) ∙ ap (λ (f : Fed). joined f asks) is-before ∙ gather-fed x g)

      elsewhere : (r.feeder ≡ 0 → ⊥) → fed (view_of l) x i ≡ false → fed_at (set s (r.feeder - 1) for-feeder) x ≡ after x
      unfolding r
      elsewhere n0 g =
          put_fed-other s (r.feeder - 1) for-feeder x (λ e. eqb-false r.feeder (x + 1) g (omega arith)) ∙ is-before ∙ gather-unfed x g

      summed-next : fed_at (pushed r k s) x ≡ after x
      unfolding r asks for-feeder
      summed-next =
          ⊎_elim
          (λ (z : eqb r.feeder 0 ≡ true).
          let f0 = eqb-true r.feeder 0 z in
          ap (λ (s : List Fed). fed_at s x) (sym (pushed-source r k s f0)) ∙ is-before ∙
          gather-unfed x (ne_eqb r.feeder (x + 1) (λ e. omega arith)))
          (λ (z : eqb r.feeder 0 ≡ false).
          let n0 = eqb-false r.feeder 0 z in
          ap (λ (s : List Fed). fed_at s x)
          (sym (pushed-feeder r k s (fed_at s (r.feeder - 1)) asks for-feeder n0 refl refl refl)) ∙
          ⊎_elim (at-feeder n0) (elsewhere n0) (passes-or-fails (eqb r.feeder (x + 1))))
          (passes-or-fails (eqb r.feeder 0))

    pub work-next : Working l done' matters' (put_card_row c i k) (pushed (row_at l i) k s)
    unfolding c' r after
    work-next =
        record {
          rows-to = w.rows-to;
          in-range = w.in-range;
          feeds = w.feeds;
          card-room = rw (put_card_row-length c i k) w.card-room;
          sums-room = rw (pushed-length (row_at l i) k s) w.sums-room;
          settings-to =
              λ j b g.
              ⊎_elim
              (λ e. rw (eqb-true j i e) (subst (CardBounded (row_at l i)) (sym own) to))
              (λ e.
              let n = eqb-false j i e in
              subst (CardBounded (row_at l j)) (sym (other j n)) (w.settings-to j b (was-done j n g)))
              (passes-or-fails (eqb j i));
          summed = λ x b m. summed-next x b (weaker x m);
        }
      where
        was-done : (j : ℕ) → (j ≡ i → ⊥) → done' j ≡ true → done j ≡ true
        was-done j n g = rw (next j, ne_eqb j i n, mathlib.Core.Bool.or-false (done j)) at g
