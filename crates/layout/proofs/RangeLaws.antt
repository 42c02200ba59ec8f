-- The tables of bounds say what section 2 and CARD say, by the names of the fields and columns: another table, or another order of
-- the fields, would not.
use mathlib.Core.Path.{◌≡◌, refl}
use mathlib.Core.Bool.{true, false}
use mathlib.Core.Logic.{◌↔◌, ⊎_elim}
use mathlib.Core.List.{List, [], ◌∷◌}
use Prim.Native.Nat.{ℕ, zero, suc, ◌*◌, ◌≤◌, ◌<◌}
use native.Mathlib.Nat.{le_trans, mul-le-mul_left}
use native.Mathlib.Omega.{arith}
use lib.Dec.{leb, eqb}
use borrow.Author.Tests.{leb-true, le-leb, eqb-true, eqb-false}
use Rattle.fold.proofs.BoolLaws.{and_left, and_right, and_both, passes-or-fails}
use Rattle.fold.proofs.FoldLaws.{below-cases}
use Rattle.layout.specs.declared.CardRow.{CardRow}
use Rattle.layout.specs.Card.{column, card_row_at, column_bounds_to}
use Rattle.layout.specs.Counts.{column_count}
use Rattle.layout.specs.Fields.{at_feeder, at_kind, at_volts, at_work, at_selfstart, at_return, at_far, at_clear, at_near, at_factor, at_low, at_high, at_step}
use Rattle.layout.specs.Fields.{at_device, at_floor, at_ceiling, at_backed, at_primary, at_secondary, at_law, at_greatest}
use Rattle.layout.specs.Fields.{least_in, greatest_in, in_bounds}
use Rattle.sides.specs.Sides.{milliamperes, keyed, RatingsFit}
use Rattle.layout.specs.List.{field, row_at, bounds_at}
use Rattle.layout.specs.Range.{Within, named_count, Bounded, CardRowInRange}

-- the test of an entry is what it says
pub in-bounds-exactly : (table : List ℕ) (k x : ℕ) → (in_bounds table k x ≡ true) ↔ Within table k x
unfolding in_bounds
in-bounds-exactly table k x = (
  λ e. (
    leb-true _ _ (and_left (leb (least_in table k) x) (leb x (greatest_in table k)) e),
    leb-true _ _ (and_right (leb (least_in table k) x) (leb x (greatest_in table k)) e),
  ),
  λ w. and_both (le-leb _ _ w.0) (le-leb _ _ w.1),
)

-- all fields but the first within it, and the two ratings beside each other: the row is as section 2 and requests §1 and §3 say
pub within-bounded :
    (l : List ℕ) (i : ℕ) → ((k : ℕ) → 1 ≤ k → k < named_count → Within (bounds_at l i) k (field l i k)) →
    RatingsFit (field l i at_primary) (field l i at_secondary) → Bounded (row_at l i)
within-bounded l i w s =
    record {
      feeder-to = (w at_feeder (omega arith) (omega arith)).1;
      kind-from = (w at_kind (omega arith) (omega arith)).0;
      kind-to = (w at_kind (omega arith) (omega arith)).1;
      volts-from = (w at_volts (omega arith) (omega arith)).0;
      volts-to = (w at_volts (omega arith) (omega arith)).1;
      work-from = mul-le-mul_left 5 (w at_work (omega arith) (omega arith)).0;
      work-to = mul-le-mul_left 5 (w at_work (omega arith) (omega arith)).1;
      selfstart-from = (w at_selfstart (omega arith) (omega arith)).0;
      selfstart-to = (w at_selfstart (omega arith) (omega arith)).1;
      return_from = (w at_return (omega arith) (omega arith)).0;
      return-to = (w at_return (omega arith) (omega arith)).1;
      far_from = mul-le-mul_left 5 (w at_far (omega arith) (omega arith)).0;
      far-to = mul-le-mul_left 5 (w at_far (omega arith) (omega arith)).1;
      clear-from = mul-le-mul_left 5 (w at_clear (omega arith) (omega arith)).0;
      clear-to = mul-le-mul_left 5 (w at_clear (omega arith) (omega arith)).1;
      near-from = mul-le-mul_left 5 (w at_near (omega arith) (omega arith)).0;
      near-to = mul-le-mul_left 5 (w at_near (omega arith) (omega arith)).1;
      factor-from = (w at_factor (omega arith) (omega arith)).0;
      factor-to = (w at_factor (omega arith) (omega arith)).1;
      low-from = (w at_low (omega arith) (omega arith)).0;
      low-to = (w at_low (omega arith) (omega arith)).1;
      high-from = (w at_high (omega arith) (omega arith)).0;
      high-to = (w at_high (omega arith) (omega arith)).1;
      step_from = (w at_step (omega arith) (omega arith)).0;
      step-to = (w at_step (omega arith) (omega arith)).1;
      device-from = (w at_device (omega arith) (omega arith)).0;
      device-to = (w at_device (omega arith) (omega arith)).1;
      floor-to = (w at_floor (omega arith) (omega arith)).1;
      ceiling-to = (w at_ceiling (omega arith) (omega arith)).1;
      backed-to = (w at_backed (omega arith) (omega arith)).1;
      rated = record { primary-to = (w at_primary (omega arith) (omega arith)).1; secondary-fits = s };
      law-to = (w at_law (omega arith) (omega arith)).1;
      greatest-from = mul-le-mul_left 5 (w at_greatest (omega arith) (omega arith)).0;
      greatest-to = mul-le-mul_left 5 (w at_greatest (omega arith) (omega arith)).1;
    }

-- field k is the n-th, or one below it
one_below :
    (l : List ℕ) (i k n : ℕ) → Within (bounds_at l i) n (field l i n) → (k < n → Within (bounds_at l i) k (field l i k)) → k < suc n →
    Within (bounds_at l i) k (field l i k)
one_below l i k n w below h = below-cases h (λ e. rw e w) below

-- a rated secondary is at most 5
secondary-to : (p s : ℕ) → RatingsFit p s → s ≤ 5
secondary-to p s a =
    ⊎_elim
    (λ (e : eqb p 0 ≡ true). omega (arith, a.none (eqb-true p 0 e)))
    (λ (e : eqb p 0 ≡ false). ⊎_elim (λ o. omega arith) (λ f. omega arith) (a.one-or-five (eqb-false p 0 e)))
    (passes-or-fails (eqb p 0))

-- 5 × x within 5 × a and 5 × b is x within a and b
of-fifths : (a b x : ℕ) → 5 * a ≤ 5 * x → 5 * x ≤ 5 * b → (a ≤ x) × (x ≤ b)
of-fifths a b x h k = (omega arith, omega arith)

pub bounded-within : (l : List ℕ) (i : ℕ) → Bounded (row_at l i) → (k : ℕ) → 1 ≤ k → k < named_count → Within (bounds_at l i) k (field l i k)
bounded-within l i b k h =
    let is-or = one_below l i k in
    let current = of-fifths 1 100000000 in
    is-or at_greatest (current (field l i at_greatest) b.greatest-from b.greatest-to)
    (is-or at_law (omega arith, b.law-to)
    (is-or at_secondary (omega arith, secondary-to (field l i at_primary) (field l i at_secondary) b.rated.secondary-fits)
    (is-or at_primary (omega arith, b.rated.primary-to)
    (is-or at_backed (omega arith, b.backed-to)
    (is-or at_ceiling (omega arith, b.ceiling-to)
    (is-or at_floor (omega arith, b.floor-to)
    (is-or at_device (b.device-from, b.device-to)
    (is-or at_step (b.step_from, b.step-to)
    (is-or at_high (b.high-from, b.high-to)
    (is-or at_low (b.low-from, b.low-to)
    (is-or at_factor (b.factor-from, b.factor-to)
    (is-or at_near (current (field l i at_near) b.near-from b.near-to)
    (is-or at_clear (current (field l i at_clear) b.clear-from b.clear-to)
    (is-or at_far (current (field l i at_far) b.far_from b.far-to)
    (is-or at_return (b.return_from, b.return-to)
    (is-or at_selfstart (b.selfstart-from, b.selfstart-to)
    (is-or at_work (current (field l i at_work) b.work-from b.work-to)
    (is-or at_volts (b.volts-from, b.volts-to)
    (is-or at_kind (b.kind-from, b.kind-to)
    (is-or at_feeder (omega arith, b.feeder-to) (λ g. absurd (omega arith))))))))))))))))))))))

-- the same of the columns of a card row
pub columns-exactly :
    (most : ℕ) (c : List ℕ) (i : ℕ) →
    ((k : ℕ) → k < column_count → Within (column_bounds_to most) k (column c i k)) ↔ CardRowInRange most (card_row_at c i)
columns-exactly most c i = (
  λ w. record {
    pickup-from = (w 0 (omega arith)).0;
    pickup-to = (w 0 (omega arith)).1;
    delay-to = (w 1 (omega arith)).1;
    cutoff-to = (w 2 (omega arith)).1;
    law-to = (w 3 (omega arith)).1;
    multiplier-to = (w 4 (omega arith)).1;
  },
  λ b k h. by-column b k h,
)
  where
    by-column : CardRowInRange most (card_row_at c i) → (k : ℕ) → k < column_count → Within (column_bounds_to most) k (column c i k)
    by-column b zero h = (b.pickup-from, b.pickup-to)
    by-column b (suc zero) h = (omega arith, b.delay-to)
    by-column b (suc (suc zero)) h = (omega arith, b.cutoff-to)
    by-column b (suc (suc (suc zero))) h = (omega arith, b.law-to)
    by-column b (suc (suc (suc (suc zero)))) h = (omega arith, b.multiplier-to)
    by-column b (suc (suc (suc (suc (suc k))))) h = absurd (omega arith)

-- what is in range is so with a greater most
pub widen : {m n : ℕ} (s : CardRow) → m ≤ n → CardRowInRange m s → CardRowInRange n s
widen s h r =
    record {
      pickup-from = r.pickup-from;
      pickup-to = le_trans r.pickup-to h;
      delay-to = r.delay-to;
      cutoff-to = le_trans r.cutoff-to h;
      law-to = r.law-to;
      multiplier-to = r.multiplier-to;
    }

-- ---- the order of the fields and of the columns, in the second row: field n of it is 100 + n, and so is its column n

pub fields-in-order :
    row_at
    (
    1 ∷ 2 ∷ 3 ∷ 4 ∷ 5 ∷ 6 ∷ 7 ∷ 8 ∷ 9 ∷ 10 ∷ 11 ∷ 12 ∷ 13 ∷ 14 ∷ 15 ∷ 16 ∷ 17 ∷ 18 ∷ 19 ∷ 20 ∷ 21 ∷ 22 ∷
    101 ∷ 102 ∷ 103 ∷ 104 ∷ 105 ∷ 106 ∷ 107 ∷ 108 ∷ 109 ∷ 110 ∷ 111 ∷ 112 ∷
    113 ∷ 114 ∷ 115 ∷ 116 ∷ 117 ∷ 118 ∷ 119 ∷ 120 ∷ 121 ∷ 122 ∷ []
    )
    1 ≡
    record {
      feeder = 102;
      kind = 103;
      volts = 104;
      work = milliamperes 105;
      selfstart = 106;
      returnfactor = 107;
      far = milliamperes 108;
      clear = milliamperes 109;
      near = milliamperes 110;
      factor = 111;
      low = keyed 112;
      high = keyed 113;
      step = keyed 114;
      device = 115;
      floor = 116;
      ceiling = 117;
      backed = 118;
      ratio = record { primary = 119; secondary = 120 };
      law = 121;
      greatest = milliamperes 122;
    }
fields-in-order = refl

pub columns-in-order :
    card_row_at (1 ∷ 2 ∷ 3 ∷ 4 ∷ 5 ∷ 101 ∷ 102 ∷ 103 ∷ 104 ∷ 105 ∷ []) 1 ≡
    record { pickup = keyed 101; delay = 102; cutoff = keyed 103; law = 104; multiplier = 105 }
columns-in-order = refl
