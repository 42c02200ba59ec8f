-- The tests of a field, a row and its feeding pass exactly what is in range and feeds as section 2 says; what the rows of such a list are.
use Rattle.answers.specs.Answer.{Answer, done}
use Rattle.std.proofs.Common.{Option, Some, None, is_some}
use mathlib.Core.Path.{◌≡◌, refl, ap, ap₂}
use mathlib.Core.Bool.{Bool, true, false, not, cond, ◌&&◌, ◌||◌}
use mathlib.Core.Logic.{◌⊎◌, ◌↔◌, inl, inr, ⊎_elim}
use mathlib.Core.List.{List}
use Prim.Native.Nat.{ℕ, ◌+◌, ◌-◌, ◌*◌, ◌≤◌, ◌<◌}
use native.Mathlib.Omega.{arith}
use lib.Dec.{leb, ltb, eqb}
use borrow.Author.Tests.{eqb-true, eqb-false, ltb-true, leb-true, not-false, not-true, ne_eqb, eq-eqb, le-leb, lt-leb, lt-ltb}
use Rattle.layout.specs.Counts.{field_count, rows_most}
use Rattle.fold.specs.First.{first}
use Rattle.fold.proofs.BoolLaws.{and_left, and_right, and_both, implies, implied, passes-or-fails, lt-or-le, zero-not-one}
use Rattle.fold.proofs.FirstLaws.{first-none, first-nothing}
use Rattle.layout.specs.Fields.{at_low, at_high, at_primary, at_secondary, in_bounds}
use Rattle.layout.specs.List.{rows, field, row_at, bounds_at}
use Rattle.sides.specs.Sides.{RatingsFit}
use Rattle.layout.specs.Range.{named_count}
use Rattle.layout.proofs.RangeLaws.{in-bounds-exactly, within-bounded, bounded-within}
use Rattle.rows.specs.Tests.{rating_right, field_right, high_right, order_fault, row_fault, fault_after, row_at_fault}
use Rattle.rows.specs.Tests.{feeds_right, fed_wrongly, field_answer, tree_answer, tree_test, rows_test}
use Rattle.rows.specs.InRange.{RowInRange, InRange, FieldInRange, FedRightly, Feeds}

-- the test of two ratings is what it says
pub rating-exactly : (p s : ℕ) → (rating_right p s ≡ true) ↔ RatingsFit p s
unfolding rating_right
rating-exactly p s = (to, from)
  where
    to : cond (eqb p 0) (eqb s 0) (eqb s 1 || eqb s 5) ≡ true → RatingsFit p s
    to e =
        record {
          none = λ z. eqb-true s 0 (rw (eq-eqb p 0 z) at e);
          one-or-five = λ n. either (eqb s 1) refl (rw (ne_eqb p 0 n) at e);
        }
      where
        either : (a : Bool) → eqb s 1 ≡ a → (a || eqb s 5) ≡ true → (s ≡ 1) ⊎ (s ≡ 5)
        either true o h = inl (eqb-true s 1 o)
        either false o h = inr (eqb-true s 5 h)

    from : RatingsFit p s → cond (eqb p 0) (eqb s 0) (eqb s 1 || eqb s 5) ≡ true
    from a =
        ⊎_elim
        (λ (e : eqb p 0 ≡ true). rw e (eq-eqb s 0 (a.none (eqb-true p 0 e))))
        (λ (e : eqb p 0 ≡ false).
        rw e (⊎_elim (λ o. rw (eq-eqb s 1 o)) (λ f. rw f) (a.one-or-five (eqb-false p 0 e))))
        (passes-or-fails (eqb p 0))

-- ---- fields and rows

module _ (l : List ℕ) (i : ℕ) where
  abbrev own : ℕ → Bool
  own k = not (eqb k 0) || eqb (field l i k) (i + 1)

  abbrev rated : ℕ → Bool
  rated k = not (eqb k at_secondary) || rating_right (field l i at_primary) (field l i k)

  pub field-in-range : (k : ℕ) → field_right l i k ≡ true → FieldInRange l i k
  unfolding field_right
  field-in-range k e =
      let rest = and_right (in_bounds (bounds_at l i) k (field l i k)) (own k && rated k) e in
      record {
        own-number = λ z. eqb-true _ _ (implies (eqb k 0) _ (and_left (own k) (rated k) rest) (eq-eqb k 0 z));
        within = λ _. (in-bounds-exactly (bounds_at l i) k (field l i k)).0 (and_left (in_bounds (bounds_at l i) k (field l i k)) (own k && rated k) e);
        rating =
            λ z.
            (rating-exactly (field l i at_primary) (field l i k)).0
            (implies (eqb k at_secondary) _ (and_right (own k) (rated k) rest) (eq-eqb k at_secondary z));
      }

  -- a row without fault has its fields right, and they are in order
  no-fault-none : (f o : Option ℕ) → fault_after o f ≡ None → f ≡ None
  unfolding fault_after
  no-fault-none (Some k) o e = absurd (zero-not-one cc)
  no-fault-none None o e = refl

  no-fault-order : (f o : Option ℕ) → fault_after o f ≡ None → o ≡ None
  unfolding fault_after
  no-fault-order (Some k) o e = absurd (zero-not-one cc)
  no-fault-order None o e = e

  no-fault-fields : row_fault l i ≡ None → (k : ℕ) → k < field_count → field_right l i k ≡ true
  unfolding row_fault
  no-fault-fields e k h =
      not-false _ (first-nothing (λ k. not (field_right l i k)) field_count 0 (no-fault-none _ _ e) k (omega arith) (omega arith))

  -- fields in range, low at most high and high at most its most are a row in range
  pub fields-row :
      ((k : ℕ) → k < field_count → FieldInRange l i k) → field l i at_low ≤ field l i at_high →
      field l i at_high * field l i at_primary ≤ 100000000 * field l i at_secondary → RowInRange l i
  fields-row r o h =
      record {
        own-number = (r 0 (omega arith)).own-number refl;
        bounded = within-bounded l i (λ k a b. (r k (omega arith)).within a) ((r at_secondary (omega arith)).rating refl);
        not_named = λ k a b. (r k b).within (omega arith);
        low-at-most-high = o;
        high-at-most = h;
      }

  pub row-fields : RowInRange l i → (k : ℕ) → k < field_count → FieldInRange l i k
  row-fields r k h =
      record {
        own-number = λ z. rw z r.own-number;
        within = λ a. ⊎_elim (λ b. bounded-within l i r.bounded k a b) (λ b. r.not_named k b h) (lt-or-le k named_count);
        rating = λ z. rw z r.bounded.rated.secondary-fits;
      }

  -- the test of the order of a row's fields, by each way that it ends
  abbrev Ordered : Option ℕ → Type 0
  Ordered o = (o ≡ None → field l i at_low ≤ field l i at_high) × (o ≡ None → field l i at_high * field l i at_primary ≤ 100000000 * field l i at_secondary)

  pub order-right : Ordered (order_fault l i)
  unfolding order_fault high_right
  order-right = by_cases (leb (field l i at_low) (field l i at_high)) refl (high_right (field l i at_high) (field l i at_primary) (field l i at_secondary)) refl
    where
      by_cases :
          (a : Bool) → leb (field l i at_low) (field l i at_high) ≡ a → (b : Bool) →
          high_right (field l i at_high) (field l i at_primary) (field l i at_secondary) ≡ b → Ordered (cond a (cond b None (Some (at_high + 1))) (Some (at_low + 1)))
      by_cases true e true f = (λ _. leb-true _ _ e, λ _. leb-true _ _ f)
      by_cases true e false f = (λ z. absurd (zero-not-one cc), λ z. absurd (zero-not-one cc))
      by_cases false e b f = (λ z. absurd (zero-not-one cc), λ z. absurd (zero-not-one cc))

  by_order :
      {a b : Bool} → leb (field l i at_low) (field l i at_high) ≡ a →
      leb (field l i at_high * field l i at_primary) (100000000 * field l i at_secondary) ≡ b →
      order_fault l i ≡ cond a (cond b None (Some (at_high + 1))) (Some (at_low + 1))
  unfolding order_fault high_right
  by_order e f = ap₂ (λ (a b : Bool). cond a (cond b None (Some (at_high + 1))) (Some (at_low + 1))) e f

  pub low-fault : field l i at_high < field l i at_low → order_fault l i ≡ Some (at_low + 1)
  low-fault h = by_order (lt-leb _ _ h) refl

  module _ (o : field l i at_low ≤ field l i at_high) where
    pub high-fault : 100000000 * field l i at_secondary < field l i at_high * field l i at_primary → order_fault l i ≡ Some (at_high + 1)
    high-fault h = by_order (le-leb _ _ o) (lt-leb _ _ h)

    pub right-order : field l i at_high * field l i at_primary ≤ 100000000 * field l i at_secondary → order_fault l i ≡ None
    right-order h = by_order (le-leb _ _ o) (le-leb _ _ h)

  pub no-fault-row : row_fault l i ≡ None → RowInRange l i
  unfolding row_fault
  no-fault-row e =
      let z = no-fault-order _ _ e in
      fields-row (λ k h. field-in-range k (no-fault-fields e k h)) (order-right.0 z) (order-right.1 z)

  -- the table lets a first field up to 256 pass, which is what a list of the right size has
  module _ (few : i < rows_most) where
    pub in-range-field : (k : ℕ) → FieldInRange l i k → field_right l i k ≡ true
    unfolding field_right
    in-range-field k r =
        and_both ((in-bounds-exactly (bounds_at l i) k (field l i k)).1 (⊎_elim
        (λ (z : eqb k 0 ≡ true).
        let own = r.own-number (eqb-true k 0 z) in
        rw (eqb-true k 0 z) (let own0 : field l i 0 ≡ i + 1 = rw (eqb-true k 0 z) at own in (omega arith, omega arith)))
        (λ (n : eqb k 0 ≡ false). r.within (let m = eqb-false k 0 n in omega arith))
        (passes-or-fails (eqb k 0))))
        (and_both
        (implied (eqb k 0) _ (λ z. eq-eqb _ _ (r.own-number (eqb-true k 0 z))))
        (implied (eqb k at_secondary) _ (λ z. (rating-exactly (field l i at_primary) (field l i k)).1 (r.rating (eqb-true k at_secondary z)))))

    pub row-no-fault : RowInRange l i → row_fault l i ≡ None
    unfolding row_fault fault_after
    row-no-fault r =
        rw (first-none (λ k. not (field_right l i k)) field_count 0 (λ k a b. rw (in-range-field k (row-fields r k (omega arith)))))
        (right-order r.low-at-most-high r.high-at-most)

-- ---- feeding

module _ (l : List ℕ) (i : ℕ) (h : i < rows l) where
  pub right-feeds : feeds_right l i ≡ true → FedRightly l i
  unfolding feeds_right
  right-feeds e =
      record {
        last-has-0 = λ z. eqb-true _ _ (rw (eq-eqb (i + 1) (rows l) z) at e);
        by-a-greater = λ n. ltb-true _ _ (and_left _ _ (other n));
        by-a-row = λ n. leb-true _ _ (and_left (leb (row_at l i).feeder (rows l)) _ (and_right (ltb (i + 1) (row_at l i).feeder) _ (other n)));
        by-no-motor =
            λ n m.
            eqb-false _ _ (not-true _ (and_right (leb (row_at l i).feeder (rows l)) _ (and_right (ltb (i + 1) (row_at l i).feeder) _ (other n)))) m;
      }
    where
      other :
          i + 1 < rows l →
          (ltb (i + 1) (row_at l i).feeder && (leb (row_at l i).feeder (rows l) && not (eqb (row_at l ((row_at l i).feeder - 1)).kind 3))) ≡ true
      other n = rw (ne_eqb (i + 1) (rows l) (λ z. omega arith)) at e

  pub feeds-right : FedRightly l i → feeds_right l i ≡ true
  unfolding feeds_right
  feeds-right f =
      ⊎_elim
      (λ (z : eqb (i + 1) (rows l) ≡ true). rw (z, eq-eqb _ _ (f.last-has-0 (eqb-true (i + 1) (rows l) z))))
      (λ (z : eqb (i + 1) (rows l) ≡ false).
      let n : i + 1 < rows l = let m = eqb-false (i + 1) (rows l) z in omega arith in
      rw z
      (and_both (lt-ltb _ _ (f.by-a-greater n)) (and_both (le-leb _ _ (f.by-a-row n)) (ap not (ne_eqb _ _ (f.by-no-motor n))))))
      (passes-or-fails (eqb (i + 1) (rows l)))

-- ---- the two tests over all rows

pub not_some : (f : Option ℕ) → is_some f ≡ false → f ≡ None
not_some None e = refl
not_some (Some x) e = absurd (zero-not-one cc)

module _ (l : List ℕ) where
  tree-passed : (f : Option ℕ) → tree_answer f ≡ done → f ≡ None
  unfolding tree_answer
  tree-passed (Some i) e = absurd (zero-not-one cc)
  tree-passed None e = refl

  fields-passed : (f : Option ℕ) (t : Answer) → field_answer l t f ≡ done → f ≡ None
  unfolding field_answer
  fields-passed (Some i) t e = absurd (zero-not-one cc)
  fields-passed None t e = refl

  then-passed : (f : Option ℕ) (t : Answer) → field_answer l t f ≡ done → t ≡ done
  unfolding field_answer
  then-passed (Some i) t e = absurd (zero-not-one cc)
  then-passed None t e = e

  pub passed-in-range : rows_test l ≡ done → InRange l
  unfolding rows_test
  passed-in-range e i h =
      no-fault-row l i
      (not_some _ (first-nothing (row_at_fault l) (rows l) 0 (fields-passed _ _ e) i (omega arith) (omega arith)))

  pub passed-feeds : rows_test l ≡ done → Feeds l
  unfolding rows_test tree_test
  passed-feeds e i h =
      right-feeds l i h
      (not-false _ (first-nothing (fed_wrongly l) (rows l) 0 (tree-passed _ (then-passed _ _ e)) i (omega arith) (omega arith)))

  -- no row is at fault, and none fed wrongly
  pub in-range-none : rows l ≤ rows_most → InRange l → first (row_at_fault l) 0 (rows l) ≡ None
  in-range-none few a =
      first-none (row_at_fault l) (rows l) 0 (λ i x y. rw (row-no-fault l i (omega arith) (a i (omega arith))))

  pub feeds-none : Feeds l → first (fed_wrongly l) 0 (rows l) ≡ None
  feeds-none b = first-none (fed_wrongly l) (rows l) 0 (λ i x y. rw (feeds-right l i (omega arith) (b i (omega arith))))

  pub in-range-passes : rows l ≤ rows_most → InRange l → Feeds l → rows_test l ≡ done
  unfolding rows_test tree_test field_answer tree_answer
  in-range-passes few a b = rw (in-range-none few a, feeds-none b)

-- the feeding row of a row: above it, and a row of the list; of the last row none
module _ (l : List ℕ) (b : Feeds l) (i : ℕ) (h : i < rows l) where
  pub feeder-above : (i + 1 ≡ rows l → ⊥) → (i + 1 < (row_at l i).feeder) × ((row_at l i).feeder ≤ rows l)
  feeder-above n =
      let f = b i h in
      let m : i + 1 < rows l = omega arith in
      (f.by-a-greater m, f.by-a-row m)

  pub feeder-of-last : i + 1 ≡ rows l → (row_at l i).feeder ≡ 0
  feeder-of-last = (b i h).last-has-0
