-- The tests 2 to 5 exactly: each ends as it does where the list is so, at the first row and field, and no other way.
use Rattle.answers.specs.declared.Refusal.TheVariants.{Field}
use Rattle.answers.specs.Answer.{Answer}
use Rattle.std.proofs.Common.{Option, Some, None, unwrap_or, Err}
use mathlib.Core.Path.{◌≡◌, refl, sym, ap, ◌∙◌, subst}
use mathlib.Core.Bool.{Bool, true, false, cond}
use mathlib.Core.Logic.{◌⊎◌, ◌↔◌, inl, inr, ⊎_elim}
use mathlib.Core.List.{List}
use Prim.Native.Nat.{ℕ, ◌+◌, ◌*◌, ◌%◌, ◌≤◌, ◌<◌}
use native.Mathlib.Omega.{arith}
use lib.Dec.{leb, eqb}
use lib.ListN.{length}
use borrow.Author.Tests.{eqb-true, eqb-false, leb-true, leb-false, not-false, not-true}
use Rattle.fold.specs.First.{first}
use Rattle.fold.proofs.BoolLaws.{passes-or-fails, fails, not-both, lt-or-le}
use Rattle.fold.proofs.FirstLaws.{first-at, first-is, first-none, first-nothing}
use Rattle.layout.specs.Counts.{field_count, column_count, list_most, rows_most}
use Rattle.layout.specs.Fields.{at_low, at_high, at_primary, at_secondary}
use Rattle.layout.specs.List.{rows, field}
use Rattle.rows.specs.Tests.{field_right, field_wrong, high_right, order_fault, fault_after, row_fault, row_at_fault, feeds_right, fed_wrongly, size_test, field_answer}
use Rattle.rows.specs.Tests.{tree_answer, tree_test, rows_test}
use Rattle.rows.specs.InRange.{RightSize, RowInRange, InRange, FieldInRange, FirstWrong, LowAboveHigh, HighAboveMost}
use Rattle.rows.specs.InRange.{FirstOutOfRange, SizeGets, RowsGet}
use Rattle.rows.proofs.InRangeLaws.{field-in-range, low-fault, high-fault, no-fault-row, in-range-field, row-no-fault}
use Rattle.rows.proofs.InRangeLaws.{not_some, right-feeds, feeds-right, in-range-none, in-range-passes}
use Rattle.rows.proofs.TestLaws.{size-ragged, size_none, size-over, size-short, size-right}

-- ---- 2 COUNT and 3 ROOM

module _ (l : List ℕ) (room : ℕ) where
  right-size : length l % field_count ≡ 0 → field_count ≤ length l → length l ≤ list_most → RightSize l
  right-size a b c = record { count = rows l; whole-rows = omega arith; some = omega arith; most = omega arith }

  pub get-size : {t : Answer} → SizeGets l room t → size_test (length l) room ≡ t
  get-size (SizeGets.passed s r) =
      let w = s.whole-rows in
      let a = s.some in
      let b = s.most in
      sym (size-right (length l) room (omega arith) (omega arith) (omega arith) (omega arith))
  get-size (SizeGets.ROOM s r) =
      let w = s.whole-rows in
      let a = s.some in
      let b = s.most in
      sym (size-short (length l) room (omega arith) (omega arith) (omega arith) (omega arith))
  get-size (SizeGets.COUNT n) =
      ⊎_elim
      (λ (e : eqb (length l % field_count) 0 ≡ true).
      let w = eqb-true _ _ e in
      ⊎_elim
      (λ (h : length l < field_count). sym (size_none (length l) room w h))
      (λ (h : field_count ≤ length l).
      ⊎_elim
      (λ (k : list_most < length l). sym (size-over (length l) room w h k))
      (λ (k : length l ≤ list_most). absurd (n (right-size w h k)))
      (lt-or-le list_most (length l)))
      (lt-or-le (length l) field_count))
      (λ (e : eqb (length l % field_count) 0 ≡ false). sym (size-ragged (length l) room (eqb-false _ _ e)))
      (passes-or-fails (eqb (length l % field_count) 0))

  -- a list is of the right size or not, and there is room or not
  pub size-gets : SizeGets l room (size_test (length l) room)
  size-gets =
      ⊎_elim
      (λ s.
      ⊎_elim
      (λ (r : room < rows l * column_count). given (SizeGets.ROOM s (λ h. omega arith)))
      (λ (r : rows l * column_count ≤ room). given (SizeGets.passed s r))
      (lt-or-le room (rows l * column_count)))
      (λ n. given (SizeGets.COUNT n))
      sized
    where
      given : {t : Answer} → SizeGets l room t → SizeGets l room (size_test (length l) room)
      given g = subst (SizeGets l room) (sym (get-size g)) g

      sized : RightSize l ⊎ (RightSize l → ⊥)
      sized =
          ⊎_elim
          (λ (e : eqb (length l % field_count) 0 ≡ true).
          let w = eqb-true _ _ e in
          ⊎_elim
          (λ (h : length l < field_count). inr (λ s. omega (arith, s.whole-rows, s.some)))
          (λ (h : field_count ≤ length l).
          ⊎_elim
          (λ (k : list_most < length l). inr (λ s. omega (arith, s.whole-rows, s.most)))
          (λ (k : length l ≤ list_most). inl (right-size w h k))
          (lt-or-le list_most (length l)))
          (lt-or-le (length l) field_count))
          (λ (e : eqb (length l % field_count) 0 ≡ false). inr (λ s. eqb-false (length l % field_count) 0 e (omega (arith, s.whole-rows))))
          (passes-or-fails (eqb (length l % field_count) 0))

  pub size-exactly : (t : Answer) → (size_test (length l) room ≡ t) ↔ SizeGets l room t
  size-exactly t = (λ e. subst (SizeGets l room) e size-gets, get-size)

pub size-rows : (l : List ℕ) → RightSize l → rows l ≤ rows_most
size-rows l s = omega (arith, s.whole-rows, s.most)

-- ---- 4 FIELD and 5 TREE, on a list of at most 256 rows

module _ (l : List ℕ) (few : rows l ≤ rows_most) where
  -- the fault of a row that has one
  out-fault : (i k : ℕ) → FirstOutOfRange l i k → row_fault l i ≡ Some (k + 1)
  unfolding row_fault fault_after
  out-fault i k f =
      ⊎_elim
      (λ (w : FirstWrong l i k).
      rw
      (first-is (field_wrong l i) field_count 0 k (omega arith) w.inside
      (rw (fails (field_right l i k) (λ t. w.wrong (field-in-range l i k t))))
      (λ m a b. rw (right m (w.fields-before m b)))))
      (⊎_elim
      (λ (w : LowAboveHigh l i k).
      rw (none w.fields-right) (low-fault l i w.above ∙ ap (λ (x : ℕ). Some x) (sym w.named)))
      (λ (w : HighAboveMost l i k).
      rw (none w.fields-right) (high-fault l i w.low-at-most-high w.above ∙ ap (λ (x : ℕ). Some x) (sym w.named))))
      f.fault
    where
      right : (m : ℕ) → FieldInRange l i m → field_right l i m ≡ true
      right m = in-range-field l i (omega (arith, f.inside)) m

      none : ((m : ℕ) → m < field_count → FieldInRange l i m) → first (field_wrong l i) 0 field_count ≡ None
      none all = first-none (field_wrong l i) field_count 0 (λ m a b. rw (right m (all m (omega arith))))

  -- and the field that is named for it
  module _ (i : ℕ) (h : i < rows l) (before : (j : ℕ) → j < i → RowInRange l j) where
    abbrev Fault : Type 0
    Fault = (k : ℕ) × FirstOutOfRange l i k

    named : (k : ℕ) → FirstWrong l i k ⊎ (LowAboveHigh l i k ⊎ HighAboveMost l i k) → Fault
    named k f = (k, record { inside = h; rows_before = before; fault = f })

    order-named :
        ((m : ℕ) → m < field_count → FieldInRange l i m) → (a b : Bool) → leb (field l i at_low) (field l i at_high) ≡ a →
        leb (field l i at_high * field l i at_primary) (100000000 * field l i at_secondary) ≡ b →
        (cond a (cond b None (Some (at_high + 1))) (Some (at_low + 1)) ≡ None → ⊥) → Fault
    order-named right false b d e n = named at_low (inr (inl (record { fields-right = right; above = leb-false _ _ d; named = refl })))
    order-named right true false d e n =
        named at_high
        (inr (inr (record { fields-right = right; low-at-most-high = leb-true _ _ d; above = leb-false _ _ e; named = refl })))
    order-named right true true d e n = absurd (n refl)

    fault-named : (found : Option ℕ) → first (field_wrong l i) 0 field_count ≡ found → (fault_after (order_fault l i) found ≡ None → ⊥) → Fault
    unfolding fault_after order_fault high_right
    fault-named (Some k) e n =
        let a = first-at (field_wrong l i) field_count 0 k e in
        named k
        (inl
        (record {
          inside = omega (arith, a.below);
          fields-before = λ m b. field-in-range l i m (not-false _ (a.before m (omega arith) b));
          wrong = λ r. not-both (in-range-field l i (omega arith) k r) (not-true _ a.passes);
        }))
    fault-named None e n =
        order-named (λ m b. field-in-range l i m (not-false _ (first-nothing (field_wrong l i) field_count 0 e m (omega arith) (omega arith))))
        (leb (field l i at_low) (field l i at_high)) (leb (field l i at_high * field l i at_primary) (100000000 * field l i at_secondary)) refl refl n

    fault-of : (row_fault l i ≡ None → ⊥) → Fault
    unfolding row_fault
    fault-of n = fault-named (first (field_wrong l i) 0 field_count) refl n

  pub get_rows : {t : Answer} → RowsGet l t → rows_test l ≡ t
  unfolding rows_test tree_test field_answer tree_answer
  get_rows (RowsGet.passed a b) = in-range-passes l few a b
  get_rows (RowsGet.FIELD i k f) =
      let q = out-fault i k f in
      rw
      (first-is (row_at_fault l) (rows l) 0 i (omega arith) (omega (arith, f.inside))
      (rw q)
      (λ j a b. rw (row-no-fault l j (omega (arith, f.inside)) (f.rows_before j b))))
      (ap (λ (x : Option ℕ). Err (Field (i + 1) (unwrap_or x 0))) q)
  get_rows (RowsGet.TREE i a f) =
      rw (
        in-range-none l few a,
        first-is (fed_wrongly l) (rows l) 0 i (omega arith) (omega (arith, f.inside))
            (rw (fails (feeds_right l i) (λ t. f.misfed (right-feeds l i f.inside t))))
            (λ j x b. rw (feeds-right l j (omega (arith, f.inside)) (f.rows_before j b))),
      )

  pub rows_get : RowsGet l (rows_test l)
  rows_get = by_field (first (row_at_fault l) 0 (rows l)) refl
    where
      given : {t : Answer} → RowsGet l t → RowsGet l (rows_test l)
      given g = subst (RowsGet l) (sym (get_rows g)) g

      by-tree : InRange l → (f : Option ℕ) → first (fed_wrongly l) 0 (rows l) ≡ f → RowsGet l (rows_test l)
      by-tree a None e =
          given (RowsGet.passed a (λ i h. right-feeds l i h (not-false _ (first-nothing (fed_wrongly l) (rows l) 0 e i (omega arith) (omega arith)))))
      by-tree a (Some i) e =
          let f = first-at (fed_wrongly l) (rows l) 0 i e in
          let h : i < rows l = omega (arith, f.below) in
          given
          (RowsGet.TREE i a
          (record {
            inside = h;
            rows_before = λ j b. right-feeds l j (omega arith) (not-false _ (f.before j (omega arith) b));
            misfed = λ r. not-both (feeds-right l i h r) (not-true _ f.passes);
          }))

      by_field : (f : Option ℕ) → first (row_at_fault l) 0 (rows l) ≡ f → RowsGet l (rows_test l)
      by_field None e =
          by-tree
          (λ i h. no-fault-row l i (not_some _ (first-nothing (row_at_fault l) (rows l) 0 e i (omega arith) (omega arith))))
          (first (fed_wrongly l) 0 (rows l)) refl
      by_field (Some i) e =
          let f = first-at (row_at_fault l) (rows l) 0 i e in
          let n : (k : ℕ) × FirstOutOfRange l i k =
          fault-of i (omega (arith, f.below))
          (λ j b. no-fault-row l j (not_some (row_fault l j) (f.before j (omega arith) b)))
          (λ z. not-both f.passes (rw z)) in
          given (RowsGet.FIELD i n.0 n.1)

  pub rows-exactly : (t : Answer) → (rows_test l ≡ t) ↔ RowsGet l t
  rows-exactly t = (λ e. subst (RowsGet l) e rows_get, get_rows)
