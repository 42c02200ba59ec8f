-- Laws of the tests 2 to 5, one for each way that a test ends.
use Rattle.answers.specs.declared.Refusal.{Refusal}
use Rattle.answers.specs.declared.Refusal.TheVariants.{Count, Room, Field, Tree}
use Rattle.answers.specs.Answer.{Answer, done}
use Rattle.std.proofs.Common.{Option, Some, None, Err, unwrap_or}
use mathlib.Core.Path.{◌≡◌, refl, sym, ap, ◌∙◌}
use mathlib.Core.Bool.{Bool, true, false, not, cond, ◌&&◌}
use mathlib.Core.List.{List}
use Prim.Native.Nat.{ℕ, ◌+◌, ◌-◌, ◌*◌, ◌/◌, ◌%◌, ◌≤◌, ◌<◌}
use lib.Dec.{leb, eqb}
use Rattle.layout.specs.Counts.{field_count, column_count, list_most}
use Rattle.fold.proofs.BoolLaws.{and_left, and_right, zero-not-one, lt-or-le}
use Rattle.fold.proofs.FirstLaws.{first-at, first-is, first-none, first-nothing}
use mathlib.Core.Logic.{⊎_elim}
use native.Mathlib.Omega.{arith}
use borrow.Author.Tests.{eqb-true, leb-true, le-leb, lt-leb, lt-ltb, le-ltb, eq-eqb, ne_eqb}
use Rattle.fold.specs.First.{first}
use Rattle.layout.specs.Fields.{at_feeder, at_kind, at_low, at_high, at_primary, at_secondary}
use Rattle.layout.specs.List.{rows, field}
use Rattle.rows.specs.Tests.{field_wrong, high_right, order_fault, fault_after, row_fault, row_at_fault}
use Rattle.rows.specs.Tests.{feeds_right, fed_wrongly, size_test, field_answer, fields_test, rows_test, tree_answer, tree_test}

module _ (l : List ℕ) (i : ℕ) where
  -- a search in two parts, below m and from m on
  module _ (m : ℕ) (h : m ≤ field_count) where
    pub wrong-before : (k : ℕ) → first (field_wrong l i) 0 m ≡ Some k → first (field_wrong l i) 0 field_count ≡ Some k
    wrong-before k e =
        let f = first-at (field_wrong l i) m 0 k e in
        first-is (field_wrong l i) field_count 0 k (omega arith) (omega (arith, f.below)) f.passes f.before

    module _ (none : first (field_wrong l i) 0 m ≡ None) where
      right-before : (j : ℕ) → j < m → field_wrong l i j ≡ false
      right-before j g = first-nothing (field_wrong l i) m 0 none j (omega arith) (omega arith)

      pub wrong-behind : (k : ℕ) → first (field_wrong l i) m (field_count - m) ≡ Some k → first (field_wrong l i) 0 field_count ≡ Some k
      wrong-behind k e =
          let f = first-at (field_wrong l i) (field_count - m) m k e in
          first-is (field_wrong l i) field_count 0 k (omega arith) (omega (arith, f.below)) f.passes
          (λ j _ g. ⊎_elim (λ (b : j < m). right-before j b) (λ (b : m ≤ j). f.before j b g) (lt-or-le j m))

      pub none-wrong : first (field_wrong l i) m (field_count - m) ≡ None → first (field_wrong l i) 0 field_count ≡ None
      none-wrong e =
          first-none (field_wrong l i) field_count 0
          (λ j _ g.
          ⊎_elim
          (λ (b : j < m). right-before j b)
          (λ (b : m ≤ j). first-nothing (field_wrong l i) (field_count - m) m e j b (omega arith))
          (lt-or-le j m))

  pub fault-found : (k : ℕ) → first (field_wrong l i) 0 field_count ≡ Some k → Some (k + 1) ≡ row_fault l i
  unfolding row_fault fault_after
  fault-found k e = rw e

  pub fault-after : (x : Option ℕ) → first (field_wrong l i) 0 field_count ≡ None → x ≡ order_fault l i → x ≡ row_fault l i
  unfolding row_fault fault_after
  fault-after x e h = rw e h

  -- without a ratio high is within its most
  pub plain-right : field l i at_primary ≡ 0 → (low high : ℕ) → low ≡ field l i at_low → high ≡ field l i at_high → low ≤ high → None ≡ order_fault l i
  unfolding order_fault high_right
  plain-right z low high a b h =
      let e : field l i at_high * field l i at_primary ≤ 100000000 * field l i at_secondary = rw z (omega arith) in
      sym (rw (← a, ← b, le-leb low high h) (rw b (rw (le-leb (field l i at_high * field l i at_primary) (100000000 * field l i at_secondary) e))))

  -- low above high; high within its most, and above it
  module _ (low high p s : ℕ) (a : low ≡ field l i at_low) (b : high ≡ field l i at_high) where
    pub order-low : high < low → Some (at_low + 1) ≡ order_fault l i
    unfolding order_fault
    order-low h = rw (← a, ← b, lt-leb low high h)

    module _ (r : Bool) (c : p ≡ field l i at_primary) (d : s ≡ field l i at_secondary) (h : low ≤ high) (f : r ≡ high_right high p s) where
      judged : order_fault l i ≡ cond r None (Some (at_high + 1))
      unfolding order_fault
      judged = rw (← a, ← b, le-leb low high h, ← c, ← d, ← f)

      pub order-none : r ≡ true → None ≡ order_fault l i
      order-none e = sym (judged ∙ rw e)

      pub order-high : r ≡ false → Some (at_high + 1) ≡ order_fault l i
      order-high e = sym (judged ∙ rw e)

module _ (l : List ℕ) where
  pub row-wrong : (i f : ℕ) → Some f ≡ row_fault l i → row_at_fault l i ≡ true
  row-wrong i f q = rw (← q)

  pub row-right : (i : ℕ) → None ≡ row_fault l i → row_at_fault l i ≡ false
  row-right i q = rw (← q)

  pub fields-found : (i f : ℕ) → Some f ≡ row_fault l i → first (row_at_fault l) 0 (rows l) ≡ Some i → Err (Field (i + 1) f) ≡ fields_test l
  unfolding fields_test field_answer
  fields-found i f q e = rw e (ap (λ (x : Option ℕ). Err (Field (i + 1) (unwrap_or x 0))) q)

  pub fields-none : first (row_at_fault l) 0 (rows l) ≡ None → done ≡ fields_test l
  unfolding fields_test field_answer
  fields-none e = rw e

  -- a field at fault is named before the feeding is looked at
  pub rows-refused : (t : Answer) (a : Refusal) → t ≡ fields_test l → t ≡ Err a → Err a ≡ rows_test l
  unfolding rows_test fields_test field_answer
  rows-refused t a q e = by_cases (first (row_at_fault l) 0 (rows l)) (sym q ∙ e)
    where
      by_cases : (f : Option ℕ) → field_answer l done f ≡ Err a → Err a ≡ field_answer l (tree_test l) f
      by_cases (Some i) g = sym g
      by_cases None g = absurd (zero-not-one cc)

  pub rows-tree : (t u : Answer) → t ≡ fields_test l → t ≡ done → u ≡ tree_test l → u ≡ rows_test l
  unfolding rows_test fields_test field_answer
  rows-tree t u q e v = by_cases (first (row_at_fault l) 0 (rows l)) (sym q ∙ e)
    where
      by_cases : (f : Option ℕ) → field_answer l done f ≡ done → u ≡ field_answer l (tree_test l) f
      by_cases (Some i) g = absurd (zero-not-one cc)
      by_cases None g = v

  pub tree-found : (i : ℕ) → first (fed_wrongly l) 0 (rows l) ≡ Some i → Err (Tree (i + 1)) ≡ tree_test l
  unfolding tree_test tree_answer
  tree-found i e = rw e

  pub tree-none : first (fed_wrongly l) 0 (rows l) ≡ None → done ≡ tree_test l
  unfolding tree_test tree_answer
  tree-none e = rw e

module _ (l : List ℕ) (i f : ℕ) (e : f ≡ field l i at_feeder) where
  pub feeds-last : i + 1 ≡ rows l → eqb f 0 ≡ feeds_right l i
  unfolding feeds_right
  feeds-last h = rw (eq-eqb (i + 1) (rows l) h, e)

  pub feeds-below : (i + 1 ≡ rows l → ⊥) → f ≤ i + 1 → false ≡ feeds_right l i
  unfolding feeds_right
  feeds-below n h = rw (ne_eqb (i + 1) (rows l) n, ← e, le-ltb (i + 1) f h)

  pub feeds-above : (i + 1 ≡ rows l → ⊥) → i + 1 < f → rows l < f → false ≡ feeds_right l i
  unfolding feeds_right
  feeds-above n g h = rw (ne_eqb (i + 1) (rows l) n, ← e, lt-ltb (i + 1) f g, lt-leb f (rows l) h)

  pub feeds-by : (k : ℕ) → k ≡ field l (f - 1) at_kind → (i + 1 ≡ rows l → ⊥) → i + 1 < f → f ≤ rows l → not (eqb k 3) ≡ feeds_right l i
  unfolding feeds_right
  feeds-by k q n g h = rw (ne_eqb (i + 1) (rows l) n, ← e, lt-ltb (i + 1) f g, le-leb f (rows l) h, q)

module _ (len room : ℕ) where
  pub size-ragged : (len % field_count ≡ 0 → ⊥) → Err Count ≡ size_test len room
  unfolding size_test
  size-ragged h = rw (ne_eqb (len % field_count) 0 h)

  pub size_none : len % field_count ≡ 0 → len < field_count → Err Count ≡ size_test len room
  unfolding size_test
  size_none e h = rw (eq-eqb (len % field_count) 0 e, lt-leb field_count len h)

  pub size-over : len % field_count ≡ 0 → field_count ≤ len → list_most < len → Err Count ≡ size_test len room
  unfolding size_test
  size-over e g h = rw (eq-eqb (len % field_count) 0 e, le-leb field_count len g, lt-leb len list_most h)

  pub size-short :
      len % field_count ≡ 0 → field_count ≤ len → len ≤ list_most → room < column_count * (len / field_count) → Err Room ≡ size_test len room
  unfolding size_test
  size-short e g h k = rw (eq-eqb (len % field_count) 0 e, le-leb field_count len g, le-leb len list_most h, lt-leb (column_count * (len / field_count)) room k)

  pub size-right :
      len % field_count ≡ 0 → field_count ≤ len → len ≤ list_most → column_count * (len / field_count) ≤ room → done ≡ size_test len room
  unfolding size_test
  size-right e g h k = rw (eq-eqb (len % field_count) 0 e, le-leb field_count len g, le-leb len list_most h, le-leb (column_count * (len / field_count)) room k)

-- what sizes that pass are
pub record SizeRight (len room : ℕ) : Type 0 where
  pub whole-rows : len % field_count ≡ 0
  pub some-rows : field_count ≤ len
  pub most-rows : len ≤ list_most
  pub card-room : column_count * (len / field_count) ≤ room

pub size-passed : (len room : ℕ) → size_test len room ≡ done → SizeRight len room
unfolding size_test
size-passed len room e =
    by_cases (eqb (len % field_count) 0 && (leb field_count len && leb len list_most)) (leb (column_count * (len / field_count)) room) refl refl e
  where
    by_cases :
        (a b : Bool) → (eqb (len % field_count) 0 && (leb field_count len && leb len list_most)) ≡ a → leb (column_count * (len / field_count)) room ≡ b →
        cond a (cond b done (Err Room)) (Err Count) ≡ done → SizeRight len room
    by_cases true true p q e =
        let r = and_right (eqb (len % field_count) 0) (leb field_count len && leb len list_most) p in
        record {
          whole-rows = eqb-true (len % field_count) 0 (and_left (eqb (len % field_count) 0) (leb field_count len && leb len list_most) p);
          some-rows = leb-true field_count len (and_left (leb field_count len) (leb len list_most) r);
          most-rows = leb-true len list_most (and_right (leb field_count len) (leb len list_most) r);
          card-room = leb-true (column_count * (len / field_count)) room q;
        }
    by_cases true false p q e = absurd (zero-not-one cc)
    by_cases false b p q e = absurd (zero-not-one cc)
