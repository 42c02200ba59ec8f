-- The test 9 CARD exactly: a card in range passes, and any other is refused at the first row that is out of range.
use Rattle.answers.specs.declared.Refusal.TheVariants.{Card}
use Rattle.answers.specs.Answer.{Answer, done}
use Rattle.std.proofs.Common.{Option, Some, None, Err}
use mathlib.Core.Path.{◌≡◌, refl, sym, ap, ◌∙◌, subst}
use mathlib.Core.Bool.{Bool, true, false, not}
use mathlib.Core.Logic.{◌↔◌}
use mathlib.Core.List.{List}
use Prim.Native.Nat.{ℕ, ◌+◌, ◌≤◌, ◌<◌}
use native.Mathlib.Omega.{arith}
use borrow.Author.Tests.{not-false, not-true, eq-eqb, ne_eqb}
use Rattle.fold.specs.First.{first}
use Rattle.fold.specs.Fold.{every}
use Rattle.fold.proofs.BoolLaws.{fails, not-both}
use Rattle.fold.proofs.FirstLaws.{first-at, first-is, first-none, first-nothing}
use Rattle.fold.proofs.FoldLaws.{every-at, every_of, every_more, every-fails}
use Rattle.layout.specs.Card.{column, card_row_at, column_bounds_to}
use Rattle.layout.specs.Counts.{column_count}
use Rattle.layout.specs.Fields.{at_primary, in_bounds}
use Rattle.layout.specs.List.{rows, field}
use Rattle.layout.specs.Range.{CardRowInRange}
use Rattle.layout.proofs.RangeLaws.{in-bounds-exactly, columns-exactly}
use Rattle.sides.specs.Sides.{setting_most}
use Rattle.path.specs.CardTest.{lent_most, CardInRange, CardGets, column_right, within_table, card_right, card_answer, card_test}

-- the greatest current of a card row: of the replaced row, of a row without a ratio, and of one with a ratio
module _ (l : List ℕ) (i j : ℕ) where
  pub lent-replaced : j ≡ i → lent_most l i j ≡ 100000000
  unfolding lent_most
  lent-replaced e = rw (eq-eqb j i e)

  pub lent_other : (j ≡ i → ⊥) → lent_most l i j ≡ setting_most (field l j at_primary)
  unfolding lent_most
  lent_other n = rw (ne_eqb j i n)

  pub lent-primary : (j ≡ i → ⊥) → field l j at_primary ≡ 0 → lent_most l i j ≡ 100000000
  unfolding setting_most
  lent-primary n e = lent_other n ∙ rw (eq-eqb (field l j at_primary) 0 e)

  pub lent-secondary : (j ≡ i → ⊥) → (field l j at_primary ≡ 0 → ⊥) → lent_most l i j ≡ 500000
  unfolding setting_most
  lent-secondary n p = lent_other n ∙ rw (ne_eqb (field l j at_primary) 0 p)

-- a card row within its table is in range
module _ (most : ℕ) (c : List ℕ) (j : ℕ) where
  abbrev table : List ℕ
  table = column_bounds_to most

  pub within-exactly : (within_table table c j ≡ true) ↔ CardRowInRange most (card_row_at c j)
  unfolding within_table
  within-exactly = (
    λ e. (columns-exactly most c j).0 (λ k h. (in-bounds-exactly table k (column c j k)).0 (every-at (column_right table c j) column_count k e h)),
    λ f. every_of (column_right table c j) column_count (λ k h. (in-bounds-exactly table k (column c j k)).1 ((columns-exactly most c j).1 f k h)),
  )

module _ (l : List ℕ) (i : ℕ) (c : List ℕ) (j : ℕ) where
  pub card-fits : card_right l i c j ≡ true → CardRowInRange (lent_most l i j) (card_row_at c j)
  card-fits = (within-exactly (lent_most l i j) c j).0

  pub fits-card : CardRowInRange (lent_most l i j) (card_row_at c j) → card_right l i c j ≡ true
  fits-card = (within-exactly (lent_most l i j) c j).1

  -- the table that it is judged by is its own
  pub judged-by : (t : List ℕ) (most : ℕ) → t ≡ column_bounds_to most → lent_most l i j ≡ most → (b : Bool) → b ≡ within_table t c j → b ≡ card_right l i c j
  judged-by t most e f b g = g ∙ ap (λ (t : List ℕ). within_table t c j) (e ∙ ap column_bounds_to (sym f))

-- the loop over a row's columns: those below k are right
module _ (t c : List ℕ) (j : ℕ) where
  pub record Righted (k : ℕ) : Type 0 where
    pub within : k ≤ column_count
    pub so_far : every k (column_right t c j) ≡ true

  pub righted-none : Righted 0
  unfolding every
  righted-none = record { within = omega arith; so_far = refl }

  pub righted-all : {k : ℕ} → Righted k → column_count ≤ k → true ≡ within_table t c j
  unfolding within_table
  righted-all {k} a h =
      let e : k ≡ column_count = omega (arith, a.within) in
      sym (subst (λ (n : ℕ). every n (column_right t c j) ≡ true) e a.so_far)

  -- x is column k, and r says how it stands in the table
  module _ (k x : ℕ) (e : x ≡ column c j k) (r : Bool) (f : r ≡ in_bounds t k x) where
    judged : column_right t c j k ≡ r
    judged = sym (f ∙ ap (in_bounds t k) e)

    pub righted-more : Righted k → k < column_count → r ≡ true → Righted (k + 1)
    righted-more a h p = record { within = omega arith; so_far = every_more (column_right t c j) a.so_far (judged ∙ p) }

    pub righted-fails : k < column_count → r ≡ false → false ≡ within_table t c j
    unfolding within_table
    righted-fails h p = sym (every-fails (column_right t c j) column_count k h (judged ∙ p))

module _ (l : List ℕ) (i : ℕ) (c : List ℕ) where
  pub card-refuses : (j : ℕ) → first (λ j. not (card_right l i c j)) 0 (rows l) ≡ Some j → Err (Card (j + 1)) ≡ card_test l i c
  unfolding card_test card_answer
  card-refuses j e = rw e

  pub card-passes : first (λ j. not (card_right l i c j)) 0 (rows l) ≡ None → done ≡ card_test l i c
  unfolding card_test card_answer
  card-passes e = rw e

  pub get-card : {t : Answer} → CardGets l i c t → card_test l i c ≡ t
  get-card (CardGets.passed f) =
      sym (card-passes (first-none (λ j. not (card_right l i c j)) (rows l) 0 (λ j a b. rw (fits-card l i c j (f j (omega arith))))))
  get-card (CardGets.CARD j f) =
      sym
      (card-refuses j
      (first-is (λ j. not (card_right l i c j)) (rows l) 0 j (omega arith) (omega (arith, f.inside))
      (rw (fails (card_right l i c j) (λ e. f.out (card-fits l i c j e))))
      (λ m a b. rw (fits-card l i c m (f.rows_before m b)))))

  -- 9 CARD is given where a card row is out of range, at the first, and no other way
  pub card-gets : CardGets l i c (card_test l i c)
  card-gets = by_cases (first (λ j. not (card_right l i c j)) 0 (rows l)) refl
    where
      given : {t : Answer} → CardGets l i c t → CardGets l i c (card_test l i c)
      given g = subst (CardGets l i c) (sym (get-card g)) g

      by_cases : (f : Option ℕ) → first (λ j. not (card_right l i c j)) 0 (rows l) ≡ f → CardGets l i c (card_test l i c)
      by_cases (Some j) e =
          let f = first-at (λ j. not (card_right l i c j)) (rows l) 0 j e in
          given
          (CardGets.CARD j
          (record {
            inside = omega (arith, f.below);
            rows_before = λ m b. card-fits l i c m (not-false _ (f.before m (omega arith) b));
            out = λ r. not-both (fits-card l i c j r) (not-true _ f.passes);
          }))
      by_cases None e =
          given
          (CardGets.passed
          (λ j h. card-fits l i c j (not-false _ (first-nothing (λ j. not (card_right l i c j)) (rows l) 0 e j (omega arith) (omega arith)))))

  pub card-exactly : (t : Answer) → (card_test l i c ≡ t) ↔ CardGets l i c t
  card-exactly t = (λ e. subst (CardGets l i c) e card-gets, get-card)

  pub card-passed : card_test l i c ≡ done → CardInRange l i c
  card-passed e = by_cases (subst (CardGets l i c) e card-gets)
    where
      by_cases : CardGets l i c done → CardInRange l i c
      by_cases (CardGets.passed f) = f
