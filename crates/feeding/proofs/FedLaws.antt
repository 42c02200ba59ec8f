-- Laws of `fed_from`: it gives the least row from j on that row i feeds, and the number of rows where there is none; so going from one fed
-- row to the next passes over nothing that a search among the fed rows would see.
use Rattle.std.proofs.Common.{Option, Some, None}
use mathlib.Core.Path.{◌≡◌, refl, ap, ◌∙◌}
use mathlib.Core.Bool.{Bool, true, false, ◌&&◌}
use mathlib.Core.Logic.{◌↔◌, ⊎_elim}
use mathlib.Core.List.{List}
use Prim.Native.Nat.{ℕ, ◌+◌, ◌-◌, ◌≤◌, ◌<◌}
use native.Mathlib.Nat.{le_of_lt}
use native.Mathlib.Omega.{arith}
use borrow.Author.Tests.{eqb-true, eqb-false, eq-eqb, ne_eqb}
use Rattle.fold.specs.First.{first}
use Rattle.fold.proofs.BoolLaws.{lt-or-le}
use Rattle.fold.proofs.FirstLaws.{first-at, first-nothing, first-end, first-step-true, first-step-false}
use Rattle.layout.specs.List.{rows}
use Rattle.feeding.specs.Fed.{feeder_of, feeds, found_or, fed_from, NextFed}
use Rattle.feeding.proofs.OverLaws.{first-over-fails}

module _ (l : List ℕ) (i : ℕ) where
  found-is-next : (j : ℕ) → j ≤ rows l → (o : Option ℕ) → first (feeds l i) j (rows l - j) ≡ o → NextFed l i j (found_or (rows l) o)
  unfolding found_or
  found-is-next j h (Some k) e =
      let r = first-at (feeds l i) (rows l - j) j k e in
      record {
        from = r.from;
        to = omega (arith, r.below);
        fed = λ _. eqb-true (feeder_of l k) (i + 1) r.passes;
        none_before = λ y a b. eqb-false (feeder_of l y) (i + 1) (r.before y a b);
      }
  found-is-next j h None e =
      record {
        from = h;
        to = omega arith;
        fed = λ b. absurd (omega arith);
        none_before =
            λ y a b. eqb-false (feeder_of l y) (i + 1) (first-nothing (feeds l i) (rows l - j) j e y a (omega arith));
      }

  -- the row that it gives is the next; behind the last row there is none
  pub fed_from-next : (j : ℕ) → j ≤ rows l → NextFed l i j (fed_from l i j)
  unfolding fed_from
  fed_from-next j h = found-is-next j h (first (feeds l i) j (rows l - j)) refl

  pub fed_from-end : (j : ℕ) → rows l ≤ j → fed_from l i j ≡ found_or (rows l) None
  unfolding fed_from
  fed_from-end j h = ap (found_or (rows l)) (first-end (feeds l i) j (rows l) h)

  pub fed_from-behind : (j : ℕ) → rows l ≤ j → fed_from l i j ≡ rows l
  unfolding found_or
  fed_from-behind j h = fed_from-end j h

  pub next-unique : (j x y : ℕ) → NextFed l i j x → NextFed l i j y → x ≡ y
  next-unique j x y p q =
      ⊎_elim
      (λ (b : x < y). absurd (q.none_before x p.from b (p.fed (omega (arith, q.to)))))
      (λ (b : y ≤ x).
      ⊎_elim
      (λ (d : y < x). absurd (p.none_before y q.from d (q.fed (omega (arith, p.to)))))
      (λ (d : x ≤ y). let e : x ≡ y = omega arith in e)
      (lt-or-le y x))
      (lt-or-le x y)

  pub fed-rows-exactly : (j x : ℕ) → j ≤ rows l → (x ≡ fed_from l i j) ↔ NextFed l i j x
  fed-rows-exactly j x h = (
    λ e. rw e (fed_from-next j h),
    λ p. next-unique j x (fed_from l i j) p (fed_from-next j h),
  )

  pub fed_from-to : (j : ℕ) → fed_from l i j ≤ rows l
  fed_from-to j = ⊎_elim (λ b. (fed_from-next j (le_of_lt b)).to) (λ b. omega (arith, fed_from-behind j b)) (lt-or-le j (rows l))

  pub fed_from-from : (j : ℕ) → j ≤ rows l → j ≤ fed_from l i j
  fed_from-from j h = (fed_from-next j h).from

  pub fed_from-feeds : (j : ℕ) → fed_from l i j < rows l → feeds l i (fed_from l i j) ≡ true
  fed_from-feeds j b =
      ⊎_elim
      (λ h. eq-eqb (feeder_of l (fed_from l i j)) (i + 1) ((fed_from-next j (le_of_lt h)).fed b))
      (λ h. absurd (omega (arith, fed_from-behind j h)))
      (lt-or-le j (rows l))

  pub fed_from-between : (j x : ℕ) → j ≤ x → x < fed_from l i j → feeds l i x ≡ false
  fed_from-between j x a b =
      ne_eqb (feeder_of l x) (i + 1) ((fed_from-next j (omega (arith, fed_from-to j))).none_before x a b)

  pub fed_from-here : (j : ℕ) → j < rows l → feeds l i j ≡ true → fed_from l i j ≡ j
  unfolding fed_from found_or
  fed_from-here j h p = rw (first-step-true (feeds l i) j (rows l) h p)

  pub fed_from-past : (j : ℕ) → j < rows l → feeds l i j ≡ false → fed_from l i j ≡ fed_from l i (j + 1)
  unfolding fed_from
  fed_from-past j h p = ap (found_or (rows l)) (first-step-false (feeds l i) j (rows l) h p)

  -- a search among the fed rows: from any row on it may start at the next fed row, and there it ends or goes on behind it
  module _ (p : ℕ → Bool) where
    pub first-over :
        (a : ℕ) → a ≤ rows l → first (λ j. feeds l i j && p j) a (rows l - a) ≡
        first (λ j. feeds l i j && p j) (fed_from l i a) (rows l - fed_from l i a)
    first-over a h =
        first-over-fails (λ j. feeds l i j && p j) a (rows l) (fed_from l i a) (fed_from-from a h) (fed_from-to a)
        (λ j lo hi. ap (λ (t : Bool). t && p j) (fed_from-between a j lo hi))

    pub first-fed-passes :
        (j : ℕ) → j < rows l → feeds l i j ≡ true → p j ≡ true → first (λ j. feeds l i j && p j) j (rows l - j) ≡ Some j
    first-fed-passes j h e t = first-step-true (λ j. feeds l i j && p j) j (rows l) h (ap (λ (b : Bool). b && p j) e ∙ t)

    pub first-fed-fails :
        (j : ℕ) → j < rows l → feeds l i j ≡ true → p j ≡ false → first (λ j. feeds l i j && p j) j (rows l - j) ≡
        first (λ j. feeds l i j && p j) (j + 1) (rows l - (j + 1))
    first-fed-fails j h e t = first-step-false (λ j. feeds l i j && p j) j (rows l) h (ap (λ (b : Bool). b && p j) e ∙ t)
