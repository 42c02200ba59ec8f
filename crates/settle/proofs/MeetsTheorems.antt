-- The conditions of a pickup's load, and P4 of all fed rows: the tests that the contracts cite pass exactly where
-- section 3's inequalities hold, those of fed rows for each row that is fed. Read with specs/Inequalities.antt.
use Rattle.std.proofs.Common.{Some, None}
use mathlib.Core.Path.{◌≡◌}
use mathlib.Core.Bool.{Bool, true, false, not, ◌||◌}
use mathlib.Core.Logic.{◌↔◌, ⊎_elim}
use Prim.Native.Nat.{ℕ, ◌<◌}
use native.Mathlib.Omega.{arith}
use borrow.Author.Tests.{not-true}
use Rattle.fold.proofs.BoolLaws.{and_left, and_right, and_both, fails, not-both, passes-or-fails, implies, implied}
use Rattle.fold.proofs.FirstLaws.{first-at, first-is, first-none, first-nothing}
use Rattle.fold.proofs.FoldLaws.{every-at, every_of}
use Rattle.layout.specs.View.{View, Settings}
use Rattle.sides.specs.declared.Primary.{Primary}
use Rattle.settle.specs.Conditions.{fed, each_fed, returns_after_self_start, clear_of, backs_up}
use Rattle.settle.specs.Inequalities.{Feeding, LowerMet, BacksUp, FirstUnbacked}
use Rattle.settle.specs.Settle.{meets_lower, unbacked, first_unbacked}
use Rattle.settle.proofs.ConditionTheorems.{P1-exactly, P2-exactly, P4-exactly, fed-exactly}

-- what holds for each fed row
module _ (v : View) (i : ℕ) (ok : ℕ → Bool) where
  pub each-fed-at : each_fed v i ok ≡ true → (j : ℕ) → j < v.count → fed v i j ≡ true → ok j ≡ true
  each-fed-at e j h g = implies (fed v i j) (ok j) (every-at (λ j. not (fed v i j) || ok j) v.count j e h) g

  pub each-fed-of : ((j : ℕ) → j < v.count → fed v i j ≡ true → ok j ≡ true) → each_fed v i ok ≡ true
  each-fed-of h = every_of (λ j. not (fed v i j) || ok j) v.count (λ j b. implied (fed v i j) (ok j) (h j b))

-- a test asked for each fed row
pub each_fed_lem :
    (v : View) (i : ℕ) (ok : ℕ → Bool) → (each_fed v i ok ≡ true) ↔ ((j : ℕ) → j < v.count → Feeding v i j → ok j ≡ true)
each_fed_lem v i ok = (
  λ t j b f. each-fed-at v i ok t j b ((fed-exactly v i j).1 f),
  λ h. each-fed-of v i ok (λ j b g. h j b ((fed-exactly v i j).0 g)),
)

module _ (v : View) (k : Settings) (i : ℕ) where
  pub lower-exactly : (I : Primary) → (meets_lower v k i I ≡ true) ↔ LowerMet v k i I
  unfolding meets_lower
  lower-exactly I = (
    λ t.
        record {
          P1 = (P1-exactly (v.row i) I).0 (and_left (returns_after_self_start (v.row i) I) _ t);
          P2 =
              λ j b f.
              (P2-exactly v k i j I).0
              ((each_fed_lem v i (λ j. clear_of v k i j I)).0 (and_right (returns_after_self_start (v.row i) I) _ t) j b f);
        },
    λ h.
        and_both ((P1-exactly (v.row i) I).1 h.P1)
        ((each_fed_lem v i (λ j. clear_of v k i j I)).1 (λ j b f. (P2-exactly v k i j I).1 (h.P2 j b f))),
  )

-- P4 for the fed rows ascending, of pickup I
module _ (v : View) (i : ℕ) (I : Primary) where
  backed-exactly : (j : ℕ) → (unbacked v i (v.row i) I j ≡ false) ↔ (Feeding v i j → BacksUp v i j I)
  unfolding unbacked
  backed-exactly j = (
    λ t f.
        ⊎_elim (P4-exactly (v.row i) (v.row j) I).0
        (λ (e : backs_up (v.row i) (v.row j) I ≡ false). absurd (not-both (and_both ((fed-exactly v i j).1 f) (rw e)) t))
        (passes-or-fails (backs_up (v.row i) (v.row j) I)),
    λ h.
        fails (unbacked v i (v.row i) I j)
        (λ t.
        let e = (P4-exactly (v.row i) (v.row j) I).1 (h ((fed-exactly v i j).0 (and_left (fed v i j) _ t))) in
        not-both e (not-true (backs_up (v.row i) (v.row j) I) (and_right (fed v i j) _ t))),
  )

  -- row j is the first that fails
  pub unbacked-exactly : (j : ℕ) → (first_unbacked v i (v.row i) I ≡ Some j) ↔ FirstUnbacked v i I j
  unfolding first_unbacked unbacked
  unbacked-exactly j = (
    λ e.
        let f = first-at (unbacked v i (v.row i) I) v.count 0 j e in
        record {
          is_row = omega (arith, f.below);
          feeding = (fed-exactly v i j).0 (and_left (fed v i j) _ f.passes);
          fails = λ b. not-both f.passes ((backed-exactly j).1 (λ _. b));
          earlier = λ x g. (backed-exactly x).0 (f.before x (omega arith) g);
        },
    λ u.
        first-is (unbacked v i (v.row i) I) v.count 0 j (omega arith) (omega (arith, u.is_row))
        (⊎_elim (λ t. t) (λ n. absurd (u.fails ((backed-exactly j).0 n u.feeding))) (passes-or-fails (unbacked v i (v.row i) I j)))
        (λ x _ g. (backed-exactly x).1 (u.earlier x g)),
  )

  -- none fails
  pub backed-all-exactly :
      (first_unbacked v i (v.row i) I ≡ None) ↔ ((j : ℕ) → j < v.count → Feeding v i j → BacksUp v i j I)
  unfolding first_unbacked
  backed-all-exactly = (
    λ e j b. (backed-exactly j).0 (first-nothing (unbacked v i (v.row i) I) v.count 0 e j (omega arith) (omega arith)),
    λ h. first-none (unbacked v i (v.row i) I) v.count 0 (λ j _ b. (backed-exactly j).1 (h j (omega arith))),
  )
