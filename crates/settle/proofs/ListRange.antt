-- [02 §1] What a relay of a list in range offers is at most 100,000,000 mA primary, by the last test of FIELD. So P4's one test for all fed
-- rows is exact for it: the fed rows are gone through only where one of them fails P4.
use mathlib.Core.Path.{◌≡◌, ap}
use mathlib.Core.Bool.{true, false}
use mathlib.Core.Logic.{◌↔◌, ⊎_elim}
use mathlib.Core.List.{List}
use Prim.Native.Nat.{ℕ, ◌≤◌, ◌<◌}
use native.Mathlib.Nat.{le_trans}
use native.Mathlib.Omega.{arith}
use lib.Dec.{eqb}
use borrow.Author.Tests.{eqb-true, eqb-false}
use Rattle.fold.proofs.BoolLaws.{passes-or-fails}
use Rattle.layout.specs.List.{rows, row_at}
use Rattle.layout.specs.View.{view_of, Settings}
use Rattle.rows.specs.InRange.{RowInRange, InRange}
use Rattle.sides.specs.declared.Primary.{Primary}
use Rattle.sides.specs.declared.Secondary.{Secondary}
use Rattle.sides.specs.Sides.{milliamperes}
use Rattle.sides.proofs.SidesLaws.{stays-primary, lower-in-primary, setting-to, most-exactly}
use Rattle.settle.specs.Conditions.{primary_of}
use Rattle.settle.specs.Fed.{gathered, backs_up_all}
use Rattle.settle.specs.Inequalities.{AvailableOn, Feeding, BacksUp}
use Rattle.settle.proofs.FedLaws.{backs-all-exactly}

module _ (l : List ℕ) (i : ℕ) (a : RowInRange l i) where
  high-to : (primary_of (row_at l i) (row_at l i).high).0 ≤ (milliamperes 100000000).0
  high-to =
      let q = (row_at l i).ratio in
      ⊎_elim
      (λ (e : eqb q.primary 0 ≡ true).
      let keyed-to = le_trans a.bounded.high-to (setting-to q.primary) in
      omega (arith, ap (λ (I : Primary). I.0) (stays-primary q (eqb-true q.primary 0 e) (row_at l i).high)))
      (λ (e : eqb q.primary 0 ≡ false).
      (most-exactly q a.bounded.rated (eqb-false q.primary 0 e) (row_at l i).high).0 a.high-at-most)
      (passes-or-fails (eqb q.primary 0))

  pub available-to : (x : Secondary) → AvailableOn (row_at l i) x → (primary_of (row_at l i) x).0 ≤ (milliamperes 100000000).0
  available-to x b = le_trans ((lower-in-primary (row_at l i).ratio x (row_at l i).high).0 b.within) high-to

pub backs-all-of-list :
    (l : List ℕ) → InRange l → (k : Settings) (i : ℕ) → i < rows l → (x : Secondary) → AvailableOn (row_at l i) x →
    (backs_up_all (row_at l i) (gathered (view_of l) k i) (primary_of (row_at l i) x) ≡ true) ↔
    ((j : ℕ) → j < rows l → Feeding (view_of l) i j → BacksUp (view_of l) i j (primary_of (row_at l i) x))
backs-all-of-list l a k i h x b =
    backs-all-exactly (view_of l) (λ j g. (a j g).bounded) k i h (primary_of (row_at l i) x) (available-to l i (a i h) x b)
