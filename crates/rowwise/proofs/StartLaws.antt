-- Sums that ask nothing hold what is asked where no row is done.
use mathlib.Core.Logic.{⊎_elim}
use lib.Dec.{ltb}
use borrow.Author.Tests.{ltb-true, ltb-false}
use lib.ListN.{get_or, replicate, length-replicate, get_or-replicate, get_or-eq_default}
use Rattle.settle.specs.declared.Fed.{Fed}
use mathlib.Core.Path.{◌≡◌, sym, ◌∙◌}
use mathlib.Core.Bool.{Bool, false, cond, ◌&&◌}
use mathlib.Core.List.{List}
use Prim.Native.Nat.{ℕ}
use native.Mathlib.Omega.{arith}
use Rattle.fold.specs.Fold.{max_to}
use Rattle.fold.proofs.BoolLaws.{not-both, passes-or-fails}
use Rattle.fold.proofs.FoldLaws.{sum_to-zero, max_to-bound}
use Rattle.layout.specs.Card.{card_row_at}
use Rattle.layout.specs.List.{rows}
use Rattle.layout.specs.View.{view_of}
use Rattle.rows.proofs.InRangeLaws.{passed-in-range, passed-feeds}
use Rattle.rowwise.specs.Sums.{fed_at}
use Rattle.rowwise.specs.Working.{Unworked, Working, gathered_by}
use Rattle.rowwise.proofs.SumsLaws.{same-fed}

-- an array of one value over and over reads as that value
pub clear_reads : {A : Type 0} (a : A) (n x : ℕ) → get_or (replicate n a) x a ≡ a
clear_reads {A} a n x =
    ⊎_elim
    (λ h. get_or-replicate {A = A} n x a a (ltb-true x n h))
    (λ h. get_or-eq_default (replicate {A = A} n a) a (rw (length-replicate {A = A} n a) (ltb-false x n h)))
    (passes-or-fails (ltb x n))

max_none : (n : ℕ) (f : ℕ → ℕ) → ((j : ℕ) → f j ≡ 0) → 0 ≡ max_to n f
max_none n f h = let m = max_to-bound f 0 n (λ j _. omega (arith, h j)) in omega arith

module _ (l c : List ℕ) (s : List Fed) (a : Unworked l c s) (done matters : ℕ → Bool) (none : (j : ℕ) → done j ≡ false) where
  uncounted : (j : ℕ) (b : Bool) (x : ℕ) → cond (done j && b) x 0 ≡ 0
  uncounted j b x = rw (none j)

  start-summed : (i : ℕ) → fed_at s i ≡ gathered_by done (view_of l) (card_row_at c) i
  start-summed i =
      a.sums-clear i ∙
      same-fed
      (sym (sum_to-zero _ (rows l) (λ j _. uncounted j _ _)))
      (max_none (rows l) _ (λ j. uncounted j _ _))
      (max_none (rows l) _ (λ j. uncounted j _ _))

  pub work_start : Working l done matters c s
  work_start =
      record {
        rows-to = a.rows-to;
        in-range = passed-in-range l a.tested;
        feeds = passed-feeds l a.tested;
        card-room = a.card-room;
        sums-room = a.sums-room;
        settings-to = λ j b g. absurd (not-both g (none j));
        summed = λ i _ _. start-summed i;
      }
