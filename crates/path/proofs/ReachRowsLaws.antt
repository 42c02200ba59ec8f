-- The rows that a change reaches are rows of the path, and no more.
use Rattle.settle.specs.Outcomes.{Settled}
use Rattle.std.proofs.Common.{Ok, Err}
use mathlib.Core.Path.{◌≡◌, refl}
use mathlib.Core.Bool.{Bool, true, false, cond, ◌&&◌, ◌||◌}
use mathlib.Core.List.{List, [], ◌∷◌}
use Prim.Native.Nat.{ℕ, ◌≤◌}
use native.Mathlib.Omega.{arith}
use lib.Dec.{eqb}
use lib.ListN.{length}
use Rattle.fold.proofs.BoolLaws.{fails, not-both}
use Rattle.layout.specs.declared.CardRow.{CardRow}
use Rattle.layout.specs.Card.{card_row_at, put_card_row, same_card_row}
use Rattle.settle.specs.Settle.{shown}
use Rattle.path.specs.Path.{has}
use Rattle.path.specs.Reach.{comes_to, onward, reach_from}

pub reach-length : (l : List ℕ) (feeding : Bool) (is c : List ℕ) → length (reach_from l feeding is c) ≤ length is
unfolding reach_from onward
reach-length l feeding [] c = omega arith
reach-length l feeding (i ∷ is) c = by_cases (comes_to l i c) (λ k. reach-length l true is (put_card_row c i k))
  where
    by-test : (b : Bool) (js : List ℕ) → length js ≤ length is → length (i ∷ cond b [] js) ≤ length (i ∷ is)
    by-test true js h = omega arith
    by-test false js h = omega arith

    by_cases :
        (s : Settled) → ((k : CardRow) → length (reach_from l true is (put_card_row c i k)) ≤ length is) →
        length (i ∷ onward feeding (card_row_at c i) s (λ k. reach_from l true is (put_card_row c i k))) ≤ length (i ∷ is)
    by_cases (Ok o) h = by-test (feeding && same_card_row (card_row_at c i) (shown o)) (reach_from l true is (put_card_row c i (shown o))) (h (shown o))
    by_cases (Err why) h = omega arith

pub reach-inside : (l : List ℕ) (feeding : Bool) (is c : List ℕ) (j : ℕ) → has (reach_from l feeding is c) j ≡ true → has is j ≡ true
unfolding reach_from onward has
reach-inside l feeding [] c j o = o
reach-inside l feeding (i ∷ is) c j o = by_cases (comes_to l i c) (λ k. reach-inside l true is (put_card_row c i k) j) o
  where
    either : (x y z : Bool) → (y ≡ true → z ≡ true) → (x || y) ≡ true → (x || z) ≡ true
    either true y z f e = refl
    either false y z f e = f e

    by-test : (b : Bool) (js : List ℕ) → (has js j ≡ true → has is j ≡ true) → has (cond b [] js) j ≡ true → has is j ≡ true
    by-test true js f e = absurd (not-both e refl)
    by-test false js f e = f e

    by_cases :
        (s : Settled) → ((k : CardRow) → has (reach_from l true is (put_card_row c i k)) j ≡ true → has is j ≡ true) →
        (eqb j i || has (onward feeding (card_row_at c i) s (λ k. reach_from l true is (put_card_row c i k))) j) ≡ true → (eqb j i || has is j) ≡ true
    by_cases (Ok o) f =
        either (eqb j i) _ (has is j)
        (by-test (feeding && same_card_row (card_row_at c i) (shown o)) (reach_from l true is (put_card_row c i (shown o))) (f (shown o)))
    by_cases (Err why) f = either (eqb j i) false (has is j) (λ e. absurd (not-both e refl))

pub reach-outside : (l : List ℕ) (feeding : Bool) (is c : List ℕ) (j : ℕ) → has is j ≡ false → has (reach_from l feeding is c) j ≡ false
reach-outside l feeding is c j out = fails (has (reach_from l feeding is c) j) (λ o. not-both (reach-inside l feeding is c j o) out)
