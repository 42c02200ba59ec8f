-- Laws of the ranges: the table says what the request says of each input, by its name and its place.
use Rattle.std.proofs.Common.{Some, None}
use mathlib.Core.Path.{◌≡◌, subst}
use mathlib.Core.Bool.{false}
use mathlib.Core.Logic.{◌↔◌}
use Prim.Native.Nat.{ℕ, zero, suc, ◌+◌, ◌-◌, ◌≤◌, ◌<◌}
use native.Mathlib.Omega.{arith}
use lib.ListN.{get_or}
use borrow.Author.Tests.{not-false}
use Rattle.fold.proofs.BoolLaws.{fails, not-both}
use Rattle.fold.proofs.FirstLaws.{first-at, first-is, first-none, first-nothing}
use Rattle.layout.specs.Fields.{in_bounds}
use Rattle.layout.specs.Range.{Within}
use Rattle.layout.proofs.RangeLaws.{in-bounds-exactly}
use Rattle.differential.specs.declared.Inputs.{Inputs}
use Rattle.differential.specs.Inputs.{input_count, ranges, values_of, outside, first_outside}
use Rattle.differential.specs.Gets.{RightAt, InRange, LowestOutside}

module _ (x : Inputs) where
  -- input k, from 0, is within the table
  abbrev InTable : ℕ → Type 0
  InTable k = Within ranges k (get_or (values_of x) k 0)

  right-within : {place : ℕ} → RightAt x place → InTable (place - 1)
  right-within (RightAt.start a b) = (a, b)
  right-within (RightAt.blocking a b) = (a, b)
  right-within (RightAt.cutoff a b) = (a, b)
  right-within (RightAt.through a b) = (a, b)
  right-within (RightAt.first b) = (omega arith, b)
  right-within (RightAt.second b) = (omega arith, b)
  right-within (RightAt.differential b) = (omega arith, b)
  right-within (RightAt.restraint b) = (omega arith, b)

  within-right : (k : ℕ) → k < input_count → InTable k → RightAt x (suc k)
  within-right zero h w = RightAt.start w.0 w.1
  within-right (suc zero) h w = RightAt.blocking w.0 w.1
  within-right (suc (suc zero)) h w = RightAt.cutoff w.0 w.1
  within-right (suc (suc (suc zero))) h w = RightAt.through w.0 w.1
  within-right (suc (suc (suc (suc zero)))) h w = RightAt.first w.1
  within-right (suc (suc (suc (suc (suc zero))))) h w = RightAt.second w.1
  within-right (suc (suc (suc (suc (suc (suc zero)))))) h w = RightAt.differential w.1
  within-right (suc (suc (suc (suc (suc (suc (suc zero))))))) h w = RightAt.restraint w.1
  within-right (suc (suc (suc (suc (suc (suc (suc (suc k)))))))) h w = absurd (omega arith)

  -- the test of an input is its range
  inside-within : (k : ℕ) → outside ranges (values_of x) k ≡ false → InTable k
  inside-within k e = (in-bounds-exactly ranges k (get_or (values_of x) k 0)).0 (not-false _ e)

  within-inside : (k : ℕ) → InTable k → outside ranges (values_of x) k ≡ false
  within-inside k w = rw ((in-bounds-exactly ranges k (get_or (values_of x) k 0)).1 w)

  at_place : (place : ℕ) → 1 ≤ place → place ≤ input_count → (InTable (place - 1)) ↔ RightAt x place
  at_place place a b = (
    λ w. let s : suc (place - 1) ≡ place = omega arith in subst (RightAt x) s (within-right (place - 1) (omega arith) w),
    λ r. right-within r,
  )

  -- the ranges that are asked for, by name
  module _ (r : InRange x) where
    pub start-range : (20 ≤ x.start) × (x.start ≤ 100)
    start-range = right-within (r 1 (omega arith) (omega arith))

    pub cutoff-range : (650 ≤ x.cutoff) × (x.cutoff ≤ 1200)
    cutoff-range = right-within (r 3 (omega arith) (omega arith))

    pub through-range : (100 ≤ x.through) × (x.through ≤ 2000)
    through-range = right-within (r 4 (omega arith) (omega arith))

  -- no input is out of its range exactly where all are in theirs
  pub none-outside : (first_outside x ≡ None) ↔ InRange x
  none-outside = (
    λ e place a b.
        (at_place place a b).0
        (inside-within (place - 1) (first-nothing (outside ranges (values_of x)) input_count 0 e (place - 1) (omega arith) (omega arith))),
    λ r.
        first-none (outside ranges (values_of x)) input_count 0
        (λ k a b. let s : k + 1 - 1 ≡ k = omega arith in within-inside k (subst InTable s (right-within (r (k + 1) (omega arith) (omega arith))))),
  )

  -- the first that is found is the lowest place
  pub found-lowest : (k : ℕ) → first_outside x ≡ Some k → LowestOutside x (k + 1)
  found-lowest k e =
      let f = first-at (outside ranges (values_of x)) input_count 0 k e in
      let s : k + 1 - 1 ≡ k = omega arith in
      record {
        from = omega arith;
        to = omega (arith, f.below);
        lower =
            λ p a b.
            (at_place p a (omega (arith, f.below))).0 (inside-within (p - 1) (f.before (p - 1) (omega arith) (omega arith)));
        outside = λ r. not-both f.passes (within-inside k (subst InTable s (right-within r)));
      }

  pub lowest-found : (place : ℕ) → LowestOutside x place → first_outside x ≡ Some (place - 1)
  lowest-found place l =
      first-is (outside ranges (values_of x)) input_count 0 (place - 1) (omega arith) (omega (arith, l.from, l.to))
      (rw
      (fails (in_bounds ranges (place - 1) (get_or (values_of x) (place - 1) 0))
      (λ t. l.outside ((at_place place l.from l.to).0 ((in-bounds-exactly ranges (place - 1) (get_or (values_of x) (place - 1) 0)).0 t)))))
      (λ j a b.
      let s : j + 1 - 1 ≡ j = omega arith in
      within-inside j (subst InTable s (right-within (l.lower (j + 1) (omega arith) (omega arith)))))
