-- Laws of `run`, met at the place i of a list: a place that passes counts one, the first that does not ends it.
use mathlib.Core.Path.{◌≡◌, refl}
use mathlib.Core.Bool.{Bool, true, false, cond}
use mathlib.Core.List.{List, [], ◌∷◌}
use Prim.Native.Nat.{ℕ, zero, suc, ◌+◌, ◌≤◌, ◌<◌}
use native.Mathlib.Nat.{add-zero}
use native.Mathlib.Numerals.{add-one}
use native.Mathlib.Omega.{arith}
use lib.ListN.{length, drop, get_or, drop_of_length-le}
use lib.Seq.{drop-cons, get_or-drop}
use Rattle.cursor.specs.Bytes.{run}

-- the first byte of what is left at i
pub first-left : (s : List ℕ) (i : ℕ) → get_or (drop i s) 0 0 ≡ get_or s i 0
first-left s i = rw (get_or-drop i s 0 0, add-zero)

module _ {A : Type 0} (ok : List A → Bool) (d : A) where
  pub run_more : (s : List A) (i : ℕ) → i < length s → ok (drop i s) ≡ true → run ok (drop i s) ≡ suc (run ok (drop (i + 1) s))
  unfolding run
  run_more s i h p =
      let e = drop-cons s i d h in
      let q : ok (get_or s i d ∷ drop (suc i) s) ≡ true = rw (← e) p in
      rw (add-one, e, q)

  pub run-stops : (s : List A) (i : ℕ) → i < length s → ok (drop i s) ≡ false → run ok (drop i s) ≡ 0
  unfolding run
  run-stops s i h p =
      let e = drop-cons s i d h in
      let q : ok (get_or s i d ∷ drop (suc i) s) ≡ false = rw (← e) p in
      rw (e, q)

  pub run-over : (s : List A) (i : ℕ) → length s ≤ i → run ok (drop i s) ≡ 0
  unfolding run
  run-over s i h = rw (drop_of_length-le s h)

  pub run_length : (l : List A) → run ok l ≤ length l
  unfolding run
  run_length [] = omega arith
  run_length (a ∷ l) = by-test (ok (a ∷ l)) (run_length l)
    where
      by-test : (t : Bool) → run ok l ≤ length l → cond t (suc (run ok l)) 0 ≤ suc (length l)
      by-test true h = omega arith
      by-test false h = omega arith

  -- each place of the run passes
  pub run_at : (l : List A) (j : ℕ) → j < run ok l → ok (drop j l) ≡ true
  unfolding run
  run_at [] j h = absurd (omega arith)
  run_at (a ∷ l) j h = by-test (ok (a ∷ l)) refl j h (λ k. run_at l k)
    where
      by-test :
          (t : Bool) → ok (a ∷ l) ≡ t → (j : ℕ) → j < cond t (suc (run ok l)) 0 → ((k : ℕ) → k < run ok l → ok (drop k l) ≡ true) →
          ok (drop j (a ∷ l)) ≡ true
      by-test true e zero h r = e
      by-test true e (suc j) h r = r j (omega arith)
      by-test false e j h r = absurd (omega arith)

  -- a run that ends inside ends at a place that fails
  pub run_end : (l : List A) → run ok l < length l → ok (drop (run ok l) l) ≡ false
  unfolding run
  run_end [] h = absurd (omega arith)
  run_end (a ∷ l) h = by-test (ok (a ∷ l)) refl h (run_end l)
    where
      by-test :
          (t : Bool) → ok (a ∷ l) ≡ t → cond t (suc (run ok l)) 0 < suc (length l) → (run ok l < length l → ok (drop (run ok l) l) ≡ false) →
          ok (drop (cond t (suc (run ok l)) 0) (a ∷ l)) ≡ false
      by-test true e h r = r (omega arith)
      by-test false e h r = e
