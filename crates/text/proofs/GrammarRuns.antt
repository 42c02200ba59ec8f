-- A run of bytes that pass a test, cut off and put in front of others.
use mathlib.Core.Path.{◌≡◌, refl, sym}
use mathlib.Core.Bool.{Bool, true, false, cond}
use mathlib.Core.List.{List, [], ◌∷◌, ◌++◌}
use Prim.Native.Nat.{ℕ, suc, ◌+◌}
use native.Mathlib.Nat.{suc-add, zero-add}
use lib.ListN.{length, take}
use Rattle.cursor.specs.Bytes.{run}
use Rattle.text.specs.Grammar.{All}

module _ (f : ℕ → Bool) (ok : List ℕ → Bool) where
  -- the test says at least what f says of the first byte
  pub run-all : ((b : ℕ) (l : List ℕ) → ok (b ∷ l) ≡ true → f b ≡ true) → (l : List ℕ) → All f (take (run ok l) l)
  unfolding run
  run-all first [] = tt
  run-all first (b ∷ l) = by-test (ok (b ∷ l)) refl (run-all first l)
    where
      by-test : (t : Bool) → ok (b ∷ l) ≡ t → All f (take (run ok l) l) → All f (take (cond t (suc (run ok l)) 0) (b ∷ l))
      by-test true e h = (first b l e, h)
      by-test false e h = tt

  -- the test asks at most what f asks of the first byte
  pub run-append :
      ((b : ℕ) (l : List ℕ) → f b ≡ true → ok (b ∷ l) ≡ true) → (w v : List ℕ) → All f w → run ok (w ++ v) ≡ length w + run ok v
  unfolding run
  run-append first [] v h = sym (zero-add (run ok v))
  run-append first (b ∷ w) v h = rw (first b (w ++ v) h.0, run-append first w v h.1) (sym (suc-add (length w) (run ok v)))

pub all_append : (f : ℕ → Bool) (w v : List ℕ) → All f w → All f v → All f (w ++ v)
all_append f [] v h k = k
all_append f (b ∷ w) v h k = (h.0, all_append f w v h.1 k)

pub all_weaker : (f g : ℕ → Bool) → ((b : ℕ) → f b ≡ true → g b ≡ true) → (w : List ℕ) → All f w → All g w
all_weaker f g h [] k = tt
all_weaker f g h (b ∷ w) k = (h b k.0, all_weaker f g h w k.1)
