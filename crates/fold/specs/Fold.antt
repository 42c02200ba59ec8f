-- Sums, maxima and "for every" over the numbers below n. Definitions only.
use Rattle.std.specs.Prelude.{Bool, true, ◌&&◌, ℕ, zero, suc, ◌+◌, max}

-- f 0 + f 1 + .. + f (n - 1)
unfoldable pub sum_to : ℕ → (ℕ → ℕ) → ℕ
sum_to zero f = 0
sum_to (suc n) f = sum_to n f + f n

-- the greatest of f 0, .., f (n - 1); 0 where there is none
unfoldable pub max_to : ℕ → (ℕ → ℕ) → ℕ
max_to zero f = 0
max_to (suc n) f = max (max_to n f) (f n)

-- every number below n passes the test
unfoldable pub every : ℕ → (ℕ → Bool) → Bool
every zero ok = true
every (suc n) ok = every n ok && ok n
