-- The first number that passes a test. Definitions only.
use Rattle.std.specs.Prelude.{Bool, cond, ℕ, zero, suc, Option, Some, None}

-- the first of the n numbers i, i + 1, .. that passes the test `ok`
unfoldable pub first : (ℕ → Bool) → ℕ → ℕ → Option ℕ
first ok i zero = None
first ok i (suc n) =
    let rest = first ok (suc i) n in
    cond (ok i) (Some i) rest
