-- The value of digits read from the left, and its bound: k digits make less than 10 to the k.
use mathlib.Core.Path.{◌≡◌}
use mathlib.Core.List.{List}
use Prim.Native.Nat.{ℕ, ◌+◌, ◌-◌, ◌*◌, ◌^◌, ◌≤◌, ◌<◌}
use native.Mathlib.Nat.{pow-suc}
use native.Mathlib.Numerals.{add-one}
use native.Mathlib.Omega.{arith}
use lib.ListN.{length, drop, get_or, drop_of_length-le}
use lib.Seq.{drop-cons}
use Rattle.cursor.specs.Pieces.{decimal}

-- one digit more
pub ten-more : (v d k : ℕ) → v < 10 ^ k → d ≤ 9 → v * 10 + d < 10 ^ (k + 1)
ten-more v d k h n = rw (add-one k, pow-suc 10 k) (omega arith)

pub decimal-more :
    (w : List ℕ) (v i : ℕ) → i < length w → decimal v (drop i w) ≡ decimal (v * 10 + (get_or w i 0 - 48)) (drop (i + 1) w)
unfolding decimal
decimal-more w v i h = rw (add-one i, drop-cons w i 0 h)

pub decimal-over : (w : List ℕ) (v i : ℕ) → length w ≤ i → decimal v (drop i w) ≡ v
unfolding decimal
decimal-over w v i h = rw (drop_of_length-le w h)
