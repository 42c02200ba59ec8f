-- The loop that copies a block into a buffer: after j turns the first j of the block stand there. One law for numbers, bytes and any other values.
use mathlib.Core.Path.{◌≡◌, refl}
use mathlib.Core.List.{List}
use Prim.Native.Nat.{ℕ, ◌+◌, ◌≤◌, ◌<◌}
use native.Mathlib.Numerals.{add-one}
use native.Mathlib.Omega.{arith}
use lib.ListN.{length, get_or, set, length-set}
use lib.Seq.{paste, paste-zero, paste-suc}

module _ {A : Type 0} (out₀ : List A) (at : ℕ) (block : List A) where
  pub record Copied (out : List A) (j : ℕ) : Type 0 where
    pub in_block : j ≤ length block
    pub same_length : length out ≡ length out₀
    pub so_far : out ≡ paste out₀ at block j

  pub copied_none : Copied out₀ 0
  copied_none = record { in_block = omega arith; same_length = refl; so_far = paste-zero out₀ at block }

  pub copied_more :
      (out : List A) (j : ℕ) (x : A) → at + length block ≤ length out₀ → Copied out j → j < length block → x ≡ get_or block j x → Copied
      (set out (at + j) x) (j + 1)
  copied_more out j x room c l e =
      record {
        in_block = omega arith;
        same_length = simp length-set c.same_length;
        so_far = rw (c.so_far, add-one j) (rw e (paste-suc out₀ at block j x (omega arith) l));
      }

  pub copied_all : (out : List A) (j : ℕ) → Copied out j → length block ≤ j → out ≡ paste out₀ at block (length block)
  copied_all out j c l = let e : j ≡ length block = omega (arith, c.in_block) in rw (← e) c.so_far
