-- Blocks written one after the other into a buffer.
use mathlib.Core.Path.{◌≡◌, sym, ap, ◌∙◌}
use mathlib.Core.Logic.{⊎_elim}
use mathlib.Core.List.{List, ◌++◌}
use Prim.Native.Nat.{ℕ, ◌+◌, ◌*◌, ◌/◌, ◌≤◌, ◌<◌, min}
use native.Mathlib.Nat.{add-mul, one-mul, zero-mul, div-zero, min-eq_left}
use native.Mathlib.Omega.{arith}
use lib.ListN.{length, take, drop, length-append}
use lib.Seq.{paste, take-add, drop-drop, take_at, drop_at, length-take-le, take-length, take_all}
use borrow.Author.Tests.{lt-ltb, le-ltb}
use Rattle.fold.proofs.BoolLaws.{lt-or-le}
use Rattle.text.specs.Text.{over, kept_in, blocks_over}

-- a block of nothing changes nothing
pub kept-empty : {A : Type 0} → (n : ℕ) (block l : List A) → length block ≡ 0 → l ≡ kept_in (length l / length block) n block l
unfolding kept_in
kept-empty n block l h = rw (h, div-zero (length l), le-ltb n 0 (omega arith))

pub kept-below : {A : Type 0} → (room n : ℕ) (block l : List A) → n < room → paste l (n * length block) block (length block) ≡ kept_in room n block l
unfolding kept_in
kept-below room n block l h = rw (lt-ltb n room h)

pub kept_above : {A : Type 0} → (room n : ℕ) (block l : List A) → room ≤ n → l ≡ kept_in room n block l
unfolding kept_in
kept_above room n block l h = rw (le-ltb n room h)

pub kept-start : {A : Type 0} → (room w : ℕ) (xs l : List A) → l ≡ blocks_over room w 0 xs l
unfolding blocks_over over
kept-start room w xs l =
    let z : min 0 room ≡ 0 = omega arith in
    rw (z, zero-mul w)

-- the part of xs that is left begins with a block
module _ {A : Type 0} (w n : ℕ) (xs block rest : List A) (e : drop (n * w) xs ≡ block ++ rest) (long : length block ≡ w) (h : n * w ≤ length xs) where
  pub block-behind : drop ((n + 1) * w) xs ≡ rest
  block-behind =
      rw (add-mul n 1 w, one-mul w)
      (sym (drop-drop w (n * w) xs) ∙ rw e (drop_at block rest w long))

  block-taken : take ((n + 1) * w) xs ≡ take (n * w) xs ++ block
  block-taken =
      rw (add-mul n 1 w, one-mul w)
      (take-add (n * w) w xs ∙ ap (λ (r : List A). take (n * w) xs ++ r) (rw e (take_at block rest w long)))

  front_long : length (take (n * w) xs) ≡ n * w
  front_long = length-take-le (n * w) xs h

  -- over what was written comes the block, and then what was there
  pasted : (l : List A) → paste (over (take (n * w) xs) l) (n * w) block w ≡ over (take (n * w) xs ++ block) l
  unfolding over
  pasted l =
      let f = front_long in
      let a : take (n * w) (take (n * w) xs ++ drop (n * w) l) ≡ take (n * w) xs = take_at (take (n * w) xs) (drop (n * w) l) (n * w) f in
      let b : take w block ≡ block = rw (← long) (take-length block) in
      let d : drop (n * w + w) (take (n * w) xs ++ drop (n * w) l) ≡ drop (n * w + w) l =
      sym (drop-drop w (n * w) (take (n * w) xs ++ drop (n * w) l)) ∙
      rw (drop_at (take (n * w) xs) (drop (n * w) l) (n * w) f) (drop-drop w (n * w) l) in
      let k : length (take (n * w) xs ++ block) ≡ n * w + w = rw (length-append (take (n * w) xs) block, f, long) in
      rw (f, k, a, b, d)

  pub kept_next : (room : ℕ) (l l' : List A) → l' ≡ blocks_over room w n xs l → kept_in room n block l' ≡ blocks_over room w (n + 1) xs l
  unfolding blocks_over
  kept_next room l l' q = ⊎_elim below above (lt-or-le n room)
    where
      below : n < room → kept_in room n block l' ≡ blocks_over room w (n + 1) xs l
      below k =
          let a : min n room ≡ n = omega arith in
          let b : min (n + 1) room ≡ n + 1 = omega arith in
          let p : l' ≡ over (take (n * w) xs) l = rw a at q in
          sym (kept-below room n block l' k) ∙ rw (b, long, p, block-taken) (pasted l)

      above : room ≤ n → kept_in room n block l' ≡ blocks_over room w (n + 1) xs l
      above k =
          let a : min n room ≡ min (n + 1) room = omega arith in
          sym (kept_above room n block l' k) ∙ rw a at q

-- a buffer over whose start n blocks of w numbers were written, there being room for them
pub blocks-front : {A : Type 0} → (room w n : ℕ) (xs l : List A) → n ≤ room → length xs ≡ n * w → blocks_over room w n xs l ≡ xs ++ drop (length xs) l
unfolding blocks_over over
blocks-front room w n xs l h e =
    let m : min n room ≡ n = min-eq_left h in
    rw (m, take_all (n * w) xs (omega arith))
