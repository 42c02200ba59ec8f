-- A buffer cut into blocks of w numbers: what stands in it after a block is written. One set of laws for the rows of a list,
-- the rows of a card and what fed rows ask.
use mathlib.Core.Path.{◌≡◌, refl, sym, ap, ◌∙◌}
use mathlib.Core.Bool.{Bool, true, false}
use mathlib.Core.Logic.{◌≢◌}
use mathlib.Core.List.{List, [], ◌∷◌}
use Prim.Native.Nat.{ℕ, zero, suc, ◌+◌, ◌-◌, ◌*◌, ◌/◌, ◌%◌, ◌≤◌, ◌<◌}
use native.Mathlib.Nat.{add-suc, suc-add, suc-mul, mul-le-mul_right, div-add-mod', mod-lt, div-lt_iff_lt-mul}
use native.Mathlib.Omega.{arith}
use lib.Dec.{ltb}
use lib.ListN.{length, get_or, set, take, drop, length-set}
use borrow.Author.Tests.{ltb-true, ltb-false}
use lib.Seq.{sets, length-sets, sets-eq, paste, take-length, set-get_or, get_or-set_same, get_or-set_other, drop-set-lt, ext_get_or, length-take-le, get_or-take}

-- a block copied to a place, as a run of stores
pub pasted-sets : (l : List ℕ) (at : ℕ) (b : List ℕ) → at + length b ≤ length l → paste l at b (length b) ≡ sets l at b
pasted-sets l at b h = rw (take-length b) (sym (sets-eq b l at h))

-- a run of stores: the numbers before it, behind it and in it
pub sets-before : (b l : List ℕ) (at x : ℕ) → x < at → get_or (sets l at b) x 0 ≡ get_or l x 0
sets-before [] l at x h = refl
sets-before (a ∷ b) l at x h =
    sets-before b (set l at a) (suc at) x (omega arith) ∙ get_or-set_other l at x a 0 (λ e. omega arith)

pub sets_behind : (b l : List ℕ) (at x : ℕ) → at + length b ≤ x → get_or (sets l at b) x 0 ≡ get_or l x 0
sets_behind [] l at x h = refl
sets_behind (a ∷ b) l at x h =
    sets_behind b (set l at a) (suc at) x (omega (arith, add-suc at (length b), suc-add at (length b))) ∙
    get_or-set_other l at x a 0 (λ e. omega (arith, add-suc at (length b)))

pub sets-within : (b l : List ℕ) (at k : ℕ) → k < length b → at + length b ≤ length l → get_or (sets l at b) (at + k) 0 ≡ get_or b k 0
sets-within [] l at k h r = absurd (omega arith)
sets-within (a ∷ b) l at zero h r =
    let e : at + 0 ≡ at = omega arith in
    rw e (sets-before b (set l at a) (suc at) at (omega arith) ∙ get_or-set_same l at a 0 (omega (arith, add-suc at (length b))))
sets-within (a ∷ b) l at (suc k) h r =
    let e : at + suc k ≡ suc at + k = omega arith in
    rw e
    (sets-within b (set l at a) (suc at) k (omega arith)
    (rw (length-set l at a) (omega (arith, add-suc at (length b), suc-add at (length b)))))

pub drop-sets : (b l : List ℕ) (at n : ℕ) → at + length b ≤ n → drop n (sets l at b) ≡ drop n l
drop-sets [] l at n h = refl
drop-sets (a ∷ b) l at n h =
    drop-sets b (set l at a) (suc at) n (omega (arith, add-suc at (length b), suc-add at (length b))) ∙
    drop-set-lt n l at a (omega (arith, add-suc at (length b)))

-- numbers stored where they stand change nothing
pub sets-stands : (b l : List ℕ) (at : ℕ) → ((k : ℕ) → k < length b → get_or b k 0 ≡ get_or l (at + k) 0) → sets l at b ≡ l
sets-stands [] l at h = refl
sets-stands (a ∷ b) l at h =
    let own : a ≡ get_or l at 0 = h 0 (omega arith) ∙ (let e : at + 0 ≡ at = omega arith in rw e) in
    let stands : set l at a ≡ l = rw own (set-get_or l at 0) in
    rw stands
    (sets-stands b l (suc at) (λ k g. h (suc k) (omega arith) ∙ (let e : at + suc k ≡ suc at + k = omega arith in rw e)))

-- what a run of stores leaves is the list l', where l and l' agree outside the run and the run's numbers are those of l'
pub sets-is :
    (b l l' : List ℕ) (at : ℕ) → length l ≡ length l' → at + length b ≤ length l → ((x : ℕ) → x < at → get_or l x 0 ≡ get_or l' x 0) →
    ((x : ℕ) → at + length b ≤ x → get_or l x 0 ≡ get_or l' x 0) → ((k : ℕ) → k < length b → get_or b k 0 ≡ get_or l' (at + k) 0) →
    sets l at b ≡ l'
sets-is b l l' at n r before behind within =
    ext_get_or 0 (sets l at b) l' (length-sets l at b ∙ n) (λ x _. by_place x (ltb x at) (ltb x (at + length b)) refl refl)
  where
    by_place : (x : ℕ) (s t : Bool) → ltb x at ≡ s → ltb x (at + length b) ≡ t → get_or (sets l at b) x 0 ≡ get_or l' x 0
    by_place x true t e g = let h = ltb-true x at e in sets-before b l at x h ∙ before x h
    by_place x false true e g =
        let k : x ≡ at + (x - at) = omega (arith, ltb-false x at e) in
        let h : x - at < length b = omega (arith, ltb-false x at e, ltb-true x (at + length b) g) in
        rw k (sets-within b l at (x - at) h r ∙ within (x - at) h)
    by_place x false false e g = let h = ltb-false x (at + length b) g in sets_behind b l at x h ∙ behind x h

-- block i of a buffer written: its own numbers, and those of another block j
module _ (w : ℕ) (l : List ℕ) (i : ℕ) (b : List ℕ) where
  pub block-own : (k : ℕ) → k < length b → i * w + length b ≤ length l → get_or (sets l (i * w) b) (i * w + k) 0 ≡ get_or b k 0
  block-own k h r = sets-within b l (i * w) k h r

  pub block-other : (j k : ℕ) → j ≢ i → k < w → length b ≤ w → get_or (sets l (i * w) b) (j * w + k) 0 ≡ get_or l (j * w + k) 0
  block-other j k n h m = by_order (ltb j i) refl
    where
      by_order : (t : Bool) → ltb j i ≡ t → get_or (sets l (i * w) b) (j * w + k) 0 ≡ get_or l (j * w + k) 0
      by_order true t =
          let e = mul-le-mul_right w (ltb-true j i t) in
          let s = suc-mul j w in
          sets-before b l (i * w) (j * w + k) (omega arith)
      by_order false t =
          let g : i < j = omega (arith, ltb-false j i t, n) in
          let e = mul-le-mul_right w g in
          let s = suc-mul i w in
          sets_behind b l (i * w) (j * w + k) (omega arith)

-- two buffers whose first n blocks hold the same numbers have the same front
pub blocks-agree :
    (w n : ℕ) (c c' : List ℕ) → 0 < w → n * w ≤ length c → n * w ≤ length c' →
    ((j k : ℕ) → j < n → k < w → get_or c (j * w + k) 0 ≡ get_or c' (j * w + k) 0) → take (n * w) c ≡ take (n * w) c'
blocks-agree w n c c' p h h' e =
    let m = length-take-le (n * w) c h in
    let m' = length-take-le (n * w) c' h' in
    ext_get_or 0 (take (n * w) c) (take (n * w) c') (m ∙ sym m')
    (λ x b.
    let x_below : x < n * w = omega arith in
    let q : x / w * w + x % w ≡ x = div-add-mod' x w in
    get_or-take (n * w) c x 0 x_below ∙
    ap (λ (y : ℕ). get_or c y 0) (sym q) ∙ e (x / w) (x % w) ((div-lt_iff_lt-mul p).1 x_below) (mod-lt x p) ∙ ap (λ (y : ℕ). get_or c' y 0) q ∙
    sym (get_or-take (n * w) c' x 0 x_below))
