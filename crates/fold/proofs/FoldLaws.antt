-- Laws of sums, maxima and `every` below n.
use mathlib.Core.Path.{◌≡◌, refl, ap, ap₂, ◌∙◌}
use mathlib.Core.Bool.{Bool, true, false, cond, ◌&&◌, ◌||◌, or-false, or-true}
use mathlib.Core.Logic.{◌⊎◌, inl, inr, ⊎_elim}
use lib.Dec.{leb, eqb}
use borrow.Author.Tests.{leb-true, leb-false, eq-eqb, ne_eqb}
use Prim.Native.Nat.{ℕ, zero, suc, ◌+◌, ◌*◌, ◌≤◌, ◌<◌, max}
use native.Mathlib.Nat.{eq-or-lt_of_le, le_of_suc-le-suc, le-max_left, le-max_right, max-le, le_trans, not-suc-le-zero, max-eq_right}
use native.Mathlib.Numerals.{add-one}
use native.Mathlib.Omega.{arith}
use Rattle.fold.specs.Fold.{sum_to, max_to, every}
use Rattle.fold.proofs.BoolLaws.{and_left, and_right, and_both, passes-or-fails, fails, not-both}

-- a number below n + 1 is n or below n
pub below-cases : {P : Type 0} {j n : ℕ} → j < suc n → (j ≡ n → P) → (j < n → P) → P
below-cases l f g = ⊎_elim f g (eq-or-lt_of_le (le_of_suc-le-suc l))

module _ (f : ℕ → ℕ) where
  pub sum_to-next : (n : ℕ) → sum_to (n + 1) f ≡ sum_to n f + f n
  unfolding sum_to
  sum_to-next n = rw add-one

  pub max_to-next : (n : ℕ) → max_to (n + 1) f ≡ max (max_to n f) (f n)
  unfolding max_to
  max_to-next n = rw add-one

  pub sum_to-bound : (b n : ℕ) → ((j : ℕ) → j < n → f j ≤ b) → sum_to n f ≤ n * b
  unfolding sum_to
  sum_to-bound b zero h = omega arith
  sum_to-bound b (suc n) h =
      let s = sum_to-bound b n (λ j l. h j (omega arith)) in
      let m = h n (omega arith) in
      rw (native.Mathlib.Nat.suc-mul n b) (omega arith)

  pub le-sum_to : (n j : ℕ) → j < n → f j ≤ sum_to n f
  unfolding sum_to
  le-sum_to zero j l = absurd (not-suc-le-zero l)
  le-sum_to (suc n) j l =
      below-cases l
      (λ e. rw e (omega arith))
      (λ b. let m = le-sum_to n j b in omega arith)

  pub max_to-bound : (b n : ℕ) → ((j : ℕ) → j < n → f j ≤ b) → max_to n f ≤ b
  unfolding max_to
  max_to-bound b zero h = omega arith
  max_to-bound b (suc n) h = max-le (max_to-bound b n (λ j l. h j (omega arith))) (h n (omega arith))

  pub le-max_to : (n j : ℕ) → j < n → f j ≤ max_to n f
  unfolding max_to
  le-max_to zero j l = absurd (not-suc-le-zero l)
  le-max_to (suc n) j l =
      below-cases l
      (λ e. rw e (le-max_right (max_to n f) (f n)))
      (λ b. le_trans (le-max_to n j b) (le-max_left (max_to n f) (f n)))

-- folds of functions that agree below n are equal
pub sum_to-same : (f g : ℕ → ℕ) (n : ℕ) → ((j : ℕ) → j < n → f j ≡ g j) → sum_to n f ≡ sum_to n g
unfolding sum_to
sum_to-same f g zero h = refl
sum_to-same f g (suc n) h = ap₂ ◌+◌ (sum_to-same f g n (λ j l. h j (omega arith))) (h n (omega arith))

pub max_to-same : (f g : ℕ → ℕ) (n : ℕ) → ((j : ℕ) → j < n → f j ≡ g j) → max_to n f ≡ max_to n g
unfolding max_to
max_to-same f g zero h = refl
max_to-same f g (suc n) h = ap₂ max (max_to-same f g n (λ j l. h j (omega arith))) (h n (omega arith))

pub every-same : (f g : ℕ → Bool) (n : ℕ) → ((j : ℕ) → j < n → f j ≡ g j) → every n f ≡ every n g
unfolding every
every-same f g zero h = refl
every-same f g (suc n) h = ap₂ ◌&&◌ (every-same f g n (λ j l. h j (omega arith))) (h n (omega arith))

-- a sum whose terms from i on are 0 ends at i
pub sum_to-stops : (f : ℕ → ℕ) (i d : ℕ) → ((j : ℕ) → i ≤ j → f j ≡ 0) → sum_to (i + d) f ≡ sum_to i f
unfolding sum_to
sum_to-stops f i zero h = rw native.Mathlib.Nat.add-zero
sum_to-stops f i (suc d) h =
    rw native.Mathlib.Nat.add-suc
    (let s = sum_to-stops f i d h in
    let z = h (i + d) (omega arith) in
    omega arith)

-- the sum over all but one, and that one
pub sum_to-others :
    (f g : ℕ → ℕ) (n k : ℕ) → k < n → g k ≡ 0 → ((j : ℕ) → (j ≡ k → ⊥) → f j ≡ g j) → sum_to n f ≡ sum_to n g + f k
unfolding sum_to
sum_to-others f g zero k l z h = absurd (not-suc-le-zero l)
sum_to-others f g (suc n) k l z h =
    below-cases l
    (λ (e : k ≡ n).
    let s : sum_to n f ≡ sum_to n g = sum_to-same f g n (λ j b. h j (λ q. omega arith)) in
    rw (← e) (let s' : sum_to k f ≡ sum_to k g = rw e s in omega arith))
    (λ (b : k < n).
    let s = sum_to-others f g n k b z h in
    let t : f n ≡ g n = h n (λ q. omega arith) in
    omega arith)

module _ (ok : ℕ → Bool) where
  pub every-at : (n j : ℕ) → every n ok ≡ true → j < n → ok j ≡ true
  unfolding every
  every-at zero j e l = absurd (not-suc-le-zero l)
  every-at (suc n) j e l =
      below-cases l
      (λ (q : j ≡ n). rw q (and_right (every n ok) (ok n) e))
      (λ b. every-at n j (and_left (every n ok) (ok n) e) b)

  pub every_of : (n : ℕ) → ((j : ℕ) → j < n → ok j ≡ true) → every n ok ≡ true
  unfolding every
  every_of zero h = refl
  every_of (suc n) h = and_both (every_of n (λ j l. h j (omega arith))) (h n (omega arith))

  -- a loop that has passed the numbers below i: one more, and one that fails
  pub every_more : {n : ℕ} → every n ok ≡ true → ok n ≡ true → every (n + 1) ok ≡ true
  unfolding every
  every_more {n} e p = rw (add-one n) (and_both e p)

  pub every-fails : (n j : ℕ) → j < n → ok j ≡ false → every n ok ≡ false
  every-fails n j h e = fails (every n ok) (λ t. not-both (every-at n j t h) e)

-- a maximum is 0 or one of its numbers
pub record Attained (f : ℕ → ℕ) (n m : ℕ) : Type 0 where
  pub at : ℕ
  pub below : at < n
  pub is : f at ≡ m

pub max_to-attained : (f : ℕ → ℕ) (n : ℕ) → (max_to n f ≡ 0) ⊎ Attained f n (max_to n f)
unfolding max_to
max_to-attained f zero = inl refl
max_to-attained f (suc n) =
    ⊎_elim
    (λ (h : leb (max_to n f) (f n) ≡ true).
    let e = max-eq_right (leb-true (max_to n f) (f n) h) in
    rw e (inr (record { at = n; below = omega arith; is = refl })))
    (λ (h : leb (max_to n f) (f n) ≡ false).
    let e : max (max_to n f) (f n) ≡ max_to n f = omega (arith, leb-false (max_to n f) (f n) h) in
    rw e (⊎_elim inl (λ a. inr (record { at = a.at; below = omega (arith, a.below); is = a.is })) (max_to-attained f n)))
    (passes-or-fails (leb (max_to n f) (f n)))

-- a sum of nothing but 0
pub sum_to-zero : (f : ℕ → ℕ) (n : ℕ) → ((j : ℕ) → j < n → f j ≡ 0) → sum_to n f ≡ 0
unfolding sum_to
sum_to-zero f zero h = refl
sum_to-zero f (suc n) h =
    let s = sum_to-zero f n (λ j l. h j (omega arith)) in
    let t = h n (omega arith) in
    omega arith

-- the maximum over all but one, and that one
pub max_to-others :
    (f g : ℕ → ℕ) (n k : ℕ) → k < n → g k ≡ 0 → ((j : ℕ) → (j ≡ k → ⊥) → f j ≡ g j) → max_to n f ≡ max (max_to n g) (f k)
unfolding max_to
max_to-others f g zero k l z h = absurd (not-suc-le-zero l)
max_to-others f g (suc n) k l z h =
    below-cases l
    (λ (e : k ≡ n).
    let s : max_to n f ≡ max_to n g = max_to-same f g n (λ j b. h j (λ q. omega arith)) in
    rw (← e) (let s' : max_to k f ≡ max_to k g = rw e s in omega arith))
    (λ (b : k < n).
    let s = max_to-others f g n k b z h in
    let t : f n ≡ g n = h n (λ q. omega arith) in
    omega arith)

-- one number more that counts: `done` has all that counted before, `done'` i besides
module _ (n i : ℕ) (h : i < n) (done done' : ℕ → Bool) (new : done i ≡ false) (next : (j : ℕ) → done' j ≡ (done j || eqb j i))
    (on : ℕ → Bool) (f f' : ℕ → ℕ) (same : (j : ℕ) → (j ≡ i → ⊥) → f' j ≡ f j) where
  absent : cond (done i && on i) (f i) 0 ≡ 0
  absent = rw new

  kept : (j : ℕ) → (j ≡ i → ⊥) → cond (done' j && on j) (f' j) 0 ≡ cond (done j && on j) (f j) 0
  kept j n = rw (next j, ne_eqb j i n, or-false (done j), same j n)

  added : cond (done' i && on i) (f' i) 0 ≡ cond (on i) (f' i) 0
  added = rw (next i, eq-eqb i i refl, or-true (done i))

  pub sum-next : sum_to n (λ j. cond (done' j && on j) (f' j) 0) ≡ sum_to n (λ j. cond (done j && on j) (f j) 0) + cond (on i) (f' i) 0
  sum-next =
      sum_to-others (λ j. cond (done' j && on j) (f' j) 0) (λ j. cond (done j && on j) (f j) 0) n i h absent kept ∙
      ap (λ (x : ℕ). sum_to n (λ j. cond (done j && on j) (f j) 0) + x) added

  pub max-next : max_to n (λ j. cond (done' j && on j) (f' j) 0) ≡ max (max_to n (λ j. cond (done j && on j) (f j) 0)) (cond (on i) (f' i) 0)
  max-next =
      max_to-others (λ j. cond (done' j && on j) (f' j) 0) (λ j. cond (done j && on j) (f j) 0) n i h absent kept ∙
      ap (max (max_to n (λ j. cond (done j && on j) (f j) 0))) added
