-- `current_of` gives the sides s exactly where `SidesAt` holds of s and `Gives` of the side that is used, and it refuses what section 5 names: by cases
-- on the single, each quotient being what `Rounds` says.
use Prim.Native.Nat.{ℕ, zero, suc, ◌*◌, ◌≤◌, ◌<◌}
use native.Mathlib.Nat.{zero-mul, mul-one, mul_right_comm, zero-lt-suc}
use native.Mathlib.Omega.{arith}
use mathlib.Core.Path.{◌≡◌, refl, sym, ap, ◌∙◌, subst}
use mathlib.Core.Bool.{Bool, true, false, cond, true≢false}
use lib.IntN.{ℤ}
use lib.Dec.{T, leb, leb→le}
use lib.Pow.{pow_pos}
use lib.Ieee.{Float, nan, inf, fin, up, down, is_nan}
use lib.Ieee.Exact.{HasValue}
use lib.Ieee.Fits.{down_pos, and_l, and_r}
use denote.Floats.{passes}
use borrow.Author.Tests.{lt-ltb, le-leb}
use Rattle.fold.proofs.BoolLaws.{and_both}
use Rattle.single.specs.declared.Rounding.{Rounding}
use Rattle.single.specs.declared.Rounding.TheVariants.{Up, Down}
use Rattle.single.specs.declared.Sides.{Sides}
use Rattle.std.proofs.Common.{Some, None}
use Rattle.std.proofs.lemmas.Option.{none-some}
use Rattle.single.specs.Exact.{sides_of, used, HasSides}
use Rattle.single.specs.SingleCurrent.{allowed, if_allowed, current_of, Gives, SidesAt}
use Rattle.single.proofs.RoundLaws.{rounds-unique}
use Rattle.single.proofs.SideLaws.{sides-are, sides-same, used-rounds, sides-unique, at-most-1-apart, sides-of-equal}

-- ---- what is allowed, and what `if_allowed` gives

pub allowed-low : (k : ℕ) → T (allowed k) → 1 ≤ k
allowed-low k h = leb→le 1 k (and_l (leb 1 k) (leb k 100000000) h)

pub allowed-high : (k : ℕ) → T (allowed k) → k ≤ 100000000
allowed-high k h = leb→le k 100000000 (and_r (leb 1 k) (leb k 100000000) h)

allowed-given : (to : Rounding) (w s : Sides) → if_allowed to w ≡ Some s → (w ≡ s) × T (allowed (used to w))
allowed-given to w s h = go (allowed (used to w)) refl h
  where
    go : (b : Bool) → allowed (used to w) ≡ b → cond b (Some w) None ≡ Some s → (w ≡ s) × T (allowed (used to w))
    go true e g = (cc, passes (allowed (used to w)) e)
    go false e g = absurd (none-some s g)

given-allowed : (to : Rounding) (s : Sides) → 1 ≤ used to s → used to s ≤ 100000000 → if_allowed to s ≡ Some s
given-allowed to s low high = ap (λ (t : Bool). cond t (Some s) None) (and_both (le-leb 1 (used to s) low) (le-leb (used to s) 100000000 high))

-- ---- `Gives` and `SidesAt`

module _ (to : Rounding) (n d : ℕ) (s : Sides) (D : 0 < d) where
  given-sides : if_allowed to (sides_of n d) ≡ Some s → HasSides n d s × (1 ≤ used to s) × (used to s ≤ 100000000)
  given-sides h =
      let g = allowed-given to (sides_of n d) s h in
      let a : T (allowed (used to s)) = subst (λ (w : Sides). T (allowed (used to w))) g.0 g.1 in
      (subst (HasSides n d) g.0 (sides-are n d D), allowed-low (used to s) a, allowed-high (used to s) a)

  sides-given : HasSides n d s → 1 ≤ used to s → used to s ≤ 100000000 → if_allowed to (sides_of n d) ≡ Some s
  sides-given h low high = ap (if_allowed to) (sides-unique n d (sides_of n d) (sides-are n d D) s h) ∙ given-allowed to s low high

pub negative-refused : (to : Rounding) (m : ℕ) (e : ℤ) (scale : ℕ) → 0 < m → current_of to (fin true m e) scale ≡ None
unfolding current_of
negative-refused to m e scale h = simp (lt-ltb 0 m h)

-- a finite single that is not negative, and no other, is judged by its sides
not_negative : (to : Rounding) (t : Bool) (m : ℕ) (e : ℤ) (scale : ℕ) → (t ≡ true → m ≡ 0)
    → current_of to (fin t m e) scale ≡ if_allowed to (sides_of (m * up e * scale) (down e))
unfolding current_of
not_negative to false m e scale h = refl
not_negative to true zero e scale h = refl
not_negative to true (suc m) e scale h = absurd (omega (arith, h refl))

given-not-negative :
    (to : Rounding) (t : Bool) (m : ℕ) (e : ℤ) (scale : ℕ) (s : Sides) → current_of to (fin t m e) scale ≡ Some s → t ≡ true → m ≡ 0
given-not-negative to false m e scale s h p = absurd (true≢false (sym p))
given-not-negative to true zero e scale s h p = refl
given-not-negative to true (suc m) e scale s h p = absurd (none-some s (sym (negative-refused to (suc m) e scale (zero-lt-suc m)) ∙ h))

pub current-gives : (to : Rounding) (x : Float) (scale : ℕ) (s : Sides) → current_of to x scale ≡ Some s
    → Gives to x scale (used to s) × SidesAt x scale s
unfolding current_of
current-gives to nan scale s h = absurd (none-some s h)
current-gives to (inf t) scale s h = absurd (none-some s h)
current-gives to (fin t m e) scale s h =
    let sign = given-not-negative to t m e scale s h in
    let g = given-sides to (m * up e * scale) (down e) s (down_pos e) (sym (not_negative to t m e scale sign) ∙ h) in
    ((sign, used-rounds _ _ s g.0 to, g.1, g.2), (sign, g.0))

-- [02 §9] the current that section 5 gives is one of the sides
pub used-is-side : (to : Rounding) (x : Float) (scale k : ℕ) (s : Sides) → Gives to x scale k → SidesAt x scale s → k ≡ used to s
used-is-side to nan scale k s h g = absurd h
used-is-side to (inf t) scale k s h g = absurd h
used-is-side to (fin t m e) scale k s h g = rounds-unique to _ _ k (used to s) h.1 (used-rounds _ _ s g.1 to)

pub gives-current :
    (to : Rounding) (x : Float) (scale k : ℕ) (s : Sides) → Gives to x scale k → SidesAt x scale s → current_of to x scale ≡ Some s
gives-current to nan scale k s h g = absurd h
gives-current to (inf t) scale k s h g = absurd h
gives-current to (fin t m e) scale k s h g =
    let is = used-is-side to (fin t m e) scale k s h g in
    not_negative to t m e scale g.0
    ∙ sides-given to (m * up e * scale) (down e) s (down_pos e) g.1
    (subst (λ (j : ℕ). 1 ≤ j) is h.2) (subst (λ (j : ℕ). j ≤ 100000000) is h.3)

pub sides-exist : (t : Bool) (m : ℕ) (e : ℤ) (scale : ℕ) → (t ≡ true → m ≡ 0) → (s : Sides) × SidesAt (fin t m e) scale s
sides-exist t m e scale h = (sides_of (m * up e * scale) (down e), (h, sides-are _ _ (down_pos e)))

pub gives-sides : (to : Rounding) (x : Float) (scale k : ℕ) → Gives to x scale k → (s : Sides) × SidesAt x scale s
gives-sides to nan scale k h = absurd h
gives-sides to (inf t) scale k h = absurd h
gives-sides to (fin t m e) scale k h = sides-exist t m e scale h.0

-- the single is a / c in size, and its exact mA at a scale are a * scale / c
pub product-by-value :
    (u t : Bool) (m : ℕ) (e : ℤ) (a c scale : ℕ) → HasValue (fin u m e) t a c → m * up e * scale * c ≡ a * scale * down e
product-by-value u t m e a c scale v = mul_right_comm (m * up e) scale c ∙ ap (λ (k : ℕ). k * scale) v.1 ∙ mul_right_comm a (down e) scale

pub sides-by-value :
    (x : Float) (t : Bool) (a c scale : ℕ) (s : Sides) → HasValue x t a c → 0 < c → SidesAt x scale s → HasSides (a * scale) c s
sides-by-value nan t a c scale s v C h = absurd h
sides-by-value (inf u) t a c scale s v C h = absurd h
sides-by-value (fin u m e) t a c scale s v C h =
    sides-of-equal _ _ s h.1 (a * scale) c (down_pos e) C (product-by-value u t m e a c scale v)

pub sides-near : (x : Float) (scale : ℕ) (s : Sides) → SidesAt x scale s → (s.lower ≤ s.upper) × (s.upper ≤ suc s.lower)
sides-near nan scale s h = absurd h
sides-near (inf t) scale s h = absurd h
sides-near (fin t m e) scale s h = at-most-1-apart _ _ s h.1 (down_pos e)

-- the current is from 1 to 100,000,000
pub gives-range : (to : Rounding) (x : Float) (scale k : ℕ) → Gives to x scale k → (1 ≤ k) × (k ≤ 100000000)
gives-range to nan scale k h = absurd h
gives-range to (inf t) scale k h = absurd h
gives-range to (fin t m e) scale k h = (h.2, h.3)

-- ---- other refusals

-- zero has 0 on both sides, which is not allowed
zero-mA : (to : Rounding) (e : ℤ) (scale : ℕ) → if_allowed to (sides_of (0 * up e * scale) (down e)) ≡ None
zero-mA to e scale =
    let none : 0 * up e * scale * 1 ≡ 0 * down e = mul-one (0 * up e * scale) ∙ ap (λ (n : ℕ). n * scale) (zero-mul (up e)) ∙ zero-mul scale ∙ sym
    (zero-mul (down e)) in
    ap (if_allowed to) (sides-same (0 * up e * scale) (down e) 0 1 (down_pos e) (pow_pos 0) none) ∙ neither to
  where
    neither : (to : Rounding) → if_allowed to (sides_of 0 1) ≡ None
    neither Up = refl
    neither Down = refl

pub nan-refused : (to : Rounding) (x : Float) (scale : ℕ) → is_nan x ≡ true → current_of to x scale ≡ None
unfolding current_of is_nan
nan-refused to nan scale h = refl
nan-refused to (inf s) scale h = refl
nan-refused to (fin s m e) scale h = absurd (true≢false (sym h))

pub zero-refused : (to : Rounding) (s : Bool) (e : ℤ) (scale : ℕ) → current_of to (fin s 0 e) scale ≡ None
zero-refused to s e scale = not_negative to s 0 e scale (λ t. refl) ∙ zero-mA to e scale
