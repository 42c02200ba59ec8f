-- Both sides of a reading [02 §9]: "the greatest whole mA not above it and the least not below it, equal exactly when nothing was lost". First for
-- every single at every scale, then for what a study gets. Each is proved by citing laws.
use Prim.Native.Nat.{ℕ, suc, ◌*◌, ◌≤◌, ◌<◌}
use native.Mathlib.Omega.{arith}
use mathlib.Core.Path.{◌≡◌, refl}
use mathlib.Core.Logic.{◌↔◌}
use mathlib.Core.Bool.{Bool, true}
use lib.IntN.{ℤ}
use lib.Ieee.{Float, nan, inf, fin}
use lib.Ieee.Exact.{HasValue}
use Rattle.single.specs.declared.Sides.{Sides}
use Rattle.single.specs.declared.Rounding.{Rounding}
use Rattle.single.specs.declared.Rounding.TheVariants.{Up, Down}
use Rattle.single.specs.Exact.{used, HasSides}
use Rattle.single.specs.SingleCurrent.{Gives, SidesAt}
use Rattle.single.proofs.CurrentLaws as current
use Rattle.single.proofs.SideLaws as side
use Rattle.study.specs.declared.Study.{Study}
use Rattle.study.specs.declared.Converted.{Converted}
use Rattle.study.specs.Currents.{single_of, scale_of, convert_of}
use Rattle.study.specs.Gets.{ReadingGives, RatedRight, done_with, StudyGets}
use Rattle.study.specs.Gets.StudyGets.{both, rated-outside, no-greatest, no-least}
use Rattle.study.proofs.ReadingLaws.{sides-at, reading-used, reading-sides}
use Rattle.study.proofs.Demand1.{study-exactly, done-exactly}

-- ---- every single that is finite and not negative has sides at every scale, and no other single has any

pub sides-exist : (minus : Bool) (m : ℕ) (e : ℤ) (scale : ℕ) → (minus ≡ true → m ≡ 0) → (s : Sides) × SidesAt (fin minus m e) scale s
sides-exist = current.sides-exist

pub sides-of-nan : (scale : ℕ) (s : Sides) → SidesAt nan scale s → ⊥
sides-of-nan scale s h = h

pub sides-of-infinite : (minus : Bool) (scale : ℕ) (s : Sides) → SidesAt (inf minus) scale s → ⊥
sides-of-infinite minus scale s h = h

pub sides-of-negative : (m : ℕ) (e : ℤ) (scale : ℕ) (s : Sides) → 0 < m → SidesAt (fin true m e) scale s → ⊥
sides-of-negative m e scale s p h = omega (arith, p, h.0 refl)

-- ---- their laws

-- The single is a / c in size, however that is written, so its exact mA are a * scale / c. Where it has a minus sign it is zero, by the above.
module _ (x : Float) (minus : Bool) (a c scale : ℕ) (s : Sides) (v : HasValue x minus a c) (C : 0 < c) (h : SidesAt x scale s) where
  of-product : HasSides (a * scale) c s
  of-product = current.sides-by-value x minus a c scale s v C h

  -- the sides hold the exact mA between them
  pub sides-hold : (s.lower * c ≤ a * scale) × (a * scale ≤ s.upper * c)
  sides-hold = side.sides-hold (a * scale) c s of-product

  -- they are equal exactly where nothing was lost: where the exact mA are a whole number k
  pub sides-equal-exactly : (s.lower ≡ s.upper) ↔ ((k : ℕ) × (k * c ≡ a * scale))
  sides-equal-exactly = side.sides-equal-exactly (a * scale) c s of-product C

-- they differ by at most 1
pub sides-near : (x : Float) (scale : ℕ) (s : Sides) → SidesAt x scale s → (s.lower ≤ s.upper) × (s.upper ≤ suc s.lower)
sides-near = current.sides-near

-- ---- the current k that section 5 gives, if any, is one of them

module _ (x : Float) (scale k : ℕ) (s : Sides) (h : SidesAt x scale s) where
  -- rounded up the upper one, rounded down the lower one
  pub up-is-upper : Gives Up x scale k → k ≡ s.upper
  up-is-upper g = current.used-is-side Up x scale k s g h

  pub down-is-lower : Gives Down x scale k → k ≡ s.lower
  down-is-lower g = current.used-is-side Down x scale k s g h

  -- the one that is used is from 1 to 100,000,000; the other may lie outside: a lower one of 0, an upper one of 100,000,001
  pub sides-range : (to : Rounding) → Gives to x scale k
      → (1 ≤ used to s) × (used to s ≤ 100000000) × (s.lower ≤ 100000000) × (1 ≤ s.upper) × (s.upper ≤ 100000001)
  sides-range to g =
      let is = current.used-is-side to x scale k s g h in
      let range = current.gives-range to x scale k g in
      let low : 1 ≤ used to s = omega (arith, is, range.0) in
      let high : used to s ≤ 100000000 = omega (arith, is, range.1) in
      let held = side.used-between s (sides-near x scale s h).0 to in
      (low, high, omega (arith, high, held.0), omega (arith, low, held.1), omega (arith, high, held.0, (sides-near x scale s h).1))

-- ---- what a study gets; sides of 0 and of 100,000,001 are in the table of `cases`

module _ (s : Study) where
  -- the sides that are given are those of its two singles at their scales, so that the laws above hold of them
  pub done-sides :
      (g l : ℕ) (gs ls : Sides) →
      convert_of s ≡ done_with g l gs ls →
      SidesAt (single_of s.greatest.quantity) (scale_of s.greatest.quantity s.greatest.rated) gs
      × SidesAt (single_of s.least.quantity) (scale_of s.least.quantity s.least.rated) ls
  done-sides g l gs ls e =
      let d = (done-exactly s g l gs ls).0 e in
      ((sides-at Up s.greatest gs).0 d.3, (sides-at Down s.least ls).0 d.4)

  -- done is given with some sides exactly where section 5 gives both currents: the sides refuse nothing
  pub done-as-before :
      (g l : ℕ) →
      ((gs : Sides) × (ls : Sides) × (convert_of s ≡ done_with g l gs ls))
      ↔ (RatedRight s × ReadingGives Up s.greatest g × ReadingGives Down s.least l)
  done-as-before g l = (
    λ w.
        let d = (done-exactly s g l w.0 w.1).0 w.2 in
        (d.0, d.1, d.2),
    λ h.
        let gs = reading-sides Up s.greatest g h.1 in
        let ls = reading-sides Down s.least l h.2 in
        (gs.0, ls.0, (done-exactly s g l gs.0 ls.0).1 (h.0, h.1, h.2, gs.1, ls.1)),
  )

  -- the current that is used is one of the sides, in whatever is given: the upper one for the greatest, the lower one for the least
  pub used-are-sides : ((convert_of s).greatest ≡ (convert_of s).sides.greatest.upper) × ((convert_of s).least ≡ (convert_of s).sides.least.lower)
  used-are-sides = of ((study-exactly s (convert_of s)).0 refl)
    where
      of : {r : Converted} → StudyGets s r → (r.greatest ≡ r.sides.greatest.upper) × (r.least ≡ r.sides.least.lower)
      of (both g l gs ls w hg hl hgs hls) = (reading-used Up s.greatest g gs hg hgs, reading-used Down s.least l ls hl hls)
      of (rated-outside n) = (refl, refl)
      of (no-greatest w n) = (refl, refl)
      of (no-least g w hg n) = (refl, refl)
