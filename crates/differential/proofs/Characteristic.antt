-- What a protection engineer asks of the characteristic and of the verdict [02 §11], over the definitions that the contracts cite. A characteristic
-- and a product of two currents are in hundredths of a hundredth.
use mathlib.Core.Path.{◌≡◌, refl, sym, ap, ◌∙◌}
use mathlib.Core.Logic.{⊎_elim}
use Prim.Native.Nat.{ℕ, ◌+◌, ◌-◌, ◌*◌, ◌≤◌, ◌<◌}
use native.Mathlib.Nat.{le_trans, mul-le-mul_left, mul-add, mul-zero}
use native.Mathlib.Omega.{arith}
use Rattle.fold.proofs.BoolLaws.{lt-or-le}
use Rattle.differential.specs.declared.Given.{Given}
use Rattle.differential.specs.declared.Inputs.{Inputs}
use Rattle.differential.specs.declared.Verdict.TheVariants.{Trip}
use Rattle.differential.specs.Verdict.{bend, characteristic}
use Rattle.differential.specs.Given.{differential_of}
use Rattle.differential.specs.Inputs.{inputs_of}
use Rattle.differential.specs.Gets.{RightAt, InRange, LeastFits, VerdictIs, Numbered, Gets, eight, with_differential}
use Rattle.differential.proofs.InputLaws.{start-range, cutoff-range, through-range}
use Rattle.differential.proofs.SlopeLaws.{above-one}
use Rattle.differential.proofs.VerdictLaws.{up-to-bend, above-bend, reaches-exactly}
use Rattle.differential.proofs.Demand1.{slope-is-least, done-exactly, differential-exactly, trip-known}

module _ (start slope : ℕ) where
  -- one line for both sides of the bend: above it the part above 1 counts, and up to it there is none
  one_line : (restraint : ℕ) → 100 * start + slope * (restraint - 100) ≡ characteristic start slope restraint
  one_line restraint =
      ⊎_elim
      (λ (g : 100 < restraint). above-bend start slope restraint g)
      (λ (g : restraint ≤ 100).
      let z : restraint - 100 ≡ 0 = omega arith in
      let m : slope * (restraint - 100) ≡ 0 = ap (λ (d : ℕ). slope * d) z ∙ mul-zero slope in
      let s : 100 * start + slope * (restraint - 100) ≡ 100 * start = omega arith in
      s ∙ up-to-bend start slope restraint g)
      (lt-or-le 100 restraint)

  -- it never falls as the restraint grows
  pub never-falls : (r q : ℕ) → r ≤ q → characteristic start slope r ≤ characteristic start slope q
  never-falls r q h =
      let m : slope * (r - 100) ≤ slope * (q - 100) = mul-le-mul_left slope (let d : r - 100 ≤ q - 100 = omega arith in d) in
      omega (arith, one_line r, one_line q)

  -- it has no jump, at the bend or elsewhere: a hundredth of restraint more adds at most the slope
  pub no_jump : (r : ℕ) → characteristic start slope (r + 1) ≤ characteristic start slope r + slope
  no_jump r =
      let m : slope * (r + 1 - 100) ≤ slope * (r - 100 + 1) = mul-le-mul_left slope (let d : r + 1 - 100 ≤ r - 100 + 1 = omega arith in d) in
      omega (arith, one_line r, one_line (r + 1), mul-add slope (r - 100) 1)

  -- at the bend both parts have the start
  pub bend-joins : (characteristic start slope bend ≡ 100 * start) × (100 * start + slope * (bend - 100) ≡ 100 * start)
  bend-joins = (sym (up-to-bend start slope bend (omega arith)), one_line bend ∙ sym (up-to-bend start slope bend (omega arith)))

-- With the slope given, the greatest outside fault's error current, 1.1 × 0.4 × through, does not exceed the characteristic at that restraint.
error-below : (x : Inputs) (slope : ℕ) → InRange x → LeastFits x slope → 11 * 4 * x.through ≤ characteristic x.start slope x.through
error-below x slope r l = omega (arith, l.fits, one_line x.start slope x.through, above-one slope x.through (through-range x r).0)

pub outside-fault-below :
    (x : Inputs) → (differential_of x).number ≡ 0 → 11 * 4 * x.through ≤ characteristic x.start (differential_of x).slope x.through
outside-fault-below x z = error-below x (differential_of x).slope ((done-exactly x).0 z).0 (slope-is-least x z)

-- ---- the verdict

-- So at that restraint a differential below the error current does not trip, but by the cutoff.
pub outside-fault-no-trip :
    (x : Inputs) → x.restraint ≡ x.through → 100 * x.differential < 11 * 4 * x.through → x.differential < x.cutoff →
    (differential_of x).verdict ≡ 1 → ⊥
outside-fault-no-trip x same low under e = let t = trip-known x e in no-trip t.0 t.1 t.2 t.3
  where
    no-trip : (slope : ℕ) → InRange x → LeastFits x slope → VerdictIs x slope Trip → ⊥
    no-trip slope r l (VerdictIs.at-cutoff c) = omega arith
    no-trip slope r l (VerdictIs.reaches c n f) =
        let at : characteristic x.start slope x.restraint ≡ characteristic x.start slope x.through =
        ap (characteristic x.start slope) same in
        omega (arith, (reaches-exactly x slope).1 f, error-below x slope r l)

-- Raising the differential alone never turns trip into hold, nor into blocked.
trips-above : {x : Inputs} {slope : ℕ} (d : ℕ) → x.differential ≤ d → VerdictIs x slope Trip → VerdictIs (with_differential x d) slope Trip
trips-above {x} {slope} d h (VerdictIs.at-cutoff c) = VerdictIs.at-cutoff (le_trans c h)
trips-above {x} {slope} d h (VerdictIs.reaches c n r) =
    ⊎_elim
    (λ (g : d < x.cutoff).
    VerdictIs.reaches g (λ b. n (record { first-side = b.first-side; second-side = b.second-side }))
    (record { up-to-bend = λ q. omega (arith, r.up-to-bend q); above-bend = λ q. omega (arith, r.above-bend q) }))
    (λ (g : x.cutoff ≤ d). VerdictIs.at-cutoff g)
    (lt-or-le d x.cutoff)

-- with it all inputs stay in their ranges
raised : {x : Inputs} {place : ℕ} (d : ℕ) → d ≤ 10000 → RightAt x place → RightAt (with_differential x d) place
raised d m (RightAt.start a b) = RightAt.start a b
raised d m (RightAt.blocking a b) = RightAt.blocking a b
raised d m (RightAt.cutoff a b) = RightAt.cutoff a b
raised d m (RightAt.through a b) = RightAt.through a b
raised d m (RightAt.first b) = RightAt.first b
raised d m (RightAt.second b) = RightAt.second b
raised d m (RightAt.differential b) = RightAt.differential m
raised d m (RightAt.restraint b) = RightAt.restraint b

pub trip-stays :
    (x : Inputs) (d : ℕ) → x.differential ≤ d → d ≤ 10000 → (differential_of x).verdict ≡ 1 → (differential_of (with_differential x d)).verdict ≡ 1
trip-stays x d h m e = let t = trip-known x e in given t.0 t.1 t.2 t.3
  where
    given : (slope : ℕ) → InRange x → LeastFits x slope → VerdictIs x slope Trip → (differential_of (with_differential x d)).verdict ≡ 1
    given slope r l i =
        ap (λ (g : Given). g.verdict)
        ((differential-exactly (with_differential x d) (eight 0 0 x.start 100 slope x.blocking x.cutoff 1)).1
        (Gets.done slope (λ place a b. raised d m (r place a b))
        (record { offered = l.offered; fits = l.fits; no-lesser = l.no-lesser }) (trips-above d h i) Numbered.trip))

-- what is raised is the differential, and nothing else
pub only-differential :
    with_differential (inputs_of 1 2 3 4 5 6 7 8) 9 ≡
    record { start = 1; blocking = 2; cutoff = 3; through = 4; first = 5; second = 6; differential = 9; restraint = 8 }
only-differential = refl

-- A differential below the start never trips.
pub below-start-no-trip : (x : Inputs) → x.differential < x.start → (differential_of x).verdict ≡ 1 → ⊥
below-start-no-trip x h e = let t = trip-known x e in no-trip t.1 t.3
  where
    no-trip : {slope : ℕ} → InRange x → VerdictIs x slope Trip → ⊥
    no-trip r (VerdictIs.at-cutoff c) = omega (arith, (start-range x r).1, (cutoff-range x r).0)
    no-trip {slope} r (VerdictIs.reaches c n f) =
        ⊎_elim
        (λ (g : 100 < x.restraint). omega (arith, f.above-bend g, above-one slope x.restraint (omega arith)))
        (λ (g : x.restraint ≤ 100). omega (arith, f.up-to-bend g))
        (lt-or-le 100 x.restraint)
