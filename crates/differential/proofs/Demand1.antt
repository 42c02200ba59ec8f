-- What any eight numbers get [02 §11]: `differential_of` gives exactly what the request says, INPUT and SLOPE exactly when it says so, and nothing
-- else. By cases on the first input out of its range and on the least slope.
use Rattle.answers.specs.declared.Refusal.TheVariants.{Input, Slope}
use Rattle.std.proofs.Common.{Option, Some, None}
use mathlib.Core.Path.{◌≡◌, refl, sym, ap, ◌∙◌, subst}
use mathlib.Core.Logic.{◌↔◌}
use Prim.Native.Nat.{ℕ, ◌+◌, ◌-◌}
use native.Mathlib.Omega.{arith}
use Rattle.differential.specs.declared.Given.{Given}
use Rattle.differential.specs.declared.Inputs.{Inputs}
use Rattle.differential.specs.declared.Verdict.{Verdict}
use Rattle.differential.specs.declared.Verdict.TheVariants.{Trip, Hold, Blocked}
use Rattle.differential.specs.Inputs.{first_outside}
use Rattle.differential.specs.Slope.{least_slope}
use Rattle.differential.specs.Verdict.{verdict_of, verdict_number}
use Rattle.differential.specs.Given.{refused_with, done_with, differential_of}
use Rattle.differential.specs.Gets.{InRange, LowestOutside, Offered, Fits, LeastFits, VerdictIs, Numbered, eight, Gets}
use Rattle.differential.proofs.GivenLaws.{input-refused, slope-refused, slope-done}
use Rattle.differential.proofs.InputLaws.{through-range, none-outside, found-lowest, lowest-found}
use Rattle.differential.proofs.SlopeLaws.{least-exactly, none-exactly}
use Rattle.differential.proofs.VerdictLaws.{verdict-is, is-verdict}

-- the number of a verdict
numbered : (v : Verdict) → Numbered v (verdict_number v)
numbered Trip = Numbered.trip
numbered Hold = Numbered.hold
numbered Blocked = Numbered.blocked

number_is : {v : Verdict} {n : ℕ} → Numbered v n → verdict_number v ≡ n
number_is Numbered.trip = refl
number_is Numbered.hold = refl
number_is Numbered.blocked = refl

module _ (x : Inputs) where
  gets : Gets x (differential_of x)
  gets = by-input (first_outside x) refl
    where
      by-slope : InRange x → first_outside x ≡ None → (f : Option ℕ) → least_slope x.start x.through ≡ f → Gets x (differential_of x)
      by-slope r e (Some slope) d =
          let g : Gets x (done_with x slope) =
          Gets.done slope r ((least-exactly x (through-range x r).0 slope).0 d) (is-verdict x slope) (numbered (verdict_of x slope)) in
          subst (Gets x) (slope-done x slope e d) g
      by-slope r e None d =
          let g : Gets x (refused_with Slope) = Gets.SLOPE r ((none-exactly x (through-range x r).0).0 d) in
          subst (Gets x) (slope-refused x e d) g

      by-input : (f : Option ℕ) → first_outside x ≡ f → Gets x (differential_of x)
      by-input (Some k) e =
          let g : Gets x (refused_with (Input (k + 1))) = Gets.INPUT (k + 1) (found-lowest x k e) in
          subst (Gets x) (input-refused x k e) g
      by-input None e = by-slope ((none-outside x).0 e) e (least_slope x.start x.through) refl

  got : {g : Given} → Gets x g → differential_of x ≡ g
  got (Gets.done slope r l i n) =
      sym (slope-done x slope ((none-outside x).1 r) ((least-exactly x (through-range x r).0 slope).1 l))
      ∙ ap (λ (m : ℕ). eight 0 0 x.start 100 slope x.blocking x.cutoff m) (sym (ap verdict_number (verdict-is x slope i)) ∙ number_is n)
  got (Gets.INPUT place l) =
      sym (input-refused x (place - 1) (lowest-found x place l))
      ∙ ap (λ (p : ℕ). eight 16 p 0 0 0 0 0 0) (let s : place - 1 + 1 ≡ place = omega (arith, l.from) in s)
  got (Gets.SLOPE r n) = sym (slope-refused x ((none-outside x).1 r) ((none-exactly x (through-range x r).0).1 n))

  never_both : (place : ℕ) → LowestOutside x place → InRange x → ⊥
  never_both place l q = l.outside (q place l.from l.to)

  -- the whole answer
  pub differential-exactly : (g : Given) → (differential_of x ≡ g) ↔ Gets x g
  differential-exactly g = (λ e. subst (Gets x) e gets, λ h. got h)

  -- ---- the same, answer by answer

  -- the slope that is given fits, and no lesser one does
  pub slope-is-least : (differential_of x).number ≡ 0 → LeastFits x (differential_of x).slope
  slope-is-least = of gets
    where
      of : {g : Given} → Gets x g → g.number ≡ 0 → LeastFits x g.slope
      of (Gets.done slope r l i n) z = l
      of (Gets.INPUT place l) z = absurd (omega arith)
      of (Gets.SLOPE r n) z = absurd (omega arith)

  -- it is given exactly when one fits
  pub done-exactly : ((differential_of x).number ≡ 0) ↔ (InRange x × ((slope : ℕ) × Offered slope × Fits x slope))
  done-exactly = (λ z. of gets z, λ h. to gets h.0 h.1.0 h.1.1 h.1.2)
    where
      of : {g : Given} → Gets x g → g.number ≡ 0 → InRange x × ((slope : ℕ) × Offered slope × Fits x slope)
      of (Gets.done slope r l i n) z = (r, (slope, l.offered, l.fits))
      of (Gets.INPUT place l) z = absurd (omega arith)
      of (Gets.SLOPE r n) z = absurd (omega arith)

      to : {g : Given} → Gets x g → InRange x → (s : ℕ) → Offered s → Fits x s → g.number ≡ 0
      to (Gets.done slope r l i n) q s o f = refl
      to (Gets.INPUT place l) q s o f = absurd (never_both place l q)
      to (Gets.SLOPE r n) q s o f = absurd (n s o f)

  pub SLOPE-exactly : (differential_of x ≡ eight 17 0 0 0 0 0 0 0) ↔ (InRange x × ((slope : ℕ) → Offered slope → Fits x slope → ⊥))
  SLOPE-exactly = (λ e. of gets (ap (λ (g : Given). g.number) e), λ h. got (Gets.SLOPE h.0 h.1))
    where
      of : {g : Given} → Gets x g → g.number ≡ 17 → InRange x × ((slope : ℕ) → Offered slope → Fits x slope → ⊥)
      of (Gets.done slope r l i n) z = absurd (omega arith)
      of (Gets.INPUT place l) z = absurd (omega arith)
      of (Gets.SLOPE r n) z = (r, n)

  pub INPUT-exactly : (place : ℕ) → (differential_of x ≡ eight 16 place 0 0 0 0 0 0) ↔ LowestOutside x place
  INPUT-exactly place = (λ e. of gets e, λ l. got (Gets.INPUT place l))
    where
      of : {g : Given} → Gets x g → g ≡ eight 16 place 0 0 0 0 0 0 → LowestOutside x place
      of (Gets.done slope r l i n) e = absurd (let z : ◌≡◌ {A = ℕ} 0 16 = ap (λ (g : Given). g.number) e in omega arith)
      of (Gets.INPUT p l) e = subst (LowestOutside x) (ap (λ (g : Given). g.place) e) l
      of (Gets.SLOPE r n) e = absurd (let z : ◌≡◌ {A = ℕ} 17 16 = ap (λ (g : Given). g.number) e in omega arith)

  -- where the verdict is 1, the protection trips
  pub trip-known : (differential_of x).verdict ≡ 1 → (slope : ℕ) × InRange x × LeastFits x slope × VerdictIs x slope Trip
  trip-known e = of gets e
    where
      of : {g : Given} → Gets x g → g.verdict ≡ 1 → (slope : ℕ) × InRange x × LeastFits x slope × VerdictIs x slope Trip
      of (Gets.done slope r l i Numbered.trip) z = (slope, r, l, i)
      of (Gets.done slope r l i Numbered.hold) z = absurd (omega arith)
      of (Gets.done slope r l i Numbered.blocked) z = absurd (omega arith)
      of (Gets.INPUT place l) z = absurd (omega arith)
      of (Gets.SLOPE r n) z = absurd (omega arith)
