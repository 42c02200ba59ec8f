-- Laws of the characteristic and of the verdict, one for each way to it.
use mathlib.Core.Path.{◌≡◌, sym, ap, subst}
use mathlib.Core.Bool.{Bool, true, false, cond}
use mathlib.Core.Logic.{◌↔◌, ⊎_elim}
use Prim.Native.Nat.{ℕ, ◌+◌, ◌-◌, ◌*◌, ◌≤◌, ◌<◌}
use native.Mathlib.Omega.{arith}
use lib.Dec.{leb}
use borrow.Author.Tests.{leb-true, le-leb, lt-leb}
use Rattle.fold.proofs.BoolLaws.{and_left, and_right, and_both, fails, not-both, passes-or-fails, lt-or-le}
use Rattle.differential.specs.declared.Inputs.{Inputs}
use Rattle.differential.specs.declared.Verdict.{Verdict}
use Rattle.differential.specs.declared.Verdict.TheVariants.{Trip, Hold, Blocked}
use Rattle.differential.specs.Verdict.{characteristic, both_block, verdict_of}
use Rattle.differential.specs.Gets.{BothBlock, Reaches, VerdictIs}
use Rattle.differential.proofs.SlopeLaws.{above-one}

pub up-to-bend : (start slope restraint : ℕ) → restraint ≤ 100 → 100 * start ≡ characteristic start slope restraint
unfolding characteristic
up-to-bend start slope restraint h = rw (le-leb restraint 100 h)

pub above-bend : (start slope restraint : ℕ) → 100 < restraint → 100 * start + slope * (restraint - 100) ≡ characteristic start slope restraint
unfolding characteristic
above-bend start slope restraint h = rw (lt-leb restraint 100 h)

pub by-second-side : (x : Inputs) → x.blocking ≤ x.first → leb x.blocking x.second ≡ both_block x
unfolding both_block
by-second-side x h = rw (le-leb _ _ h)

module _ (x : Inputs) (slope : ℕ) where
  pub trips-at-cutoff : x.cutoff ≤ x.differential → Trip ≡ verdict_of x slope
  unfolding verdict_of
  trips-at-cutoff h = rw (le-leb _ _ h)

  pub is-blocked : x.differential < x.cutoff → both_block x ≡ true → Blocked ≡ verdict_of x slope
  unfolding verdict_of
  is-blocked h b = rw (lt-leb _ _ h, b)

  pub trips :
      x.differential < x.cutoff → both_block x ≡ false → characteristic x.start slope x.restraint ≤ 100 * x.differential →
      Trip ≡ verdict_of x slope
  unfolding verdict_of
  trips h b r =
      rw (lt-leb _ _ h, b)
      (ap (λ (t : Bool). cond t Trip Hold) (sym (le-leb (characteristic x.start slope x.restraint) (100 * x.differential) r)))

  pub holds :
      x.differential < x.cutoff → both_block x ≡ false → 100 * x.differential < characteristic x.start slope x.restraint →
      Hold ≡ verdict_of x slope
  unfolding verdict_of
  holds h b r =
      rw (lt-leb _ _ h, b)
      (ap (λ (t : Bool). cond t Trip Hold) (sym (lt-leb (characteristic x.start slope x.restraint) (100 * x.differential) r)))

-- ---- the verdict is exactly what the request says

module _ (x : Inputs) (slope : ℕ) where
  both-block-exactly : (both_block x ≡ true) ↔ BothBlock x
  unfolding both_block
  both-block-exactly = (
    λ t.
        record {
          first-side = leb-true _ _ (and_left (leb x.blocking x.first) (leb x.blocking x.second) t);
          second-side = leb-true _ _ (and_right (leb x.blocking x.first) (leb x.blocking x.second) t);
        },
    λ b. and_both (le-leb _ _ b.first-side) (le-leb _ _ b.second-side),
  )

  pub reaches-exactly : (characteristic x.start slope x.restraint ≤ 100 * x.differential) ↔ Reaches x slope
  reaches-exactly = (
    λ h.
        record {
          up-to-bend = λ r. omega (arith, up-to-bend x.start slope x.restraint r);
          above-bend = λ r. omega (arith, above-bend x.start slope x.restraint r, above-one slope x.restraint (omega arith));
        },
    λ r.
        ⊎_elim
        (λ (g : 100 < x.restraint).
        omega (arith, r.above-bend g, above-bend x.start slope x.restraint g, above-one slope x.restraint (omega arith)))
        (λ (g : x.restraint ≤ 100). omega (arith, r.up-to-bend g, up-to-bend x.start slope x.restraint g))
        (lt-or-le 100 x.restraint),
  )

  not-blocking : (BothBlock x → ⊥) → both_block x ≡ false
  not-blocking n = fails (both_block x) (λ t. n (both-block-exactly.0 t))

  pub verdict-is : {v : Verdict} → VerdictIs x slope v → v ≡ verdict_of x slope
  verdict-is (VerdictIs.at-cutoff h) = trips-at-cutoff x slope h
  verdict-is (VerdictIs.both-block h b) = is-blocked x slope h (both-block-exactly.1 b)
  verdict-is (VerdictIs.reaches h n r) = trips x slope h (not-blocking n) (reaches-exactly.1 r)
  verdict-is (VerdictIs.falls-short h n r) =
      holds x slope h (not-blocking n)
      (⊎_elim (λ g. g) (λ g. absurd (r (reaches-exactly.0 g))) (lt-or-le (100 * x.differential) (characteristic x.start slope x.restraint)))

  pub is-verdict : VerdictIs x slope (verdict_of x slope)
  is-verdict =
      ⊎_elim
      (λ (h : x.differential < x.cutoff).
      ⊎_elim
      (λ (b : both_block x ≡ true). given (VerdictIs.both-block h (both-block-exactly.0 b)))
      (λ (b : both_block x ≡ false).
      let n : BothBlock x → ⊥ = λ k. not-both (both-block-exactly.1 k) b in
      ⊎_elim
      (λ (r : 100 * x.differential < characteristic x.start slope x.restraint).
      let m : Reaches x slope → ⊥ = λ k. omega (arith, reaches-exactly.1 k) in
      given (VerdictIs.falls-short h n m))
      (λ (r : characteristic x.start slope x.restraint ≤ 100 * x.differential). given (VerdictIs.reaches h n (reaches-exactly.0 r)))
      (lt-or-le (100 * x.differential) (characteristic x.start slope x.restraint)))
      (passes-or-fails (both_block x)))
      (λ (h : x.cutoff ≤ x.differential). given (VerdictIs.at-cutoff h))
      (lt-or-le x.differential x.cutoff)
    where
      given : {v : Verdict} → VerdictIs x slope v → VerdictIs x slope (verdict_of x slope)
      given i = subst (VerdictIs x slope) (verdict-is i) i
