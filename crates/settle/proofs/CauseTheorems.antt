-- [02 §2] Why no pickup fits a row. The step above 0 is section 2's. Read with specs/Inequalities.antt.
--     candidate-exactly, no-candidate-exactly     `candidate` is the least available pickup meeting P1 and P2, or there is none
--     cause-exactly               RANGE, OWN ZONE and BACKUP are given exactly where they are due
--     cause-one                   there is one only
--     fits-exactly                otherwise the candidate fits: it meets P3 and P4
--     exists-exactly              some available pickup meets P1 to P4 exactly when none of the three applies
--     none-exists-exactly         none does exactly when one of them applies
--     own-zone-true, backup-true  where P3, or P4 for a fed row, fails for the candidate, it fails for every available pickup meeting P1 and P2
-- Of a row's settling, SettledTheorems.antt says the same: `no-pickup-exactly`, `range-exactly`.
use Rattle.settle.specs.Outcomes.{Picked}
use Rattle.std.proofs.Common.{Option, Some, None, Ok, Err}
use mathlib.Core.Path.{◌≡◌, refl, sym, ◌∙◌, subst}
use mathlib.Core.Bool.{true, false}
use mathlib.Core.Logic.{◌↔◌, ◌⊎◌, inl, inr, ⊎_elim}
use Prim.Native.Nat.{ℕ, ◌≤◌, ◌<◌}
use native.Mathlib.Nat.{mul-le-mul_left, mul-le-mul_right, le_trans}
use native.Mathlib.Omega.{arith}
use Rattle.answers.specs.declared.Cause.{Cause}
use Rattle.answers.specs.declared.Cause.TheVariants.{Range}
use Rattle.fold.proofs.BoolLaws.{passes-or-fails, fails, not-both, zero-not-one, lt-or-le}
use Rattle.layout.specs.View.{View, Settings}
use Rattle.sides.specs.declared.Primary.{Primary}
use Rattle.sides.specs.declared.Secondary.{Secondary}
use Rattle.sides.specs.Sides.{keyed}
use Rattle.settle.specs.Conditions.{primary_of, sees_own_zone}
use Rattle.settle.specs.Inequalities.{AvailableOn, LowerMet, SeesOwnZone, BacksUp, PickupMet, SomePickup, NoPickup}
use Rattle.settle.specs.Inequalities.{Candidate, NoCandidate, CauseIs}
use Rattle.settle.specs.Inequalities.CauseIs.{RANGE, OWN-ZONE, BACKUP}
use Rattle.settle.specs.Settle.{meets_lower, first_unbacked, candidate, by_backup, judged, picked, pickup_of}
use Rattle.settle.proofs.ConditionTheorems.{P3-exactly}
use Rattle.settle.proofs.LeastPickupLaws.{least-exactly, none-exactly}
use Rattle.settle.proofs.MeetsTheorems.{lower-exactly, unbacked-exactly, backed-all-exactly}

-- a lower pickup sees what a higher one sees
module _ (v : View) (i : ℕ) {I x : Primary} (le : I.0 ≤ x.0) where
  zone-down : SeesOwnZone v i x → SeesOwnZone v i I
  zone-down z = omega arith

  backup-down : (j : ℕ) → BacksUp v i j x → BacksUp v i j I
  backup-down j b backed = le_trans (mul-le-mul_right (v.row i).volts (mul-le-mul_left 12 le)) (b backed)

module _ (v : View) (k : Settings) (i : ℕ) where
  -- the cause is the true one: no other available pickup that meets P1 and P2 would do
  pub own-zone-true :
      (x : Secondary) → Candidate v k i x → (SeesOwnZone v i (primary_of (v.row i) x) → ⊥) →
      (y : Secondary) → AvailableOn (v.row i) y → LowerMet v k i (primary_of (v.row i) y) → SeesOwnZone v i (primary_of (v.row i) y) → ⊥
  own-zone-true x m n y a h z = n (zone-down v i {x = primary_of (v.row i) y} (m.least y a h) z)

  pub backup-true :
      (x : Secondary) (j : ℕ) → Candidate v k i x → (BacksUp v i j (primary_of (v.row i) x) → ⊥) →
      (y : Secondary) → AvailableOn (v.row i) y → LowerMet v k i (primary_of (v.row i) y) → BacksUp v i j (primary_of (v.row i) y) → ⊥
  backup-true x j m n y a h b = n (backup-down v i (m.least y a h) j b)

  pub range-means : {why : Cause} → why ≡ Range → CauseIs v k i why → NoCandidate v k i
  range-means e (RANGE n) = n
  range-means e (OWN-ZONE I m n) = absurd (zero-not-one cc)
  range-means e (BACKUP I j m z u) = absurd (zero-not-one cc)

  -- so none meets P1 to P4
  pub cause-no-pickup : {why : Cause} → CauseIs v k i why → NoPickup v k i
  cause-no-pickup (RANGE none) x a h = none x a h.P1-P2
  cause-no-pickup (OWN-ZONE I m n) x a h = own-zone-true I m n x a h.P1-P2 h.P3
  cause-no-pickup (BACKUP I j m z u) x a h =
      backup-true I j m u.fails x a h.P1-P2 (h.P4 j u.is_row u.feeding)

  -- the least pickup that meets P1 to P4 is the least that meets P1 and P2
  pub least-candidate :
      (x : Secondary) → AvailableOn (v.row i) x → PickupMet v k i (primary_of (v.row i) x) →
      ((y : Secondary) → AvailableOn (v.row i) y → PickupMet v k i (primary_of (v.row i) y) →
      (primary_of (v.row i) x).0 ≤ (primary_of (v.row i) y).0) →
      Candidate v k i x
  least-candidate x a h least =
      record {
        available = a;
        lower-met = h.P1-P2;
        least =
            λ y b l.
            let I = primary_of (v.row i) x in
            let J = primary_of (v.row i) y in
            ⊎_elim
            (λ (g : J.0 < I.0).
            least y b
            (record {
              P1-P2 = l;
              P3 = zone-down v i (omega arith) h.P3;
              P4 = λ j r f. backup-down v i (omega arith) j (h.P4 j r f);
            }))
            (λ (g : I.0 ≤ J.0). g)
            (lt-or-le J.0 I.0);
      }

module _ (v : View) (k : Settings) (i : ℕ) (p : 0 < (v.row i).step.0) where
  pub candidate-exactly : (x : ℕ) → (candidate v k i ≡ Some x) ↔ Candidate v k i (keyed x)
  unfolding candidate
  candidate-exactly x = (
    λ e.
        let m = (least-exactly (v.row i) p (meets_lower v k i) x).0 e in
        record {
          available = m.available;
          lower-met = (lower-exactly v k i _).0 m.passes;
          least = λ y a h. m.least y a ((lower-exactly v k i (primary_of (v.row i) y)).1 h);
        },
    λ m.
        (least-exactly (v.row i) p (meets_lower v k i) x).1
        (record {
          available = m.available;
          passes = (lower-exactly v k i _).1 m.lower-met;
          least = λ y a t. m.least y a ((lower-exactly v k i _).0 t);
        }),
  )

  pub no-candidate-exactly : (candidate v k i ≡ None) ↔ NoCandidate v k i
  unfolding candidate
  no-candidate-exactly = (
    λ e x a h. not-both ((lower-exactly v k i _).1 h) ((none-exactly (v.row i) p (meets_lower v k i)).0 e x a),
    λ n.
        (none-exactly (v.row i) p (meets_lower v k i)).1
        (λ x a. fails (meets_lower v k i (primary_of (v.row i) x)) (λ t. n x a ((lower-exactly v k i _).0 t))),
  )

  -- what it comes to: the least pickup meeting P1 and P2 also meets P3 and P4, or the cause is so
  abbrev Comes : Picked → Type 0
  Comes (Ok x) = Candidate v k i x × PickupMet v k i (primary_of (v.row i) x)
  Comes (Err why) = CauseIs v k i why

  comes : Comes (pickup_of v k i)
  unfolding picked judged by_backup
  comes = by-least (candidate v k i) refl
    where
      by-fed :
          (x : Secondary) → Candidate v k i x → SeesOwnZone v i (primary_of (v.row i) x) → (f : Option ℕ) →
          first_unbacked v i (v.row i) (primary_of (v.row i) x) ≡ f → Comes (by_backup x f)
      by-fed x m z None e = (m, record { P1-P2 = m.lower-met; P3 = z; P4 = (backed-all-exactly v i _).0 e })
      by-fed x m z (Some j) e = BACKUP x j m z ((unbacked-exactly v i _ j).0 e)

      by-least : (f : Option ℕ) → candidate v k i ≡ f → Comes (picked (v.row i) f (first_unbacked v i (v.row i)))
      by-least None e = RANGE (no-candidate-exactly.0 e)
      by-least (Some x) e =
          let I = primary_of (v.row i) (keyed x) in
          ⊎_elim
          (λ (z : sees_own_zone (v.row i) I ≡ true).
          rw z (by-fed (keyed x) ((candidate-exactly x).0 e) ((P3-exactly (v.row i) I).0 z) (first_unbacked v i (v.row i) I) refl))
          (λ (z : sees_own_zone (v.row i) I ≡ false).
          rw z (OWN-ZONE (keyed x) ((candidate-exactly x).0 e) (λ s. not-both ((P3-exactly (v.row i) I).1 s) z)))
          (passes-or-fails (sees_own_zone (v.row i) I))

  of-cause : {why : Cause} → CauseIs v k i why → pickup_of v k i ≡ Err why
  unfolding picked judged by_backup
  of-cause (RANGE n) = rw (no-candidate-exactly.1 n)
  of-cause (OWN-ZONE x m n) =
      let I = primary_of (v.row i) x in
      rw ((candidate-exactly x.0).1 m, fails (sees_own_zone (v.row i) I) (λ t. n ((P3-exactly (v.row i) I).0 t)))
  of-cause (BACKUP x j m z u) =
      let I = primary_of (v.row i) x in
      rw ((candidate-exactly x.0).1 m, (P3-exactly (v.row i) I).1 z, (unbacked-exactly v i I j).1 u)

  pub cause-exactly : (why : Cause) → (pickup_of v k i ≡ Err why) ↔ CauseIs v k i why
  cause-exactly why = (λ e. subst Comes e comes, of-cause)

  -- there is one only
  pub cause-one : {why why' : Cause} → CauseIs v k i why → CauseIs v k i why' → why ≡ why'
  cause-one c c' = same (sym (of-cause c) ∙ of-cause c')
    where
      same : {why why' : Cause} → ◌≡◌ {A = Picked} (Err why) (Err why') → why ≡ why'
      same e = cc

  pub fits-exactly : (x : Secondary) → (pickup_of v k i ≡ Ok x) ↔ (Candidate v k i x × PickupMet v k i (primary_of (v.row i) x))
  unfolding picked judged by_backup
  fits-exactly x = (λ e. subst Comes e comes, of-fits)
    where
      of-fits : Candidate v k i x × PickupMet v k i (primary_of (v.row i) x) → pickup_of v k i ≡ Ok x
      of-fits m =
          let I = primary_of (v.row i) x in
          rw ((candidate-exactly x.0).1 m.0, (P3-exactly (v.row i) I).1 m.1.P3, (backed-all-exactly v i I).1 m.1.P4)

  -- where some pickup meets P1 to P4, one fits
  pub fits-some : SomePickup v k i → (x : Secondary) × (pickup_of v k i ≡ Ok x)
  fits-some s = by_cases (pickup_of v k i) refl
    where
      by_cases : (x : Picked) → pickup_of v k i ≡ x → (x : Secondary) × (pickup_of v k i ≡ Ok x)
      by_cases (Ok I) e = (I, e)
      by_cases (Err why) e = absurd (cause-no-pickup v k i ((cause-exactly why).0 e) s.0 s.1 s.2)

  -- some pickup meets P1 to P4, or one of the three applies
  some-or-cause : SomePickup v k i ⊎ ((why : Cause) × CauseIs v k i why)
  some-or-cause = by_cases (pickup_of v k i) comes
    where
      by_cases : (x : Picked) → Comes x → SomePickup v k i ⊎ ((why : Cause) × CauseIs v k i why)
      by_cases (Ok I) m = inl (I, m.0.available, m.1)
      by_cases (Err why) c = inr (why, c)

  pub exists-exactly : SomePickup v k i ↔ ((why : Cause) → CauseIs v k i why → ⊥)
  exists-exactly = (
    λ s why c. cause-no-pickup v k i c s.0 s.1 s.2,
    λ none. ⊎_elim (λ s. s) (λ c. absurd (none c.0 c.1)) some-or-cause,
  )

  pub none-exists-exactly : NoPickup v k i ↔ ((why : Cause) × CauseIs v k i why)
  none-exists-exactly = (
    λ n. ⊎_elim (λ s. absurd (n s.0 s.1 s.2)) (λ c. c) some-or-cause,
    λ c. cause-no-pickup v k i c.1,
  )
