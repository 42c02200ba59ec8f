-- The cutoff is fitted exactly as section 3 says, and the card shows it so. The step above 0 is section 2's. Read with
-- specs/Inequalities.antt.
use Rattle.std.proofs.Common.{Option, Some, None}
use mathlib.Core.Path.{◌≡◌, refl, sym, ◌∙◌, subst}
use mathlib.Core.Bool.{true, false}
use mathlib.Core.Logic.{◌↔◌, ⊎_elim}
use Prim.Native.Nat.{ℕ, ◌<◌}
use Rattle.fold.proofs.BoolLaws.{passes-or-fails, fails, not-both}
use Rattle.layout.specs.declared.Row.{Row}
use Rattle.settle.specs.declared.Cutoff.{Cutoff}
use Rattle.settle.specs.declared.Cutoff.TheVariants.{Fitted, NotFitted}
use Rattle.sides.specs.declared.Secondary.{Secondary}
use Rattle.sides.specs.Sides.{keyed}
use Rattle.settle.specs.Conditions.{primary_of, stays_clear, sees_near}
use Rattle.settle.specs.Inequalities.{CutoffPickup, SeesNear, CutoffIs}
use Rattle.settle.specs.Inequalities.CutoffIs.{fitted, not-fitted}
use Rattle.settle.specs.Settle.{least_pickup, cutoff_of, printed, shown}
use Rattle.settle.proofs.ConditionTheorems.{clear-exactly, near-exactly}
use Rattle.settle.proofs.LeastPickupLaws.{least-exactly, none-exactly}
use Rattle.settle.proofs.OutcomeLaws.{cutoff-fitted, cutoff-blind, cutoff-none}

module _ (r : Row) (p : 0 < r.step.0) where
  cutoff-pickup : (C : ℕ) → least_pickup r (stays_clear r) ≡ Some C → CutoffPickup r (keyed C)
  cutoff-pickup C e =
      let m = (least-exactly r p (stays_clear r) C).0 e in
      record {
        available = m.available;
        stays-clear = (clear-exactly r _).0 m.passes;
        least = λ x a h. m.least x a ((clear-exactly r (primary_of r x)).1 h);
      }

  pickup-of-cutoff : (C : Secondary) → CutoffPickup r C → least_pickup r (stays_clear r) ≡ Some C.0
  pickup-of-cutoff C m =
      (least-exactly r p (stays_clear r) C.0).1
      (record {
        available = m.available;
        passes = (clear-exactly r (primary_of r C)).1 m.stays-clear;
        least = λ x a t. m.least x a ((clear-exactly r _).0 t);
      })

  found-one : {C x : ℕ} → Some C ≡ Some x → C ≡ x
  found-one e = cc

  -- the cutoff is fitted at C exactly where C is the least that stays clear, and it sees its near fault
  pub cutoff-exactly : (c : Cutoff) → (cutoff_of r ≡ c) ↔ CutoffIs r c
  cutoff-exactly c = (λ e. subst (CutoffIs r) e (is (least_pickup r (stays_clear r)) refl), λ h. so h)
    where
      is : (f : Option ℕ) → least_pickup r (stays_clear r) ≡ f → CutoffIs r (cutoff_of r)
      is (Some C) e =
          ⊎_elim
          (λ (s : sees_near r (primary_of r (keyed C)) ≡ true).
          subst (CutoffIs r) (cutoff-fitted r C e s) (fitted (keyed C) (cutoff-pickup C e) ((near-exactly r _).0 s)))
          (λ (s : sees_near r (primary_of r (keyed C)) ≡ false).
          subst (CutoffIs r) (cutoff-blind r C e s)
          (not-fitted
          (λ x m n.
          let C≡x = found-one (sym e ∙ pickup-of-cutoff x m) in
          not-both ((near-exactly r (primary_of r x)).1 n) (subst (λ (y : ℕ). sees_near r (primary_of r (keyed y)) ≡ false) C≡x s))))
          (passes-or-fails (sees_near r (primary_of r (keyed C))))
      is None e =
          subst (CutoffIs r) (cutoff-none r e)
          (not-fitted (λ x m n. not-both ((clear-exactly r (primary_of r x)).1 m.stays-clear)
          ((none-exactly r p (stays_clear r)).0 e x m.available)))

      none :
          (f : Option ℕ) → least_pickup r (stays_clear r) ≡ f → ((C : Secondary) → CutoffPickup r C → SeesNear r (primary_of r C) → ⊥) →
          cutoff_of r ≡ NotFitted
      none (Some C) e n =
          sym (cutoff-blind r C e (fails (sees_near r (primary_of r (keyed C))) (λ s. n (keyed C) (cutoff-pickup C e) ((near-exactly r _).0 s))))
      none None e n = sym (cutoff-none r e)

      so : {c : Cutoff} → CutoffIs r c → cutoff_of r ≡ c
      so (fitted C m n) = sym (cutoff-fitted r C.0 (pickup-of-cutoff C m) ((near-exactly r (primary_of r C)).1 n))
      so (not-fitted n) = none (least_pickup r (stays_clear r)) refl n

-- what the card shows: the cutoff's pickup, or 0 where none is fitted
pub shown-fitted :
    (I : Secondary) (w x : ℕ) (C : Secondary) → (shown (record { pickup = I; law = w; setting = x; cutoff = Fitted C })).cutoff ≡ C
unfolding shown printed
shown-fitted I w x C = refl

pub shown-not-fitted : (I : Secondary) (w x : ℕ) → (shown (record { pickup = I; law = w; setting = x; cutoff = NotFitted })).cutoff ≡ keyed 0
unfolding shown printed
shown-not-fitted I w x = refl
