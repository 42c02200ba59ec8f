-- `settle::cutoff_at` meets its contract: the least value from the bound on is the least that stays clear; then its sensitivity decides.
use mathlib.Core.Path.{◌≡◌, sym, ◌∙◌, ap, subst}
use mathlib.Core.Bool.{Bool}
use Prim.Native.Nat.{ℕ}
use Rattle.layout.specs.declared.Row.{Row}
use Rattle.sides.specs.declared.Primary.{Primary}
use Rattle.sides.specs.Sides.{keyed}
use Rattle.settle.specs.Conditions.{primary_of, sees_near}
use Rattle.settle.specs.Fed.{PrimaryBounded}
use Rattle.settle.proofs.PickupLaws.{found-bounded, found-fits}
use Rattle.settle.proofs.OutcomeLaws.{cutoff-least, cutoff-fitted, cutoff-blind, cutoff-none}
use Rattle.settle.proofs.cutoff_at.Goals as goal

-- the sensitivity that was tested is that of the pickup found
sees :
    (r : Row) (x : ℕ) (I : Primary) → I ≡ primary_of r (keyed x) → (b t : Bool) → b ≡ sees_near r I → b ≡ t →
    sees_near r (primary_of r (keyed x)) ≡ t
sees r x I e b t f g = sym (ap (sees_near r) e) ∙ sym f ∙ g

pub in_primary-requires : goal.in_primary-requires
in_primary-requires c = (c.requires.rated, found-bounded c.args.r c.requires _ _ (sym c.least_offered.ensures ∙ c.in-Some.is))

pub sees_near-requires : goal.sees_near-requires
sees_near-requires c = (
  c.requires,
  subst PrimaryBounded (sym c.in_primary.ensures)
      (found-fits c.args.r c.requires _
      (found-bounded c.args.r c.requires _ _ (sym c.least_offered.ensures ∙ c.in-Some.is))),
)

pub returns-then-sees_near : goal.returns-then-sees_near
returns-then-sees_near c = let r = c.args.r in
    cutoff-fitted r _ (sym (cutoff-least r _ c.cutoff_from.ensures) ∙ (sym c.least_offered.ensures ∙ c.in-Some.is))
    (sees r _ _ c.in_primary.ensures _ _ c.sees_near.ensures c.if-sees_near.true)

pub returns-else-sees_near : goal.returns-else-sees_near
returns-else-sees_near c = let r = c.args.r in
    cutoff-blind r _ (sym (cutoff-least r _ c.cutoff_from.ensures) ∙ (sym c.least_offered.ensures ∙ c.in-Some.is))
    (sees r _ _ c.in_primary.ensures _ _ c.sees_near.ensures c.if-sees_near.false)

pub returns-in-None : goal.returns-in-None
returns-in-None c = let r = c.args.r in
    cutoff-none r (sym (cutoff-least r _ c.cutoff_from.ensures) ∙ (sym c.least_offered.ensures ∙ c.in-None.is))
