-- `settle::judge` meets its contract: P3 is tested first; then the sums say whether P4 fails for some fed row, and the first is looked for.
use native.Mathlib.Omega.{arith}
use mathlib.Core.Path.{◌≡◌, sym, ◌∙◌, subst}
use Prim.Native.Nat.{◌≤◌}
use Rattle.layout.specs.declared.Row.{Row}
use Rattle.layout.specs.Range.{Bounded}
use Rattle.sides.specs.declared.Primary.{Primary}
use Rattle.sides.specs.declared.Secondary.{Secondary}
use Rattle.sides.specs.Sides.{setting_most}
use Rattle.settle.specs.Conditions.{primary_of}
use Rattle.settle.specs.Fed.{PrimaryBounded}
use Rattle.settle.proofs.PickupLaws.{found-fits}
use Rattle.settle.specs.Settle.{by_backup}
use Rattle.settle.proofs.OutcomeLaws.{unbacked-below, judge-blind, judge-fits, judge-searched}
use Rattle.settle.proofs.judge.Goals as goal

-- the primary current fits
module _ (r : Row) (x : Secondary) (a : Bounded r) (b : x.0 ≤ setting_most r.ratio.primary) (I : Primary) (e : I ≡ primary_of r x) where
  fits : PrimaryBounded I
  fits = subst PrimaryBounded (sym e) (found-fits r a x b)

pub in_primary-pickup-requires : goal.in_primary-pickup-requires
in_primary-pickup-requires c = let a = c.requires in (a.0.bounded.rated, a.2)

pub sees_own_zone-requires : goal.sees_own_zone-requires
sees_own_zone-requires c = let a = c.requires in
    (a.0.bounded, fits c.args.r c.args.x a.0.bounded a.2 _ c.in_primary-pickup.ensures)

pub returns-then-not-sees_own_zone : goal.returns-then-not-sees_own_zone
returns-then-not-sees_own_zone c = judge-blind _ _ _ _ _ _ c.in_primary-pickup.ensures (sym c.sees_own_zone.ensures ∙ c.if-not-sees_own_zone.true)

pub backs_up_all-requires : goal.backs_up_all-requires
backs_up_all-requires c = let a = c.requires in
    (a.0.bounded, a.1, fits c.args.r c.args.x a.0.bounded a.2 _ c.in_primary-pickup.ensures)

pub returns-then-backs_up_all : goal.returns-then-backs_up_all
returns-then-backs_up_all c = judge-fits _ _ _ _ _ _ c.in_primary-pickup.ensures
    (sym c.sees_own_zone.ensures ∙ c.if-not-sees_own_zone.false)
    (sym c.backs_up_all.ensures ∙ c.if-backs_up_all.true)

pub first_unbacked-requires : goal.first_unbacked-requires
first_unbacked-requires c = let a = c.requires in
    (a.0, fits c.args.r c.args.x a.0.bounded a.2 _ c.in_primary-pickup.ensures)

pub overflow_add-result : goal.overflow_add-result
overflow_add-result c = omega (arith, unbacked-below _ _ _ _ (sym c.first_unbacked.ensures ∙ c.in-Some.is))

pub returns-in-Some : goal.returns-in-Some
unfolding by_backup
returns-in-Some c = judge-searched _ _ _ _ _ _ c.in_primary-pickup.ensures
    (sym c.sees_own_zone.ensures ∙ c.if-not-sees_own_zone.false)
    (sym c.backs_up_all.ensures ∙ c.if-backs_up_all.false) _ (sym c.first_unbacked.ensures ∙ c.in-Some.is)

pub returns-in-None : goal.returns-in-None
unfolding by_backup
returns-in-None c = judge-searched _ _ _ _ _ _ c.in_primary-pickup.ensures
    (sym c.sees_own_zone.ensures ∙ c.if-not-sees_own_zone.false)
    (sym c.backs_up_all.ensures ∙ c.if-backs_up_all.false) _ (sym c.first_unbacked.ensures ∙ c.in-None.is)
