-- `settle::times::fed_time` meets its contract: the M that its law needs, then the time, by the card row.
use mathlib.Core.Path.{sym, ◌∙◌, subst}
use Prim.Native.Nat.{ℕ, ◌≤◌}
use Rattle.curve.specs.Curve.{setting_to}
use Rattle.settle.specs.Fed.{PrimaryBounded}
use Rattle.settle.proofs.PickupLaws.{found-fits}
use Rattle.settle.proofs.StageLaws.{fed-slow, fed-takes}
use Rattle.settle.proofs.TimeLaws.{needed-to}
use Rattle.settle.proofs.times.fed_time.Goals as goal

pub in_primary-requires : goal.in_primary-requires
in_primary-requires c = let a = c.requires in (a.0.rated, a.1.pickup-to)

pub needed_multiple-m-requires : goal.needed_multiple-m-requires
needed_multiple-m-requires c = let a = c.requires in
    (a.0, a.0, subst PrimaryBounded (sym c.in_primary.ensures) (found-fits _ a.0 _ a.1.pickup-to))

pub returns-then-stalls : goal.returns-then-stalls
returns-then-stalls c = fed-slow _ _ _ _ c.in_primary.ensures c.needed_multiple-m.ensures (sym c.stalls.ensures ∙ c.if-stalls.true)

pub time_of-requires : goal.time_of-requires
time_of-requires c = let f = c.args.f in
    let s = c.args.s in (
      subst (λ (m : ℕ). m ≤ 20000) (sym c.needed_multiple-m.ensures) (needed-to s.law f f _),
      subst (λ (x : ℕ). x ≤ setting_to s.law) (sym c.setting_of.ensures) c.requires.1.setting-to,
    )

pub returns : goal.returns
returns c = fed-takes _ _ _ _ c.in_primary.ensures c.needed_multiple-m.ensures _ _
    (sym c.stalls.ensures ∙ c.if-stalls.false) c.setting_of.ensures c.time_of.ensures
