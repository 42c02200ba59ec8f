-- `settle::pick` meets its contract: P1 and P2 hold exactly from the bound on, so the least value from there on is judged.
use mathlib.Core.Path.{sym, ◌∙◌}
use Rattle.settle.proofs.OutcomeLaws.{pick-none, pick-judged}
use Rattle.settle.proofs.PickupLaws.{found-bounded}
use Rattle.settle.proofs.pick.Goals as goal

pub judge-requires : goal.judge-requires
judge-requires c = let a = c.requires in
    (a.0, a.1, found-bounded _ a.0.bounded _ _ (sym c.least_offered.ensures ∙ c.in-Some.is))

pub returns-in-None : goal.returns-in-None
returns-in-None c = pick-none _ _ _ _ _ c.pickup_from.ensures (sym c.least_offered.ensures ∙ c.in-None.is)

pub returns-in-Some : goal.returns-in-Some
returns-in-Some c = c.judge.ensures ∙
    pick-judged _ _ _ _ _ c.pickup_from.ensures _ (sym c.least_offered.ensures ∙ c.in-Some.is)
