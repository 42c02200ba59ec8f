-- `settle::settle` meets its contract: the pickup, or the cause that there is none; then the second stage at that pickup.
use mathlib.Core.Path.{sym, ◌∙◌, subst}
use Rattle.std.proofs.lemmas.Result.{err_from_is_err_and}
use Rattle.settle.specs.Fed.{PrimaryBounded}
use Rattle.settle.proofs.OutcomeLaws.{no-pickup, stage-two, picked-to}
use Rattle.settle.proofs.PickupLaws.{found-fits}
use Rattle.settle.proofs.settle.Goals as goal

pub returns-in_err-pickup : goal.returns-in_err-pickup
returns-in_err-pickup c = let p = err_from_is_err_and c.from_residual.result c.from_residual.ensures.1 in
    rw (p.1, p.2) (no-pickup _ _ _ _ _ _ (sym c.pick.ensures ∙ c.in_err-pickup.was))

pub in_primary-requires : goal.in_primary-requires
in_primary-requires c = let a = c.requires in
    (a.0.bounded.rated, picked-to _ _ _ _ a.0.bounded _ (sym c.pick.ensures ∙ c.in_ok-pickup.was))

pub time_row-requires : goal.time_row-requires
time_row-requires c = let a = c.requires in (
  a.0,
  subst PrimaryBounded (sym c.in_primary.ensures)
      (found-fits _ a.0.bounded _ (picked-to _ _ _ _ a.0.bounded _ (sym c.pick.ensures ∙ c.in_ok-pickup.was))),
  a.2,
)

pub returns-in_err-setting : goal.returns-in_err-setting
returns-in_err-setting c = let p = err_from_is_err_and c.from_residual-in_err-setting.result c.from_residual-in_err-setting.ensures.1 in
    rw (p.1, p.2)
    (stage-two _ _ _ _ _ _ _ _ (sym c.pick.ensures ∙ c.in_ok-pickup.was) c.in_primary.ensures (sym c.in_err-setting.was ∙ c.time_row.ensures))

pub returns : goal.returns
returns c = rw c.cutoff_at.ensures
    (stage-two _ _ _ _ _ _ _ _ (sym c.pick.ensures ∙ c.in_ok-pickup.was) c.in_primary.ensures (sym c.in_ok-setting.was ∙ c.time_row.ensures))
