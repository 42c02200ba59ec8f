-- `settle::times::time_row` meets its contract: the row's own M first, then the fed rows', then the least setting from what they ask on.
use mathlib.Core.Path.{sym, ◌∙◌, subst}
use Prim.Native.Nat.{ℕ, ◌≤◌}
use Rattle.std.proofs.lemmas.Result.{err_from_is_err_and}
use Rattle.settle.proofs.StageLaws.{row-stalls, row-stuck, row-timed}
use Rattle.settle.proofs.TimeLaws.{needed-to}
use Rattle.settle.proofs.times.time_row.Goals as goal

pub returns-then-stalls : goal.returns-then-stalls
returns-then-stalls c = row-stalls _ _ _ _ _ _ c.needed_multiple-own.ensures (sym c.stalls.ensures ∙ c.if-stalls.true)

pub returns-in_err-from : goal.returns-in_err-from
returns-in_err-from c = let p = err_from_is_err_and c.from_residual.result c.from_residual.ensures.1 in
    rw (p.1, p.2) (row-stuck _ _ _ _ _ _ c.needed_multiple-own.ensures (sym c.stalls.ensures ∙ c.if-stalls.false) _ c.in_err-from.ensures)

pub least_time-requires : goal.least_time-requires
least_time-requires c = (
  c.requires.0.bounded,
  subst (λ (c : ℕ). c ≤ 20000) (sym c.needed_multiple-own.ensures) (needed-to _ _ _ _),
  sym c.stalls.ensures ∙ c.if-stalls.false,
)

pub returns : goal.returns
returns c = c.ok_or.ensures.value ∙
    row-timed _ _ _ _ _ _ c.needed_multiple-own.ensures (sym c.stalls.ensures ∙ c.if-stalls.false) _ c.in_ok-from.ensures _ c.least_time.ensures
