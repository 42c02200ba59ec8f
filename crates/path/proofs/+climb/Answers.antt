-- `climb` works out the rows that a change reaches: the row itself, then those of its feeding row. The measure is the rows left above.
use mathlib.Core.Path.{subst}
use native.Mathlib.Omega.{arith}
use Prim.Native.Nat.{ℕ, ◌-◌, ◌<◌}
use Rattle.std.proofs.lemmas.Result.{err_from_is_err_and}
use Rattle.layout.specs.List.{rows}
use Rattle.path.proofs.ClimbLaws.{climb-works, climb-ready, climb-refused, climb-passes}
use Rattle.path.proofs.ClimbUpLaws.{climb-stops, climb-source, climb-on, climb-less, climb-back, climb-done, climb-counts}
use Rattle.path.proofs.+climb.Goals as goal

pub card_row_at-old-requires : goal.card_row_at-old-requires
card_row_at-old-requires t c = (climb-works _ _ _ _ c.requires).in-card

pub work_rows-requires-clause-ready : goal.work_rows-requires-clause-ready
work_rows-requires-clause-ready t c = climb-ready _ _ _ _ c.requires

pub returns-in_err-work_rows : goal.returns-in_err-work_rows
returns-in_err-work_rows t c = let p = err_from_is_err_and c.from_residual.result c.from_residual.ensures.1 in
    rw (p.1, p.2) (climb-refused _ _ _ _ c.requires _ _ _ c.work_rows.ensures c.args.feeding _ c.in_err-work_rows.was)

pub stays-requires : goal.stays-requires
stays-requires t c = let k = climb-works _ _ _ _ c.requires in omega (arith, k.in-card, c.work_rows.auto.card)

pub returns-then-stays : goal.returns-then-stays
returns-then-stays t c = let p = climb-passes _ _ _ _ c.requires _ _ _ c.work_rows.ensures c.in_ok-work_rows.was in
    climb-stops p c.args.feeding _ c.card_row_at-old.ensures _ c.stays.ensures c.if-stays.true

pub field_at-feeder-requires : goal.field_at-feeder-requires
field_at-feeder-requires t c = let w = climb-works _ _ _ _ c.requires in omega (arith, w.is_row)

pub returns-then-feeder-eq0 : goal.returns-then-feeder-eq0
returns-then-feeder-eq0 t c = let p = climb-passes _ _ _ _ c.requires _ _ _ c.work_rows.ensures c.in_ok-work_rows.was in
    climb-source p c.args.feeding _ c.card_row_at-old.ensures _ c.stays.ensures c.if-stays.false _
    c.field_at-feeder.ensures c.if-feeder-eq0.true

pub climb-requires : goal.climb-requires
climb-requires t c =
    let p = climb-passes _ _ _ _ c.requires _ _ _ c.work_rows.ensures c.in_ok-work_rows.was in (
      subst (λ (n : ℕ). rows c.args.tree.now.list.now - (c.field_at-feeder.result - 1) < n) c.decreases
          (climb-less p c.args.feeding _ c.card_row_at-old.ensures _ c.stays.ensures c.if-stays.false _
          c.field_at-feeder.ensures c.if-feeder-eq0.false),
      climb-on p c.args.feeding _ c.card_row_at-old.ensures _ c.stays.ensures c.if-stays.false _
          c.field_at-feeder.ensures c.if-feeder-eq0.false,
    )

pub put_card_row-requires : goal.put_card_row-requires
put_card_row-requires t c = let w = climb-works _ _ _ _ c.requires in omega (arith, w.in-card, c.work_rows.auto.card, c.climb.auto.card)

pub overflow_add-result : goal.overflow_add-result
overflow_add-result t c = let p = climb-passes _ _ _ _ c.requires _ _ _ c.work_rows.ensures c.in_ok-work_rows.was in
    let few = climb-counts p c.args.feeding _ c.card_row_at-old.ensures _ c.stays.ensures c.if-stays.false _
    c.field_at-feeder.ensures c.if-feeder-eq0.false _ _ _
    c.climb.ensures c.in-Ok.is in omega (arith, few)

pub returns-in-Err : goal.returns-in-Err
returns-in-Err t c = let p = climb-passes _ _ _ _ c.requires _ _ _ c.work_rows.ensures c.in_ok-work_rows.was in
    climb-back p c.args.feeding _ c.card_row_at-old.ensures _ c.stays.ensures c.if-stays.false _
    c.field_at-feeder.ensures c.if-feeder-eq0.false _ _ _ _
    c.climb.ensures c.in-Err.is c.put_card_row.ensures

pub returns-in-Ok : goal.returns-in-Ok
returns-in-Ok t c = let p = climb-passes _ _ _ _ c.requires _ _ _ c.work_rows.ensures c.in_ok-work_rows.was in
    climb-done p c.args.feeding _ c.card_row_at-old.ensures _ c.stays.ensures c.if-stays.false _
    c.field_at-feeder.ensures c.if-feeder-eq0.false _ _ _
    c.climb.ensures c.in-Ok.is
