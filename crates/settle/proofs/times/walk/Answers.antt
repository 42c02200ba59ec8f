-- `settle::times::walk` meets its contract: the rows gone through have no M at most 1.000, and what they ask is joined; it stops at the first that
-- has one.
use native.Mathlib.Omega.{arith}
use Rattle.std.proofs.lemmas.Result.{err_from_is_err_and}
use Rattle.settle.proofs.WalkLaws.{walk_start, walk-row, walk-feeds, walk-stuck, walk-next, walk-shorter, walk_end}
use Rattle.settle.proofs.times.walk.Goals as goal

pub loop-next-init : goal.loop-next-init
loop-next-init c = walk_start _ _ _ _ _ _ c.first_fed-next.ensures

pub ask-requires : goal.ask-requires
ask-requires c = let w = c.loop-next.invariant in
    let a = c.requires in
    let row = walk-row _ _ _ _ _ _ _ w _ c.in-Some.is in
    record {
      listed = a.0;
      pickup-to = a.1;
      is-fed-row = row;
      in-card = omega (arith, row, a.2.card-room);
      settings-to = a.2.settings-to _ row (walk-feeds _ _ _ _ _ _ _ w _ c.in-Some.is);
    }

pub returns-in_err-b : goal.returns-in_err-b
returns-in_err-b c = let p = err_from_is_err_and c.from_residual.result c.from_residual.ensures.1 in
    rw (p.1, p.2) (walk-stuck _ _ _ _ _ _ _ c.loop-next.invariant _ c.in-Some.is _ c.in_err-b.ensures)

pub next_fed-next-requires : goal.next_fed-next-requires
next_fed-next-requires c = walk-row _ _ _ _ _ _ _ c.loop-next.invariant _ c.in-Some.is

pub loop-next-smaller : goal.loop-next-smaller
loop-next-smaller c = let w = c.loop-next.invariant in
    walk-shorter _ _ _ _ _ _ _ w _ c.in-Some.is _ (c.next_fed-next.ensures _ (walk-feeds _ _ _ _ _ _ _ w _ c.in-Some.is))

pub loop-next-preserved : goal.loop-next-preserved
loop-next-preserved c = let w = c.loop-next.invariant in
    walk-next _ _ _ _ _ _ _ w _ c.in-Some.is _ _ _ c.in_ok-b.ensures
    c.max-from.ensures (c.next_fed-next.ensures _ (walk-feeds _ _ _ _ _ _ _ w _ c.in-Some.is))

pub returns : goal.returns
returns c = walk_end _ _ _ _ _ _ _ c.loop-next.invariant c.in_default.is
