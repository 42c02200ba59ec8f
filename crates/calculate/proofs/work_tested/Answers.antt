-- `calculate::work_tested` meets its contract: the rows are linked and worked out on a local card, which stands for the lent one, since a
-- calculation does not depend on the card before it.
use mathlib.Core.List.{List}
use Prim.Native.Nat.{ℕ, ◌≤◌}
use native.Mathlib.Omega.{arith}
use mathlib.Core.Path.{◌≡◌}
use lib.Dec.{lit≤}
use lib.ListN.{length, replicate}
use Rattle.std.proofs.lemmas.Result.{err_from_is_err_and}
use Rattle.feeding.specs.Fed.{unlinked}
use Rattle.layout.specs.Counts.{card_most, rows_most}
use Rattle.rowwise.specs.Sums.{nothing}
use Rattle.rowwise.specs.Working.{Unworked}
use Rattle.rowwise.proofs.StartLaws.{clear_reads}
use Rattle.calculate.proofs.AllLaws.{all-rows-ready, all-worked}
use Rattle.calculate.proofs.AnswerLaws.{links-ready, own-unworked, answered-refused, answered-done}
use Rattle.calculate.proofs.work_tested.Goals as goal
use Rattle.calculate.proofs.work_tested.Goals.{Start}

-- nothing is asked at first, and there is room
unworked : (s : Start) (z : List ℕ) → card_most ≤ length z → Unworked s.args.list.now z (replicate rows_most nothing)
unworked s z room = own-unworked s.args.list.now s.args.card.now s.requires z _ room (lit≤ tt) (clear_reads nothing rows_most)

pub link-requires : goal.link-requires
link-requires c = links-ready c.args.list.now c.args.card.now c.requires _ (lit≤ tt) (clear_reads unlinked rows_most)

pub work_rows-requires-clause-ready : goal.work_rows-requires-clause-ready
work_rows-requires-clause-ready c = all-rows-ready _ _ _ (unworked (goal.at.work_rows-requires-clause-ready c).Start _ (lit≤ tt))

pub returns-in_err-work_rows : goal.returns-in_err-work_rows
returns-in_err-work_rows c = let e = all-worked _ _ _ (unworked (goal.at.returns-in_err-work_rows c).Start _ (lit≤ tt)) _ _ _ c.work_rows.ensures in
    let p = err_from_is_err_and c.from_residual.result c.from_residual.ensures.1 in
    rw (p.1, p.2) (answered-refused _ _ c.requires _ _ _ _ (lit≤ tt) e c.in_err-work_rows.was)

pub copy_front-requires : goal.copy_front-requires
copy_front-requires c = let k : length c.work_rows.new.card ≡ card_most = c.work_rows.auto.card in
    (omega (arith, c.requires.card-room), omega (arith, c.requires.rows-to))

pub returns : goal.returns
returns c = let e = all-worked _ _ _ (unworked (goal.at.returns c).Start _ (lit≤ tt)) _ _ _ c.work_rows.ensures in
    answered-done _ _ c.requires _ _ _ _ (lit≤ tt) e c.in_ok-work_rows.was c.copy_front.ensures
