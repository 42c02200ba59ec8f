-- `put_rows` meets its contract. The loop's invariant: the rows written and those left make up all.
use Rattle.std.proofs.Common.{subst, List, ℕ}
use Rattle.print.specs.Write.{Wrote}
use Rattle.print.specs.Card.{line_most}
use Rattle.print.proofs.CardLaws.{rows_left, rows_next, rows_end, rows_all, row-short, row_fits}
use Rattle.print.proofs.PartlyLaws.{partly_none, partly_more, partly-all}
use Rattle.print.proofs.put_rows.Goals as goal

pub loop-i-init : goal.loop-i-init
loop-i-init c =
    let a = c.args in
    partly_none a.n line_most (rows_left a.text.now a.names.now a.card.now a.n) a.out.now a.at

pub put_row-next-requires : goal.put_row-next-requires
put_row-next-requires c =
    let a = c.args in
    let l = c.loop-i in
    row_fits a.text.now a.names.now a.card.now a.n l.i _ a.out.now a.at c.requires c.loop-i-test.true l.out l.next l.invariant

pub loop-i-preserved : goal.loop-i-preserved
loop-i-preserved c =
    let a = c.args in
    let l = c.loop-i in
    let left = rows_left a.text.now a.names.now a.card.now a.n in
    let below = c.loop-i-test.true in
    partly_more a.n line_most left a.out.now a.at l.out l.next l.i l.invariant _ _ _ below
    (rows_next a.text.now a.names.now a.card.now a.n l.i _ a.out.now a.at c.requires below)
    (row-short a.text.now a.names.now a.card.now a.n l.i _ a.out.now a.at c.requires below)
    c.requires.out-room c.put_row-next.ensures c.put_row-next.auto.out

pub returns : goal.returns
returns c =
    let a = c.args in
    let l = c.loop-i in
    let left = rows_left a.text.now a.names.now a.card.now a.n in
    subst (λ (xs : List ℕ). Wrote a.out.now a.at xs l.out l.next) (rows_all a.text.now a.names.now a.card.now a.n)
    (partly-all a.n line_most left a.out.now a.at l.out l.next l.i l.invariant
    (rows_end a.text.now a.names.now a.card.now a.n l.i (record { start = 0; size = 0 }) c.loop-i-test.false))
