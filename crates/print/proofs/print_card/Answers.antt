-- `print_card` meets its contract: nothing where the card cannot be printed, and else header and rows one behind the other.
use mathlib.Core.Path.{sym, ◌∙◌}
use native.Mathlib.Omega.{arith}
use lib.ListN.{length}
use Rattle.print.proofs.PlaceLaws.{printable-room}
use Rattle.print.proofs.PrintLaws.{card-none, card-all}
use Rattle.print.proofs.print_card.Goals as goal

pub returns-then-not-can_print : goal.returns-then-not-can_print
returns-then-not-can_print c =
    let a = c.args in
    card-none a.text.now a.names.now a.card.now a.n a.out.now (sym c.can_print.ensures ∙ c.if-not-can_print.true)

pub put_block-next-requires : goal.put_block-next-requires
put_block-next-requires c =
    let a = c.args in
    let p = sym c.can_print.ensures ∙ c.if-not-can_print.false in
    let m = printable-room (length a.text.now) a.names.now (length a.card.now) a.n (length a.out.now) p in
    m.header

pub put_rows-requires : goal.put_rows-requires
put_rows-requires c =
    let a = c.args in
    let p = sym c.can_print.ensures ∙ c.if-not-can_print.false in
    let m = printable-room (length a.text.now) a.names.now (length a.card.now) a.n (length a.out.now) p in
    let w = c.put_block-next.ensures in
    let k = c.put_block-next.auto.out in
    record {
      out-room = omega (arith, m.rows.out-room, w.end, k);
      names = m.rows.names;
      numbers = m.rows.numbers;
      right = m.rows.right;
    }

pub returns : goal.returns
returns c =
    let a = c.args in
    card-all a.text.now a.names.now a.card.now a.n a.out.now _ _ c.put_block-next.result c.put_rows.result
    (sym c.can_print.ensures ∙ c.if-not-can_print.false) (c.put_rows.auto.out ∙ c.put_block-next.auto.out)
    c.put_block-next.ensures c.put_rows.ensures
