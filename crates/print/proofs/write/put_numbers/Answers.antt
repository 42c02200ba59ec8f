-- `put_numbers` meets its contract: the first number, the others behind commas, and CRLF are written one behind the other.
use Rattle.std.proofs.Common.{◌++◌, ◌-◌, arith, length, drop, get_or, length-append}
use Rattle.print.specs.Write.{number_text}
use Rattle.print.specs.Card.{fields_text, numbers_text, line_end}
use Rattle.print.proofs.DigitLaws.{number-few}
use Rattle.print.proofs.FieldsLaws.{fields-short, behind-long, fields-behind}
use Rattle.print.proofs.WriteLaws.{wrote_then}
use Rattle.print.proofs.write.put_numbers.Goals as goal

pub put_fields-done-requires : goal.put_fields-done-requires
put_fields-done-requires c =
    let values = c.args.values.now in
    let n = number-few (get_or values 0 0) in
    omega (arith, n, behind-long values, c.put_number-begun.ensures.end, c.put_number-begun.auto.out, c.requires.0)

pub put_end-requires : goal.put_end-requires
put_end-requires c =
    let values = c.args.values.now in
    let m = fields-behind values _ _ _ _ c.put_fields-done.ensures in
    omega (
      arith,
      number-few (get_or values 0 0),
      fields-short (length values - 1) (drop 1 values),
      c.put_number-begun.ensures.end,
      c.put_number-begun.auto.out,
      m.end,
      c.put_fields-done.auto.out,
      c.requires.0,
    )

pub returns : goal.returns
unfolding numbers_text
returns c =
    let a = c.args in
    let number = number_text (get_or a.values.now 0 0) in
    let k = length a.values.now - 1 in
    let more = fields_text k (drop 1 a.values.now) in
    let n = number-few (get_or a.values.now 0 0) in
    let m = fields-short k (drop 1 a.values.now) in
    wrote_then a.out.now a.at (number ++ more) _ c.put_fields-done.result line_end _ _
    (omega (arith, n, m, length-append number more, c.requires.0))
    (wrote_then a.out.now a.at number _ c.put_number-begun.result more _ _ (omega (arith, n, m, c.requires.0))
    c.put_number-begun.ensures (fields-behind a.values.now _ _ _ _ c.put_fields-done.ensures))
    c.put_end.ensures
