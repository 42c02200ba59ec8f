-- `put_line` meets its contract: name, fields and CRLF are written one behind the other.
use Rattle.std.proofs.Common.{◌++◌, arith, length-append}
use Rattle.layout.specs.Counts.{column_count}
use Rattle.print.specs.Card.{fields_text, line_text, line_end}
use Rattle.print.proofs.FieldsLaws.{fields-short, fields-counted}
use Rattle.print.proofs.WriteLaws.{wrote_then}
use Rattle.print.proofs.write.put_line.Goals as goal

pub put_end-requires : goal.put_end-requires
put_end-requires c =
    let f = fields-counted _ _ _ _ _ _ _ c.requires.1 c.put_fields-numbered.ensures in
    omega (
      arith,
      fields-short column_count c.args.numbers.now,
      c.put_block-named.ensures.end,
      f.end,
      c.put_block-named.auto.out,
      c.put_fields-numbered.auto.out,
      c.requires.0,
    )

pub returns : goal.returns
unfolding line_text
returns c =
    let a = c.args in
    let f = fields_text column_count a.numbers.now in
    let s = fields-short column_count a.numbers.now in
    let n = length-append a.name.now f in
    wrote_then a.out.now a.at (a.name.now ++ f) _ c.put_fields-numbered.result line_end _ _ (omega (arith, s, n, c.requires.0))
    (wrote_then a.out.now a.at a.name.now _ c.put_block-named.result f _ _ (omega (arith, s, c.requires.0))
    c.put_block-named.ensures (fields-counted _ _ _ _ _ _ _ c.requires.1 c.put_fields-numbered.ensures))
    c.put_end.ensures
