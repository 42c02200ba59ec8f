-- `put_row` meets its contract: the part of the text that is lent is the name at its place.
use Rattle.std.proofs.Common.{rules, arith, length}
use Rattle.print.proofs.PlaceLaws.{place-was, name-part, part-short}
use Rattle.print.proofs.put_row.Goals as goal

pub overflow_add-end : goal.overflow_add-end
overflow_add-end c =
    let w = place-was (length c.args.text.now) c.args.place c.requires.right in
    let h = w.inside in
    search rules

pub slice_bounds-put_line-end : goal.slice_bounds-put_line-end
slice_bounds-put_line-end c =
    let h = (place-was (length c.args.text.now) c.args.place c.requires.right).inside in
    search rules

pub put_line-requires : goal.put_line-requires
put_line-requires c =
    let a = c.args in
    let w = place-was (length a.text.now) a.place c.requires.right in
    let k = part-short a.text.now a.place.start a.place.size in
    (omega (arith, k, w.short, c.requires.out-room), c.requires.count)

pub returns : goal.returns
returns c = rw (← name-part c.args.text.now c.args.place) c.put_line.ensures
