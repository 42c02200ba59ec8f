-- `diffsheet::diffsheet` meets its contract: a bad line is refused, and the rows read get a line each; there is room for all of them.
use mathlib.Core.Path.{refl, sym, ◌∙◌}
use Rattle.diffsheet.proofs.SheetLaws.{lines-few, no_room, bad-printed, rows-printed}
use native.Mathlib.Omega.{arith}
use Rattle.diffsheet.proofs.diffsheet.Goals as goal

pub returns-then-out-lt-DIFF_MOST : goal.returns-then-out-lt-DIFF_MOST
returns-then-out-lt-DIFF_MOST c = let a = c.args in
    no_room a.text.now a.out.now c.if-out-lt-DIFF_MOST.true

pub print_lines-requires : goal.print_lines-requires
print_lines-requires c = let few = lines-few c.args.text.now _ (sym c.read_inputs.ensures.answer ∙ c.in-Ok.is) in
    (omega (arith, few, c.if-out-lt-DIFF_MOST.false), omega (arith, few, c.read_inputs.auto.inputs))

pub returns-in-Err : goal.returns-in-Err
returns-in-Err c = let a = c.args in
    bad-printed a.text.now _ _ a.out.now _ _ (sym c.read_inputs.ensures.answer ∙ c.in-Err.is) c.numbers.ensures
    c.if-out-lt-DIFF_MOST.false c.print_refusal.ensures

pub returns-in-Ok : goal.returns-in-Ok
returns-in-Ok c = let a = c.args in
    rows-printed a.text.now _ (sym c.read_inputs.ensures.answer ∙ c.in-Ok.is) _ _ _ a.out.now _ _ refl
    c.if-out-lt-DIFF_MOST.false c.read_inputs.ensures c.print_lines.ensures
