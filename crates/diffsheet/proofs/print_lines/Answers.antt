-- `diffsheet::print_lines` meets its contract: header and lines one behind the other.
use mathlib.Core.Path.{◌∙◌}
use Rattle.cursor.specs.Spelt.{spelt}
use Rattle.diffsheet.specs.Sheet.{output_header}
use Rattle.diffsheet.proofs.SheetLaws.{lines-printed}
use Rattle.diffsheet.proofs.print_lines.Goals as goal

pub returns : goal.returns
unfolding output_header spelt
returns c = lines-printed c.args.n c.args.inputs.now c.args.out.now _ _ c.put_block-next.result _ c.requires.0
    (c.put_lines.auto.out ∙ c.put_block-next.auto.out) c.put_block-next.ensures c.put_lines.ensures
