-- `layout::put_card_row` meets its contract: the row's columns, copied as one block, are the row that `put_card_row` puts in.
use mathlib.Core.Path.{◌∙◌}
use Rattle.blocks.proofs.BlockLaws.{pasted-sets}
use Rattle.layout.specs.Card.{columns_of, put_card_row}
use Rattle.layout.proofs.put_card_row.Goals as goal

pub returns : goal.returns
unfolding put_card_row
returns c = c.put.ensures ∙ pasted-sets _ _ (columns_of c.args.k) c.requires
