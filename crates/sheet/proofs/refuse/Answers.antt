-- `sheet::refuse` meets its contract: there is room for any refusal.
use Rattle.sheet.proofs.SheetLaws.{refused-filled}
use Rattle.sheet.proofs.refuse.Goals as goal

pub returns : goal.returns
returns c = refused-filled _ _ _ _ c.requires c.print_refusal-bytes.ensures
