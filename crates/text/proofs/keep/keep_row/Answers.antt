-- `keep_row` meets its contract: a row without a name changes no places.
use Rattle.std.proofs.Common.{refl, []}
use Rattle.text.proofs.BlockLaws.{kept-empty}
use Rattle.text.proofs.keep.keep_row.Goals as goal

pub returns-in_default-clause-names_after : goal.returns-in_default-clause-names_after
returns-in_default-clause-names_after c = rw c.in_default.is (kept-empty c.args.n [] c.args.names.now refl)
