-- `above` gives the row that feeds row j, if one does: field 2 tells which.
use Rattle.path.proofs.PathLaws.{above-source, above-fed}
use Rattle.path.proofs.above.Goals as goal

pub returns-then-number-eq0 : goal.returns-then-number-eq0
returns-then-number-eq0 c = above-source _ _ _ c.field_at-number.ensures c.if-number-eq0.true

pub returns-else-number-eq0 : goal.returns-else-number-eq0
returns-else-number-eq0 c = above-fed _ _ _ c.field_at-number.ensures c.if-number-eq0.false
