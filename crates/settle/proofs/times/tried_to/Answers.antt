-- `settle::times::tried_to` meets its contract: by the law, as the definition has it.
use Rattle.settle.specs.Settle.{tried_to}
use Rattle.settle.proofs.TimeLaws.{is-curve, no-curve}
use Rattle.settle.proofs.times.tried_to.Goals as goal

pub returns-then-r-eq0 : goal.returns-then-r-eq0
unfolding tried_to
returns-then-r-eq0 c = rw (no-curve _ c.if-r-eq0.true)

pub returns-else-r-eq0 : goal.returns-else-r-eq0
unfolding tried_to
returns-else-r-eq0 c = rw (is-curve _ c.if-r-eq0.false) c.setting_to.ensures
