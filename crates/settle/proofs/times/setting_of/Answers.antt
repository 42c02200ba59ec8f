-- `settle::times::setting_of` meets its contract: by the law, as the definition has it.
use Rattle.settle.specs.Conditions.{setting_of}
use Rattle.settle.proofs.TimeLaws.{is-curve, no-curve}
use Rattle.settle.proofs.times.setting_of.Goals as goal

pub returns-then-s-eq0 : goal.returns-then-s-eq0
unfolding setting_of
returns-then-s-eq0 c = rw (no-curve _ c.if-s-eq0.true)

pub returns-else-s-eq0 : goal.returns-else-s-eq0
unfolding setting_of
returns-else-s-eq0 c = rw (is-curve _ c.if-s-eq0.false)
