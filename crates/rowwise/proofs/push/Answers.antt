-- `rowwise::push` meets its contract: what its feeder's rows asked so far is joined with what the row asks of it.
use mathlib.Core.Path.{refl}
use Rattle.rowwise.proofs.StepLaws.{pushed-source, pushed-feeder}
use Rattle.rowwise.proofs.push.Goals as goal

pub returns-then-r-eq0 : goal.returns-then-r-eq0
returns-then-r-eq0 c = pushed-source _ _ _ c.if-r-eq0.true

pub returns : goal.returns
returns c = pushed-feeder _ _ _ _ _ _ c.if-r-eq0.false refl c.asks.ensures c.join.ensures
