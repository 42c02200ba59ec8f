-- `feeding::link_row` meets its contract: a row that the source feeds changes nothing, and any other goes before what its feeder fed so far.
use native.Mathlib.Omega.{arith}
use mathlib.Core.Path.{sym, ◌∙◌}
use Rattle.feeding.proofs.LinkLaws.{linking-source, linking-fed}
use Rattle.feeding.proofs.link_row.Goals as goal

pub returns-then-feeder-eq0 : goal.returns-then-feeder-eq0
returns-then-feeder-eq0 c = linking-source _ _ _ c.requires (sym c.field_at-feeder.ensures ∙ c.if-feeder-eq0.true)

pub returns : goal.returns
returns c = linking-fed _ _ _ c.requires _ (omega (arith, c.field_at-feeder.ensures))
