-- `settle::CardRowFromOutcome::from` meets its contract: the cutoff is shown as `printed` has it, and the setting by the law.
use mathlib.Core.Path.{◌≡◌}
use Rattle.settle.specs.declared.Outcome.{Outcome}
use Rattle.settle.specs.Settle.{printed, shown}
use Rattle.sides.specs.declared.Secondary.{Secondary}
use Rattle.settle.proofs.TimeLaws.{is-curve, no-curve}
use Rattle.settle.proofs.CardRowFromOutcome.from.Goals as goal

module _ (o : Outcome) (C : Secondary) (e : C ≡ printed o.cutoff) where
  definite : o.law ≡ 0 → record { pickup = o.pickup; delay = o.setting; cutoff = C; law = 0; multiplier = 0 } ≡ shown o
  unfolding shown
  definite z = rw (no-curve o.law z, e, z)

  curved :
      (o.law ≡ 0 → ⊥) →
      record { pickup = o.pickup; delay = 0; cutoff = C; law = o.law; multiplier = o.setting } ≡ shown o
  unfolding shown
  curved n = rw (is-curve o.law n, e)

pub returns-then-o-eq0 : goal.returns-then-o-eq0
returns-then-o-eq0 c = definite _ _ c.from-cutoff.ensures c.if-o-eq0.true

pub returns : goal.returns
returns c = curved _ _ c.from-cutoff.ensures c.if-o-eq0.false
