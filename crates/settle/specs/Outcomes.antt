-- What settling a row gives, and its first stage. Definitions only.
use Rattle.std.specs.Prelude.{Result}
use Rattle.answers.specs.declared.Cause.{Cause}
use Rattle.answers.specs.declared.Reason.{Reason}
use Rattle.settle.specs.declared.Outcome.{Outcome}
use Rattle.sides.specs.declared.Secondary.{Secondary}

-- a row's pickup, or why no available one fits
abbrev pub Picked : Type 0
Picked = Result Secondary Cause

-- a row's outcome, or why it has none
abbrev pub Settled : Type 0
Settled = Result Outcome Reason
