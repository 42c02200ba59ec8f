-- `settle::times::margin_between` meets its contract: it is the greater of the two devices' margins.
use mathlib.Core.Path.{◌∙◌, ap₂}
use Prim.Native.Nat.{max}
use Rattle.settle.specs.Conditions.{margin_between}
use Rattle.settle.proofs.times.margin_between.Goals as goal

pub returns : goal.returns
unfolding margin_between
returns c = c.max.ensures ∙ ap₂ max c.margin_of.ensures c.margin_of-2.ensures
