-- `settle::sees_own_zone` meets its contract: the test is P3, multiplied out.
use mathlib.Core.Path.{refl}
use Rattle.settle.specs.Conditions.{sees_own_zone}
use Rattle.settle.proofs.sees_own_zone.Goals as goal

pub returns : goal.returns
unfolding sees_own_zone
returns c = refl
