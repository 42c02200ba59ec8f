-- Laws of `differential_of`, one for each way that it ends.
use Rattle.answers.specs.declared.Refusal.TheVariants.{Input, Slope}
use Rattle.std.proofs.Common.{Some, None}
use mathlib.Core.Path.{◌≡◌}
use Prim.Native.Nat.{ℕ, ◌+◌}
use Rattle.differential.specs.declared.Inputs.{Inputs}
use Rattle.differential.specs.Inputs.{first_outside}
use Rattle.differential.specs.Slope.{least_slope}
use Rattle.differential.specs.Given.{refused_with, done_with, by_slope, by_input, differential_of}

module _ (x : Inputs) where
  pub input-refused : (k : ℕ) → first_outside x ≡ Some k → refused_with (Input (k + 1)) ≡ differential_of x
  unfolding differential_of by_input
  input-refused k e = rw e

  pub slope-refused : first_outside x ≡ None → least_slope x.start x.through ≡ None → refused_with Slope ≡ differential_of x
  unfolding differential_of by_input by_slope
  slope-refused e f = rw (e, f)

  pub slope-done : (slope : ℕ) → first_outside x ≡ None → least_slope x.start x.through ≡ Some slope → done_with x slope ≡ differential_of x
  unfolding differential_of by_input by_slope
  slope-done slope e f = rw (e, f)
