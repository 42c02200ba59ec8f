-- The differential card across the C boundary [02 §11]: eight numbers in, and what is given for them handed on as it is. Definitions only.
use Rattle.std.specs.Prelude.{ℕ}
use Rattle.differential.specs.Given.{differential_of}
use Rattle.differential.specs.Inputs.{inputs_of}
use Rattle.differential.specs.declared.Given.{Given}
use Rattle.surfpocket.specs.declared.SurfpocketDifferential.{SurfpocketDifferential}

abbrev pub handed_card : Given → SurfpocketDifferential
handed_card g =
    record {
      number = g.number;
      place = g.place;
      start = g.start;
      bend = g.bend;
      slope = g.slope;
      blocking = g.blocking;
      cutoff = g.cutoff;
      verdict = g.verdict;
    }

abbrev pub differential_for : ℕ → ℕ → ℕ → ℕ → ℕ → ℕ → ℕ → ℕ → SurfpocketDifferential
differential_for s b c t f g d r = handed_card (differential_of (inputs_of s b c t f g d r))
