-- [02 §11] What the eight inputs are given: the card's five and the verdict, or a refusal. Definitions only.
use Rattle.answers.specs.declared.Refusal.TheVariants.{Input, Slope}
use Rattle.answers.specs.declared.Refusal.{Refusal}
use Rattle.std.specs.Prelude.{ℕ, ◌+◌, Option, Some, None, Result, Ok, Err}
use Rattle.answers.specs.Answer as answer
use Rattle.differential.specs.declared.Card.{Card}
use Rattle.differential.specs.declared.Given.{Given}
use Rattle.differential.specs.declared.Inputs.{Inputs}
use Rattle.differential.specs.Inputs.{first_outside}
use Rattle.differential.specs.Slope.{least_slope}
use Rattle.differential.specs.Verdict.{bend, verdict_of, verdict_number}

-- "refused, all six are 0"
abbrev pub refused_with : Refusal → Given
refused_with why =
    record {
      number = answer.number_of (Err why);
      place = answer.place_of (Err why);
      start = 0;
      bend = 0;
      slope = 0;
      blocking = 0;
      cutoff = 0;
      verdict = 0;
    }

-- the numbers of a card with its verdict, or of a refusal
abbrev pub given_for : Result Card Refusal → Given
given_for (Ok card) =
    record {
      number = 0;
      place = 0;
      start = card.start;
      bend = bend;
      slope = card.slope;
      blocking = card.blocking;
      cutoff = card.cutoff;
      verdict = verdict_number card.verdict;
    }
given_for (Err why) = refused_with why

-- "returns the card's five, in hundredths, and the verdict"
abbrev pub card_with : Inputs → ℕ → Card
card_with x slope =
    record {
      start = x.start;
      slope = slope;
      blocking = x.blocking;
      cutoff = x.cutoff;
      verdict = verdict_of x slope;
    }

abbrev pub done_with : Inputs → ℕ → Given
done_with x slope = given_for (Ok (card_with x slope))

-- "16 INPUT (place, lowest first ..), then 17 SLOPE"
unfoldable pub by_slope : Inputs → Option ℕ → Given
by_slope x (Some slope) = done_with x slope
by_slope x None = refused_with Slope

unfoldable pub by_input : Inputs → Option ℕ → Given
by_input x (Some k) = refused_with (Input (k + 1))
by_input x None = by_slope x (least_slope x.start x.through)

unfoldable pub differential_of : Inputs → Given
differential_of x = by_input x (first_outside x)
