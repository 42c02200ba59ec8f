-- `test_card` names the first card row out of range: the rows that the loop has passed are in range.
use mathlib.Core.Path.{ap, sym, ◌∙◌}
use mathlib.Core.Bool.{not}
use native.Mathlib.Omega.{arith}
use Rattle.fold.proofs.FirstLaws.{passed_none, passed-more, passed-found, passed-all}
use Rattle.path.proofs.CardTestLaws.{card-refuses, card-passes}
use Rattle.path.proofs.test_card.Goals as goal

pub loop-j-init : goal.loop-j-init
loop-j-init c = passed_none _ _

pub card_right-requires : goal.card_right-requires
card_right-requires c = record {
  is_row = c.loop-j-test.true;
  in-card = omega (arith, c.loop-j-test.true, c.requires);
  unrated-is = c.column_bounds-unrated.ensures;
  rated-is = c.column_bounds-rated.ensures;
}

pub returns-then-not-card_right : goal.returns-then-not-card_right
returns-then-not-card_right c = card-refuses _ _ _ _
    (passed-found _ c.loop-j.invariant c.loop-j-test.true
    (ap not (sym c.card_right.ensures ∙ c.if-not-card_right.true)))

pub loop-j-preserved : goal.loop-j-preserved
loop-j-preserved c = passed-more _ c.loop-j.invariant c.loop-j-test.true
    (ap not (sym c.card_right.ensures ∙ c.if-not-card_right.false))

pub returns : goal.returns
returns c = card-passes _ _ _ (passed-all _ c.loop-j.invariant c.loop-j-test.false)
