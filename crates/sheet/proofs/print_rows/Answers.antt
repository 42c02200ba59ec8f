-- `sheet::print_rows` meets its contract: over 256 rows is COUNT; otherwise the numbers read are the list that is calculated, and the
-- names' places lie inside the text.
use Rattle.sheet.specs.Sheet.{blank_card}
use Rattle.sheet.proofs.SheetLaws.{part-long, card-filled, refusal-filled, many-filled}
use Rattle.sheet.proofs.print_rows.Goals as goal

pub returns-then-n-gt-ROWS : goal.returns-then-n-gt-ROWS
returns-then-n-gt-ROWS c = many-filled _ _ _ _ _ c.requires _ _ _ _ _ c.numbers.ensures c.if-n-gt-ROWS.true
    c.refuse.ensures

pub slice_bounds-whole_calculation-end : goal.slice_bounds-whole_calculation-end
slice_bounds-whole_calculation-end c = part-long _ _ _ _ _ c.requires c.if-n-gt-ROWS.false

pub returns-then-given-eq0 : goal.returns-then-given-eq0
unfolding blank_card
returns-then-given-eq0 c = card-filled _ _ _ _ _ c.requires c.if-n-gt-ROWS.false _ _ c.whole_calculation-given.ensures _ _ _ c.whole_calculation-given.auto.card
    c.if-given-eq0.true
    c.print_card-bytes.ensures

pub returns : goal.returns
unfolding blank_card
returns c = refusal-filled _ _ _ _ _ c.requires c.if-n-gt-ROWS.false _ _ c.whole_calculation-given.ensures _ _ _ _ c.if-given-eq0.false
    c.refuse-2.ensures
