-- `card_right` judges a card row by its own table: the replaced row's and that of a row without a ratio, or that of one with a ratio.
use mathlib.Core.Path.{sym, ◌∙◌}
use Rattle.path.proofs.CardTestLaws.{lent-replaced, lent-primary, lent-secondary, judged-by}
use Rattle.path.proofs.card_right.Goals as goal

pub returns-then-j-i : goal.returns-then-j-i
returns-then-j-i c = judged-by _ _ _ _ _ _ c.requires.unrated-is (lent-replaced _ _ _ c.if-j-i.true) _ c.within_table.ensures

pub returns-then-field_at-eq0 : goal.returns-then-field_at-eq0
returns-then-field_at-eq0 c = judged-by _ _ _ _ _ _ c.requires.unrated-is
    (lent-primary _ _ _ c.if-j-i.false (sym c.field_at.ensures ∙ c.if-field_at-eq0.true)) _ c.within_table-then-field_at-eq0.ensures

pub returns : goal.returns
returns c = judged-by _ _ _ _ _ _ c.requires.rated-is
    (lent-secondary _ _ _ c.if-j-i.false (λ z. c.if-field_at-eq0.false (c.field_at.ensures ∙ z))) _ c.within_table-2.ensures
