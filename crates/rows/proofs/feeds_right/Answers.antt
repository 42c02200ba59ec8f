-- `rows::feeds_right` meets its contract: each return is a way in which a row's feeder is judged.
use Rattle.rows.proofs.TestLaws.{feeds-last, feeds-below, feeds-above, feeds-by}
use Rattle.rows.proofs.feeds_right.Goals as goal

pub returns-then-i-n : goal.returns-then-i-n
returns-then-i-n c = feeds-last _ _ _ c.field_at-feeder.ensures c.if-i-n.true

pub returns-then-feeder-i : goal.returns-then-feeder-i
returns-then-feeder-i c = feeds-below _ _ _ c.field_at-feeder.ensures c.if-i-n.false c.if-feeder-i.true

pub returns-then-n-feeder : goal.returns-then-n-feeder
returns-then-n-feeder c = feeds-above _ _ _ c.field_at-feeder.ensures c.if-i-n.false c.if-feeder-i.false c.if-n-feeder.true

pub returns : goal.returns
returns c = feeds-by _ _ _ c.field_at-feeder.ensures _ c.field_at.ensures c.if-i-n.false
    c.if-feeder-i.false c.if-n-feeder.false
