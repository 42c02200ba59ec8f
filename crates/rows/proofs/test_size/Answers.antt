-- `rows::test_size` meets its contract: each return is a way in which the sizes are judged.
use native.Mathlib.Omega.{arith}
use Rattle.rows.proofs.TestLaws.{size-ragged, size_none, size-over, size-short, size-right}
use Rattle.rows.proofs.test_size.Goals as goal

pub returns-then-len-ne0 : goal.returns-then-len-ne0
returns-then-len-ne0 c = size-ragged _ _ c.if-len-ne0.true

pub returns-then-len-lt-FIELDS : goal.returns-then-len-lt-FIELDS
returns-then-len-lt-FIELDS c = size_none _ _ (omega arith) c.if-len-lt-FIELDS.true

pub returns-then-len-gt-LIST : goal.returns-then-len-gt-LIST
returns-then-len-gt-LIST c = size-over _ _ (omega arith) c.if-len-lt-FIELDS.false c.if-len-gt-LIST.true

pub returns-then-room-len : goal.returns-then-room-len
returns-then-room-len c = size-short _ _ (omega arith) c.if-len-lt-FIELDS.false c.if-len-gt-LIST.false c.if-room-len.true

pub returns-else-room-len : goal.returns-else-room-len
returns-else-room-len c = size-right _ _ (omega arith) c.if-len-lt-FIELDS.false c.if-len-gt-LIST.false c.if-room-len.false
