-- `Cursor::number` meets its contract: the run of digits is one to nine long and has no leading zero, or there is no number.
use Rattle.std.proofs.Common.{rules, ◌≡◌, ◌≤◌, ◌⊎◌, inl, inr, arith, length, drop, get_or}
use Rattle.cursor.proofs.NumberLaws.{digits_next, number-none, number-long, number-zero, number-right, digits-there, run-was, run-inside, run-some, number-bad, number-read}
use Rattle.cursor.proofs.Cursor.number.Goals as goal
use Rattle.cursor.proofs.Cursor.number.Goals.{else-digits-gt1-via-then-digits-gt1+else-digits-eq48, else-digits-gt1-via-else-digits-gt1}

pub returns-then-past-self : goal.returns-then-past-self
returns-then-past-self c =
    let n = run-was _ _ _ c.skip-past.ensures in
    number-bad _ _ (number-none _ (omega arith))

pub slice_bounds-digits-end : goal.slice_bounds-digits-end
slice_bounds-digits-end c = let h = run-inside _ _ _ c.skip-past.ensures c.if-past-self.false in search rules

pub returns-then-digits-gt9 : goal.returns-then-digits-gt9
returns-then-digits-gt9 c =
    let n = run-was _ _ _ c.skip-past.ensures in
    number-bad _ _ (number-long _ (rw n at c.if-digits-gt9.true))

pub returns-then-digits-eq48 : goal.returns-then-digits-eq48
returns-then-digits-eq48 c =
    let n = run-was _ _ _ c.skip-past.ensures in
    number-bad _ _ (number-zero _ (rw n at c.if-digits-gt1.true) (rw n at c.if-digits-eq48.true))

pub value-requires : goal.value-requires
value-requires c =
    let n = run-was _ _ _ c.skip-past.ensures in
    rw n (digits-there _ (rw n at c.if-digits-gt9.false))

pub returns : goal.returns
returns c =
    let l = drop c.args.self.at c.args.s.now in
    let n = run-was _ _ _ c.skip-past.ensures in
    let z : (length (digits_next l) ≤ 1) ⊎ (get_or (digits_next l) 0 0 ≡ 48 → ⊥) =
    elim c.else-digits-gt1.branch [
      | else-digits-gt1-via-then-digits-gt1+else-digits-eq48 w ↦ inr (rw n at w.if-digits-eq48.false)
      | else-digits-gt1-via-else-digits-gt1 w ↦ inl (rw n at w.if-digits-gt1.false)
    ]
    in
    number-read _ _ _ _ c.skip-past.ensures
    (number-right _ (run-some _ _ _ c.skip-past.ensures c.if-past-self.false) (rw n at c.if-digits-gt9.false) z) (rw n at c.value.ensures)
