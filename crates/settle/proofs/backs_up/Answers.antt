-- `settle::backs_up` meets its contract: a row that is not backed asks nothing; for one that is, the test is P4, multiplied out.
use native.Mathlib.Nat.{lt_of_le_of_lt, mul-le-mul, mul-le-mul_left}
use lib.Dec.{lit<}
use borrow.Author.Tests.{eq-eqb, ne_eqb}
use Rattle.settle.specs.Conditions.{backs_up}
use Rattle.settle.proofs.backs_up.Goals as goal

pub returns-then-f-ne1 : goal.returns-then-f-ne1
unfolding backs_up
returns-then-f-ne1 c = rw (ne_eqb _ 1 c.if-f-ne1.true)

pub overflow_mul-result-2 : goal.overflow_mul-result-2
overflow_mul-result-2 c = let a = c.requires in
    record { fits = lt_of_le_of_lt (mul-le-mul (mul-le-mul_left 12 a.2) a.0.volts-to) (lit< tt) }

pub overflow_mul-result-4 : goal.overflow_mul-result-4
overflow_mul-result-4 c = let a = c.requires in
    record { fits = lt_of_le_of_lt (mul-le-mul (mul-le-mul_left 10 a.1.far-to) a.1.volts-to) (lit< tt) }

pub returns : goal.returns
unfolding backs_up
returns c = rw (eq-eqb _ 1 c.if-f-ne1.false)
