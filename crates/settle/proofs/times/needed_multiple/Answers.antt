-- `settle::times::needed_multiple` meets its contract: a definite row needs none; the products of another's fit, a primary current times volts.
use native.Mathlib.Nat.{lt_of_le_of_lt, le_trans, mul-le-mul}
use lib.Dec.{lit<, lit≤}
use Rattle.settle.specs.Conditions.{multiple_at}
use Rattle.settle.specs.Times.{needed_multiple}
use Rattle.settle.proofs.PickupLaws.{current-volts}
use Rattle.settle.proofs.TimeLaws.{is-curve, no-curve}
use Rattle.settle.proofs.times.needed_multiple.Goals as goal

pub returns-then-law-eq0 : goal.returns-then-law-eq0
unfolding needed_multiple
returns-then-law-eq0 c = rw (no-curve _ c.if-law-eq0.true)

pub overflow_mul-f : goal.overflow_mul-f
overflow_mul-f c = let f = c.requires.1 in
    record { fits = lt_of_le_of_lt (current-volts f.greatest-to f.volts-to) (lit< tt) }

pub overflow_mul-pickup : goal.overflow_mul-pickup
overflow_mul-pickup c = let a = c.requires in
    record { fits = lt_of_le_of_lt (mul-le-mul a.2 a.0.volts-to) (lit< tt) }

pub multiple-requires : goal.multiple-requires
multiple-requires c = let f = c.requires.1 in
    le_trans (current-volts f.greatest-to f.volts-to) (lit≤ tt)

pub returns : goal.returns
unfolding needed_multiple multiple_at
returns c = rw (is-curve _ c.if-law-eq0.false) c.multiple.ensures
