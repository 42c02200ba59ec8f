-- `settle::backs_up_all` meets its contract: the test is P4 for the greatest shortfall, multiplied out.
use mathlib.Core.Path.{refl}
use native.Mathlib.Nat.{lt_of_le_of_lt, mul-le-mul, mul-le-mul_left}
use lib.Dec.{lit<}
use Rattle.settle.specs.Fed.{backs_up_all}
use Rattle.settle.proofs.backs_up_all.Goals as goal

pub overflow_mul-result-2 : goal.overflow_mul-result-2
overflow_mul-result-2 c = let a = c.requires in
    record { fits = lt_of_le_of_lt (mul-le-mul (mul-le-mul_left 12 a.2) a.0.volts-to) (lit< tt) }

pub returns : goal.returns
unfolding backs_up_all
returns c = refl
