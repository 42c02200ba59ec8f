-- `put_number` meets its contract: the number without its last digit is written first, then that digit behind it.
use Prim.Native.Nat.{◌/◌}
use native.Mathlib.Omega.{arith}
use Rattle.print.specs.Write.{number_text, last_digit}
use Rattle.print.proofs.DigitLaws.{number-one, number_more, number-shorter}
use Rattle.print.proofs.WriteLaws.{wrote_one, wrote_then}
use Rattle.print.proofs.write.+put_number.Goals as goal

pub returns-then-v-lt10 : goal.returns-then-v-lt10
unfolding last_digit
returns-then-v-lt10 t c =
    let a = c.args in
    rw (number-one a.v c.if-v-lt10.true) (wrote_one a.out.now a.at _ (omega arith))

pub bounds-out-next : goal.bounds-out-next
bounds-out-next t c =
    let s = number-shorter c.args.v c.if-v-lt10.false c.ranges.v.fits in
    omega (arith, s, c.put_number-next.ensures.end)

pub overflow_add-result-2 : goal.overflow_add-result-2
overflow_add-result-2 t c =
    let s = number-shorter c.args.v c.if-v-lt10.false c.ranges.v.fits in
    omega (arith, s, c.put_number-next.ensures.end)

pub returns : goal.returns
unfolding last_digit
returns t c =
    let a = c.args in
    let f = c.ranges.v.fits in
    let s = number-shorter a.v c.if-v-lt10.false f in
    let w = c.put_number-next.ensures in
    rw (number_more a.v c.if-v-lt10.false f)
    (wrote_then a.out.now a.at (number_text (a.v / 10)) _ c.put_number-next.result _ _ _ (omega (arith, s)) w
    (wrote_one _ c.put_number-next.result _ (omega (arith, s, w.end, c.put_number-next.auto.out))))
