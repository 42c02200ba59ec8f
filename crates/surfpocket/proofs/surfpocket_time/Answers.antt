-- `surfpocket_time` meets its contract: 0 where no time may be asked, and otherwise that of `curve`, whose bounds are then met.
use Rattle.std.proofs.Common.{sym, ◌∙◌, arith}
use Rattle.curve.proofs.CurveLaws.{curve-setting}
use Rattle.surfpocket.proofs.TimeTheorems.{asked-exactly, as-asked, not-asked}
use Rattle.surfpocket.proofs.surfpocket_time.Goals as goal

pub returns-then-not-may_be_asked : goal.returns-then-not-may_be_asked
returns-then-not-may_be_asked c = not-asked _ _ _ (sym c.may_be_asked.ensures ∙ c.if-not-may_be_asked.true)

pub time_of-requires : goal.time_of-requires
time_of-requires c =
    let a = (asked-exactly _ _ _).0 (sym c.may_be_asked.ensures ∙ c.if-not-may_be_asked.false) in
    (a.multiple-to, omega (arith, a.multiplier-to, (curve-setting c.args.law (λ z. omega (arith, a.law-from))).1))

pub returns : goal.returns
returns c = c.time_of.ensures ∙ as-asked _ _ _ (sym c.may_be_asked.ensures ∙ c.if-not-may_be_asked.false)
