-- `put_field` meets its contract: a comma, and a number behind it.
use mathlib.Core.List.{[], ◌∷◌}
use Prim.Native.Nat.{◌+◌}
use native.Mathlib.Omega.{arith}
use Rattle.print.specs.Write.{number_text}
use Rattle.print.proofs.DigitLaws.{number-few}
use Rattle.print.proofs.WriteLaws.{wrote_then, wrote_one}
use Rattle.print.proofs.write.put_field.Goals as goal

pub returns : goal.returns
returns c =
    let a = c.args in
    let n = number-few a.v in
    wrote_then a.out.now a.at (44 ∷ []) _ (a.at + 1) (number_text a.v) _ _ (omega (arith, n, c.requires))
    (wrote_one a.out.now a.at 44 (omega (arith, c.requires))) c.put_number.ensures
