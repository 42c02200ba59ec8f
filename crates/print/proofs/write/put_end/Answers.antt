-- `put_end` meets its contract: CR, and LF behind it.
use mathlib.Core.List.{[], ◌∷◌}
use Prim.Native.Nat.{◌+◌}
use native.Mathlib.Omega.{arith}
use lib.ListN.{length-set}
use Rattle.print.proofs.WriteLaws.{wrote_then, wrote_one, wrote-two}
use Rattle.print.proofs.write.put_end.Goals as goal

pub returns : goal.returns
returns c =
    let a = c.args in
    let h = c.requires in
    wrote_then a.out.now a.at (13 ∷ []) _ (a.at + 1) (10 ∷ []) _ _ (omega (arith, h)) (wrote_one a.out.now a.at 13 (omega (arith, h)))
    (wrote-two _ a.at 10 (simp length-set (omega (arith, h))))
