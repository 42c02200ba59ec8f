-- `calculate::copy_front` meets its contract: the first n numbers are copied to the front.
use native.Mathlib.Omega.{arith}
use mathlib.Core.Path.{sym, ◌∙◌}
use lib.Seq.{length-take-le}
use Rattle.calculate.proofs.AllLaws.{front-pasted}
use Rattle.calculate.proofs.copy_front.Goals as goal

pub slice_bounds-put-end : goal.slice_bounds-put-end
slice_bounds-put-end c = sym (length-take-le _ _ c.requires.1)

pub put-requires : goal.put-requires
put-requires c = let h = c.requires in
    let a = c.args in
    omega (arith, h.0, length-take-le a.n a.from.now h.1)

pub returns : goal.returns
returns c = c.put.ensures ∙ front-pasted _ _ _ c.requires.1
