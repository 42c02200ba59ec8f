-- `differential::first_outside` meets its contract: the closure's test of an input is the table's.
use mathlib.Core.Path.{◌∙◌, refl}
use Rattle.std.proofs.Common.{arith, ℕ, Bool, not, leb, ◌&&◌}
use Rattle.std.proofs.lemmas.Bool.Decides.{nat_tests}
use Rattle.std.proofs.lemmas.Iterator.{YieldsList-from_slice}
use Rattle.std.proofs.lemmas.Iterator.Adapters.{position_from-zero}
use Rattle.std.proofs.lemmas.Iterator.Search.{position_from_yields_List}
use Rattle.fold.specs.First.{first}
use Rattle.layout.specs.Fields.{in_bounds}
use Rattle.differential.proofs.first_outside.Goals as goal

-- a value, and the least and the greatest number allowed
test : ℕ × ℕ × ℕ → Bool
test p = not (leb p.1 p.0 && leb p.0 p.2)

pub returns : goal.returns
unfolding test first in_bounds
returns c =
    let inputs = c.iter.result.rest.now in
    position_from_yields_List test _ _ _ c.position.ensures.ran (YieldsList-from_slice inputs refl) (λ x b q k. (refl, grind (arith, nat_tests)))
    ∙ position_from-zero test inputs ∙ rw c.iter.ensures.rest refl
