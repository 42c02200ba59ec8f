-- `settle::first_unbacked` meets its contract: the loop has passed rows for which P4 holds or that are fed elsewhere, so the first that is
-- left is the first of all.
use native.Mathlib.Omega.{arith}
use mathlib.Core.Path.{sym, ◌∙◌}
use Rattle.fold.proofs.FirstLaws.{passed_none, passed-more, passed-found, passed-all}
use Rattle.settle.specs.Settle.{first_unbacked}
use Rattle.settle.proofs.first_unbacked.Goals as goal

pub loop-j-init : goal.loop-j-init
loop-j-init c = passed_none _ _

pub is_unbacked-requires : goal.is_unbacked-requires
is_unbacked-requires c = let a = c.requires in (a.0, a.1, omega arith)

pub returns-then-is_unbacked : goal.returns-then-is_unbacked
unfolding first_unbacked
returns-then-is_unbacked c = sym
    (passed-found _ c.loop-j.invariant c.loop-j-test.true
    (sym c.is_unbacked.ensures ∙ c.if-is_unbacked.true))

pub loop-j-preserved : goal.loop-j-preserved
loop-j-preserved c = passed-more _ c.loop-j.invariant c.loop-j-test.true
    (sym c.is_unbacked.ensures ∙ c.if-is_unbacked.false)

pub returns : goal.returns
unfolding first_unbacked
returns c = sym (passed-all _ c.loop-j.invariant c.loop-j-test.false)
