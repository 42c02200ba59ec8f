-- `push_rest` counts every row off the path with the numbers found on the card. The loop's invariant is `Resting`.
use mathlib.Core.Path.{◌≡◌, refl, sym, ap, ◌∙◌}
use mathlib.Core.Bool.{Bool, true, false, true≢false}
use Prim.Native.Nat.{ℕ}
use lib.Dec.{eqb}
use borrow.Author.Tests.{eqb-true, eq-eqb}
use Rattle.std.proofs.Common.{Option, Some, None}
use Rattle.std.specs.Option.{option_eq}
use Rattle.path.proofs.RestLaws.{rest-start, rest-skip, rest-ready, rest-push, rest_end}
use Rattle.path.proofs.push_rest.Goals as goal
use Rattle.path.proofs.push_rest.Goals.{then-eq, else-eq}

-- the test says whether row j is the next of the path
is-next : (next : Option ℕ) (j : ℕ) (b : Bool) → b ≡ option_eq eqb next (Some j) → b ≡ true → next ≡ Some j
is-next None j b e t = absurd (true≢false (sym t ∙ e))
is-next (Some x) j b e t = ap (λ (x : ℕ). Some x) (eqb-true x j (sym e ∙ t))

is-not-next : (next : Option ℕ) (j : ℕ) (b : Bool) → b ≡ option_eq eqb next (Some j) → b ≡ false → next ≡ Some j → ⊥
is-not-next next j b e f q = true≢false (sym (eq-eqb j j refl) ∙ ap (λ (x : Option ℕ). option_eq eqb x (Some j)) (sym q) ∙ sym e ∙ f)

pub loop-j-init : goal.loop-j-init
loop-j-init c = rest-start _ _ _ _ c.requires

pub push_found-requires : goal.push_found-requires
push_found-requires c = rest-ready _ _ _ _ c.requires _ _ _ c.loop-j.invariant c.loop-j-test.true (is-not-next _ _ _ c.eq.ensures c.if-eq.false)

pub loop-j-preserved : goal.loop-j-preserved
loop-j-preserved c = let a = c.requires in
    let v = c.loop-j.invariant in
    let h = c.loop-j-test.true in
    elim c.if-eq.branch [
      | then-eq w ↦ rest-skip _ _ _ _ a _ _ _ v h _ _ (is-next _ _ _ c.eq.ensures w.if-eq.true) w.sums-is (w.next-is ∙ w.above-next.ensures)
      | else-eq w ↦ rest-push _ _ _ _ a _ _ _ v h (is-not-next _ _ _ c.eq.ensures w.if-eq.false) _ _ (w.sums-is ∙ w.push_found.ensures) w.next-is
    ]

pub returns : goal.returns
returns c = rest_end _ _ _ _ c.requires _ _ _ c.loop-j.invariant c.loop-j-test.false
