-- `single::whole_current` meets its contract: from exponent 154 on section 5 refuses too (`exponent-refused`), and below, a minus is refused and the
-- sides of any other single are those of its size times the scale (`by_parts`).
use Prim.Native.Nat.{ℕ, ◌^◌}
use native.Mathlib.Omega.{arith}
use mathlib.Core.Path.{◌≡◌, refl, sym, ap, ◌∙◌}
use mathlib.Core.Bool.{Bool, true, false, cond}
use lib.Dec.{T}
use lib.Ieee.{Float, binary32, fits}
use denote.Floats.{passes}
use borrow.Author.Tests.{eq-eqb, ne_eqb}
use Rattle.std.proofs.Common.{Some, None}
use Rattle.std.specs.Bool.{then_some}
use Rattle.single.specs.declared.Parts.{Parts}
use Rattle.single.specs.declared.Sides.{Sides}
use Rattle.single.specs.Exact.{sides_of}
use Rattle.single.specs.SingleCurrent.{allowed, if_allowed}
use Rattle.single.proofs.CurrentLaws.{allowed-low, allowed-high}
use Rattle.single.proofs.ScreenLaws.{exponent-refused, by_parts}
use Rattle.single.proofs.whole_current.Goals as goal

-- the format holds x, as owning an `f32` tells
held : (x : Float) → fits binary32 x ≡ true → T (fits binary32 x)
held x is = passes (fits binary32 x) is

pub returns-then-parts-ge154 : goal.returns-then-parts-ge154
returns-then-parts-ge154 c =
    sym
    (exponent-refused _ _ _ _ (held _ c.well_formed.0.1) c.parts_of-parts.ensures (allowed-low c.args.scale c.requires) c.if-parts-ge154.true)

pub returns-then-parts-eq1 : goal.returns-then-parts-eq1
returns-then-parts-eq1 c =
    sym
    (by_parts _ _ _ _ (held _ c.well_formed.0.1) c.parts_of-parts.ensures true c.if-parts-ge154.false (eq-eqb _ 1 c.if-parts-eq1.true))

pub scaled-requires : goal.scaled-requires
scaled-requires c =
    record {
      exponent_small = c.if-parts-ge154.false;
      fraction-small = omega (arith, ap (λ (p : Parts). p.fraction) c.parts_of-parts.ensures);
      scale_small = allowed-high c.args.scale c.requires;
    }

some_if : (b : Bool) (s : Sides) → then_some b s ≡ cond b (Some s) None
some_if true s = refl
some_if false s = refl

-- the sides are those of section 5's product, and they are given where the one that is used is allowed
pub returns : goal.returns
returns c =
    let sides = c.rounded-sides in
    let exact = sides.ensures ∙ ap (λ (n : ℕ). sides_of n (2 ^ 149)) c.scaled.ensures.exact in
    c.then_some.ensures
    ∙ some_if c.allowed_current.result sides.result
    ∙ ap (λ (t : Bool). cond t (Some sides.result) None) (c.allowed_current.ensures ∙ ap allowed c.used.ensures)
    ∙ ap (if_allowed c.args.to) exact
    ∙ sym (by_parts _ _ _ _ (held _ c.well_formed.0.1) c.parts_of-parts.ensures false c.if-parts-ge154.false (ne_eqb _ 1 c.if-parts-eq1.false))
