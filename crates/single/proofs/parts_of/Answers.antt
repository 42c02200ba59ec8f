-- `single::parts_of` meets its contract: the pattern is the one that `to_bits` has for what is not a number.
use native.Mathlib.Omega.{arith}
use mathlib.Core.Path.{◌≡◌, refl, sym, ap, ◌∙◌}
use mathlib.Core.Bool.{true, true≢false}
use lib.Ieee.{Float, nan, inf, fin, binary32, fits, is_nan, to_bits}
use lib.Ieee.Bits.{to_bits-lt}
use denote.Floats.{passes}
use Rattle.single.specs.Parts.{parts_of}
use Rattle.single.proofs.parts_of.Goals as goal
use Rattle.single.proofs.parts_of.Goals.{then-is_nan, else-is_nan}

nan-pattern : (x : Float) → is_nan x ≡ true → 0x7fc0_0000 ≡ to_bits binary32 x
unfolding is_nan to_bits
nan-pattern nan h = refl
nan-pattern (inf s) h = absurd (true≢false (sym h))
nan-pattern (fin s m e) h = absurd (true≢false (sym h))

pub overflow_cast-bits : goal.overflow_cast-bits
overflow_cast-bits c = omega (arith, to_bits-lt binary32 c.args.x (passes (fits binary32 c.args.x) c.well_formed.0.1))

pub returns : goal.returns
returns c =
    elim c.if-is_nan.branch [
      | then-is_nan w ↦ ap parts_of (w.bits-is ∙ nan-pattern _ (sym c.is_nan.ensures.value ∙ w.if-is_nan.true))
      | else-is_nan w ↦ ap parts_of w.bits-is
    ]
