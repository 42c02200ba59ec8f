-- `single::scaled` meets its contract: with a leading one, too, the mantissa fits (`mantissa-small`) and the product is exact (`scaled-above-0`).
use Prim.Native.Nat.{◌+◌, ◌^◌}
use native.Mathlib.Omega.{arith}
use Rattle.single.proofs.ScaleLaws.{mantissa-small, scaled-above-0}
use Rattle.single.proofs.scaled.Goals as goal

pub returns-else-parts-eq0 : goal.returns-else-parts-eq0
returns-else-parts-eq0 c =
    record {
      exact = scaled-above-0 _ _ _ c.if-parts-eq0.false;
      small = record {
        mantissa-small = mantissa-small (2 ^ 23 + c.args.parts.fraction) _ (omega (arith, c.requires.fraction-small)) c.requires.scale_small;
        power_small = omega (arith, c.requires.exponent_small);
      };
    }
