-- Rows of two lists are equal where their fields are.
use mathlib.Core.Path.{◌≡◌}
use mathlib.Core.List.{List}
use Prim.Native.Nat.{ℕ, ◌<◌}
use native.Mathlib.Omega.{arith}
use Rattle.layout.specs.Counts.{field_count}
use Rattle.layout.specs.Fields.{at_feeder, at_kind, at_volts, at_work, at_selfstart, at_return, at_far, at_clear, at_near, at_factor, at_low, at_high, at_step}
use Rattle.layout.specs.Fields.{at_device, at_floor, at_ceiling, at_backed, at_primary, at_secondary, at_law, at_greatest}
use Rattle.sides.specs.Sides.{milliamperes, keyed}
use Rattle.layout.specs.List.{field, row_at}

pub same_row : (l l' : List ℕ) (j : ℕ) → ((k : ℕ) → k < field_count → field l j k ≡ field l' j k) → row_at l j ≡ row_at l' j
same_row l l' j e =
    λ t.
    record {
      feeder = e at_feeder (omega arith) t;
      kind = e at_kind (omega arith) t;
      volts = e at_volts (omega arith) t;
      work = milliamperes (e at_work (omega arith) t);
      selfstart = e at_selfstart (omega arith) t;
      returnfactor = e at_return (omega arith) t;
      far = milliamperes (e at_far (omega arith) t);
      clear = milliamperes (e at_clear (omega arith) t);
      near = milliamperes (e at_near (omega arith) t);
      factor = e at_factor (omega arith) t;
      low = keyed (e at_low (omega arith) t);
      high = keyed (e at_high (omega arith) t);
      step = keyed (e at_step (omega arith) t);
      device = e at_device (omega arith) t;
      floor = e at_floor (omega arith) t;
      ceiling = e at_ceiling (omega arith) t;
      backed = e at_backed (omega arith) t;
      ratio = record { primary = e at_primary (omega arith) t; secondary = e at_secondary (omega arith) t };
      law = e at_law (omega arith) t;
      greatest = milliamperes (e at_greatest (omega arith) t);
    }
