-- [01 §2], [02 §1, §3] A list lent as numbers: its rows one after the other, field by field. Rows and fields are counted from 0:
-- index i is row number i + 1. Definitions only.
use Rattle.std.specs.Prelude.{List, ℕ, ◌+◌, ◌*◌, ◌/◌, length, get_or}
use Rattle.layout.specs.declared.Row.{Row}
use Rattle.layout.specs.Counts.{field_count}
use Rattle.layout.specs.Fields.{at_feeder, at_kind, at_volts, at_work, at_selfstart, at_return, at_far, at_clear, at_near, at_factor, at_low, at_high, at_step}
use Rattle.layout.specs.Fields.{at_device, at_floor, at_ceiling, at_backed, at_primary, at_secondary, at_law, at_greatest, bounds_to}
use Rattle.sides.specs.Sides.{milliamperes, keyed, setting_most}

-- how many whole rows a list has
abbrev pub rows : List ℕ → ℕ
rows l = length l / field_count

-- the number in field k of row i
abbrev pub field : List ℕ → ℕ → ℕ → ℕ
field l i k = get_or l (i * field_count + k) 0

-- the bounds of row i's fields: those of low, high and step are by its rated primary
abbrev pub bounds_at : List ℕ → ℕ → List ℕ
bounds_at l i = bounds_to (setting_most (field l i at_primary))

-- row i, its fields 2 to 22: currents on the primary side, but low, high and step as they are keyed at the relay
abbrev pub row_at : List ℕ → ℕ → Row
row_at l i =
    record {
      feeder = field l i at_feeder;
      kind = field l i at_kind;
      volts = field l i at_volts;
      work = milliamperes (field l i at_work);
      selfstart = field l i at_selfstart;
      returnfactor = field l i at_return;
      far = milliamperes (field l i at_far);
      clear = milliamperes (field l i at_clear);
      near = milliamperes (field l i at_near);
      factor = field l i at_factor;
      low = keyed (field l i at_low);
      high = keyed (field l i at_high);
      step = keyed (field l i at_step);
      device = field l i at_device;
      floor = field l i at_floor;
      ceiling = field l i at_ceiling;
      backed = field l i at_backed;
      ratio = record { primary = field l i at_primary; secondary = field l i at_secondary };
      law = field l i at_law;
      greatest = milliamperes (field l i at_greatest);
    }
