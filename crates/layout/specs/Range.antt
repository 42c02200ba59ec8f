-- [01 §2; §4, 9 CARD], [02 §1, §3] The tables of bounds as inequalities, by the names of the fields and columns: what a reader holds against
-- the documents, and what the tables are proved to say. Definitions only.
use Rattle.std.specs.Prelude.{List, ℕ, ◌*◌, ◌≤◌, ◌<◌}
use Rattle.layout.specs.declared.CardRow.{CardRow}
use Rattle.layout.specs.declared.Row.{Row}
use Rattle.layout.specs.Fields.{least_in, greatest_in}
use Rattle.layout.specs.View.{View}
use Rattle.sides.specs.Sides.{setting_most, Rated}

-- x is from the least to the greatest number of entry k of a table
abbrev pub Within : List ℕ → ℕ → ℕ → Type 0
Within table k x = (least_in table k ≤ x) × (x ≤ greatest_in table k)

-- the row's own number and the fields that `Row` names are so many; one that is added later is named there when it is used
abbrev pub named_count : ℕ
named_count = 22

-- the fields that `Row` names lie within section 2's table, primary currents in fifths of a mA; low, high and step within what the row's
-- rated primary leaves them, and its two ratings fit each other
pub record Bounded (r : Row) : Type 0 where
  pub feeder-to : r.feeder ≤ 256
  pub kind-from : 1 ≤ r.kind
  pub kind-to : r.kind ≤ 3
  pub volts-from : 100 ≤ r.volts
  pub volts-to : r.volts ≤ 500000
  pub work-from : 5 * 1 ≤ r.work.0
  pub work-to : r.work.0 ≤ 5 * 100000000
  pub selfstart-from : 1000 ≤ r.selfstart
  pub selfstart-to : r.selfstart ≤ 10000
  pub return_from : 800 ≤ r.returnfactor
  pub return-to : r.returnfactor ≤ 1000
  pub far_from : 5 * 1 ≤ r.far.0
  pub far-to : r.far.0 ≤ 5 * 100000000
  pub clear-from : 5 * 1 ≤ r.clear.0
  pub clear-to : r.clear.0 ≤ 5 * 100000000
  pub near-from : 5 * 1 ≤ r.near.0
  pub near-to : r.near.0 ≤ 5 * 100000000
  pub factor-from : 1000 ≤ r.factor
  pub factor-to : r.factor ≤ 2000
  pub low-from : 1 ≤ r.low.0
  pub low-to : r.low.0 ≤ setting_most r.ratio.primary
  pub high-from : 1 ≤ r.high.0
  pub high-to : r.high.0 ≤ setting_most r.ratio.primary
  pub step_from : 1 ≤ r.step.0
  pub step-to : r.step.0 ≤ setting_most r.ratio.primary
  pub device-from : 1 ≤ r.device
  pub device-to : r.device ≤ 3
  pub floor-to : r.floor ≤ 100000
  pub ceiling-to : r.ceiling ≤ 100000
  pub backed-to : r.backed ≤ 1
  pub rated : Rated r.ratio
  pub law-to : r.law ≤ 2
  pub greatest-from : 5 * 1 ≤ r.greatest.0
  pub greatest-to : r.greatest.0 ≤ 5 * 100000000

-- every row of a view does
abbrev pub AllBounded : View → Type 0
AllBounded v = (j : ℕ) → j < v.count → Bounded (v.row j)

-- a card row that a replacement may start from, its currents going to `most`
pub record CardRowInRange (most : ℕ) (s : CardRow) : Type 0 where
  pub pickup-from : 1 ≤ s.pickup.0
  pub pickup-to : s.pickup.0 ≤ most
  pub delay-to : s.delay ≤ 100000
  pub cutoff-to : s.cutoff.0 ≤ most
  pub law-to : s.law ≤ 2
  pub multiplier-to : s.multiplier ≤ 1500
