-- `rows::ListRow::order_fault` meets its contract: each return is a way in which the order of the fields is judged; the product fits, as the fields
-- are in range.
use native.Mathlib.Omega.{arith}
use mathlib.Core.Path.{◌≡◌}
use mathlib.Core.List.{List}
use Prim.Native.Nat.{ℕ, ◌≤◌, ◌<◌}
use Rattle.layout.specs.Counts.{field_count}
use Rattle.layout.specs.Fields.{at_high, at_primary, at_secondary}
use Rattle.layout.specs.List.{field}
use Rattle.sides.proofs.SidesLaws.{setting-to}
use Rattle.rows.specs.InRange.{FieldInRange}
use Rattle.rows.proofs.TestLaws.{plain-right, order-low, order-none, order-high}
use Rattle.rows.proofs.ListRow.order_fault.Goals as goal

fits :
    (l : List ℕ) (i : ℕ) → ((k : ℕ) → k < field_count → FieldInRange l i k) → (high p s : ℕ) → high ≡ field l i at_high → p ≡ field l i at_primary →
    s ≡ field l i at_secondary → (high ≤ 100000000) × (p ≤ 20000) × (s ≤ 5)
fits l i r high p s a b c =
    let to = setting-to (field l i at_primary) in (
      omega (arith, ((r at_high (omega arith)).within (omega arith)).1),
      omega (arith, ((r at_primary (omega arith)).within (omega arith)).1),
      omega (arith, ((r at_secondary (omega arith)).within (omega arith)).1),
    )

pub returns-then-high-low : goal.returns-then-high-low
returns-then-high-low g c = order-low _ _ _ _ 0 0 c.field_at-low.ensures c.field_at-high.ensures c.if-high-low.true

pub returns-then-not-this : goal.returns-then-not-this
returns-then-not-this g c = plain-right _ _ (c.requires.unrated (rw c.if-not-this.true)) _ _ c.field_at-low.ensures c.field_at-high.ensures c.if-high-low.false

pub high_right-requires : goal.high_right-requires
high_right-requires g c = fits _ _ c.requires.in_range _ _ _ c.field_at-high.ensures c.field_at-primary.ensures c.field_at-secondary.ensures

pub returns-then-high_right : goal.returns-then-high_right
returns-then-high_right g c = order-none _ _ _ _ _ _ c.field_at-low.ensures c.field_at-high.ensures _ c.field_at-primary.ensures
    c.field_at-secondary.ensures c.if-high-low.false c.high_right.ensures c.if-high_right.true

pub returns-else-high_right : goal.returns-else-high_right
returns-else-high_right g c = order-high _ _ _ _ _ _ c.field_at-low.ensures c.field_at-high.ensures _ c.field_at-primary.ensures
    c.field_at-secondary.ensures c.if-high-low.false c.high_right.ensures c.if-high_right.false
