-- `rows::ListRow::field_right` meets its contract: each return is a way in which a field is judged.
use native.Mathlib.Omega.{arith}
use mathlib.Core.Path.{ap}
use lib.ListN.{length}
use Rattle.rows.proofs.FieldLaws.{right-out, right-own, right-rating, right-other}
use Rattle.rows.proofs.ListRow.field_right.Goals as goal

pub in_bounds-requires : goal.in_bounds-requires
in_bounds-requires c = omega (arith, c.requires, ap length c.args.self.own_table)

pub returns-then-not-in_bounds : goal.returns-then-not-in_bounds
returns-then-not-in_bounds c = right-out _ _ _ _ c.field_at-x.ensures _ c.args.self.own_table _ c.in_bounds.ensures c.if-not-in_bounds.true

pub returns-then-k-eq0 : goal.returns-then-k-eq0
returns-then-k-eq0 c = right-own _ _ _ _ c.field_at-x.ensures _ c.args.self.own_table _ c.in_bounds.ensures c.if-not-in_bounds.false c.if-k-eq0.true

pub returns-then-k-eq-AT_SECONDARY : goal.returns-then-k-eq-AT_SECONDARY
returns-then-k-eq-AT_SECONDARY c = right-rating _ _ _ _ c.field_at-x.ensures _ c.args.self.own_table _ c.in_bounds.ensures c.if-not-in_bounds.false
    c.if-k-eq0.false c.if-k-eq-AT_SECONDARY.true _ _ c.field_at-primary.ensures c.rating_right.ensures

pub returns : goal.returns
returns c = right-other _ _ _ _ c.field_at-x.ensures _ c.args.self.own_table _ c.in_bounds.ensures c.if-not-in_bounds.false
    c.if-k-eq0.false c.if-k-eq-AT_SECONDARY.false
