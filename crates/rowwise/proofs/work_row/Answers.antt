-- `rowwise::work_row` meets its contract: the row is settled by its three numbers and the card; a refusal touches nothing, and an outcome goes to
-- the card and to the sums.
use Rattle.settle.specs.declared.Fed.{Fed}
use native.Mathlib.Omega.{arith}
use Rattle.layout.specs.declared.Row.{Row}
use Rattle.rowwise.specs.Ready.{HasFeeder}
use mathlib.Core.Path.{◌≡◌, refl, sym, ◌∙◌, subst}
use mathlib.Core.List.{List}
use Rattle.layout.specs.Range.{Bounded}
use Rattle.settle.specs.Fed.{CardBounded}
use Rattle.settle.proofs.OutcomeLaws.{set-bounded}
use Rattle.rowwise.proofs.StepLaws.{step-unsettled, step_set}
use Rattle.rowwise.proofs.work_row.Goals as goal

-- the row that was read has its feeder
of_row : (s : List Fed) (r r' : Row) → r ≡ r' → HasFeeder r' s → HasFeeder r s
of_row s r r' e f = subst (λ (r : Row). HasFeeder r s) (sym e) f

pub row_at-r-requires : goal.row_at-r-requires
row_at-r-requires c = let a = c.requires in (omega (arith, a.is_row), a.all-bounded _ a.is_row)

pub settle-requires : goal.settle-requires
settle-requires c = let a = c.requires in (
  record {
    is_row = a.is_row;
    all-bounded = a.all-bounded;
    bounded = subst Bounded (sym c.row_at-r.ensures) (a.all-bounded _ a.is_row);
  },
  a.fed-bounded,
  a.fed-ready,
)

pub put_card_row-requires : goal.put_card_row-requires
put_card_row-requires c = c.requires.in-card

pub push-requires : goal.push-requires
push-requires c = let a = c.requires in
    let bounded = subst Bounded (sym c.row_at-r.ensures) (a.all-bounded _ a.is_row) in
    let k = set-bounded _ _ _ _ _ _ bounded (sym c.in-Ok.is ∙ c.settle.ensures) in
    record {
      bounded = bounded;
      settings = subst (CardBounded _) (sym c.from-k.ensures) k;
      feeder = of_row _ _ _ c.row_at-r.ensures a.feeder;
    }

pub returns-in-Err : goal.returns-in-Err
returns-in-Err c = step-unsettled _ _ _ _ _ _ c.row_at-r.ensures refl _
    (sym c.in-Err.is ∙ c.settle.ensures)

pub returns-in-Ok : goal.returns-in-Ok
returns-in-Ok c = step_set _ _ _ _ _ _ c.row_at-r.ensures refl _ _ _ _
    (sym c.in-Ok.is ∙ c.settle.ensures) c.from-k.ensures c.put_card_row.ensures c.push.ensures
