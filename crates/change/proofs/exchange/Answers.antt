-- `exchange` puts the new row in and works out the rows that it reaches; on a refusal the row that it kept aside goes back.
use mathlib.Core.Path.{refl, sym, ◌∙◌}
use native.Mathlib.Omega.{arith}
use lib.ListN.{replicate}
use Rattle.layout.specs.Counts.{field_count}
use Rattle.change.proofs.EntryLaws.{exchange-done, exchange-refused, as-refused, as-done}
use Rattle.change.proofs.exchange.Goals as goal

pub returns-then-is_err : goal.returns-then-is_err
returns-then-is_err c = let a = c.requires in
    let e = as-refused c.rework-far.result (sym c.is_err.ensures.value ∙ c.if-is_err.true) in
    rw e.1
    (exchange-refused _ _ _ _ _ c.put_list-2.ensures _ _ c.rework-far.ensures _ (replicate field_count 0) _ _ e.1
    (record { in_list = omega (arith, a.rework.is_row); row-length = a.row-length }) refl c.put_list.ensures c.put_list-then-is_err.ensures)

pub returns-else-is_err : goal.returns-else-is_err
returns-else-is_err c = let e = as-done c.rework-far.result (sym c.is_err.ensures.value ∙ c.if-is_err.false) in
    exchange-done _ _ _ _ _ c.put_list-2.ensures _ _ c.rework-far.ensures _ e.1
