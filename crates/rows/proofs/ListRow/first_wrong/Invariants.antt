-- `rows::ListRow::first_wrong` meets its contract: the loop has passed fields that are right, so the first that is left is the first of all.
use mathlib.Core.Path.{◌≡◌}
use Prim.Native.Nat.{◌-◌}
use Rattle.fold.specs.First.{first}
use Rattle.rows.specs.Tests.{field_wrong}
use Rattle.rows.proofs.ListRow.first_wrong.Given as goal

abbrev pub invariant-loop-k : goal.invariant-loop-k
invariant-loop-k l = first (field_wrong l.self.list.now l.self.i) l.from (l.to - l.from) ≡ first (field_wrong l.self.list.now l.self.i) l.k (l.to - l.k)
