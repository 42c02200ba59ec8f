-- `settle::is_unbacked` meets its contract: row j is read, and passed over where another row feeds it.
use native.Mathlib.Omega.{arith}
use Rattle.sides.specs.declared.Primary.{Primary}
use mathlib.Core.Path.{◌≡◌, sym, subst}
use mathlib.Core.Bool.{Bool, false, not}
use Prim.Native.Nat.{ℕ, ◌+◌}
use borrow.Author.Tests.{eq-eqb, ne_eqb}
use Rattle.layout.specs.declared.Row.{Row}
use Rattle.layout.specs.Range.{Bounded}
use Rattle.layout.specs.View.{View}
use Rattle.settle.specs.Conditions.{backs_up}
use Rattle.settle.specs.Settle.{unbacked}
use Rattle.settle.proofs.is_unbacked.Goals as goal

-- row j, read as f: fed elsewhere, or judged by P4
module _ (v : View) (i : ℕ) (r : Row) (x : Primary) (j : ℕ) (f : Row) (e : f ≡ v.row j) where
  by-feeder : (f.feeder ≡ i + 1 → ⊥) → false ≡ unbacked v i r x j
  unfolding unbacked
  by-feeder n = rw (← e, ne_eqb f.feeder (i + 1) n)

  by-backup : f.feeder ≡ i + 1 → (b : Bool) → b ≡ backs_up r f x → not b ≡ unbacked v i r x j
  unfolding unbacked
  by-backup g b h = rw (h, ← e, eq-eqb f.feeder (i + 1) g)

pub row_at-f-requires : goal.row_at-f-requires
row_at-f-requires c = let a = c.requires in (omega (arith, a.2), a.0.all-bounded _ a.2)

pub returns-then-f-i : goal.returns-then-f-i
returns-then-f-i c = by-feeder _ _ _ _ _ _ c.row_at-f.ensures c.if-f-i.true

pub backs_up-requires : goal.backs_up-requires
backs_up-requires c = let a = c.requires in
    (a.0.bounded, subst Bounded (sym c.row_at-f.ensures) (a.0.all-bounded _ a.2), a.1)

pub returns : goal.returns
returns c = by-backup _ _ _ _ _ _ c.row_at-f.ensures c.if-f-i.false _ c.backs_up.ensures
