-- `settle::times::ask` meets its contract: between definite rows the least setting is the fed row's delay and the larger step.
use mathlib.Core.Path.{◌≡◌, sym, ap, ap₂, ◌∙◌}
use Prim.Native.Nat.{ℕ, ◌+◌}
use native.Mathlib.Omega.{arith}
use lib.Dec.{eqb}
use mathlib.Core.Bool.{Bool, true, ◌&&◌}
use borrow.Author.Tests.{eqb-true}
use Rattle.fold.proofs.BoolLaws.{and_left, and_right}
use Rattle.layout.specs.declared.CardRow.{CardRow}
use Rattle.layout.specs.Card.{card_row_at}
use Rattle.layout.specs.View.{view_of}
use Rattle.settle.specs.Conditions.{margin_between}
use Rattle.settle.proofs.MarginLaws.{margin_between-to}
use Rattle.settle.proofs.StageLaws.{wanted-definite, definite-to}
use Rattle.settle.proofs.times.ask.Goals as goal

-- two tests that pass together: both laws are definite
module _ (r f : ℕ) (b : Bool) (e : b ≡ (eqb r 0 && eqb f 0)) (h : b ≡ true) where
  own-definite : r ≡ 0
  own-definite = eqb-true r 0 (and_left (eqb r 0) _ (sym e ∙ h))

  fed-definite : f ≡ 0
  fed-definite = eqb-true f 0 (and_right (eqb r 0) _ (sym e ∙ h))

pub field_at-requires : goal.field_at-requires
field_at-requires c = let a = c.requires in omega (arith, a.is-fed-row)

pub overflow_add-result : goal.overflow_add-result
overflow_add-result c = omega (
  arith,
  ap (λ (s : CardRow). s.delay) c.card_row_at-s.ensures,
  definite-to _ _ c.requires.settings-to
      (sym (ap (λ (s : CardRow). s.law) c.card_row_at-s.ensures) ∙ fed-definite _ _ _ c.both_definite.ensures c.if-both_definite.true),
  c.margin_between.ensures,
  margin_between-to c.args.r.device c.field_at.result,
)

pub returns-then-both_definite : goal.returns-then-both_definite
returns-then-both_definite c = let s = c.args in
    wanted-definite (view_of s.list.now) (card_row_at s.card.now) s.i s.r s.pickup s.j
    (own-definite _ _ _ c.both_definite.ensures c.if-both_definite.true)
    (sym (ap (λ (s : CardRow). s.law) c.card_row_at-s.ensures) ∙ fed-definite _ _ _ c.both_definite.ensures c.if-both_definite.true) _
    (ap₂ ◌+◌ (ap (λ (s : CardRow). s.delay) c.card_row_at-s.ensures)
    (c.margin_between.ensures ∙ ap (margin_between s.r.device) c.field_at.ensures))
