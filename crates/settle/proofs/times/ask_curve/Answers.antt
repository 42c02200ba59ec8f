-- `settle::times::ask_curve` meets its contract: the fed row's time or that it is slow, then row i's M there, then the least setting for that time
-- and the larger step.
use Rattle.std.proofs.Common.{Option}
use mathlib.Core.Path.{◌≡◌, sym, ap, ap₂, ◌∙◌, subst}
use Prim.Native.Nat.{ℕ, ◌+◌, ◌≤◌}
use native.Mathlib.Omega.{arith}
use Rattle.layout.specs.declared.CardRow.{CardRow}
use Rattle.layout.specs.declared.Row.{Row}
use Rattle.layout.specs.Card.{card_row_at}
use Rattle.layout.specs.Range.{Bounded}
use Rattle.layout.specs.View.{view_of}
use Rattle.sides.specs.declared.Primary.{Primary}
use Rattle.settle.specs.Fed.{CardBounded}
use Rattle.settle.specs.Conditions.{margin_between}
use Rattle.settle.specs.Times.{needed_multiple, fed_time_of}
use Rattle.settle.proofs.MarginLaws.{margin_between-to}
use Rattle.settle.proofs.StageLaws.{takes-to, stuck-fed, stuck-own, wanted-from}
use Rattle.settle.proofs.TimeLaws.{needed-to}
use Rattle.settle.proofs.times.ask_curve.Goals as goal
use Rattle.settle.proofs.times.ask_curve.Goals.{After-margin_between}

-- row and card row as they are read: f and s for f' and s'
module _ (f f' : Row) (s s' : CardRow) (ef : f ≡ f') (es : s ≡ s') where
  bounded-read : Bounded f' → CardBounded f' s' → Bounded f × CardBounded f s
  bounded-read b k = (
    subst Bounded (sym ef) b,
    subst (λ (f : Row). CardBounded f s) (sym ef) (subst (CardBounded f') (sym es) k),
  )

  time-read : (t u : Option ℕ) → t ≡ fed_time_of f s → t ≡ u → fed_time_of f' s' ≡ u
  time-read t u e g = sym (ap₂ fed_time_of ef es) ∙ sym e ∙ g

multiple-read : (law : ℕ) (r f f' : Row) (I : Primary) (m : ℕ) → f ≡ f' → m ≡ needed_multiple law r f I → m ≡ needed_multiple law r f' I
multiple-read law r f f' I m ef e = e ∙ ap (λ (f : Row). needed_multiple law r f I) ef

want-read :
    (t : ℕ) (d : ℕ) (f f' : Row) → f ≡ f' → (m : ℕ) → m ≡ margin_between d f.device → t + m ≡ t + margin_between d f'.device
want-read t d f f' ef m e = ap (λ (m : ℕ). t + m) (e ∙ ap (λ (f : Row). margin_between d f.device) ef)

-- the step is at most 500
margin-fits : (c : After-margin_between) → c.margin_between.result ≤ 500
margin-fits c = subst (λ (x : ℕ). x ≤ 500) (sym c.margin_between.ensures) (margin_between-to _ _)

pub row_at-f-requires : goal.row_at-f-requires
row_at-f-requires c = let a = c.requires in
    (omega (arith, a.is-fed-row), a.listed.all-bounded _ a.is-fed-row)

pub fed_time-requires : goal.fed_time-requires
fed_time-requires c = let a = c.requires in
    bounded-read _ _ _ _ c.row_at-f.ensures c.card_row_at.ensures (a.listed.all-bounded _ a.is-fed-row) a.settings-to

pub needed_multiple-m-requires : goal.needed_multiple-m-requires
needed_multiple-m-requires c = let a = c.requires in
    (a.listed.bounded, subst Bounded (sym c.row_at-f.ensures) (a.listed.all-bounded _ a.is-fed-row), a.pickup-to)

pub returns-then-stalls : goal.returns-then-stalls
returns-then-stalls c = stuck-own _ _ _ _ _ _ _ _
    (time-read _ _ _ _ c.row_at-f.ensures c.card_row_at.ensures _ _ c.fed_time.ensures c.in-Some.is)
    (multiple-read _ _ _ _ _ _ c.row_at-f.ensures c.needed_multiple-m.ensures) (sym c.stalls.ensures ∙ c.if-stalls.true)

pub overflow_add-t : goal.overflow_add-t
overflow_add-t c = omega (
  arith,
  margin-fits (goal.at.overflow_add-t c).After-margin_between,
  takes-to _ _ _ c.requires.settings-to
      (time-read _ _ _ _ c.row_at-f.ensures c.card_row_at.ensures _ _ c.fed_time.ensures c.in-Some.is),
)

pub least_setting-requires : goal.least_setting-requires
least_setting-requires c = let to = takes-to _ _ _ c.requires.settings-to
    (time-read _ _ _ _ c.row_at-f.ensures c.card_row_at.ensures _ _ c.fed_time.ensures c.in-Some.is) in (
      subst (λ (c : ℕ). c ≤ 20000) (sym c.needed_multiple-m.ensures) (needed-to _ _ _ _),
      omega (arith, margin-fits (goal.at.least_setting-requires c).After-margin_between),
      sym c.stalls.ensures ∙ c.if-stalls.false,
    )

pub returns-in_default : goal.returns-in_default
returns-in_default c = stuck-fed _ _ _ _ _ _
    (time-read _ _ _ _ c.row_at-f.ensures c.card_row_at.ensures _ _ c.fed_time.ensures c.in_default.is)

pub returns : goal.returns
returns c = let s = c.args in
    wanted-from (view_of s.list.now) (card_row_at s.card.now) s.i s.r s.pickup s.j _ _
    (time-read _ _ _ _ c.row_at-f.ensures c.card_row_at.ensures _ _ c.fed_time.ensures c.in-Some.is)
    (multiple-read _ _ _ _ _ _ c.row_at-f.ensures c.needed_multiple-m.ensures) _ _
    (sym c.stalls.ensures ∙ c.if-stalls.false)
    (want-read _ _ _ _ c.row_at-f.ensures _ c.margin_between.ensures) c.least_setting.ensures
