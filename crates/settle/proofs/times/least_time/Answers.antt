-- `settle::times::least_time` meets its contract: D1 from below joins the bound; the least value from there on is tested against the ceiling,
-- and where it is over it, so is every greater one.
use Rattle.std.proofs.Common.{Option, Some, None}
use mathlib.Core.Path.{◌≡◌, sym, ap, ◌∙◌}
use mathlib.Core.Bool.{Bool, true, false, cond, ◌&&◌}
use Prim.Native.Nat.{ℕ, ◌≤◌, ◌<◌, max}
use native.Mathlib.Nat.{le_trans}
use native.Mathlib.Omega.{arith}
use lib.Dec.{leb, eqb}
use borrow.Author.Tests.{eq-eqb, ne_eqb, le-leb, lt-leb}
use Rattle.curve.specs.Curve.{setting_to, time_of}
use Rattle.grid.specs.Grid.{least_on}
use Rattle.grid.proofs.GridLaws.{least_on-least}
use Rattle.layout.specs.declared.Row.{Row}
use Rattle.layout.specs.Range.{Bounded}
use Rattle.settle.specs.Conditions.{within_delays}
use Rattle.settle.specs.Settle.{tried_from, tried_to, least_setting}
use Rattle.settle.proofs.TimeLaws.{tried-to, ceiling-down, within_both, capped-none, capped_at, capped-over}
use Rattle.settle.proofs.times.least_time.Goals as goal
use Rattle.settle.proofs.times.least_time.Goals.{Joined-r-eq3, then-r-eq3, else-r-eq3}

-- the bound of D1 from below is `own`, and the least value from the later bound on is `found`
module _ (r : Row) (m from : ℕ) (motor want own bound low high : ℕ) (found : Option ℕ) (em : motor ≡ cond (eqb r.kind 3) 100 0)
    (ew : want ≡ max r.floor motor) (eo : (x : ℕ) → leb own x ≡ leb want (time_of r.law m x))
    (el : low ≡ tried_from r) (eh : high ≡ tried_to r)
    (eb : bound ≡ max own from) (ef : found ≡ least_on low high 1 (leb bound)) where
  abbrev D1-from : ℕ → Bool
  D1-from x = within_delays r (time_of r.law m x) && leb from x

  found-is : found ≡ least_on (tried_from r) (tried_to r) 1 (leb (max own from))
  found-is = ef ∙ (λ t. least_on (el t) (eh t) 1 (leb (eb t)))

  both : (x : ℕ) → D1-from x ≡ (leb (time_of r.law m x) r.ceiling && leb (max own from) x)
  both = within_both r m from own motor (λ x. eo x ∙ ap (λ (n : ℕ). leb n (time_of r.law m x)) ew) em

  none : found ≡ None → None ≡ least_setting r D1-from
  none e = sym (capped-none _ _ _ _ D1-from (ceiling-down r m from) both (sym found-is ∙ e))

  module _ (x t : ℕ) (e : found ≡ Some x) (et : t ≡ time_of r.law m x) where
    under : t ≤ r.ceiling → Some x ≡ least_setting r D1-from
    under h =
        sym
        (capped_at _ _ _ _ D1-from (ceiling-down r m from) both x (sym found-is ∙ e)
        (le-leb (time_of r.law m x) r.ceiling (omega (arith, et))))

    over : r.ceiling < t → None ≡ least_setting r D1-from
    over h =
        sym
        (capped-over _ _ _ _ D1-from (ceiling-down r m from) both x (sym found-is ∙ e)
        (lt-leb (time_of r.law m x) r.ceiling (omega (arith, et))))

  within-to : Bounded r → (x : ℕ) → found ≡ Some x → x ≤ setting_to r.law
  within-to a x e = le_trans (least_on-least _ _ 1 (omega arith) _ x (sym found-is ∙ e)).available.within (tried-to r a)

-- what is wanted of the row's own time fits
wanted-to :
    (r : Row) (motor : ℕ) → Bounded r → (want : ℕ) → motor ≡ cond (eqb r.kind 3) 100 0 →
    want ≡ max r.floor motor → want ≤ 100000000
wanted-to r motor a want em ew = omega (arith, ew, em, by_kind (eqb r.kind 3), a.floor-to)
  where
    by_kind : (b : Bool) → cond b 100 0 ≤ 100
    by_kind true = omega arith
    by_kind false = omega arith

-- a motor's least time
joined_is : (c : Joined-r-eq3) → c.if-r-eq3.motor ≡ cond (eqb c.args.r.kind 3) 100 0
joined_is c =
    elim c.if-r-eq3.branch [
      | then-r-eq3 w ↦ w.motor-is ∙ rw (eq-eqb _ 3 w.if-r-eq3.true)
      | else-r-eq3 w ↦ w.motor-is ∙ rw (ne_eqb _ 3 w.if-r-eq3.false)
    ]

pub least_setting-own-requires : goal.least_setting-own-requires
least_setting-own-requires c = let a = c.requires in
    (a.1, wanted-to _ _ a.0 _ (joined_is (goal.at.least_setting-own-requires c).Joined-r-eq3) c.max.ensures, a.2)

pub time_of-requires : goal.time_of-requires
time_of-requires c = let a = c.requires in (
  a.1,
  within-to _ _ _ _ _ _ _ _ _ _ (joined_is (goal.at.time_of-requires c).Joined-r-eq3) c.max.ensures c.least_setting-own.ensures
      c.tried_from.ensures c.tried_to.ensures c.max-2.ensures
      c.least_on.ensures a.0 _ c.in-Some.is,
)

pub returns-in-None : goal.returns-in-None
returns-in-None c = none _ _ _ _ _ _ _ _ _ _ (joined_is (goal.at.returns-in-None c).Joined-r-eq3) c.max.ensures c.least_setting-own.ensures
    c.tried_from.ensures c.tried_to.ensures c.max-2.ensures
    c.least_on.ensures c.in-None.is

pub returns-then-time_of-r : goal.returns-then-time_of-r
returns-then-time_of-r c = under _ _ _ _ _ _ _ _ _ _ (joined_is (goal.at.returns-then-time_of-r c).Joined-r-eq3) c.max.ensures c.least_setting-own.ensures
    c.tried_from.ensures c.tried_to.ensures c.max-2.ensures
    c.least_on.ensures _ _ c.in-Some.is c.time_of.ensures c.if-time_of-r.true

pub returns-else-time_of-r : goal.returns-else-time_of-r
returns-else-time_of-r c = over _ _ _ _ _ _ _ _ _ _ (joined_is (goal.at.returns-else-time_of-r c).Joined-r-eq3) c.max.ensures c.least_setting-own.ensures
    c.tried_from.ensures c.tried_to.ensures c.max-2.ensures
    c.least_on.ensures _ _ c.in-Some.is c.time_of.ensures c.if-time_of-r.false
