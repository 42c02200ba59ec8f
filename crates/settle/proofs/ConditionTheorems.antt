-- The conditions of section 3, one by one: each test that the contracts cite passes exactly where the section's inequality holds.
use mathlib.Core.Path.{◌≡◌, refl}
use mathlib.Core.Bool.{true, false, not, cond, ◌||◌}
use mathlib.Core.Logic.{◌↔◌, ⊎_elim}
use Prim.Native.Nat.{ℕ, ◌+◌, ◌*◌, ◌≤◌}
use native.Mathlib.Omega.{arith}
use lib.Dec.{leb, eqb}
use borrow.Author.Tests.{le-leb, leb-true, eq-eqb, ne_eqb, eqb-true, eqb-false}
use Rattle.fold.proofs.BoolLaws.{passes-or-fails, and_left, and_right, and_both, implies, implied}
use Rattle.layout.specs.declared.CardRow.{CardRow}
use Rattle.layout.specs.declared.Row.{Row}
use Rattle.layout.specs.View.{View, Settings}
use Rattle.sides.specs.declared.Primary.{Primary}
use Rattle.settle.specs.Conditions.{pickup_at, fed, others_load, returns_after_self_start, clear_of, sees_own_zone, backs_up}
use Rattle.settle.specs.Conditions.{time_at, fed_time, within_delays, margin, margin_between, graded_above, stays_clear, sees_near}
use Rattle.settle.specs.Inequalities.{WithinDelays, GradedAbove, SeesNear}

-- a test of two numbers passes exactly where the one is at most the other
at_most : (a b : ℕ) → (leb a b ≡ true) ↔ (a ≤ b)
at_most a b = (leb-true a b, le-leb a b)

pub P1-exactly :
    (r : Row) (I : Primary) → (returns_after_self_start r I ≡ true) ↔ (11 * r.selfstart * r.work.0 ≤ 10 * I.0 * r.returnfactor)
unfolding returns_after_self_start
P1-exactly r I = at_most (11 * r.selfstart * r.work.0) (10 * I.0 * r.returnfactor)

pub P2-exactly :
    (v : View) (k : Settings) (i j : ℕ) (I : Primary) → (clear_of v k i j I ≡ true) ↔
    (11 * ((pickup_at v k j).0 * (v.row j).volts + others_load v i j) ≤ 10 * I.0 * (v.row i).volts)
unfolding clear_of
P2-exactly v k i j I = at_most (11 * ((pickup_at v k j).0 * (v.row j).volts + others_load v i j)) (10 * I.0 * (v.row i).volts)

pub P3-exactly : (r : Row) (I : Primary) → (sees_own_zone r I ≡ true) ↔ (15 * I.0 ≤ 10 * r.far.0)
unfolding sees_own_zone
P3-exactly r I = at_most (15 * I.0) (10 * r.far.0)

pub P4-exactly :
    (r f : Row) (I : Primary) → (backs_up r f I ≡ true) ↔ (f.backed ≡ 1 → 12 * I.0 * r.volts ≤ 10 * f.far.0 * f.volts)
unfolding backs_up
P4-exactly r f I = (
  λ t b. leb-true (12 * I.0 * r.volts) (10 * f.far.0 * f.volts) (implies (eqb f.backed 1) _ t (eq-eqb f.backed 1 b)),
  λ h. implied (eqb f.backed 1) _ (λ t. le-leb (12 * I.0 * r.volts) (10 * f.far.0 * f.volts) (h (eqb-true f.backed 1 t))),
)

pub D1-exactly : (r : Row) (t : ℕ) → (within_delays r t ≡ true) ↔ WithinDelays r t
unfolding within_delays
D1-exactly r t = (
  λ e.
      let up = and_right (leb r.floor t) _ e in
      let motor = and_right (leb t r.ceiling) (not (eqb r.kind 3) || leb 100 t) up in (
        leb-true r.floor t (and_left (leb r.floor t) _ e),
        leb-true t r.ceiling (and_left (leb t r.ceiling) _ up),
        λ k. leb-true 100 t (implies (eqb r.kind 3) (leb 100 t) motor (eq-eqb r.kind 3 k)),
      ),
  λ h.
      and_both (le-leb r.floor t h.0)
      (and_both (le-leb t r.ceiling h.1) (implied (eqb r.kind 3) (leb 100 t) (λ k. le-leb 100 t (h.2 (eqb-true r.kind 3 k))))),
)

-- [02 §5] to keep the larger of the two rows' steps is to keep both
pub D2-exactly : (r f : Row) (s : CardRow) (I : Primary) (x : ℕ) → (graded_above r f s I x ≡ true) ↔ GradedAbove r f s I x
unfolding graded_above margin_between
D2-exactly r f s I x = (
  λ e.
      let later = leb-true (fed_time f s + margin_between r.device f.device) (time_at r f I x) e in
      record { fed-step = omega arith; own-step = omega arith },
  λ h. le-leb (fed_time f s + margin_between r.device f.device) (time_at r f I x) (omega (arith, h.fed-step, h.own-step)),
)

-- the step is 300, 500 or 200 for device 1, 2 or 3
pub steps : (margin 1 ≡ 300) × (margin 2 ≡ 500) × (margin 3 ≡ 200)
unfolding margin
steps = (refl, refl, refl)

pub clear-exactly : (r : Row) (C : Primary) → (stays_clear r C ≡ true) ↔ (r.factor * r.clear.0 ≤ 1000 * C.0)
unfolding stays_clear
clear-exactly r C = at_most (r.factor * r.clear.0) (1000 * C.0)

pub near-exactly : (r : Row) (C : Primary) → (sees_near r C ≡ true) ↔ SeesNear r C
unfolding sees_near
near-exactly r C = (to, from)
  where
    to : leb (cond (eqb r.kind 1) 12 20 * C.0) (10 * r.near.0) ≡ true → SeesNear r C
    to t =
        record {
          line = λ e. leb-true (12 * C.0) (10 * r.near.0) (rw (eq-eqb r.kind 1 e) at t);
          other = λ n. leb-true (20 * C.0) (10 * r.near.0) (rw (ne_eqb r.kind 1 n) at t);
        }

    from : SeesNear r C → leb (cond (eqb r.kind 1) 12 20 * C.0) (10 * r.near.0) ≡ true
    from s =
        ⊎_elim
        (λ (e : eqb r.kind 1 ≡ true). rw e (le-leb (12 * C.0) (10 * r.near.0) (s.line (eqb-true r.kind 1 e))))
        (λ (e : eqb r.kind 1 ≡ false). rw e (le-leb (20 * C.0) (10 * r.near.0) (s.other (eqb-false r.kind 1 e))))
        (passes-or-fails (eqb r.kind 1))

pub fed-exactly : (v : View) (i j : ℕ) → (fed v i j ≡ true) ↔ ((v.row j).feeder ≡ i + 1)
fed-exactly v i j = (eqb-true (v.row j).feeder (i + 1), eq-eqb (v.row j).feeder (i + 1))
