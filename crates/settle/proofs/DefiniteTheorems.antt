-- [02 §3] Between definite rows D1 and D2 are section 3's lines on the delay as they stood, with the larger step of [02 §5]: a definite row's
-- time is its delay, whatever its M, so that pickups and near-end currents do not matter, and no M is needed.
--     D1-definite, D2-definite    the two lines
--     no-curve-definite           CURVE is not given
--     definite-time-met           what meets D1 and D2 meets them at any pickups
use Rattle.std.proofs.Common.{None}
use mathlib.Core.Path.{◌≡◌, sym, ap, ◌∙◌, subst}
use mathlib.Core.Bool.{true}
use mathlib.Core.Logic.{◌↔◌}
use Prim.Native.Nat.{ℕ, ◌+◌, ◌≤◌, ◌<◌}
use native.Mathlib.Omega.{arith}
use Rattle.curve.specs.Curve.{time_of}
use Rattle.curve.proofs.CurveLaws.{definite-time}
use Rattle.layout.specs.declared.CardRow.{CardRow}
use Rattle.layout.specs.declared.Row.{Row}
use Rattle.layout.specs.View.{View, Settings}
use Rattle.sides.specs.declared.Primary.{Primary}
use Rattle.settle.specs.Conditions.{multiple_at, time_at, setting_of, fed_multiple, fed_time, within_delays, margin, graded_above}
use Rattle.settle.specs.Inequalities.{Feeding, Runs, TimeMet}
use Rattle.settle.specs.Settle.{stalled}
use Rattle.settle.proofs.ConditionTheorems.{D1-exactly, D2-exactly}
use Rattle.settle.proofs.TimeLaws.{no-curve}
use Rattle.settle.proofs.TimeTheorems.{runs-all-exactly}

-- the time is the delay: of the row itself at any near end, of a fed row by its card row
delay-is : (law m t : ℕ) → law ≡ 0 → time_of law m t ≡ t
delay-is law m t e = ap (λ (law : ℕ). time_of law m t) e ∙ definite-time m t

delay-set : (s : CardRow) → s.law ≡ 0 → setting_of s ≡ s.delay
unfolding setting_of
delay-set s e = rw (no-curve s.law e)

pub definite-row : (r f : Row) (I : Primary) (t : ℕ) → r.law ≡ 0 → time_at r f I t ≡ t
definite-row r f I t e = delay-is r.law (multiple_at r f I) t e

pub definite-fed : (f : Row) (s : CardRow) → s.law ≡ 0 → fed_time f s ≡ s.delay
definite-fed f s e = delay-is s.law (fed_multiple f s) (setting_of s) e ∙ delay-set s e

-- D1: "the delay is between floor and ceiling, and at least 100 for a motor"
pub D1-definite :
    (r : Row) (I : Primary) (t : ℕ) → r.law ≡ 0 →
    (within_delays r (time_at r r I t) ≡ true) ↔ ((r.floor ≤ t) × (t ≤ r.ceiling) × (r.kind ≡ 3 → 100 ≤ t))
D1-definite r I t e =
    subst (λ (u : ℕ). (within_delays r u ≡ true) ↔ ((r.floor ≤ t) × (t ≤ r.ceiling) × (r.kind ≡ 3 → 100 ≤ t)))
    (sym (definite-row r r I t e)) (D1-exactly r t)

-- D2: "for each fed row, the delay is at least that row's delay plus" each of the two rows' steps
pub D2-definite :
    (r f : Row) (s : CardRow) (I : Primary) (t : ℕ) → r.law ≡ 0 → s.law ≡ 0 →
    (graded_above r f s I t ≡ true) ↔ ((s.delay + margin f.device ≤ t) × (s.delay + margin r.device ≤ t))
D2-definite r f s I t e g =
    let own = definite-row r f I t e in
    let below = definite-fed f s g in (
      λ h. let d = (D2-exactly r f s I t).0 h in (omega (arith, d.fed-step), omega (arith, d.own-step)),
      λ h. (D2-exactly r f s I t).1 (record { fed-step = omega (arith, h.0); own-step = omega (arith, h.1) }),
    )

-- where row i and every row that it feeds are definite, these by their card rows, no M is needed
module _ (v : View) (i : ℕ) (own : (v.row i).law ≡ 0) where
  runs-all : (k : Settings) (I : Primary) → ((j : ℕ) → j < v.count → Feeding v i j → (k j).law ≡ 0) → Runs v k i I
  runs-all k I below =
      record {
        own = λ n. absurd (n own);
        above = λ j b f. record { fed-runs = λ n. absurd (n (below j b f)); own_runs = λ n. absurd (n own) };
      }

  pub no-curve-definite :
      (k : Settings) (I : Primary) → ((j : ℕ) → j < v.count → Feeding v i j → (k j).law ≡ 0) → stalled v k i (v.row i) I ≡ None
  no-curve-definite k I below = (runs-all-exactly v k i I).1 (runs-all k I below)

  -- and pickups do not matter, neither the row's own nor those below
  pub definite-time-met :
      (k k' : Settings) (I I' : Primary) (x : ℕ) → ((j : ℕ) → j < v.count → Feeding v i j → (k j).law ≡ 0) →
      ((j : ℕ) → j < v.count → Feeding v i j → (k' j).law ≡ 0) →
      ((j : ℕ) → j < v.count → Feeding v i j → (k j).delay ≡ (k' j).delay) → TimeMet v k i I x → TimeMet v k' i I' x
  definite-time-met k k' I I' x below below' same m =
      let r = v.row i in
      record {
        offered = m.offered;
        runs = runs-all k' I' below';
        D1 =
            let h = (D1-definite r I x own).0 ((D1-exactly r (time_at r r I x)).1 m.D1) in
            (D1-exactly r (time_at r r I' x)).0 ((D1-definite r I' x own).1 h);
        D2 =
            λ j b f.
            let h = (D2-definite r (v.row j) (k j) I x own (below j b f)).0 ((D2-exactly r (v.row j) (k j) I x).1 (m.D2 j b f)) in
            let e = same j b f in
            (D2-exactly r (v.row j) (k' j) I' x).0
            ((D2-definite r (v.row j) (k' j) I' x own (below' j b f)).1 (omega (arith, h.0), omega (arith, h.1)));
      }
