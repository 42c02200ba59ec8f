-- What meets the conditions still does where the rows below have a lower pickup or, at the same pickups, a lesser setting.
use mathlib.Core.Path.{◌≡◌, sym, ap, ◌∙◌, subst}
use Prim.Native.Nat.{ℕ, ◌≤◌, ◌<◌}
use native.Mathlib.Nat.{mul-le-mul_right, le_of_eq}
use native.Mathlib.Omega.{arith}
use Rattle.layout.specs.View.{View, Settings}
use Rattle.sides.specs.declared.Primary.{Primary}
use Rattle.curve.specs.Curve.{time_of}
use Rattle.curve.proofs.CurveLaws.{time-rises}
use Rattle.layout.specs.declared.Row.{Row}
use Rattle.settle.specs.Conditions.{primary_of, pickup_at, multiple_at, setting_of, fed_multiple, fed_time}
use Rattle.settle.specs.Inequalities.{Feeding, LowerMet, PickupMet, RunsAbove, Runs, CurveIs, TimeMet}
use Rattle.settle.specs.Inequalities.CurveIs.{OWN, FED, THERE}

-- a lower pickup below asks no more
module _ (v : View) (k k' : Settings) (i : ℕ) where
  lower-down :
      (I : Primary) → ((j : ℕ) → j < v.count → Feeding v i j → (pickup_at v k j).0 ≤ (pickup_at v k' j).0) → LowerMet v k' i I → LowerMet v k i I
  lower-down I u m =
      record { P1 = m.P1; P2 = λ j h f. let q = mul-le-mul_right (v.row j).volts (u j h f) in omega (arith, m.P2 j h f) }

  pub pickup-down :
      (I : Primary) → ((j : ℕ) → j < v.count → Feeding v i j → (pickup_at v k j).0 ≤ (pickup_at v k' j).0) → PickupMet v k' i I → PickupMet v k i I
  pickup-down I u m = record { P1-P2 = lower-down I u m.P1-P2; P3 = m.P3; P4 = m.P4 }

-- a fed row j in k under the same row in k': the same pickup and law, and a setting that is no greater
pub record Under (v : View) (k k' : Settings) (j : ℕ) : Type 0 where
  pub same-pickup : pickup_at v k j ≡ pickup_at v k' j
  pub same-law : (k j).law ≡ (k' j).law
  pub setting-to : setting_of (k j) ≤ setting_of (k' j)

pub under_same : (v : View) (k k' : Settings) (j : ℕ) → k j ≡ k' j → Under v k k' j
under_same v k k' j e =
    record {
      same-pickup = λ t. primary_of (v.row j) (e t).pickup;
      same-law = λ t. (e t).law;
      setting-to = le_of_eq (ap setting_of e);
    }

module _ (v : View) (k k' : Settings) (j : ℕ) (u : Under v k k' j) where
  same-multiple : fed_multiple (v.row j) (k j) ≡ fed_multiple (v.row j) (k' j)
  same-multiple = ap (multiple_at (v.row j) (v.row j)) u.same-pickup

  fed-time-down : fed_time (v.row j) (k j) ≤ fed_time (v.row j) (k' j)
  fed-time-down =
      subst (λ (t : ℕ). t ≤ fed_time (v.row j) (k' j)) (λ t. time_of (sym u.same-law t) (sym same-multiple t) (setting_of (k j)))
      (time-rises (k' j).law (fed_multiple (v.row j) (k' j)) (setting_of (k j)) (setting_of (k' j)) u.setting-to)

  runs-alike : (r : Row) (I : Primary) → RunsAbove r (v.row j) (k' j) I → RunsAbove r (v.row j) (k j) I
  runs-alike r I h =
      record {
        fed-runs = λ n. subst (λ (m : ℕ). 1000 < m) (sym same-multiple) (h.fed-runs (λ z. n (u.same-law ∙ z)));
        own_runs = h.own_runs;
      }

-- what meets D1 and D2 above some settings meets them above lesser ones
pub time-down :
    (v : View) (k k' : Settings) (i : ℕ) (I : Primary) (x : ℕ) → ((j : ℕ) → j < v.count → Feeding v i j → Under v k k' j) →
    TimeMet v k' i I x → TimeMet v k i I x
time-down v k k' i I x u m =
    record {
      offered = m.offered;
      runs =
          record {
            own = m.runs.own;
            above = λ j h f. runs-alike v k k' j (u j h f) (v.row i) I (m.runs.above j h f);
          };
      D1 = m.D1;
      D2 =
          λ j h f.
          let below = fed-time-down v k k' j (u j h f) in
          let d = m.D2 j h f in
          record { fed-step = omega (arith, d.fed-step); own-step = omega (arith, d.own-step) };
    }

-- where an M that is needed is at most 1.000, not every one is over it
pub curve-not-runs : (v : View) (k : Settings) (i : ℕ) (I : Primary) {place : ℕ} → CurveIs v k i I place → Runs v k i I → ⊥
curve-not-runs v k i I (OWN a b) r = omega (arith, r.own a)
curve-not-runs v k i I (FED j u a b) r = omega (arith, (r.above j u.is_row u.feeding).fed-runs a)
curve-not-runs v k i I (THERE j u g a b) r = omega (arith, (r.above j u.is_row u.feeding).own_runs a)
