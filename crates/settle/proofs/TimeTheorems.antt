-- [02 §3] D1, D2 and CURVE: the tests that the contracts cite pass exactly where the inequalities hold. Read with specs/Inequalities.antt.
--     time-exactly        a setting meets D1, and D2 for each fed row
--     curve-exactly       CURVE names the row whose M, needed and in the order given, is the first at most 1.000
--     runs-all-exactly    otherwise every M that is needed is over 1.000
use Rattle.std.proofs.Common.{Option, Some, None}
use mathlib.Core.Path.{◌≡◌, refl, ◌∙◌, subst}
use mathlib.Core.Bool.{Bool, true, false, cond, ◌||◌}
use mathlib.Core.Logic.{◌↔◌, ⊎_elim}
use Prim.Native.Nat.{ℕ, ◌+◌, ◌<◌}
use native.Mathlib.Omega.{arith}
use Rattle.curve.proofs.CurveLaws.{stalls-exactly, runs-exactly}
use Rattle.fold.proofs.BoolLaws.{and_left, and_right, and_both, or_left, or_right, fails, not-both, passes-or-fails}
use Rattle.fold.proofs.FirstLaws.{first-at, first-is, first-none, first-nothing}
use Rattle.layout.specs.declared.Row.{Row}
use Rattle.layout.specs.View.{View, Settings}
use Rattle.sides.specs.declared.Primary.{Primary}
use Rattle.settle.specs.Conditions.{fed, time_at, multiple_at, fed_multiple, fed_stalls, stalls_at, within_delays, graded_above}
use Rattle.settle.specs.Inequalities.{Feeding, WithinDelays, GradedAbove, RunsAbove, OwnRuns, Runs, FirstSlow, CurveIs}
use Rattle.settle.specs.Inequalities.CurveIs.{OWN, FED, THERE}
use Rattle.settle.specs.Settle.{meets_time, stalls_by, first_stalling, stalled_there, stalled}
use Rattle.settle.proofs.ConditionTheorems.{D1-exactly, D2-exactly, fed-exactly}
use Rattle.settle.proofs.MeetsTheorems.{each_fed_lem}

-- D1 and D2 of the setting x at the pickup I
pub record Timely (v : View) (k : Settings) (i : ℕ) (I : Primary) (x : ℕ) : Type 0 where
  pub D1 : WithinDelays (v.row i) (time_at (v.row i) (v.row i) I x)
  pub D2 : (j : ℕ) → j < v.count → Feeding v i j → GradedAbove (v.row i) (v.row j) (k j) I x

module _ (v : View) (k : Settings) (i : ℕ) (I : Primary) where
  abbrev r : Row
  r = v.row i

  pub time-exactly : (x : ℕ) → (meets_time v k i (v.row i) I x ≡ true) ↔ Timely v k i I x
  unfolding meets_time
  time-exactly x = (
    λ e.
        record {
          D1 = (D1-exactly r (time_at r r I x)).0 (and_left (within_delays r (time_at r r I x)) _ e);
          D2 =
              λ j b f.
              (D2-exactly r (v.row j) (k j) I x).0
              ((each_fed_lem v i (λ j. graded_above r (v.row j) (k j) I x)).0 (and_right (within_delays r (time_at r r I x)) _ e) j b f);
        },
    λ h.
        and_both ((D1-exactly r (time_at r r I x)).1 h.D1)
        ((each_fed_lem v i (λ j. graded_above r (v.row j) (k j) I x)).1 (λ j b f. (D2-exactly r (v.row j) (k j) I x).1 (h.D2 j b f))),
  )

  -- at the near end of row j
  abbrev slow : ℕ → Bool
  slow j = fed_stalls (v.row j) (k j) || stalls_at r (v.row j) I

  neither : (a b : Bool) → a ≡ false → b ≡ false → (a || b) ≡ false
  neither a b e f = rw (e, f)

  above-exactly : (j : ℕ) → (slow j ≡ false) ↔ RunsAbove r (v.row j) (k j) I
  above-exactly j = (
    λ e.
        record {
          fed-runs = (runs-exactly (k j).law (fed_multiple (v.row j) (k j))).0 (or_left (fed_stalls (v.row j) (k j)) _ e);
          own_runs = (runs-exactly r.law (multiple_at r (v.row j) I)).0 (or_right (fed_stalls (v.row j) (k j)) _ e);
        },
    λ h.
        neither (fed_stalls (v.row j) (k j)) (stalls_at r (v.row j) I)
        ((runs-exactly (k j).law (fed_multiple (v.row j) (k j))).1 h.fed-runs)
        ((runs-exactly r.law (multiple_at r (v.row j) I)).1 h.own_runs),
  )

  by-exactly : (j : ℕ) → (stalls_by v k i r I j ≡ false) ↔ (Feeding v i j → RunsAbove r (v.row j) (k j) I)
  unfolding stalls_by
  by-exactly j = (
    λ t f.
        ⊎_elim
        (λ (e : slow j ≡ true). absurd (not-both (and_both ((fed-exactly v i j).1 f) e) t))
        (λ (e : slow j ≡ false). (above-exactly j).0 e)
        (passes-or-fails (slow j)),
    λ h.
        fails (stalls_by v k i r I j)
        (λ t. not-both (and_right (fed v i j) (slow j) t) ((above-exactly j).1 (h ((fed-exactly v i j).0 (and_left (fed v i j) (slow j) t))))),
  )

  -- the first fed row where an M is at most 1.000
  module _ (own : OwnRuns r I) where
    first-slow : (j : ℕ) → first_stalling v k i r I ≡ Some j → FirstSlow v k i I j
    unfolding first_stalling stalls_by
    first-slow j e =
        let f = first-at (stalls_by v k i r I) v.count 0 j e in
        record {
          own = own;
          is_row = omega (arith, f.below);
          feeding = (fed-exactly v i j).0 (and_left (fed v i j) (slow j) f.passes);
          earlier = λ x g. (by-exactly x).0 (f.before x (omega arith) g);
        }

    slow-there : (j : ℕ) → first_stalling v k i r I ≡ Some j → slow j ≡ true
    unfolding first_stalling stalls_by
    slow-there j e = and_right (fed v i j) (slow j) (first-at (stalls_by v k i r I) v.count 0 j e).passes

  slow-first : (j : ℕ) → FirstSlow v k i I j → (RunsAbove r (v.row j) (k j) I → ⊥) → first_stalling v k i r I ≡ Some j
  unfolding first_stalling
  slow-first j u n =
      first-is (stalls_by v k i r I) v.count 0 j (omega arith) (omega (arith, u.is_row))
      (⊎_elim (λ t. t) (λ t. absurd (n ((by-exactly j).0 t u.feeding))) (passes-or-fails (stalls_by v k i r I j)))
      (λ x _ g. (by-exactly x).1 (u.earlier x g))

  none-slow : (first_stalling v k i r I ≡ None) ↔ ((j : ℕ) → j < v.count → Feeding v i j → RunsAbove r (v.row j) (k j) I)
  unfolding first_stalling
  none-slow = (
    λ e j b. (by-exactly j).0 (first-nothing (stalls_by v k i r I) v.count 0 e j (omega arith) (omega arith)),
    λ h. first-none (stalls_by v k i r I) v.count 0 (λ j _ b. (by-exactly j).1 (h j (omega arith))),
  )

  -- what the search comes to
  abbrev Comes : Option ℕ → Type 0
  Comes (Some place) = CurveIs v k i I place
  Comes None = Runs v k i I

  comes : Comes (stalled v k i r I)
  unfolding stalled stalled_there
  comes =
      ⊎_elim
      (λ (e : stalls_at r r I ≡ true).
      rw e (let s = (stalls-exactly r.law (multiple_at r r I)).0 e in OWN s.0 s.1))
      (λ (e : stalls_at r r I ≡ false).
      rw e (by-fed ((runs-exactly r.law (multiple_at r r I)).0 e) (first_stalling v k i r I) refl))
      (passes-or-fails (stalls_at r r I))
    where
      by_row :
          (own : OwnRuns r I) (j : ℕ) → first_stalling v k i r I ≡ Some j → (b : Bool) → fed_stalls (v.row j) (k j) ≡ b →
          CurveIs v k i I (cond b (j + 1) (i + 1))
      by_row own j e true t =
          let s = (stalls-exactly (k j).law (fed_multiple (v.row j) (k j))).0 t in
          FED j (first-slow own j e) s.0 s.1
      by_row own j e false t =
          let s = (stalls-exactly r.law (multiple_at r (v.row j) I)).0
          (⊎_elim (λ u. u) (λ u. absurd (not-both (slow-there own j e) (neither _ _ t u))) (passes-or-fails (stalls_at r (v.row j) I))) in
          THERE j (first-slow own j e) ((runs-exactly (k j).law (fed_multiple (v.row j) (k j))).0 t) s.0 s.1

      by-fed : OwnRuns r I → (f : Option ℕ) → first_stalling v k i r I ≡ f → Comes (stalled_there v k i f)
      by-fed own None e = record { own = own; above = none-slow.0 e }
      by-fed own (Some j) e = by_row own j e (fed_stalls (v.row j) (k j)) refl

  of-own : OwnRuns r I → stalled v k i r I ≡ stalled_there v k i (first_stalling v k i r I)
  unfolding stalled
  of-own own = rw ((runs-exactly r.law (multiple_at r r I)).1 own)

  of-curve : {place : ℕ} → CurveIs v k i I place → stalled v k i r I ≡ Some place
  unfolding stalled stalled_there
  of-curve (OWN a b) = rw ((stalls-exactly r.law (multiple_at r r I)).1 (a, b))
  of-curve (FED j u a b) =
      of-own u.own ∙
      rw (slow-first j u (λ h. omega (arith, h.fed-runs a)), (stalls-exactly (k j).law (fed_multiple (v.row j) (k j))).1 (a, b))
  of-curve (THERE j u g a b) =
      of-own u.own ∙
      rw (slow-first j u (λ h. omega (arith, h.own_runs a)), (runs-exactly (k j).law (fed_multiple (v.row j) (k j))).1 g)

  pub curve-exactly : (place : ℕ) → (stalled v k i (v.row i) I ≡ Some place) ↔ CurveIs v k i I place
  curve-exactly place = (λ e. subst Comes e comes, of-curve)

  pub runs-all-exactly : (stalled v k i (v.row i) I ≡ None) ↔ Runs v k i I
  unfolding stalled_there
  runs-all-exactly = (λ e. subst Comes e comes, λ h. of-own h.own ∙ rw (none-slow.1 h.above))
