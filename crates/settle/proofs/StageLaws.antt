-- [02 §3] The second stage of settling a row, one law for each way that its functions end.
use Rattle.settle.specs.declared.Stalled.{Stalled}
use Rattle.answers.specs.declared.Reason.TheVariants.{Curve, Delay}
use Rattle.std.proofs.Common.{Option, Some, None, Ok, Err, ok_or}
use mathlib.Core.Path.{◌≡◌, refl, sym, ap, ap₂, ◌∙◌}
use mathlib.Core.Bool.{Bool, true, false, cond, ◌&&◌}
use Prim.Native.Nat.{ℕ, ◌+◌, ◌≤◌}
use native.Mathlib.Omega.{arith}
use lib.Dec.{leb}
use Rattle.curve.specs.Curve.{stalls, setting_to, time_of}
use Rattle.curve.proofs.CurveLaws.{time-to, definite-runs, definite-time, definite-setting}
use Rattle.fold.proofs.BoolLaws.{not-both, zero-not-one}
use Rattle.layout.specs.declared.CardRow.{CardRow}
use Rattle.layout.specs.declared.Row.{Row}
use Rattle.layout.specs.View.{View, Settings}
use Rattle.sides.specs.declared.Primary.{Primary}
use Rattle.settle.specs.Conditions.{primary_of, multiple_at, fed_multiple, fed_time, fed_stalls, stalls_at, setting_of}
use Rattle.settle.specs.Conditions.{within_delays, margin_between, graded_above}
use Rattle.settle.specs.Fed.{CardBounded}
use Rattle.settle.specs.Settle.{first_stalling, stalled_there, stalled, meets_time, least_setting}
use Rattle.settle.specs.Times.{needed_multiple, fed_time_of, timed_by, WantedIs, WalkIs}
use Rattle.settle.proofs.TimeLaws.{needed-stalls, needed-time, setting-definite}

-- a fed row f with the card row s: its M is m
module _ (f : Row) (s : CardRow) (I : Primary) (m : ℕ) (e_I : I ≡ primary_of f s.pickup) (em : m ≡ needed_multiple s.law f f I) where
  stalls-is : stalls s.law m ≡ fed_stalls f s
  stalls-is =
      ap (stalls s.law) em ∙ needed-stalls s.law f f I ∙ ap (λ (I : Primary). stalls s.law (multiple_at f f I)) e_I

  pub fed-slow : stalls s.law m ≡ true → None ≡ fed_time_of f s
  unfolding fed_time_of
  fed-slow e = rw (sym stalls-is ∙ e)

  pub fed-takes : (x t : ℕ) → stalls s.law m ≡ false → x ≡ setting_of s → t ≡ time_of s.law m x → Some t ≡ fed_time_of f s
  unfolding fed_time_of
  fed-takes x t e ex et = rw (sym stalls-is ∙ e) (ap Some takes)
    where
      takes : t ≡ fed_time f s
      takes =
          et ∙ ap₂ (time_of s.law) em ex ∙ needed-time s.law f f I (setting_of s) ∙
          ap (λ (I : Primary). time_of s.law (multiple_at f f I) (setting_of s)) e_I

-- what its time being this or that says
module _ (f : Row) (s : CardRow) where
  slow-means : fed_time_of f s ≡ None → fed_stalls f s ≡ true
  unfolding fed_time_of
  slow-means e = by_cases (fed_stalls f s) e
    where
      by_cases : (b : Bool) → cond b None (Some (fed_time f s)) ≡ None → b ≡ true
      by_cases true e = refl
      by_cases false e = absurd (zero-not-one cc)

  takes-means : (t : ℕ) → fed_time_of f s ≡ Some t → (fed_stalls f s ≡ false) × (t ≡ fed_time f s)
  unfolding fed_time_of
  takes-means t e = by_cases (fed_stalls f s) e
    where
      by_cases : (b : Bool) → cond b None (Some (fed_time f s)) ≡ Some t → (b ≡ false) × (t ≡ fed_time f s)
      by_cases true e = absurd (zero-not-one cc)
      by_cases false e = let q : fed_time f s ≡ t = cc in (refl, sym q)

  pub takes-to : (t : ℕ) → CardBounded f s → fed_time_of f s ≡ Some t → t ≤ 60000000
  takes-to t b e = omega (arith, (takes-means t e).1, time-to s.law (fed_multiple f s) (setting_of s) b.setting-to)

-- what fed row j asks of row i, by its fields r and at its pickup I
module _ (v : View) (k : Settings) (i : ℕ) (r : Row) (I : Primary) (j : ℕ) where
  pub stuck-fed : fed_time_of (v.row j) (k j) ≡ None → WantedIs v k i r I j (Err (record { 0 = j + 1 }))
  unfolding stalled_there
  stuck-fed e =
      let s = slow-means (v.row j) (k j) e in
      (ap (λ (b : Bool). Some (cond b (j + 1) (i + 1))) s, λ n. absurd (not-both s n))

  module _ (t m : ℕ) (e : fed_time_of (v.row j) (k j) ≡ Some t) (em : m ≡ needed_multiple r.law r (v.row j) I) where
    runs : fed_stalls (v.row j) (k j) ≡ false
    runs = (takes-means (v.row j) (k j) t e).0

    own_is : stalls r.law m ≡ stalls_at r (v.row j) I
    own_is = ap (stalls r.law) em ∙ needed-stalls r.law r (v.row j) I

    pub stuck-own : stalls r.law m ≡ true → WantedIs v k i r I j (Err (record { 0 = i + 1 }))
    unfolding stalled_there
    stuck-own s = (ap (λ (b : Bool). Some (cond b (j + 1) (i + 1))) runs, λ _. sym own_is ∙ s)

    pub wanted-from :
        (want b : ℕ) → stalls r.law m ≡ false → want ≡ t + margin_between r.device (v.row j).device →
        ((x : ℕ) → leb b x ≡ leb want (time_of r.law m x)) → WantedIs v k i r I j (Ok b)
    unfolding graded_above
    wanted-from want b s ew bound = (
      runs,
      sym own_is ∙ s,
      λ x.
          bound x ∙
          ap₂ leb (ew ∙ ap (λ (t : ℕ). t + margin_between r.device (v.row j).device) (takes-means (v.row j) (k j) t e).1)
          (ap (λ (m : ℕ). time_of r.law m x) em ∙ needed-time r.law r (v.row j) I x),
    )

-- between definite rows no M is needed: the time is the delay
module _ (v : View) (k : Settings) (i : ℕ) (r : Row) (I : Primary) (j : ℕ) (er : r.law ≡ 0) (es : (k j).law ≡ 0) where
  pub wanted-definite : (b : ℕ) → b ≡ (k j).delay + margin_between r.device (v.row j).device → WantedIs v k i r I j (Ok b)
  unfolding graded_above
  wanted-definite b e = (
    ap (λ (law : ℕ). stalls law (fed_multiple (v.row j) (k j))) es ∙ definite-runs (fed_multiple (v.row j) (k j)),
    ap (λ (law : ℕ). stalls law (multiple_at r (v.row j) I)) er ∙ definite-runs (multiple_at r (v.row j) I),
    λ x.
        ap₂ leb (e ∙ ap (λ (t : ℕ). t + margin_between r.device (v.row j).device) (sym takes))
        (sym (ap (λ (law : ℕ). time_of law (multiple_at r (v.row j) I) x) er ∙ definite-time (multiple_at r (v.row j) I) x)),
  )
    where
      takes : fed_time (v.row j) (k j) ≡ (k j).delay
      takes =
          ap (λ (law : ℕ). time_of law (fed_multiple (v.row j) (k j)) (setting_of (k j))) es ∙
          definite-time (fed_multiple (v.row j) (k j)) (setting_of (k j)) ∙ setting-definite (k j) es

-- a definite delay fits
pub definite-to : (f : Row) (s : CardRow) → CardBounded f s → s.law ≡ 0 → s.delay ≤ 100000
definite-to f s b e =
    omega (arith, setting-definite s e, b.setting-to, ap setting_to e, definite-setting.1)

-- row i's own M is m
module _ (v : View) (k : Settings) (i : ℕ) (r : Row) (I : Primary) (m : ℕ) (em : m ≡ needed_multiple r.law r r I) where
  abbrev comes : Option ℕ → Option ℕ → Type 0
  comes a b = (stalled v k i r I ≡ a) × (least_setting r (meets_time v k i r I) ≡ b)

  own-stalls : stalls r.law m ≡ stalls_at r r I
  own-stalls = ap (stalls r.law) em ∙ needed-stalls r.law r r I

  by-own : (b : Bool) → stalls r.law m ≡ b → stalled v k i r I ≡ cond b (Some (i + 1)) (stalled_there v k i (first_stalling v k i r I))
  unfolding stalled
  by-own b e = ap (λ (b : Bool). cond b (Some (i + 1)) (stalled_there v k i (first_stalling v k i r I))) (sym own-stalls ∙ e)

  pub row-stalls : stalls r.law m ≡ true → Err (Curve (i + 1)) ≡ timed_by (stalled v k i r I) (least_setting r (meets_time v k i r I))
  unfolding timed_by
  row-stalls e = rw (by-own true e)

  module _ (e : stalls r.law m ≡ false) where
    pub row-stuck :
        (s : Stalled) → WalkIs v k i r I (Err s) → Err (Curve s.0) ≡ timed_by (stalled v k i r I) (least_setting r (meets_time v k i r I))
    unfolding timed_by
    row-stuck s w = rw (by-own false e ∙ w)

    module _ (b : ℕ) (w : WalkIs v k i r I (Ok b)) where
      runs-all : stalled v k i r I ≡ None
      unfolding stalled_there
      runs-all = by-own false e ∙ ap (stalled_there v k i) w.0

      -- D1 and D2, from the bound on
      setting-from : least_setting r (λ x. within_delays r (time_of r.law m x) && leb b x) ≡ least_setting r (meets_time v k i r I)
      unfolding meets_time
      setting-from =
          λ t.
          least_setting r
          (λ x. within_delays r ((ap (λ (m : ℕ). time_of r.law m x) em ∙ needed-time r.law r r I x) t) && w.1 x t)

      pub row-timed :
          (o : Option ℕ) → o ≡ least_setting r (λ x. within_delays r (time_of r.law m x) && leb b x) →
          ok_or o Delay ≡ timed_by (stalled v k i r I) (least_setting r (meets_time v k i r I))
      unfolding timed_by
      row-timed o e = rw (runs-all, ← setting-from, e)

      pub row-none :
          least_setting r (λ x. within_delays r (time_of r.law m x) && leb b x) ≡ None →
          Err Delay ≡ timed_by (stalled v k i r I) (least_setting r (meets_time v k i r I))
      row-none g = row-timed None (sym g)

      pub row-set :
          (x : ℕ) → least_setting r (λ x. within_delays r (time_of r.law m x) && leb b x) ≡ Some x →
          Ok x ≡ timed_by (stalled v k i r I) (least_setting r (meets_time v k i r I))
      row-set x g = row-timed (Some x) (sym g)
