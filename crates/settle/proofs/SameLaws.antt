-- A row's least settings depend only on its own fields, on the rows that it feeds and on their settings. So rows below that
-- agree settle it alike. Fed rows stand below their feeder.
use Rattle.std.proofs.Common.{Option, Some, None}
use mathlib.Core.Path.{◌≡◌, refl, ap, ◌∙◌}
use mathlib.Core.Bool.{Bool, true, false, not, cond, ◌&&◌, ◌||◌}
use mathlib.Core.Logic.{⊎_elim}
use mathlib.Core.List.{List}
use Prim.Native.Nat.{ℕ, ◌+◌, ◌*◌, ◌<◌}
use native.Mathlib.Omega.{arith}
use lib.Dec.{leb, eqb}
use borrow.Author.Tests.{eqb-true, eqb-false}
use Rattle.fold.specs.First.{first}
use Rattle.fold.specs.Fold.{sum_to, every}
use Rattle.fold.proofs.BoolLaws.{passes-or-fails, and_left}
use Rattle.fold.proofs.FirstLaws.{first-same, first-at}
use Rattle.fold.proofs.FoldLaws.{sum_to-same, every-same}
use Rattle.layout.specs.declared.Row.{Row}
use Rattle.layout.specs.Fields.{at_feeder}
use Rattle.layout.specs.List.{rows, field}
use Rattle.layout.specs.View.{View, view_of, Settings}
use Rattle.rows.specs.InRange.{Feeds}
use Rattle.rows.proofs.InRangeLaws.{feeder-above, feeder-of-last}
use Rattle.sides.specs.declared.Primary.{Primary}
use Rattle.settle.specs.Conditions.{primary_of, fed, each_fed, load_of, others_load, returns_after_self_start, clear_of, backs_up}
use Rattle.settle.specs.Conditions.{time_at, fed_stalls, stalls_at, within_delays, graded_above}
use Rattle.settle.specs.Settle.{meets_lower, unbacked, first_unbacked, least_pickup, candidate, picked, outcome_of, settled}
use Rattle.settle.specs.Settle.{meets_time, stalls_by, first_stalling, stalled_there, stalled, least_setting}

-- what counts only where a test passes is the same where the tests are and what counts is
where-same :
    {A B : Type 0} (op : Bool → A → B) → ((x x' : A) → op false x ≡ op false x') → (b b' : Bool) (x x' : A) →
    b ≡ b' → (b ≡ true → x ≡ x') →
    op b x ≡ op b' x'
where-same op off true b' x x' e h = ap (op true) (h refl) ∙ ap (λ (b : Bool). op b x') e
where-same op off false b' x x' e h = off x x' ∙ ap (λ (b : Bool). op b x') e

-- row i of two views, with the same fields, feeding the same rows with the same fields and settings
module _ (v v' : View) (k k' : Settings) (i : ℕ) (n : v.count ≡ v'.count) (r : v.row i ≡ v'.row i)
    (feeding : (j : ℕ) → j < v.count → fed v i j ≡ fed v' i j)
    (fields : (j : ℕ) → j < v.count → fed v i j ≡ true → v.row j ≡ v'.row j)
    (settings : (j : ℕ) → j < v.count → fed v i j ≡ true → k j ≡ k' j) where
  each_same :
      (ok ok' : ℕ → Bool) → ((j : ℕ) → j < v.count → fed v i j ≡ true → ok j ≡ ok' j) →
      each_fed v i ok ≡ each_fed v' i ok'
  each_same ok ok' h =
      every-same (λ j. not (fed v i j) || ok j) (λ j. not (fed v' i j) || ok' j) v.count
      (λ j b. where-same (λ (t x : Bool). not t || x) (λ x x'. refl) (fed v i j) (fed v' i j) (ok j) (ok' j) (feeding j b) (h j b)) ∙
      ap (λ (m : ℕ). every m (λ j. not (fed v' i j) || ok' j)) n

  others_same : (j : ℕ) → others_load v i j ≡ others_load v' i j
  others_same j =
      sum_to-same _ _ v.count
      (λ x b.
      where-same (λ (t : Bool) (y : ℕ). cond t y 0) (λ y y'. refl) (fed v i x && not (eqb x j)) (fed v' i x && not (eqb x j)) _ _
      (ap (λ (t : Bool). t && not (eqb x j)) (feeding x b))
      (λ t. ap (λ (f : Row). f.work.0 * f.volts) (fields x b (and_left (fed v i x) _ t)))) ∙
      ap (λ (m : ℕ). sum_to m (λ x. cond (fed v' i x && not (eqb x j)) (load_of v' x) 0)) n

  lower-same : (I : Primary) → meets_lower v k i I ≡ meets_lower v' k' i I
  unfolding meets_lower clear_of
  lower-same I =
      λ t.
      returns_after_self_start (r t) I &&
      each_same (λ j. clear_of v k i j I) (λ j. clear_of v' k' i j I)
      (λ j b g.
      λ u.
      leb (11 * ((primary_of (fields j b g u) (settings j b g u).pickup).0 * (fields j b g u).volts + others_same j u)) (10 * I.0 * (r u).volts)) t

  unbacked-same : (I : Primary) → first_unbacked v i (v.row i) I ≡ first_unbacked v' i (v'.row i) I
  unfolding first_unbacked unbacked
  unbacked-same I =
      first-same (unbacked v i (v.row i) I) (unbacked v' i (v'.row i) I) v.count 0
      (λ j b.
      where-same ◌&&◌ (λ x x'. refl) (fed v i j) (fed v' i j) (not (backs_up (v.row i) (v.row j) I))
      (not (backs_up (v'.row i) (v'.row j) I))
      (feeding j (omega arith))
      (λ g. λ t. not (backs_up (r t) (fields j (omega arith) g t) I))) ∙
      ap (first (unbacked v' i (v'.row i) I) 0) n

  time-same : (I : Primary) (x : ℕ) → meets_time v k i (v.row i) I x ≡ meets_time v' k' i (v'.row i) I x
  unfolding meets_time
  time-same I x =
      λ t.
      within_delays (r t) (time_at (r t) (r t) I x) &&
      each_same (λ j. graded_above (v.row i) (v.row j) (k j) I x) (λ j. graded_above (v'.row i) (v'.row j) (k' j) I x)
      (λ j b g. λ u. graded_above (r u) (fields j b g u) (settings j b g u) I x) t

  stalling-same : (I : Primary) → first_stalling v k i (v.row i) I ≡ first_stalling v' k' i (v'.row i) I
  unfolding first_stalling stalls_by
  stalling-same I =
      first-same (stalls_by v k i (v.row i) I) (stalls_by v' k' i (v'.row i) I) v.count 0
      (λ j b.
      where-same ◌&&◌ (λ x x'. refl) (fed v i j) (fed v' i j) (fed_stalls (v.row j) (k j) || stalls_at (v.row i) (v.row j) I)
      (fed_stalls (v'.row j) (k' j) || stalls_at (v'.row i) (v'.row j) I) (feeding j (omega arith))
      (λ g.
      λ t.
      fed_stalls (fields j (omega arith) g t) (settings j (omega arith) g t) || stalls_at (r t) (fields j (omega arith) g t) I)) ∙
      ap (first (stalls_by v' k' i (v'.row i) I) 0) n

  there-same : (I : Primary) (f : Option ℕ) → first_stalling v k i (v.row i) I ≡ f → stalled_there v k i f ≡ stalled_there v' k' i f
  unfolding first_stalling stalls_by stalled_there
  there-same I None e = refl
  there-same I (Some j) e =
      let m = first-at (stalls_by v k i (v.row i) I) v.count 0 j e in
      let g = and_left (fed v i j) _ m.passes in
      λ t. Some (cond (fed_stalls (fields j (omega (arith, m.below)) g t) (settings j (omega (arith, m.below)) g t)) (j + 1) (i + 1))

  stalled-same : (I : Primary) → stalled v k i (v.row i) I ≡ stalled v' k' i (v'.row i) I
  unfolding stalled
  stalled-same I =
      λ t.
      cond (stalls_at (r t) (r t) I) (Some (i + 1))
      ((there-same I (first_stalling v k i (v.row i) I) refl ∙ ap (stalled_there v' k' i) (stalling-same I)) t)

  pub settled_same : settled v k i ≡ settled v' k' i
  unfolding settled candidate
  settled_same =
      λ t.
      outcome_of (r t) (picked (r t) (least_pickup (r t) (λ I. lower-same I t)) (λ I. unbacked-same I t))
      (λ I. stalled-same I t)
      (λ I. least_setting (r t) (λ x. time-same I x t))

pub fed-below : (l : List ℕ) → Feeds l → (i j : ℕ) → j < rows l → fed (view_of l) i j ≡ true → j < i
fed-below l b i j h g =
    let f = eqb-true (field l j at_feeder) (i + 1) g in
    ⊎_elim
    (λ e. absurd (omega (arith, feeder-of-last l b j h (eqb-true (j + 1) (rows l) e))))
    (λ e. omega (arith, (feeder-above l b j h (eqb-false (j + 1) (rows l) e)).0))
    (passes-or-fails (eqb (j + 1) (rows l)))
