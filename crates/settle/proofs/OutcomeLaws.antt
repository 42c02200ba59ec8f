-- The cutoff, a row's pickup, its second stage and its outcome, one law for each way that they end.
use Rattle.answers.specs.declared.Reason.{Reason}
use Rattle.settle.specs.Outcomes.{Picked, Settled}
use Rattle.std.proofs.Common.{Option, Some, None, Result, Ok, Err}
use mathlib.Core.Path.{◌≡◌, refl, sym, ap, ◌∙◌}
use mathlib.Core.Bool.{Bool, true, false, cond}
use Prim.Native.Nat.{ℕ, ◌*◌, ◌≤◌, ◌<◌}
use native.Mathlib.Nat.{le_trans}
use native.Mathlib.Omega.{arith}
use lib.Dec.{leb, eqb}
use Rattle.fold.proofs.BoolLaws.{zero-not-one}
use Rattle.fold.proofs.FirstLaws.{first_below}
use Rattle.answers.specs.declared.Cause.{Cause}
use Rattle.answers.specs.declared.Cause.TheVariants.{Range, OwnZone}
use Rattle.answers.specs.declared.Reason.TheVariants.{Pickup, Curve, Delay}
use Rattle.grid.specs.Grid.{least_on}
use Rattle.grid.proofs.GridLaws.{least_on-least}
use Rattle.layout.specs.declared.Row.{Row}
use Rattle.layout.specs.Range.{Bounded}
use Rattle.layout.specs.View.{View, Settings}
use Rattle.settle.specs.declared.Cutoff.TheVariants.{Fitted, NotFitted}
use Rattle.settle.specs.declared.Fed.{Fed}
use Rattle.settle.specs.declared.Outcome.{Outcome}
use Rattle.sides.specs.declared.Primary.{Primary}
use Rattle.sides.specs.declared.Secondary.{Secondary}
use Rattle.sides.specs.Sides.{keyed, setting_most}
use Rattle.settle.specs.Conditions.{primary_of, sees_own_zone, stays_clear, sees_near}
use Rattle.settle.specs.Fed.{backs_up_all, unbacked_by, lower_by, picked_by, settled_by, CardBounded}
use Rattle.settle.specs.Settle.{unbacked, first_unbacked, least_pickup, by_backup, judged, picked, fitting, cutoff_of, shown, outcome_of}
use Rattle.settle.specs.Settle.{stalled, meets_time, least_setting, timed}
use Rattle.settle.specs.Times.{timed_by}
use Rattle.settle.proofs.TimeLaws.{setting-shown, tried-to}

module _ (r : Row) where
  pub sees-near-is : (k : ℕ) (C : Primary) → k ≡ cond (eqb r.kind 1) 12 20 → leb (k * C.0) (10 * r.near.0) ≡ sees_near r C
  unfolding sees_near
  sees-near-is k C e = rw e

  -- the least cutoff pickup is the least from the bound on
  pub cutoff-least :
      (b : ℕ) → ((x : ℕ) → leb b x ≡ stays_clear r (primary_of r (keyed x))) →
      least_on r.low.0 r.high.0 r.step.0 (leb b) ≡ least_pickup r (stays_clear r)
  cutoff-least b bound = λ t. least_on r.low.0 r.high.0 r.step.0 (λ x. bound x t)

  module _ (x : ℕ) (e : least_pickup r (stays_clear r) ≡ Some x) where
    by-sight : {b : Bool} → sees_near r (primary_of r (keyed x)) ≡ b → cutoff_of r ≡ cond b (Fitted (keyed x)) NotFitted
    unfolding cutoff_of fitting
    by-sight s = ap (fitting r) e ∙ ap (λ (b : Bool). cond b (Fitted (keyed x)) NotFitted) s

    pub cutoff-fitted : sees_near r (primary_of r (keyed x)) ≡ true → Fitted (keyed x) ≡ cutoff_of r
    cutoff-fitted s = sym (by-sight s)

    pub cutoff-blind : sees_near r (primary_of r (keyed x)) ≡ false → NotFitted ≡ cutoff_of r
    cutoff-blind s = sym (by-sight s)

  pub cutoff-none : least_pickup r (stays_clear r) ≡ None → NotFitted ≡ cutoff_of r
  unfolding cutoff_of fitting
  cutoff-none e = rw e

-- a fed row that is found is a row of the list
pub unbacked-below : (v : View) (i : ℕ) (r : Row) (x : Primary) {j : ℕ} → first_unbacked v i r x ≡ Some j → j < v.count
unfolding first_unbacked
unbacked-below v i r x e = first_below (unbacked v i r x) e

-- the second stage, as it is given back
abbrev pub by_time : Row → Secondary → Result ℕ Reason → Settled
by_time r x (Ok t) = Ok (record { pickup = x; law = r.law; setting = t; cutoff = cutoff_of r })
by_time r x (Err why) = Err why

as-timed : (r : Row) (x : Secondary) (a b : Option ℕ) → timed r x a b ≡ by_time r x (timed_by a b)
unfolding timed timed_by
as-timed r x (Some place) b = refl
as-timed r x None None = refl
as-timed r x None (Some t) = refl

-- row i, by its fields r, settled by what its fed rows ask
module _ (v : View) (i : ℕ) (r : Row) (f : Fed) where
  -- a pickup judged: it is blind in its own zone; it backs up all fed rows; or they are gone through
  module _ (x : Secondary) (I : Primary) (q : I ≡ primary_of r x) where
    abbrev comes : Picked
    comes = judged r x (unbacked_by v i r f (primary_of r x))

    pub judge-blind : sees_own_zone r I ≡ false → Err OwnZone ≡ comes
    unfolding judged
    judge-blind z = rw (← q, z)

    pub judge-fits : sees_own_zone r I ≡ true → backs_up_all r f I ≡ true → Ok x ≡ comes
    unfolding judged by_backup unbacked_by
    judge-fits z u = rw (← q, z, u)

    pub judge-searched :
        sees_own_zone r I ≡ true → backs_up_all r f I ≡ false → (a : Option ℕ) → first_unbacked v i r I ≡ a → by_backup x a ≡ comes
    unfolding judged unbacked_by
    judge-searched z u a g = rw (← q, z, u, g)

  -- the least available pickup from the bound on, where P1 and P2 hold
  module _ (b : ℕ) (bound : (x : ℕ) → leb b x ≡ lower_by r f (primary_of r (keyed x))) where
    abbrev from : Option ℕ
    from = least_on r.low.0 r.high.0 r.step.0 (leb b)

    least-from : from ≡ least_pickup r (lower_by r f)
    least-from = λ t. least_on r.low.0 r.high.0 r.step.0 (λ x. bound x t)

    pub pick-none : from ≡ None → Err Range ≡ picked_by v i r f
    unfolding picked_by picked
    pick-none e = rw (← least-from, e)

    pub pick-judged : (x : ℕ) → from ≡ Some x → judged r (keyed x) (unbacked_by v i r f (primary_of r (keyed x))) ≡ picked_by v i r f
    unfolding picked_by picked
    pick-judged x e = rw (← least-from, e)

  module _ (k : Settings) where
    pub no-pickup : (why : Cause) → picked_by v i r f ≡ Err why → Err (Pickup why) ≡ settled_by v k i r f
    unfolding settled_by outcome_of
    no-pickup why e = rw e

    -- the second stage at the pickup x, whose primary current is I
    pub stage-two :
        (x : Secondary) (I : Primary) (t : Result ℕ Reason) → picked_by v i r f ≡ Ok x → I ≡ primary_of r x →
        t ≡ timed_by (stalled v k i r I) (least_setting r (meets_time v k i r I)) → by_time r x t ≡ settled_by v k i r f
    unfolding settled_by outcome_of
    stage-two x I t e q g =
        ap (by_time r x) g ∙
        sym (as-timed r x (stalled v k i r I) (least_setting r (meets_time v k i r I))) ∙
        rw (e, q)

-- what must hold where a row's outcome is this or that: a is its pickup, `slow` and `least` are the second stage by the pickup
pub record OutcomeIs (r : Row) (a : Picked) (slow least : Primary → Option ℕ) (o : Outcome) : Type 0 where
  pub pickup-fits : a ≡ Ok o.pickup
  pub runs : slow (primary_of r o.pickup) ≡ None
  pub setting-found : least (primary_of r o.pickup) ≡ Some o.setting
  pub law-is : o.law ≡ r.law
  pub cutoff-is : o.cutoff ≡ cutoff_of r

pub record CurveFound (r : Row) (a : Picked) (slow : Primary → Option ℕ) (place : ℕ) : Type 0 where
  pub pickup : Secondary
  pub pickup-fits : a ≡ Ok pickup
  pub stalls-at : slow (primary_of r pickup) ≡ Some place

pub record NoneFound (r : Row) (a : Picked) (slow least : Primary → Option ℕ) : Type 0 where
  pub pickup : Secondary
  pub pickup-fits : a ≡ Ok pickup
  pub runs : slow (primary_of r pickup) ≡ None
  pub none_found : least (primary_of r pickup) ≡ None

module _ (r : Row) where
  same_outcome : (o o' : Outcome) → ◌≡◌ {A = Settled} (Ok o) (Ok o') → o ≡ o'
  same_outcome o o' e = cc

  module _ (slow least : Primary → Option ℕ) where
    pub outcome-set : (a : Picked) (o : Outcome) → outcome_of r a slow least ≡ Ok o → OutcomeIs r a slow least o
    unfolding outcome_of timed
    outcome-set (Err why) o e = absurd (zero-not-one cc)
    outcome-set (Ok x) o e = by_cases (slow (primary_of r x)) refl (least (primary_of r x)) refl e
      where
        by_cases :
            (a : Option ℕ) → slow (primary_of r x) ≡ a → (b : Option ℕ) → least (primary_of r x) ≡ b → timed r x a b ≡ Ok o →
            OutcomeIs r (Ok x) slow least o
        by_cases (Some place) g b h e = absurd (zero-not-one cc)
        by_cases None g None h e = absurd (zero-not-one cc)
        by_cases None g (Some t) h e =
            let q = same_outcome (record { pickup = x; law = r.law; setting = t; cutoff = cutoff_of r }) o e in
            record {
              pickup-fits = ap (λ (o : Outcome). Ok o.pickup) q;
              runs = ap (λ (o : Outcome). slow (primary_of r o.pickup)) (sym q) ∙ g;
              setting-found = ap (λ (o : Outcome). least (primary_of r o.pickup)) (sym q) ∙ h ∙ ap (λ (o : Outcome). Some o.setting) q;
              law-is = sym (ap (λ (o : Outcome). o.law) q);
              cutoff-is = sym (ap (λ (o : Outcome). o.cutoff) q);
            }

    pub outcome-no-pickup : (a : Picked) (why : Cause) → outcome_of r a slow least ≡ Err (Pickup why) → a ≡ Err why
    unfolding outcome_of timed
    outcome-no-pickup (Err x) why e = let q : x ≡ why = cc in ap Err q
    outcome-no-pickup (Ok x) why e = by_cases (slow (primary_of r x)) (least (primary_of r x)) e
      where
        by_cases : (a b : Option ℕ) → timed r x a b ≡ Err (Pickup why) → Ok x ≡ Err why
        by_cases (Some place) b e = absurd (zero-not-one cc)
        by_cases None None e = absurd (zero-not-one cc)
        by_cases None (Some t) e = absurd (zero-not-one cc)

    pub outcome-curve : (a : Picked) (place : ℕ) → outcome_of r a slow least ≡ Err (Curve place) → CurveFound r a slow place
    unfolding outcome_of timed
    outcome-curve (Err why) place e = absurd (zero-not-one cc)
    outcome-curve (Ok x) place e = by_cases (slow (primary_of r x)) refl (least (primary_of r x)) e
      where
        by_cases :
            (a : Option ℕ) → slow (primary_of r x) ≡ a → (b : Option ℕ) → timed r x a b ≡ Err (Curve place) → CurveFound r (Ok x) slow place
        by_cases (Some p) g b e =
            let q : p ≡ place = cc in
            record { pickup = x; pickup-fits = refl; stalls-at = g ∙ ap Some q }
        by_cases None g None e = absurd (zero-not-one cc)
        by_cases None g (Some t) e = absurd (zero-not-one cc)

    pub outcome-no-delay : (a : Picked) → outcome_of r a slow least ≡ Err Delay → NoneFound r a slow least
    unfolding outcome_of timed
    outcome-no-delay (Err why) e = absurd (zero-not-one cc)
    outcome-no-delay (Ok x) e = by_cases (slow (primary_of r x)) refl (least (primary_of r x)) refl e
      where
        by_cases :
            (a : Option ℕ) → slow (primary_of r x) ≡ a → (b : Option ℕ) → least (primary_of r x) ≡ b → timed r x a b ≡ Err Delay →
            NoneFound r (Ok x) slow least
        by_cases (Some place) g b h e = absurd (zero-not-one cc)
        by_cases None g None h e = record { pickup = x; pickup-fits = refl; runs = g; none_found = h }
        by_cases None g (Some t) h e = absurd (zero-not-one cc)

  -- a pickup that fits is the least that was found
  pub picked-found : (a : Option ℕ) (fails : Primary → Option ℕ) (I : Secondary) → picked r a fails ≡ Ok I → a ≡ Some I.0
  unfolding picked judged by_backup
  picked-found None fails I e = absurd (zero-not-one cc)
  picked-found (Some x) fails I e = by_cases (sees_own_zone r (primary_of r (keyed x))) (fails (primary_of r (keyed x))) e
    where
      by_cases : (z : Bool) (f : Option ℕ) → cond z (by_backup (keyed x) f) (Err OwnZone) ≡ Ok I → Some x ≡ Some I.0
      by_cases true None e = let q : keyed x ≡ I = cc in ap (λ (y : Secondary). Some y.0) q
      by_cases true (Some j) e = absurd (zero-not-one cc)
      by_cases false f e = absurd (zero-not-one cc)

  -- and at most what the row's rated primary leaves it
  pub picked-to :
      (v : View) (i : ℕ) (f : Fed) → Bounded r → (x : Secondary) → picked_by v i r f ≡ Ok x → x.0 ≤ setting_most r.ratio.primary
  unfolding picked_by
  picked-to v i f a x e =
      let p = picked-found (least_pickup r (lower_by r f)) _ x e in
      le_trans (least_on-least _ _ _ a.step_from (λ x. lower_by r f (primary_of r (keyed x))) _ p).available.within a.high-to

  -- the settings that are found are at most what their columns hold
  pub set-bounded :
      (v : View) (k : Settings) (i : ℕ) (f : Fed) (o : Outcome) → Bounded r → Ok o ≡ settled_by v k i r f → CardBounded r (shown o)
  unfolding settled_by picked_by shown
  set-bounded v k i f o a e =
      let q = outcome-set _ _ (picked_by v i r f) o (sym e) in
      record {
        pickup-to = picked-to v i f a o.pickup q.pickup-fits;
        setting-to =
            rw (setting-shown o, q.law-is)
            (le_trans (least_on-least _ _ 1 (omega arith) _ _ q.setting-found).available.within (tried-to r a));
      }
