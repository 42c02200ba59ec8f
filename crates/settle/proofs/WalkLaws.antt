-- [02 §3] Going through the rows that row i feeds, ascending by their links: so far none of them has an M at most 1.000, and the settings from
-- `from` on are those that meet D2 above each of them.
use Rattle.std.proofs.Common.{Ok, Err, Option, Some, None}
use mathlib.Core.Path.{◌≡◌, refl, sym, ap, ◌∙◌}
use mathlib.Core.Bool.{Bool, true, false, not, ◌&&◌, ◌||◌}
use mathlib.Core.List.{List}
use Prim.Native.Nat.{ℕ, ◌+◌, ◌-◌, ◌≤◌, ◌<◌, max}
use native.Mathlib.Nat.{sub-zero}
use native.Mathlib.Numerals.{add-one}
use native.Mathlib.Omega.{arith}
use lib.Dec.{leb}
use borrow.Author.Tests.{le-leb}
use Rattle.feeding.specs.Fed.{feeds, next_fed, found_or, fed_from}
use Rattle.feeding.proofs.FedLaws.{fed_from-from, fed_from-between, first-over, first-fed-passes, first-fed-fails}
use Rattle.feeding.proofs.OverLaws.{every-next, every-over-passes}
use Rattle.fold.specs.First.{first}
use Rattle.fold.specs.Fold.{every}
use Rattle.fold.proofs.FirstLaws.{FirstAt, first-at, first-end}
use Rattle.grid.proofs.RoundLaws.{max-leb}
use Rattle.layout.specs.declared.Row.{Row}
use Rattle.layout.specs.Card.{card_row_at}
use Rattle.layout.specs.List.{rows}
use Rattle.layout.specs.View.{View, view_of, Settings}
use Rattle.sides.specs.declared.Primary.{Primary}
use Rattle.settle.specs.Conditions.{fed, fed_stalls, stalls_at, graded_above}
use Rattle.settle.specs.Settle.{stalls_by, first_stalling, stalled_there}
use Rattle.settle.specs.declared.Stalled.{Stalled}
use Rattle.settle.specs.Times.{WantedIs, WalkIs}

-- how many rows of n are left from the next one on
abbrev pub rows_left : ℕ → Option ℕ → ℕ
rows_left n (Some j) = n - j
rows_left n None = 0

module _ (l c : List ℕ) (i : ℕ) (r : Row) (I : Primary) where
  abbrev v : View
  v = view_of l

  abbrev k : Settings
  k = card_row_at c

  -- at row j: an M that is needed is at most 1.000; D2 holds with the setting x, where row i feeds it
  abbrev slow : ℕ → Bool
  slow j = fed_stalls (v.row j) (k j) || stalls_at r (v.row j) I

  abbrev graded : ℕ → ℕ → Bool
  graded x j = not (fed v i j) || graded_above r (v.row j) (k j) I x

  -- the rows below `gone` are gone through, and `next` is the next that row i feeds
  pub record Walking (from : ℕ) (next : Option ℕ) : Type 0 where
    pub gone : ℕ
    pub within : gone ≤ rows l
    pub link : next ≡ next_fed l i gone
    pub left : first_stalling v k i r I ≡ first (stalls_by v k i r I) gone (rows l - gone)
    pub asked : (x : ℕ) → leb from x ≡ every gone (graded x)

  -- from row a on the next is the next fed row
  next-walking :
      (from a : ℕ) (next : Option ℕ) → a ≤ rows l → first_stalling v k i r I ≡ first (stalls_by v k i r I) a (rows l - a) →
      ((x : ℕ) → leb from x ≡ every a (graded x)) → next ≡ next_fed l i a → Walking from next
  next-walking from a next h left asked link = record { gone = a; within = h; link = link; left = left; asked = asked }

  pub walk_start : (next : Option ℕ) → next ≡ next_fed l i 0 → Walking 0 next
  unfolding first_stalling every
  walk_start next e = next-walking 0 0 next (omega arith) (rw sub-zero) (λ x. le-leb 0 x (omega arith)) e

  -- what is left, and what is asked, at the next fed row or at the end
  module _ (from : ℕ) (next : Option ℕ) (w : Walking from next) (at : ℕ) (e : fed_from l i w.gone ≡ at) where
    left_at : first_stalling v k i r I ≡ first (stalls_by v k i r I) at (rows l - at)
    unfolding stalls_by
    left_at = rw (← e) (w.left ∙ first-over l i slow w.gone w.within)

    asked_at : (x : ℕ) → leb from x ≡ every at (graded x)
    asked_at x =
        rw (← e)
        (w.asked x ∙
        sym
        (every-over-passes (graded x) w.gone (fed_from l i w.gone) (fed_from-from l i w.gone w.within)
        (λ j lo hi. rw (fed_from-between l i w.gone j lo hi))))

  module _ (from : ℕ) (next : Option ℕ) (w : Walking from next) (j : ℕ) (h : next ≡ Some j) where
    found : FirstAt (feeds l i) w.gone (rows l - w.gone) j
    found = first-at (feeds l i) (rows l - w.gone) w.gone j (sym w.link ∙ h)

    here : fed_from l i w.gone ≡ j
    unfolding fed_from found_or
    here = ap (found_or (rows l)) (sym w.link ∙ h)

    pub walk-row : j < rows l
    walk-row = omega (arith, found.below, w.within)

    pub walk-feeds : feeds l i j ≡ true
    walk-feeds = found.passes

    -- it stops at row j
    pub walk-stuck : (s : Stalled) → WantedIs v k i r I j (Err s) → WalkIs v k i r I (Err s)
    unfolding stalls_by
    walk-stuck s e =
        ap (stalled_there v k i)
        (left_at from next w j here ∙ first-fed-passes l i slow j walk-row walk-feeds (slow-at (fed_stalls (v.row j) (k j)) refl)) ∙
        e.0
      where
        slow-at : (b : Bool) → fed_stalls (v.row j) (k j) ≡ b → (b || stalls_at r (v.row j) I) ≡ true
        slow-at true f = refl
        slow-at false f = e.1 f

    -- or goes on behind it
    pub walk-next :
        (b from' : ℕ) (next' : Option ℕ) → WantedIs v k i r I j (Ok b) → from' ≡ max from b → next' ≡ next_fed l i (j + 1) → Walking from' next'
    unfolding stalls_by
    walk-next b from' next' s e q =
        rw e
        (record {
          gone = j + 1;
          within = omega (arith, walk-row);
          link = q;
          left = left_at from next w j here ∙ first-fed-fails l i slow j walk-row walk-feeds (rw (s.0, s.1));
          asked =
              λ x.
              max-leb from b x ∙ (λ t. asked_at from next w j here x t && (s.2 x ∙ counts x) t) ∙ sym (rw (add-one j) (every-next (graded x) j));
        })
      where
        counts : (x : ℕ) → graded_above r (v.row j) (k j) I x ≡ graded x j
        counts x = sym (ap (λ (b : Bool). not b || graded_above r (v.row j) (k j) I x) walk-feeds)

    -- fewer rows are left then
    pub walk-shorter : (next' : Option ℕ) → next' ≡ next_fed l i (j + 1) → rows_left (rows l) next' < rows_left (rows l) next
    walk-shorter None e = rw h (omega (arith, walk-row))
    walk-shorter (Some x) e =
        let f = first-at (feeds l i) (rows l - (j + 1)) (j + 1) x (sym e) in
        rw h (omega (arith, walk-row, f.from, f.below))

  pub walk_end : (from : ℕ) (next : Option ℕ) → Walking from next → next ≡ None → WalkIs v k i r I (Ok from)
  unfolding fed_from found_or
  walk_end from next w h =
      let e : fed_from l i w.gone ≡ rows l = ap (found_or (rows l)) (sym w.link ∙ h) in
      (left_at from next w (rows l) e ∙ first-end (stalls_by v k i r I) (rows l) (rows l) (omega arith), asked_at from next w (rows l) e)
