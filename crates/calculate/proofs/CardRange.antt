-- The card that the whole calculation gives, in range as 9 CARD asks [01 §4], [02 §1, §3]: pickups from 1 and cutoffs to 100,000,000, of secondary
-- rows to 500,000, delays to 100,000, laws to 2, multipliers to 1,500. And it has as many numbers as the lent one.
use Rattle.answers.specs.Answer.{Answer, done}
use Rattle.std.proofs.Common.{Option, Some, None, Ok, Err}
use mathlib.Core.Path.{◌≡◌, refl, sym, ◌∙◌, subst}
use mathlib.Core.Bool.{Bool, true, false, cond}
use mathlib.Core.List.{List}
use Prim.Native.Nat.{ℕ, ◌≤◌, ◌<◌}
use native.Mathlib.Nat.{le_trans}
use native.Mathlib.Omega.{arith}
use lib.ListN.{length}
use Rattle.fold.proofs.BoolLaws.{zero-not-one}
use Rattle.layout.specs.declared.Row.{Row}
use Rattle.layout.specs.Card.{card_row_at}
use Rattle.layout.specs.List.{rows, row_at}
use Rattle.layout.specs.Range.{Bounded, CardRowInRange}
use Rattle.layout.specs.View.{View, view_of, Settings}
use Rattle.rows.specs.Tests.{size_test, rows_test}
use Rattle.settle.specs.declared.Cutoff.TheVariants.{Fitted, NotFitted}
use Rattle.sides.specs.declared.Secondary.{Secondary}
use Rattle.sides.specs.Sides.{keyed, setting_most}
use Rattle.settle.specs.Conditions.{primary_of, stays_clear, sees_near}
use Rattle.settle.proofs.PickupLaws.{found-bounded}
use Rattle.settle.proofs.TimeLaws.{by-law, setting-definite, setting-curve}
use Rattle.settle.specs.Inequalities.{LeastRow}
use Rattle.settle.specs.Settle.{least_pickup, fitting, cutoff_of, printed}
use Rattle.rowwise.specs.WorkOut.{Worked, finished, refused, on_passed}
use Rattle.calculate.specs.Gets.{Gets}
use Rattle.calculate.specs.Whole.{ending, calculation, whole}
use Rattle.calculate.proofs.Demand1.{every-list-gets}
use Rattle.calculate.proofs.Demand2.{accepted-least}
use Rattle.calculate.proofs.FrameLaws.{calculation-keeps}
use Rattle.calculate.proofs.RefusedLaws.{refused-not-done}

-- a cutoff is one of the row's pickups, or 0
pub cutoff-to : (r : Row) → Bounded r → (printed (cutoff_of r)).0 ≤ setting_most r.ratio.primary
unfolding cutoff_of fitting printed
cutoff-to r b = by_cases (least_pickup r (stays_clear r)) refl
  where
    by-sight : (v : Bool) (C : ℕ) → C ≤ setting_most r.ratio.primary → (printed (cond v (Fitted (keyed C)) NotFitted)).0 ≤ setting_most r.ratio.primary
    by-sight true C q = q
    by-sight false C q = omega arith

    by_cases : (f : Option ℕ) → least_pickup r (stays_clear r) ≡ f → (printed (fitting r f)).0 ≤ setting_most r.ratio.primary
    by_cases (Some C) e = by-sight (sees_near r (primary_of r (keyed C))) C (found-bounded r b _ C e)
    by_cases None e = omega arith

-- a row at its least settings is in range
pub least-in-range : (v : View) (k : Settings) (i : ℕ) → Bounded (v.row i) → LeastRow v k i → CardRowInRange (setting_most (v.row i).ratio.primary) (k i)
least-in-range v k i b m =
    let low = b.low-from in
    record {
      pickup-from = omega (arith, m.pickup.available.on-grid);
      pickup-to = le_trans m.pickup.available.within b.high-to;
      delay-to =
          by-law (k i).law
          (λ e. omega (arith, setting-definite (k i) e, m.time.offered.delay (sym m.law ∙ e)))
          (λ n. omega (arith, m.curve-delay n));
      law-to = omega (arith, m.law, b.law-to);
      multiplier-to =
          by-law (k i).law
          (λ e. omega (arith, m.definite-multiplier e))
          (λ n. omega (arith, setting-curve (k i) n, (m.time.offered.multiplier (λ e. n (m.law ∙ e))).1));
      cutoff-to = subst (λ (C : Secondary). C.0 ≤ setting_most (v.row i).ratio.primary) (sym m.cutoff) (cutoff-to (v.row i) b);
    }

module _ (l c : List ℕ) where
  pub card-in-range : (whole l c).answer ≡ done → (i : ℕ) → i < rows l → CardRowInRange (setting_most (row_at l i).ratio.primary) (card_row_at (whole l c).card i)
  card-in-range e i h = of-gets ((every-list-gets l c (whole l c).answer).0 refl) e
    where
      of-gets : {a : Answer} → Gets l c a → a ≡ done → CardRowInRange (setting_most (row_at l i).ratio.primary) (card_row_at (whole l c).card i)
      of-gets (Gets.COUNT n) q = absurd (zero-not-one cc)
      of-gets (Gets.ROOM s n) q = absurd (zero-not-one cc)
      of-gets (Gets.FIELD s r j k f) q = absurd (zero-not-one cc)
      of-gets (Gets.TREE s r a j f) q = absurd (zero-not-one cc)
      of-gets (Gets.UNSETTLED s r a b z) q = absurd (refused-not-done z q)
      of-gets (Gets.DONE s r a b k m) q =
          least-in-range (view_of l) (card_row_at (whole l c).card) i (a i h).bounded (accepted-least l c s r a b e i h)

  pub card-length : length (whole l c).card ≡ length c
  unfolding whole ending on_passed
  card-length = by_tests (size_test (length l) (length c)) (rows_test l)
    where
      by-work : (w : Worked) → calculation l c ≡ w → length (ending c w).card ≡ length c
      by-work (finished d) q = (calculation-keeps l c d q).same_length
      by-work (refused a) q = refl

      by_tests : (t u : Answer) → length (ending c (on_passed t (on_passed u (calculation l c)))).card ≡ length c
      by_tests (Ok _) (Ok _) = by-work (calculation l c) refl
      by_tests (Ok _) (Err a) = refl
      by_tests (Err a) u = refl
