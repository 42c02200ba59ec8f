-- A calculation that ends in a refusal: which row it names, and why.
use Rattle.answers.specs.declared.Refusal.{Refusal}
use Rattle.settle.specs.Outcomes.{Settled}
use Rattle.answers.specs.declared.Refusal.TheVariants.{Unsettled}
use Rattle.answers.specs.Answer.{Answer, done}
use Rattle.std.proofs.Common.{Ok, Err}
use mathlib.Core.Path.{◌≡◌, refl, sym, subst}
use mathlib.Core.List.{List}
use Prim.Native.Nat.{ℕ, zero, suc, ◌+◌, ◌*◌, ◌≤◌, ◌<◌}
use native.Mathlib.Nat.{zero-add}
use native.Mathlib.Omega.{arith}
use lib.ListN.{length}
use Rattle.answers.specs.declared.Reason.{Reason}
use Rattle.answers.specs.declared.Reason.TheVariants.{Pickup, Curve, Delay}
use Rattle.answers.proofs.AnswerLaws.{unsettled-not-done}
use Rattle.layout.specs.Card.{card_row_at, put_card_row}
use Rattle.layout.specs.Counts.{column_count}
use Rattle.layout.specs.List.{rows}
use Rattle.layout.specs.View.{View, view_of}
use Rattle.layout.proofs.CardLaws.{put_card_row-length}
use Rattle.layout.specs.Range.{AllBounded}
use Rattle.rows.specs.InRange.{Feeds}
use Rattle.settle.specs.declared.Outcome.{Outcome}
use Rattle.settle.specs.Settle.{shown, settled}
use Rattle.settle.proofs.SettledTheorems.{settled-least, no-pickup-exactly, no-curve-exactly, no-delay-exactly}
use Rattle.rowwise.specs.WorkOut.{refused, on_settled, work_out, up_from}
use Rattle.rowwise.proofs.EndLaws.{never-finished, same-refusal}
use Rattle.calculate.specs.Refused.{UpTo, RefusedAt, NO-PICKUP, CURVE, DELAY}
use Rattle.calculate.specs.Whole.{calculation}
use Rattle.calculate.proofs.SettledLaws.{Settles, next-settled}

-- it is no acceptance
pub refused-not-done : {v : View} {a : Answer} → RefusedAt v a → a ≡ done → ⊥
refused-not-done (NO-PICKUP k i why u n) e = unsettled-not-done e
refused-not-done (CURVE k i x place u p n) e = unsettled-not-done e
refused-not-done (DELAY k i x u p r n) e = unsettled-not-done e

module _ (l : List ℕ) (a : AllBounded (view_of l)) (b : Feeds l) where
  refused-from :
      (m i : ℕ) (c : List ℕ) (x : Refusal) → i + m ≡ rows l → rows l * column_count ≤ length c → ((j : ℕ) → j < i → Settles l c j) →
      work_out l (up_from i m) c ≡ refused x → RefusedAt (view_of l) (Err x)
  unfolding work_out up_from on_settled
  refused-from zero i c x n k all e = absurd (never-finished (sym e))
  refused-from (suc m) i c x n k all e =
      by_cases (settled (view_of l) (card_row_at c) i) refl e
      (λ o s.
      refused-from m (suc i) (put_card_row c i (shown o)) x (omega arith) (rw (put_card_row-length c i (shown o)) k)
      (next-settled l b i c o (omega arith) k s all))
    where
      h : i < rows l
      h = omega arith

      up_to : UpTo (view_of l) (card_row_at c) i
      up_to =
          record { is_row = h; rows-below = λ j g. settled-least (view_of l) (card_row_at c) j (a j (omega arith)) (all j g) }

      named : (why : Reason) → settled (view_of l) (card_row_at c) i ≡ Err why → RefusedAt (view_of l) (Err (Unsettled (i + 1) why))
      named (Pickup why) s = NO-PICKUP (card_row_at c) i why up_to ((no-pickup-exactly (view_of l) (card_row_at c) i (a i h) why).0 s)
      named (Curve place) s =
          let d = (no-curve-exactly (view_of l) (card_row_at c) i (a i h) place).0 s in
          CURVE (card_row_at c) i d.0 place up_to d.1 d.2
      named Delay s =
          let d = (no-delay-exactly (view_of l) (card_row_at c) i (a i h)).0 s in
          DELAY (card_row_at c) i d.0 up_to d.1 d.2 d.3

      by_cases :
          (s : Settled) → settled (view_of l) (card_row_at c) i ≡ s → on_settled i s (λ k. work_out l (up_from (suc i) m) (put_card_row c i k)) ≡ refused x →
          ((o : Outcome) → settled (view_of l) (card_row_at c) i ≡ Ok o → work_out l (up_from (suc i) m) (put_card_row c i (shown o)) ≡ refused x →
          RefusedAt (view_of l) (Err x)) → RefusedAt (view_of l) (Err x)
      by_cases (Ok o) s e ih = ih o s e
      by_cases (Err why) s e ih = subst (λ (a : Refusal). RefusedAt (view_of l) (Err a)) (same-refusal e) (named why s)

  pub calculation-refused : (c : List ℕ) (x : Refusal) → rows l * column_count ≤ length c → calculation l c ≡ refused x → RefusedAt (view_of l) (Err x)
  unfolding calculation
  calculation-refused c x k e = refused-from (rows l) 0 c x (zero-add (rows l)) k (λ j g. absurd (omega arith)) e
