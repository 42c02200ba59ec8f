-- A finished calculation leaves every row at its own least settings on that very card.
use Rattle.settle.specs.Outcomes.{Settled}
use Rattle.std.proofs.Common.{Ok, Err}
use mathlib.Core.Path.{◌≡◌, refl, sym, ◌∙◌}
use mathlib.Core.List.{List}
use Prim.Native.Nat.{ℕ, zero, suc, ◌+◌, ◌*◌, ◌≤◌, ◌<◌}
use native.Mathlib.Nat.{zero-add}
use native.Mathlib.Omega.{arith}
use lib.ListN.{length}
use Rattle.fold.proofs.FoldLaws.{below-cases}
use Rattle.layout.specs.declared.CardRow.{CardRow}
use Rattle.layout.specs.Card.{card_row_at, put_card_row}
use Rattle.layout.specs.Counts.{column_count}
use Rattle.layout.specs.List.{rows}
use Rattle.layout.specs.View.{view_of}
use Rattle.layout.proofs.CardLaws.{put_card_row-length, put_card_row-own, put_card_row-other}
use Rattle.rows.specs.InRange.{Feeds}
use Rattle.settle.specs.declared.Outcome.{Outcome}
use Rattle.settle.specs.Inequalities.{RowSettled}
use Rattle.settle.specs.Settle.{shown, settled}
use Rattle.rowwise.specs.WorkOut.{finished, on_settled, work_out, up_from}
use Rattle.rowwise.proofs.EndLaws.{never-finished}
use Rattle.calculate.specs.Whole.{calculation}
use Rattle.calculate.proofs.FrameLaws.{Agree, settled-agree}

-- a row of a card settled on it
abbrev pub Settles : List ℕ → List ℕ → ℕ → Type 0
Settles l c j = RowSettled (view_of l) (card_row_at c) j

-- a row put in leaves the rows below it as they were
pub put-agrees : (c : List ℕ) (i : ℕ) (k : CardRow) (n : ℕ) → n ≤ i → Agree n c (put_card_row c i k)
unfolding Agree
put-agrees c i k n h j b = sym (put_card_row-other c i k j (λ e. omega arith))

module _ (l : List ℕ) (b : Feeds l) where
  -- a row below i stays settled, and row i is settled, when row i's outcome is put in
  still-settled : (i : ℕ) (c : List ℕ) (k : CardRow) (j : ℕ) → j < i → Settles l c j → Settles l (put_card_row c i k) j
  still-settled i c k j g r =
      record {
        outcome = r.outcome;
        settles = sym (settled-agree l b j c (put_card_row c i k) (put-agrees c i k j (omega arith))) ∙ r.settles;
        shows = put_card_row-other c i k j (λ e. omega arith) ∙ r.shows;
      }

  now-settled :
      (i : ℕ) (c : List ℕ) (o : Outcome) → i < rows l → rows l * column_count ≤ length c → settled (view_of l) (card_row_at c) i ≡ Ok o →
      Settles l (put_card_row c i (shown o)) i
  now-settled i c o h k e =
      record {
        outcome = o;
        settles = sym (settled-agree l b i c (put_card_row c i (shown o)) (put-agrees c i (shown o) i (omega arith))) ∙ e;
        shows = put_card_row-own c i (shown o) (omega arith);
      }

  pub next-settled :
      (i : ℕ) (c : List ℕ) (o : Outcome) → i < rows l → rows l * column_count ≤ length c → settled (view_of l) (card_row_at c) i ≡ Ok o →
      ((j : ℕ) → j < i → Settles l c j) → (j : ℕ) → j < suc i → Settles l (put_card_row c i (shown o)) j
  next-settled i c o h k e all j g =
      below-cases g
      (λ q. rw q (now-settled i c o h k e))
      (λ q. still-settled i c (shown o) j q (all j q))

  settled-from :
      (m i : ℕ) (c c' : List ℕ) → i + m ≡ rows l → rows l * column_count ≤ length c → ((j : ℕ) → j < i → Settles l c j) →
      work_out l (up_from i m) c ≡ finished c' → (j : ℕ) → j < rows l → Settles l c' j
  unfolding work_out up_from on_settled
  settled-from zero i c c' n k all e j h =
      let q : c ≡ c' = cc in
      rw (← q) (all j (omega arith))
  settled-from (suc m) i c c' n k all e j h =
      by_cases (settled (view_of l) (card_row_at c) i) refl e
      (λ o s.
      settled-from m (suc i) (put_card_row c i (shown o)) c' (omega arith) (rw (put_card_row-length c i (shown o)) k)
      (next-settled i c o (omega arith) k s all)) j h
    where
      by_cases :
          (s : Settled) → settled (view_of l) (card_row_at c) i ≡ s → on_settled i s (λ k. work_out l (up_from (suc i) m) (put_card_row c i k)) ≡
          finished c' →
          ((o : Outcome) → settled (view_of l) (card_row_at c) i ≡ Ok o → work_out l (up_from (suc i) m) (put_card_row c i (shown o)) ≡ finished c' →
          (j : ℕ) → j < rows l → Settles l c' j) →
          (j : ℕ) → j < rows l → Settles l c' j
      by_cases (Ok o) s e ih = ih o s e
      by_cases (Err why) s e ih = absurd (never-finished e)

  pub calculation-settled :
      (c c' : List ℕ) → rows l * column_count ≤ length c → calculation l c ≡ finished c' → (j : ℕ) → j < rows l → Settles l c' j
  unfolding calculation
  calculation-settled c c' k e = settled-from (rows l) 0 c c' (zero-add (rows l)) k (λ j g. absurd (omega arith)) e
