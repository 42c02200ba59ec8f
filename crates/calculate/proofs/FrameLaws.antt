-- A row's settings depend only on its own fields and on its fed rows, so the calculation does not depend on what stood on the
-- card before it, and leaves what stands past its rows.
use Rattle.settle.specs.Outcomes.{Settled}
use Rattle.std.proofs.Common.{Ok, Err}
use mathlib.Core.Path.{◌≡◌, refl, sym, ap, ◌∙◌}
use mathlib.Core.List.{List, ◌++◌}
use Prim.Native.Nat.{ℕ, zero, suc, ◌+◌, ◌*◌, ◌≤◌, ◌<◌}
use native.Mathlib.Nat.{zero-add}
use native.Mathlib.Omega.{arith}
use lib.ListN.{length, take, drop, take-append-drop}
use Rattle.fold.proofs.FoldLaws.{below-cases}
use Rattle.layout.specs.declared.CardRow.{CardRow}
use Rattle.layout.specs.Card.{card_row_at, put_card_row}
use Rattle.layout.specs.Counts.{column_count}
use Rattle.layout.specs.List.{rows}
use Rattle.layout.specs.View.{view_of}
use Rattle.layout.proofs.CardLaws.{put_card_row-length, put_card_row-own, put_card_row-other, put_card_row-drop, cards-agree}
use Rattle.rows.specs.InRange.{Feeds}
use Rattle.settle.specs.Settle.{shown, settled}
use Rattle.settle.proofs.SameLaws.{settled_same, fed-below}
use Rattle.rowwise.specs.WorkOut.{Worked, finished, refused, on_settled, work_out, up_from}
use Rattle.rowwise.proofs.EndLaws.{never-finished}
use Rattle.calculate.specs.Whole.{calculation}

-- two cards whose rows below i are equal
unfoldable pub Agree : ℕ → List ℕ → List ℕ → Type 0
Agree i c c' = (j : ℕ) → j < i → card_row_at c j ≡ card_row_at c' j

pub agree-next :
    (i : ℕ) (c c' : List ℕ) (k : CardRow) → i * column_count + column_count ≤ length c → i * column_count + column_count ≤ length c' →
    Agree i c c' → Agree (suc i) (put_card_row c i k) (put_card_row c' i k)
unfolding Agree
agree-next i c c' k h h' e j b =
    below-cases b
    (λ q. rw q (put_card_row-own c i k h ∙ sym (put_card_row-own c' i k h')))
    (λ g. put_card_row-other c i k j (λ q. omega arith) ∙ e j g ∙ sym (put_card_row-other c' i k j (λ q. omega arith)))

-- the first n numbers of a result, and what stood past them on the card c
unfoldable pub framed : ℕ → List ℕ → Worked → Worked
framed n c (finished c') = finished (take n c' ++ drop n c)
framed n c (refused a) = refused a

framed-drop : (n : ℕ) (c c' : List ℕ) (w : Worked) → drop n c ≡ drop n c' → framed n c w ≡ framed n c' w
unfolding framed
framed-drop n c c' (finished d) e = ap (λ (t : List ℕ). finished (take n d ++ t)) e
framed-drop n c c' (refused a) e = refl

module _ (l : List ℕ) (b : Feeds l) where
  -- cards that agree below row i settle it alike
  pub settled-agree : (i : ℕ) (c c' : List ℕ) → Agree i c c' → settled (view_of l) (card_row_at c) i ≡ settled (view_of l) (card_row_at c') i
  unfolding Agree
  settled-agree i c c' e =
      settled_same (view_of l) (view_of l) (card_row_at c) (card_row_at c') i refl refl (λ j g. refl) (λ j g f. refl)
      (λ j g f. e j (fed-below l b i j g f))

  frame :
      (m i : ℕ) (c c' : List ℕ) → i + m ≡ rows l → rows l * column_count ≤ length c → rows l * column_count ≤ length c' → Agree i c c' →
      work_out l (up_from i m) c' ≡ framed (rows l * column_count) c' (work_out l (up_from i m) c)
  unfolding work_out up_from framed on_settled Agree
  frame zero i c c' n h h' e =
      let q : i ≡ rows l = omega arith in
      ap finished
      (sym (take-append-drop (rows l * column_count) c') ∙
      ap (λ (t : List ℕ). t ++ drop (rows l * column_count) c') (sym (cards-agree (rows l) c c' h h' (rw q at e))))
  frame (suc m) i c c' n h h' e =
      ap (λ (s : Settled). on_settled i s (λ k. work_out l (up_from (suc i) m) (put_card_row c' i k))) (sym (settled-agree i c c' e)) ∙
      by_cases (settled (view_of l) (card_row_at c) i)
      (λ k. frame m (suc i) (put_card_row c i k) (put_card_row c' i k) (omega arith) (rw (put_card_row-length c i k) h) (rw (put_card_row-length c' i k) h')
      (agree-next i c c' k (omega arith) (omega arith) e))
    where
      rest : List ℕ → CardRow → Worked
      rest x k = work_out l (up_from (suc i) m) (put_card_row x i k)

      by_cases :
          (s : Settled) → ((k : CardRow) → rest c' k ≡ framed (rows l * column_count) (put_card_row c' i k) (rest c k)) →
          on_settled i s (rest c') ≡ framed (rows l * column_count) c' (on_settled i s (rest c))
      by_cases (Ok o) ih =
          ih (shown o) ∙
          framed-drop (rows l * column_count) (put_card_row c' i (shown o)) c' (rest c (shown o))
          (put_card_row-drop c' i (shown o) (rows l * column_count) (omega arith))
      by_cases (Err why) ih = refl

  -- the calculation on one card gives that on any other
  pub calculation-frame :
      (c c' : List ℕ) → rows l * column_count ≤ length c → rows l * column_count ≤ length c' →
      calculation l c' ≡ framed (rows l * column_count) c' (calculation l c)
  unfolding calculation Agree
  calculation-frame c c' h h' = frame (rows l) 0 c c' (zero-add (rows l)) h h' (λ x b. absurd (omega arith))

-- what stands past the rows is kept, and so is the card's length
pub record Kept (n : ℕ) (c c' : List ℕ) : Type 0 where
  pub same_length : length c' ≡ length c
  pub past-rows : drop n c' ≡ drop n c

module _ (l : List ℕ) where
  keeps-from : (m i : ℕ) (c c' : List ℕ) → i + m ≡ rows l → work_out l (up_from i m) c ≡ finished c' → Kept (rows l * column_count) c c'
  unfolding work_out up_from on_settled
  keeps-from zero i c c' n e =
      let q : c ≡ c' = cc in
      record { same_length = ap length (sym q); past-rows = ap (drop (rows l * column_count)) (sym q) }
  keeps-from (suc m) i c c' n e =
      by_cases (settled (view_of l) (card_row_at c) i) e (λ k. keeps-from m (suc i) (put_card_row c i k) c' (omega arith))
    where
      by_cases :
          (s : Settled) → on_settled i s (λ k. work_out l (up_from (suc i) m) (put_card_row c i k)) ≡ finished c' →
          ((k : CardRow) → work_out l (up_from (suc i) m) (put_card_row c i k) ≡ finished c' → Kept (rows l * column_count) (put_card_row c i k) c') →
          Kept (rows l * column_count) c c'
      by_cases (Ok o) e ih =
          let k = ih (shown o) e in
          record {
            same_length = k.same_length ∙ put_card_row-length c i (shown o);
            past-rows = k.past-rows ∙ put_card_row-drop c i (shown o) (rows l * column_count) (omega arith);
          }
      by_cases (Err why) e ih = absurd (never-finished e)

  pub calculation-keeps : (c c' : List ℕ) → calculation l c ≡ finished c' → Kept (rows l * column_count) c c'
  unfolding calculation
  calculation-keeps c c' e = keeps-from (rows l) 0 c c' (zero-add (rows l)) e
