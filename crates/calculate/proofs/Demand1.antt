-- DEMAND 1, for a list lent as numbers:
--     every-list-gets     each answer is given exactly where it is due (specs/Gets.antt), at the first place; none is given otherwise
--     refused-card-kept   and then the lent card stands as it was lent (Demand2.antt)
-- `whole` is the definition that the public entry's contract cites (specs/Whole.antt); it answers every list.
use Rattle.answers.specs.declared.Refusal.TheVariants.{Unsettled}
use Rattle.answers.specs.Answer.{Answer}
use Rattle.std.proofs.Common.{Err}
use mathlib.Core.Path.{◌≡◌, refl, sym, ap, ◌∙◌, subst}
use mathlib.Core.Logic.{◌↔◌, ⊎_elim}
use mathlib.Core.List.{List}
use Prim.Native.Nat.{ℕ, zero, suc, ◌+◌, ◌*◌, ◌≤◌, ◌<◌}
use native.Mathlib.Nat.{zero-add, eq-or-lt_of_le}
use native.Mathlib.Omega.{arith}
use lib.ListN.{length}
use Rattle.fold.proofs.FoldLaws.{below-cases}
use Rattle.answers.specs.declared.Reason.{Reason}
use Rattle.answers.specs.declared.Reason.TheVariants.{Pickup, Curve, Delay}
use Rattle.layout.specs.Card.{card_row_at, put_card_row}
use Rattle.layout.specs.Counts.{column_count}
use Rattle.layout.specs.List.{rows}
use Rattle.layout.specs.Range.{AllBounded}
use Rattle.layout.specs.View.{view_of, Settings}
use Rattle.layout.proofs.CardLaws.{put_card_row-length, put_card_row-own, put_card_row-other}
use Rattle.rows.specs.InRange.{RightSize, HasRoom, InRange, Feeds, SizeGets, RowsGet}
use Rattle.rows.proofs.ExactLaws.{get-size, size-gets, size-rows, get_rows, rows_get}
use Rattle.settle.specs.declared.Outcome.{Outcome}
use Rattle.settle.specs.Settle.{shown, settled}
use Rattle.settle.specs.Inequalities.{RowSettled}
use Rattle.settle.proofs.SameLaws.{settled_same, fed-below}
use Rattle.settle.proofs.SettledTheorems.{least-settled, no-pickup-exactly, no-curve-exactly, no-delay-exactly}
use Rattle.rowwise.specs.WorkOut.{refused, on_settled, on_passed, work_out, up_from}
use Rattle.calculate.specs.Gets.{Gets}
use Rattle.calculate.specs.Refused.{UpTo, RefusedAt, NO-PICKUP, CURVE, DELAY}
use Rattle.calculate.specs.Whole.{ending, calculation, whole}
use Rattle.calculate.proofs.Demand2.{accepted-meets, settings-accepted, done-or-refused}

-- rows below at their least settings k, and row i not settled above them: the calculation is refused there, on any card
module _ (l : List ℕ) (b : Feeds l) (k : Settings) (i : ℕ) (h : i < rows l) (why : Reason) (unset : settled (view_of l) k i ≡ Err why)
    (below : (j : ℕ) → j < i → RowSettled (view_of l) k j) where
  -- the card has the settings k below row j
  Agrees : ℕ → List ℕ → Type 0
  Agrees j c = (x : ℕ) → x < j → card_row_at c x ≡ k x

  settled-alike : (j : ℕ) (c : List ℕ) → Agrees j c → settled (view_of l) (card_row_at c) j ≡ settled (view_of l) k j
  unfolding Agrees
  settled-alike j c same =
      settled_same (view_of l) (view_of l) (card_row_at c) k j refl refl (λ x g. refl) (λ x g f. refl) (λ x g f. same x (fed-below l b j x g f))

  next-agrees :
      (j : ℕ) (c : List ℕ) (o : Outcome) → k j ≡ shown o → j * column_count + column_count ≤ length c → Agrees j c → Agrees (suc j) (put_card_row c j (shown o))
  unfolding Agrees
  next-agrees j c o e r same x g =
      below-cases g
      (λ q. rw q (put_card_row-own c j (shown o) r ∙ sym e))
      (λ q. put_card_row-other c j (shown o) x (λ n. omega arith) ∙ same x q)

  refused-from :
      (m j : ℕ) (c : List ℕ) → j + m ≡ rows l → j ≤ i → rows l * column_count ≤ length c → Agrees j c →
      work_out l (up_from j m) c ≡ refused (Unsettled (i + 1) why)
  unfolding work_out up_from on_settled
  refused-from zero j c n g r same = absurd (omega arith)
  refused-from (suc m) j c n g r same =
      ⊎_elim
      (λ (q : j ≡ i). rw (settled-alike j c same, q, unset))
      (λ (q : j < i).
      let s = below j q in
      rw (settled-alike j c same, s.settles)
      (refused-from m (suc j) (put_card_row c j (shown s.outcome)) (omega arith) q (rw (put_card_row-length c j (shown s.outcome)) r)
      (next-agrees j c s.outcome s.shows (omega arith) same)))
      (eq-or-lt_of_le g)

  pub refuses : (c : List ℕ) → rows l * column_count ≤ length c → calculation l c ≡ refused (Unsettled (i + 1) why)
  unfolding calculation Agrees
  refuses c r = refused-from (rows l) 0 c (zero-add (rows l)) (omega arith) r (λ x g. absurd (omega arith))

module _ (l c : List ℕ) where
  -- a list that passes the tests, and what its calculation comes to
  module _ (s : RightSize l) (r : HasRoom l (length c)) (a : InRange l) (b : Feeds l) where
    bounded : AllBounded (view_of l)
    bounded j h = (a j h).bounded

    calculated : whole l c ≡ ending c (calculation l c)
    unfolding whole on_passed
    calculated = rw (get-size l (length c) (SizeGets.passed s r), get_rows l (size-rows l s) (RowsGet.passed a b))

    below : (k : Settings) (i : ℕ) → UpTo (view_of l) k i → (j : ℕ) → j < i → RowSettled (view_of l) k j
    below k i u j g = least-settled (view_of l) k j (bounded j (omega (arith, u.is_row))) (u.rows-below j g)

    refused-whole : {x : Answer} → RefusedAt (view_of l) x → ending c (calculation l c) ≡ record { answer = x; card = c }
    unfolding ending
    refused-whole (NO-PICKUP k i why u n) =
        ap (ending c)
        (refuses l b k i u.is_row (Pickup why) ((no-pickup-exactly (view_of l) k i (bounded i u.is_row) why).1 n) (below k i u) c r)
    refused-whole (CURVE k i x place u p n) =
        ap (ending c)
        (refuses l b k i u.is_row (Curve place) ((no-curve-exactly (view_of l) k i (bounded i u.is_row) place).1 (x, p, n)) (below k i u) c r)
    refused-whole (DELAY k i x u p m n) =
        ap (ending c)
        (refuses l b k i u.is_row Delay ((no-delay-exactly (view_of l) k i (bounded i u.is_row)).1 (x, p, m, n)) (below k i u) c r)

  get-whole : {x : Answer} → Gets l c x → (whole l c).answer ≡ x
  unfolding whole ending on_passed
  get-whole (Gets.COUNT n) = rw (get-size l (length c) (SizeGets.COUNT n))
  get-whole (Gets.ROOM s n) = rw (get-size l (length c) (SizeGets.ROOM s n))
  get-whole (Gets.FIELD s r i k f) =
      rw (get-size l (length c) (SizeGets.passed s r), get_rows l (size-rows l s) (RowsGet.FIELD i k f))
  get-whole (Gets.TREE s r a i f) =
      rw (get-size l (length c) (SizeGets.passed s r), get_rows l (size-rows l s) (RowsGet.TREE i a f))
  get-whole (Gets.UNSETTLED s r a b z) = rw (calculated s r a b, refused-whole s r a b z)
  get-whole (Gets.DONE s r a b k m) = settings-accepted l c s r a b k m

  whole-gets : Gets l c (whole l c).answer
  whole-gets = by_size (size-gets l (length c))
    where
      given : {x : Answer} → Gets l c x → Gets l c (whole l c).answer
      given g = subst (Gets l c) (sym (get-whole g)) g

      by_rows : {t : Answer} → RightSize l → HasRoom l (length c) → RowsGet l t → Gets l c (whole l c).answer
      by_rows s r (RowsGet.FIELD i k f) = given (Gets.FIELD s r i k f)
      by_rows s r (RowsGet.TREE i a f) = given (Gets.TREE s r a i f)
      by_rows s r (RowsGet.passed a b) =
          ⊎_elim
          (λ d. given (Gets.DONE s r a b (card_row_at (whole l c).card) (accepted-meets l c s r a b d)))
          (λ z. Gets.UNSETTLED s r a b z)
          (done-or-refused l c s r a b)

      by_size : {t : Answer} → SizeGets l (length c) t → Gets l c (whole l c).answer
      by_size (SizeGets.COUNT n) = given (Gets.COUNT n)
      by_size (SizeGets.ROOM s n) = given (Gets.ROOM s n)
      by_size (SizeGets.passed s r) = by_rows s r (rows_get l (size-rows l s))

  pub every-list-gets : (x : Answer) → ((whole l c).answer ≡ x) ↔ Gets l c x
  every-list-gets x = (λ e. subst (Gets l c) e whole-gets, get-whole)
