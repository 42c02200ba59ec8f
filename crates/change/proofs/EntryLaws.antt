-- The replacement, one law for each way that it ends.
use mathlib.Core.Bool.{true, false}
use Rattle.fold.proofs.BoolLaws.{zero-not-one}
use Rattle.answers.specs.declared.Refusal.{Refusal}
use Rattle.std.proofs.Common.{Ok, Err, is_err}
use mathlib.Core.Path.{◌≡◌, refl, sym, ap, ◌∙◌, subst}
use mathlib.Core.List.{List, [], append-nil}
use Prim.Native.Nat.{ℕ, ◌+◌, ◌-◌, ◌*◌}
use native.Mathlib.Omega.{arith}
use lib.ListN.{length, take, drop, drop_of_length-le}
use Rattle.layout.specs.Counts.{field_count}
use Rattle.answers.specs.Answer.{Answer, done}
use Rattle.rows.specs.Tests.{size_test, rows_test}
use Rattle.rows.proofs.TestLaws.{size-passed}
use Rattle.rowwise.specs.WorkOut.{Worked, on_passed}
use Rattle.path.specs.Reach.{reach}
use Rattle.change.specs.Edit.{PutReady, EditFits}
use Rattle.change.specs.Ready.{ExchangeReady, exchanged, answer_of, count_of, Exchanged}
use Rattle.path.specs.Ready.{PathReady, ReworkReady, far_of, card_of, Reworked, WorkedOut, HowFar}
use Rattle.change.specs.Edit.{put_list, edit_test}
use Rattle.change.specs.Replace.{reworked, outcome, replaced}
use Rattle.path.specs.CardTest.{card_test}
use Rattle.path.proofs.EndLaws.{reworked-done, reworked-refused}
use Rattle.change.proofs.PutLaws.{put_back}
use Rattle.change.proofs.EditLaws.{edit-passed}

-- 4 and 5, 9, then the path
module _ (l : List ℕ) (i : ℕ) (c : List ℕ) where
  pub rework-rows : (t : Answer) (a : Refusal) → t ≡ rows_test l → t ≡ Err a → Reworked (reach l i c) (reworked l i c) c (Err a) c
  unfolding reworked on_passed far_of card_of
  rework-rows t a e f = rw (sym e ∙ f) (record { far = refl; card = refl })

  module _ (t : Answer) (e : t ≡ rows_test l) (f : t ≡ done) (t' : Answer) (e' : t' ≡ card_test l i c) where
    pub rework-card : (a : Refusal) → t' ≡ Err a → Reworked (reach l i c) (reworked l i c) c (Err a) c
    unfolding reworked on_passed far_of card_of
    rework-card a f' = rw (sym e ∙ f, sym e' ∙ f') (record { far = refl; card = refl })

    pub rework-ready : t' ≡ done → ReworkReady l i c → PathReady l i c
    rework-ready f' r = record { rework = r; rows-tested = sym e ∙ f; card-tested = sym e' ∙ f' }

    pub rework-path :
        t' ≡ done → (x : HowFar) (c' : List ℕ) → WorkedOut l (reach l i c) c x c' → Reworked (reach l i c) (reworked l i c) c x c'
    unfolding reworked on_passed
    rework-path f' x c' z = rw (sym e ∙ f, sym e' ∙ f') z

-- whether it is refused
pub as-refused : (x : HowFar) → is_err x ≡ true → (a : Refusal) × (x ≡ Err a)
as-refused (Err a) e = (a, refl)
as-refused (Ok n) e = absurd (zero-not-one cc)

pub as-done : (x : HowFar) → is_err x ≡ false → (n : ℕ) × (x ≡ Ok n)
as-done (Ok n) e = (n, refl)
as-done (Err a) e = absurd (zero-not-one cc)

-- the new row is put in
module _ (l c : List ℕ) (i : ℕ) (row l' : List ℕ) (el : l' ≡ put_list l i row) (x : HowFar) (c' : List ℕ)
    (z : Reworked (reach l' i c) (reworked l' i c) c x c') where
  worked : reworked (put_list l i row) i c ≡ reworked l' i c
  worked = ap (λ (l : List ℕ). reworked l i c) (sym el)

  pub exchange-done : (n : ℕ) → x ≡ Ok n → Exchanged (exchanged l c i row) x l' c'
  unfolding outcome answer_of count_of
  exchange-done n e =
      let b = reworked-done (reach l' i c) (reworked l' i c) c x c' z n e in
      let count : n ≡ length (reach (put_list l i row) i c) = b.1 ∙ ap (λ (l : List ℕ). length (reach l i c)) el in
      rw (e, worked ∙ b.0) (record { answer = refl; count = count; list = el; card = refl })

  -- refused: the old row, which was kept aside in 22 numbers, goes back
  pub exchange-refused :
      (a : Refusal) (y old l'' : List ℕ) → x ≡ Err a → PutReady l i row → length y ≡ field_count →
      old ≡ put_list y 0 (take (i * field_count + field_count - i * field_count) (drop (i * field_count) l)) → l'' ≡ put_list l' i old → Exchanged
      (exchanged l c i row) (Err a) l'' c'
  unfolding outcome put_list answer_of count_of
  exchange-refused a y old l'' e h ky eo e'' =
      let b = reworked-refused (reach l' i c) (reworked l' i c) c x c' z a e in
      subst (λ (w : Worked). Exchanged (outcome l c (put_list l i row) i w) (Err a) l'' c') (sym (worked ∙ b.0))
      (record {
        answer = refl;
        count = refl;
        list = e'' ∙ ap (λ (x : List ℕ). put_list x i old) el ∙ put_back l i row old h (eo ∙ kept y ky);
        card = b.1;
      })
    where
      -- 22 numbers written over 22
      kept :
          (y : List ℕ) → length y ≡ field_count →
          put_list y 0 (take (i * field_count + field_count - i * field_count) (drop (i * field_count) l)) ≡ take field_count (drop (i * field_count) l)
      kept y k =
          let n : i * field_count + field_count - i * field_count ≡ field_count = omega arith in
          let d : drop field_count y ≡ [] = drop_of_length-le y {i = field_count} (omega arith) in
          rw (d, n, append-nil (take field_count (drop (i * field_count) l)))

-- 2 and 3, then 10
module _ (l c : List ℕ) (place : ℕ) (row : List ℕ) where
  pub answer-size : (t : Answer) (a : Refusal) → t ≡ size_test (length l) (length c) → t ≡ Err a → Exchanged (replaced l c place row) (Err a) l c
  unfolding replaced on_passed outcome answer_of count_of
  answer-size t a e f = rw (sym e ∙ f) (record { answer = refl; count = refl; list = refl; card = refl })

  module _ (t : Answer) (e : t ≡ size_test (length l) (length c)) (f : t ≡ done) (t' : Answer) (e' : t' ≡ edit_test l place row) where
    pub answer-edit : (a : Refusal) → t' ≡ Err a → Exchanged (replaced l c place row) (Err a) l c
    unfolding replaced on_passed outcome answer_of count_of
    answer-edit a f' = rw (sym e ∙ f, sym e' ∙ f') (record { answer = refl; count = refl; list = refl; card = refl })

    module _ (f' : t' ≡ done) where
      answer-fits : EditFits l place row
      answer-fits = edit-passed l place row (sym e' ∙ f')

      pub answer-ready : ExchangeReady l (place - 1) c row
      answer-ready =
          let k = size-passed (length l) (length c) (sym e ∙ f) in
          record {
            rework =
                record {
                  is_row = omega (arith, answer-fits.from, answer-fits.to);
                  rows-to = omega (arith, k.most-rows);
                  card-room = omega (arith, k.card-room);
                };
            row-length = answer-fits.row-length;
          }

      pub answer-exchanged :
          (x : HowFar) (l' c' : List ℕ) → Exchanged (exchanged l c (place - 1) row) x l' c' → Exchanged (replaced l c place row) x l' c'
      unfolding replaced on_passed
      answer-exchanged x l' c' z = rw (sym e ∙ f, sym e' ∙ f') z
