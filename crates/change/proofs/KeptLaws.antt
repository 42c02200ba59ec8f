-- Working out rows writes those rows of the card only; what a replacement that is done has passed.
use Rattle.answers.specs.declared.Refusal.{Refusal}
use Rattle.settle.specs.Outcomes.{Settled}
use Rattle.std.proofs.Common.{Ok, Err}
use mathlib.Core.Path.{◌≡◌, refl, sym, ap, ◌∙◌}
use mathlib.Core.Bool.{true, false, cond, or-true}
use mathlib.Core.List.{List, [], ◌∷◌}
use Prim.Native.Nat.{ℕ, ◌+◌, ◌-◌, ◌*◌, ◌≤◌}
use native.Mathlib.Omega.{arith}
use lib.Dec.{eqb}
use lib.ListN.{length, drop}
use borrow.Author.Tests.{eq-eqb}
use Rattle.fold.proofs.BoolLaws.{not-both, or_left, or_right}
use Rattle.answers.specs.Answer.{number_of, done}
use Rattle.layout.specs.declared.CardRow.{CardRow}
use Rattle.layout.specs.Card.{card_row_at, put_card_row}
use Rattle.layout.specs.Counts.{column_count}
use Rattle.layout.specs.List.{rows}
use Rattle.layout.specs.View.{view_of}
use Rattle.layout.proofs.CardLaws.{put_card_row-length, put_card_row-other, put_card_row-drop}
use Rattle.rows.specs.Tests.{size_test, rows_test}
use Rattle.rows.proofs.InRangeLaws.{passed-feeds}
use Rattle.settle.specs.Settle.{shown, settled}
use Rattle.rowwise.specs.WorkOut.{Worked, finished, refused, on_settled, work_out, on_passed}
use Rattle.rowwise.proofs.EndLaws.{never-finished}
use Rattle.path.specs.Path.{OnPath, path_of, has, on_path}
use Rattle.path.specs.Reach.{reach}
use Rattle.path.proofs.ReachRowsLaws.{reach-inside, reach-outside}
use Rattle.change.specs.Edit.{put_list, EditFits, edit_test}
use Rattle.change.specs.Replace.{reworked, outcome, replaced}
use Rattle.change.proofs.EditedLaws.{edited-rows, edited-is-row, edited-path}
use Rattle.path.proofs.OnPathLaws.{off-path-exactly}
use Rattle.path.proofs.PathLaws.{on-within}
use Rattle.change.proofs.RefusalLaws.{Refuses, refuses-done, size-refuses, edit-refuses, reworked-later, passed-refused, passed-finished}
use Rattle.change.proofs.EditLaws.{edit-passed}

module _ (l : List ℕ) where
  pub record Keeps (is c c' : List ℕ) : Type 0 where
    pub same_length : length c' ≡ length c
    pub same : (j : ℕ) → has is j ≡ false → card_row_at c' j ≡ card_row_at c j
    pub past : (n : ℕ) → ((i : ℕ) → has is i ≡ true → i * column_count + column_count ≤ n) → drop n c' ≡ drop n c

  pub work_out-keeps : (is c c' : List ℕ) → work_out l is c ≡ finished c' → Keeps is c c'
  unfolding work_out on_settled has
  work_out-keeps [] c c' e =
      let q : c ≡ c' = cc in
      record { same_length = ap length (sym q); same = λ j _. ap (λ (c : List ℕ). card_row_at c j) (sym q); past = λ n _. ap (drop n) (sym q) }
  work_out-keeps (i ∷ is) c c' e = by_cases (settled (view_of l) (card_row_at c) i) e (λ k. work_out-keeps is (put_card_row c i k) c')
    where
      by_cases :
          (s : Settled) → on_settled i s (λ k. work_out l is (put_card_row c i k)) ≡ finished c' →
          ((k : CardRow) → work_out l is (put_card_row c i k) ≡ finished c' → Keeps is (put_card_row c i k) c') → Keeps (i ∷ is) c c'
      by_cases (Ok o) e ih =
          let k = ih (shown o) e in
          record {
            same_length = k.same_length ∙ put_card_row-length c i (shown o);
            same =
                λ j out.
                k.same j (or_right (eqb j i) (has is j) out) ∙
                put_card_row-other c i (shown o) j (λ q. not-both (eq-eqb j i q) (or_left (eqb j i) (has is j) out));
            past =
                λ n room.
                k.past n (λ j on. room j (rw on (or-true (eqb j i)))) ∙
                put_card_row-drop c i (shown o) n (room i (rw (eq-eqb i i refl)));
          }
      by_cases (Err why) e ih = absurd (never-finished e)

module _ (l c : List ℕ) (place : ℕ) (row : List ℕ) where
  abbrev tried : Worked
  tried = on_passed (size_test (length l) (length c)) (on_passed (edit_test l place row) (reworked (put_list l (place - 1) row) (place - 1) c))

  tried-refuses : (a : Refusal) → tried ≡ refused a → Refuses a
  tried-refuses =
      passed-refused _ _ Refuses (size-refuses (length l) (length c))
      (passed-refused _ _ Refuses (edit-refuses l place row) (λ a e. (reworked-later (put_list l (place - 1) row) (place - 1) c a e).refuses))

  -- what a replacement that is done has passed, and what it leaves
  pub record Replaces : Type 0 where
    pub card : List ℕ
    pub size : size_test (length l) (length c) ≡ done
    pub fits : EditFits l place row
    pub tested : rows_test (put_list l (place - 1) row) ≡ done
    pub worked : work_out (put_list l (place - 1) row) (reach (put_list l (place - 1) row) (place - 1) c) c ≡ finished card
    pub is :
        replaced l c place row ≡ record {
          answer = done;
          list = put_list l (place - 1) row;
          card = card;
          count = length (reach (put_list l (place - 1) row) (place - 1) c);
        }

  pub replaces : (replaced l c place row).answer ≡ done → Replaces
  unfolding replaced outcome reworked
  replaces e = by_cases tried refl e
    where
      by_cases : (w : Worked) → tried ≡ w → (outcome l c (put_list l (place - 1) row) (place - 1) w).answer ≡ done → Replaces
      by_cases (finished d) q g =
          let s = passed-finished _ _ d q in
          let t = passed-finished _ _ d s.1 in
          let u = passed-finished _ _ d t.1 in
          record {
            card = d;
            size = s.0;
            fits = edit-passed l place row t.0;
            tested = u.0;
            worked = (passed-finished _ _ d u.1).1;
            is = ap (outcome l c (put_list l (place - 1) row) (place - 1)) q;
          }
      by_cases (refused a) q g = absurd (refuses-done (tried-refuses a q) g)

  -- the list after a replacement, by its answer
  pub replaced-list : (replaced l c place row).list ≡ cond (eqb (number_of (replaced l c place row).answer) 0) (put_list l (place - 1) row) l
  unfolding replaced outcome
  replaced-list = by_cases tried refl
    where
      by_cases :
          (w : Worked) → tried ≡ w →
          (outcome l c (put_list l (place - 1) row) (place - 1) w).list ≡ cond (eqb (number_of (outcome l c (put_list l (place - 1) row) (place - 1) w).answer) 0)
          (put_list l (place - 1) row) l
      by_cases (finished d) q = refl
      by_cases (refused a) q = rw (tried-refuses a q).not_done

  -- refused, the list and the card are as they were
  pub refused-keeps : ((replaced l c place row).answer ≡ done → ⊥) → ((replaced l c place row).list ≡ l) × ((replaced l c place row).card ≡ c)
  unfolding replaced outcome
  refused-keeps n = by_cases tried n
    where
      by_cases :
          (w : Worked) → ((outcome l c (put_list l (place - 1) row) (place - 1) w).answer ≡ done → ⊥) →
          ((outcome l c (put_list l (place - 1) row) (place - 1) w).list ≡ l) × ((outcome l c (put_list l (place - 1) row) (place - 1) w).card ≡ c)
      by_cases (finished d) n = absurd (n refl)
      by_cases (refused a) n = (refl, refl)

  pub refused-counts : ((replaced l c place row).answer ≡ done → ⊥) → (replaced l c place row).count ≡ 0
  unfolding replaced outcome
  refused-counts n = by_cases tried n
    where
      by_cases :
          (w : Worked) → ((outcome l c (put_list l (place - 1) row) (place - 1) w).answer ≡ done → ⊥) →
          (outcome l c (put_list l (place - 1) row) (place - 1) w).count ≡ 0
      by_cases (finished d) n = absurd (n refl)
      by_cases (refused a) n = refl

  -- a row off the path is none of the rows worked out, which are rows of the list
  module _ (f : EditFits l place row) (t : rows_test (put_list l (place - 1) row) ≡ done) where
    pub off-outside : (j : ℕ) → (OnPath l (place - 1) j → ⊥) → has (reach (put_list l (place - 1) row) (place - 1) c) j ≡ false
    unfolding on_path
    off-outside j off =
        reach-outside (put_list l (place - 1) row) false (path_of (put_list l (place - 1) row) (place - 1)) c j
        ((off-path-exactly (put_list l (place - 1) row) (passed-feeds (put_list l (place - 1) row) t) (place - 1) j
        (rw (← edited-rows l place row f) (edited-is-row l place row f))).1
        (λ o. off (edited-path l place row f o)))

    pub reach-within : (i : ℕ) → has (reach (put_list l (place - 1) row) (place - 1) c) i ≡ true → i * column_count + column_count ≤ rows l * column_count
    unfolding on_path
    reach-within i on =
        let n = edited-rows l place row f in
        let k = on-within (put_list l (place - 1) row) (passed-feeds (put_list l (place - 1) row) t) (place - 1) i
        (rw (← n) (edited-is-row l place row f)) (reach-inside (put_list l (place - 1) row) false (path_of (put_list l (place - 1) row) (place - 1)) c i on) in
        omega arith
