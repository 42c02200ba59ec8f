-- DEMAND 1 for a replacement, of any list, card, place and new row (specs/Gets.antt):
--     replacement-gets    it gets an answer exactly when the rules give it, at the first place, with all that comes before it in the
--                         order 2, 3, 10, 4, 5, 9, then 11, 12 or 13, 14, 7 along the path as far as the climb goes, absent; and none otherwise
--     refused-as-lent     any refusal leaves list and card as they were lent
-- `replaced` is the definition that the public entry's contract cites (specs/Replace.antt).
use Rattle.answers.specs.declared.Refusal.{Refusal}
use Rattle.answers.specs.declared.Refusal.TheVariants.{Count, Room}
use Rattle.answers.specs.Answer.{Answer, done}
use Rattle.std.proofs.Common.{Err}
use mathlib.Core.Path.{◌≡◌, refl, sym, ap, ◌∙◌, subst}
use mathlib.Core.Logic.{◌↔◌, ⊎_elim}
use mathlib.Core.List.{List}
use Prim.Native.Nat.{ℕ, ◌-◌, ◌≤◌, ◌<◌}
use lib.ListN.{length}
use Rattle.fold.proofs.BoolLaws.{passes-or-fails, fails, not-both}
use Rattle.layout.specs.Card.{card_row_at}
use Rattle.layout.specs.Counts.{rows_most}
use Rattle.layout.specs.List.{rows}
use Rattle.path.specs.CardTest.{CardGets}
use Rattle.path.proofs.CardTestLaws.{get-card, card-gets}
use Rattle.rows.specs.InRange.{InRange, Feeds, SizeGets, RowsGet}
use Rattle.rows.proofs.ExactLaws.{get-size, size-gets, size-rows, get_rows, rows_get}
use Rattle.rowwise.specs.WorkOut.{on_passed}
use Rattle.change.specs.AnyCard.{PathRefused}
use Rattle.change.specs.Edit.{edit_right}
use Rattle.change.specs.Gets.{made, Fits, Passes, ReplacementGets}
use Rattle.change.specs.Ready.{answer_of}
use Rattle.change.specs.Replace.{Replaced, reworked, outcome, replaced}
use Rattle.change.proofs.AnyCard.{path-exactly}
use Rattle.change.proofs.EditLaws.{edit-fits, fits-edit}
use Rattle.change.proofs.EditedLaws.{edited-rows, edited-is-row}
use Rattle.change.proofs.EntryLaws.{answer-size}
use Rattle.change.proofs.KeptLaws.{refused-keeps}
use Rattle.change.proofs.PathEndLaws.{Ended, ended}
use Rattle.change.proofs.PathOneLaws.{ended-not-refused, same-refusal}
use Rattle.change.proofs.SeriesLaws.{replaced-edit, replaced-edited}

module _ (l c : List ℕ) (place : ℕ) (row : List ℕ) where
  abbrev l' : List ℕ
  l' = made l place row

  abbrev answer : Answer
  answer = (replaced l c place row).answer

  -- 2, 3 and 10 passed: the list as it would be has as many rows, and the tests of it are next
  module _ (f : Fits l c place row) where
    few : rows l' ≤ rows_most
    few = rw (← edited-rows l place row f.edit) (size-rows l f.right-size)

    is_row : place - 1 < rows l'
    is_row = rw (← edited-rows l place row f.edit) (edited-is-row l place row f.edit)

    goes_on : answer ≡ (outcome l c l' (place - 1) (reworked l' (place - 1) c)).answer
    goes_on =
        ap (λ (r : Replaced). r.answer)
        (replaced-edited l c place row (get-size l (length c) (SizeGets.passed f.right-size f.room)) f.edit)

    by_rows : (a : Refusal) → RowsGet l' (Err a) → answer ≡ Err a
    unfolding reworked on_passed outcome
    by_rows a g = goes_on ∙ rw (get_rows l' few g)

    by-card : (a : Refusal) → InRange l' → Feeds l' → CardGets l' (place - 1) c (Err a) → answer ≡ Err a
    unfolding reworked on_passed outcome
    by-card a r b g = goes_on ∙ rw (get_rows l' few (RowsGet.passed r b), get-card l' (place - 1) c g)

  by_size : (a : Refusal) → SizeGets l (length c) (Err a) → answer ≡ Err a
  unfolding answer_of
  by_size a g = sym (answer-size l c place row _ a refl (get-size l (length c) g)).answer

  by-path : (a : Answer) (p : Passes l c place row) → PathRefused l' (place - 1) c a → answer ≡ a
  by-path a p z = by_cases (ended l c place row p)
    where
      by_cases : Ended l c place row p → answer ≡ a
      by_cases (Ended.worked d v) =
          absurd
          (ended-not-refused l' p.feeds (place - 1) (is_row p.fits) c (λ j h. (p.in-range j h).bounded) (card_row_at (replaced l c place row).card) v.last
          v.worked z)
      by_cases (Ended.refused-by x d z') = d ∙ same-refusal l' p.feeds (place - 1) (is_row p.fits) c (λ j h. (p.in-range j h).bounded) z' z

  get : {a : Answer} → ReplacementGets l c place row a → answer ≡ a
  get (ReplacementGets.COUNT n) = by_size Count (SizeGets.COUNT n)
  get (ReplacementGets.ROOM s n) = by_size Room (SizeGets.ROOM s n)
  get (ReplacementGets.EDIT s r n) =
      ap (λ (r : Replaced). r.answer)
      (replaced-edit l c place row (get-size l (length c) (SizeGets.passed s r)) (fails (edit_right l place row) (λ t. n (edit-fits l place row t))))
  get (ReplacementGets.FIELD i k f w) = by_rows f _ (RowsGet.FIELD i k w)
  get (ReplacementGets.TREE i f r w) = by_rows f _ (RowsGet.TREE i r w)
  get (ReplacementGets.CARD i f r b w) = by-card f _ r b (CardGets.CARD i w)
  get (ReplacementGets.UNSETTLED p z) = by-path _ p z
  get (ReplacementGets.DONE k s p w) = (path-exactly l c place row p).1 (k, s, w)

  -- one of them is given
  gets : ReplacementGets l c place row (replaced l c place row).answer
  gets = sizes (size-gets l (length c))
    where
      given : {a : Answer} → ReplacementGets l c place row a → ReplacementGets l c place row answer
      given g = subst (ReplacementGets l c place row) (sym (get g)) g

      path : (p : Passes l c place row) → Ended l c place row p → ReplacementGets l c place row answer
      path p (Ended.worked d v) = given (ReplacementGets.DONE (card_row_at (replaced l c place row).card) v.last p v.worked)
      path p (Ended.refused-by x d z) = given (ReplacementGets.UNSETTLED p z)

      cards : Fits l c place row → InRange l' → Feeds l' → {t : Answer} → CardGets l' (place - 1) c t → ReplacementGets l c place row answer
      cards f r b (CardGets.passed k) =
          let p : Passes l c place row = record { fits = f; in-range = r; feeds = b; card = k } in path p (ended l c place row p)
      cards f r b (CardGets.CARD i w) = given (ReplacementGets.CARD i f r b w)

      list : Fits l c place row → {t : Answer} → RowsGet l' t → ReplacementGets l c place row answer
      list f (RowsGet.passed r b) = cards f r b (card-gets l' (place - 1) c)
      list f (RowsGet.FIELD i k w) = given (ReplacementGets.FIELD i k f w)
      list f (RowsGet.TREE i r w) = given (ReplacementGets.TREE i f r w)

      sizes : {t : Answer} → SizeGets l (length c) t → ReplacementGets l c place row answer
      sizes (SizeGets.passed s r) =
          ⊎_elim
          (λ e. let f : Fits l c place row = record { right-size = s; room = r; edit = edit-fits l place row e } in list f (rows_get l' (few f)))
          (λ e. given (ReplacementGets.EDIT s r (λ f. not-both (fits-edit l place row f) e)))
          (passes-or-fails (edit_right l place row))
      sizes (SizeGets.COUNT n) = given (ReplacementGets.COUNT n)
      sizes (SizeGets.ROOM s n) = given (ReplacementGets.ROOM s n)

  pub replacement-gets : (a : Answer) → ((replaced l c place row).answer ≡ a) ↔ ReplacementGets l c place row a
  replacement-gets a = (λ e. subst (ReplacementGets l c place row) e gets, get)

  pub refused-as-lent :
      ((replaced l c place row).answer ≡ done → ⊥) → ((replaced l c place row).list ≡ l) × ((replaced l c place row).card ≡ c)
  refused-as-lent n = refused-keeps l c place row n
