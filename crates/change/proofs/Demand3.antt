-- DEMAND 3, of the replacement that the public entry's contract cites (specs/Replace.antt); the claims are in specs/Claims.antt:
--     demand-3                 after every series of replacements: answers, list and card, beside the ledger (specs/Series.antt)
--     done-put-in              the list is the first one with the rows of all replacements that were done put in, in their order
--     replaced-as-whole        one replacement on an accepted list and its card, beside the whole calculation of the list it makes
--     edit-exactly             refused with EDIT exactly by the rule
--     off-path-kept            done, card rows off the replaced row's path keep their numbers; so does what stands past the rows,
--                              and the list outside the row: with any card
--     refused-changes-nothing  a refused one changes nothing
--     rows-to-visit            [02 §8] done on an accepted list and its card, the count is that of the rows up to the first feeding row,
--                              after the replaced one, whose card row is the same by the whole calculations of both lists
-- An accepted list l with its card c: `whole l c₀` is Done with card c, where c₀ is the card as it was lent.
use Rattle.std.proofs.Common.{Err}
use Rattle.answers.specs.declared.Refusal.{Refusal}
use Rattle.answers.specs.declared.Refusal.TheVariants.{Edit}
use Rattle.answers.specs.Answer.{done}
use mathlib.Core.Path.{◌≡◌, refl, sym, ap, ap₂, ◌∙◌, subst}
use mathlib.Core.Logic.{◌↔◌, ⊎_elim}
use mathlib.Core.List.{List, [], ◌∷◌}
use Prim.Native.Nat.{ℕ, ◌-◌, ◌*◌}
use lib.ListN.{length}
use Rattle.fold.proofs.BoolLaws.{zero-not-one}
use Rattle.layout.specs.Card.{card_row_at}
use Rattle.layout.specs.Counts.{column_count}
use Rattle.layout.specs.List.{rows}
use Rattle.rows.specs.InRange.{RightSize, HasRoom, SizeGets}
use Rattle.rows.proofs.ExactLaws.{get-size}
use Rattle.rowwise.specs.WorkOut.{Worked, finished, refused}
use Rattle.calculate.specs.Whole.{Result, ending, whole}
use Rattle.path.specs.Reach.{reach}
use Rattle.change.specs.AnyCard.{Visits}
use Rattle.change.specs.Claims.{AfterSeries, AsWhole, LeftAlone}
use Rattle.change.specs.Edit.{put_list, EditFits}
use Rattle.change.specs.Gets.{ReplacementGets}
use Rattle.change.specs.Replace.{reworked, Replaced, outcome, replaced}
use Rattle.change.specs.Series.{Request, replacements, entered, Ledger, ledger, put_done}
use Rattle.change.proofs.AcceptLaws.{accepts}
use Rattle.change.proofs.EditedLaws.{edited-put}
use Rattle.change.proofs.KeptLaws.{replaces, replaced-list, refused-keeps, work_out-keeps, off-outside, reach-within}
use Rattle.change.proofs.PutLaws.{put_list-length, put_list-before, put_list-within, put_list-after}
use Rattle.change.proofs.RefusalLaws.{Refuses, refuses-done, later-edit, reworked-later}
use Rattle.change.proofs.SeriesLaws.{one-agrees, replaced-edited, replaced-made, whole-made, made, made-answer, made-refuses}
use Rattle.change.proofs.AgainLaws.{series-again}
use Rattle.change.proofs.AnyCard.{path-visits}
use Rattle.change.proofs.Demand1.{replacement-gets}
use Rattle.change.proofs.DoneLaws.{done-passes}

done-not-edit : done ≡ Err Edit → ⊥
done-not-edit e = zero-not-one cc

pub demand-3 : (l c₀ c : List ℕ) → whole l c₀ ≡ record { answer = done; card = c } → (series : List Request) → AfterSeries l c₀ c series
unfolding replacements ledger
demand-3 l c₀ c g [] =
    let accepted = ap (λ (r : Result). r.answer) g in
    let card = sym (ap (λ (r : Result). r.card) g) in
    record { answers = refl; list = refl; accepted = accepted; card = card; card-again = card ∙ series-again l c₀ c g [] accepted }
demand-3 l c₀ c g (q ∷ qs) =
    let r = replaced l c q.place q.row in
    let a = one-agrees l c₀ c g q.place q.row in
    let rest = demand-3 r.list c₀ r.card a.accepted qs in
    let same : ledger r.list qs ≡ ledger (entered l q.place q.row).list qs = ap (λ (l : List ℕ). ledger l qs) a.list in
    let accepted = subst (λ (g : Ledger). (whole g.list c₀).answer ≡ done) same rest.accepted in
    let card = rest.card ∙ ap (λ (g : Ledger). (whole g.list c₀).card) same in
    record {
      answers = ap₂ ◌∷◌ a.answer (rest.answers ∙ ap (λ (g : Ledger). g.answers) same);
      list = rest.list ∙ ap (λ (g : Ledger). g.list) same;
      accepted = accepted;
      card = card;
      card-again = card ∙ series-again l c₀ c g (q ∷ qs) accepted;
    }

pub done-put-in : (l c : List ℕ) (series : List Request) → (replacements l c series).list ≡ put_done l (replacements l c series).answers series
unfolding replacements put_done
done-put-in l c [] = refl
done-put-in l c (q ∷ qs) =
    let r = replaced l c q.place q.row in
    done-put-in r.list r.card qs ∙
    ap (λ (l : List ℕ). put_done l (replacements r.list r.card qs).answers qs) (replaced-list l c q.place q.row)

pub replaced-as-whole :
    (l c₀ c : List ℕ) → whole l c₀ ≡ record { answer = done; card = c } → (place : ℕ) (row : List ℕ) → EditFits l place row →
    AsWhole l c₀ c place row
unfolding outcome ending
replaced-as-whole l c₀ c g place row f =
    let x = accepts l c₀ c g in
    by_cases (made l c₀ c x place row f) (replaced-made l c₀ c x place row f) (whole-made l c₀ c x place row f) (made-answer l c₀ c x place row f)
    (made-refuses l c₀ c x place row f)
  where
    by_cases :
        (w : Worked) → replaced l c place row ≡ outcome l c (put_list l (place - 1) row) (place - 1) w → whole (put_list l (place - 1) row) c₀ ≡ ending c₀ w →
        (whole (put_list l (place - 1) row) c₀).answer ≡ (whole (put_list l (place - 1) row) c).answer → ((a : Refusal) → w ≡ refused a → Refuses a) →
        AsWhole l c₀ c place row
    by_cases (finished d) r w s n =
        let answer : (replaced l c place row).answer ≡ (whole (put_list l (place - 1) row) c₀).answer = ap (λ (r : Replaced). r.answer) r ∙ sym
        (ap (λ (r : Result). r.answer) w) in
        record {
          answer = answer;
          answer-on-card = answer ∙ s;
          list-when-done = λ _. ap (λ (r : Replaced). r.list) r;
          card-when-done = λ _. ap (λ (r : Replaced). r.card) r ∙ sym (ap (λ (r : Result). r.card) w);
        }
    by_cases (refused a) r w s n =
        let answer : (replaced l c place row).answer ≡ (whole (put_list l (place - 1) row) c₀).answer = ap (λ (r : Replaced). r.answer) r ∙ sym
        (ap (λ (r : Result). r.answer) w) in
        let never : (replaced l c place row).answer ≡ done → ⊥ = λ e. refuses-done (n a refl) (sym (ap (λ (r : Replaced). r.answer) r) ∙ e) in
        record {
          answer = answer;
          answer-on-card = answer ∙ s;
          list-when-done = λ e. absurd (never e);
          card-when-done = λ e. absurd (never e);
        }

pub edit-exactly :
    (l c : List ℕ) (place : ℕ) (row : List ℕ) → RightSize l → HasRoom l (length c) → ((replaced l c place row).answer ≡ Err Edit) ↔
    (EditFits l place row → ⊥)
unfolding outcome
edit-exactly l c place row s r = (
  λ e f. by_cases (reworked (put_list l (place - 1) row) (place - 1) c) refl
      (sym (ap (λ (r : Replaced). r.answer) (replaced-edited l c place row (get-size l (length c) (SizeGets.passed s r)) f)) ∙ e),
  λ n. (replacement-gets l c place row (Err Edit)).1 (ReplacementGets.EDIT s r n),
)
  where
    by_cases : (w : Worked) → reworked (put_list l (place - 1) row) (place - 1) c ≡ w → (outcome l c (put_list l (place - 1) row) (place - 1) w).answer ≡ Err Edit → ⊥
    by_cases (finished d) q e = done-not-edit e
    by_cases (refused a) q e = later-edit (reworked-later (put_list l (place - 1) row) (place - 1) c a q) e

pub off-path-kept :
    (l c : List ℕ) (place : ℕ) (row : List ℕ) → (replaced l c place row).answer ≡ done →
    LeftAlone l c place row (replaced l c place row).list (replaced l c place row).card
off-path-kept l c place row e =
    let r = replaces l c place row e in
    let k = work_out-keeps (put_list l (place - 1) row) (reach (put_list l (place - 1) row) (place - 1) c) c r.card r.worked in
    let put = edited-put l place row r.fits in
    rw r.is
    (record {
      list = refl;
      list_length = put_list-length l (place - 1) row put;
      new_row = put_list-within l (place - 1) row put;
      other-rows = λ x. ⊎_elim (put_list-before l (place - 1) row put x) (put_list-after l (place - 1) row put x);
      card-length = k.same_length;
      off-path = λ j off. k.same j (off-outside l c place row r.fits r.tested j off);
      past-rows = k.past (rows l * column_count) (reach-within l c place row r.fits r.tested);
    })

pub refused-changes-nothing :
    (l c : List ℕ) (place : ℕ) (row : List ℕ) → ((replaced l c place row).answer ≡ done → ⊥) →
    ((replaced l c place row).list ≡ l) × ((replaced l c place row).card ≡ c)
refused-changes-nothing l c place row n = refused-keeps l c place row n

pub rows-to-visit :
    (l c₀ c : List ℕ) → whole l c₀ ≡ record { answer = done; card = c } → (place : ℕ) (row : List ℕ) → (replaced l c place row).answer ≡ done →
    Visits (put_list l (place - 1) row) (place - 1) c (card_row_at (whole (put_list l (place - 1) row) c₀).card) (replaced l c place row).count
rows-to-visit l c₀ c g place row e =
    let p = done-passes l c place row e in
    let w = replaced-as-whole l c₀ c g place row p.fits.edit in
    subst (λ (x : List ℕ). Visits (put_list l (place - 1) row) (place - 1) c (card_row_at x) (replaced l c place row).count) (w.card-when-done e)
    (path-visits l c place row p e)
