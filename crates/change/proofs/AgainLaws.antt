-- The whole calculation of an accepted list leaves the same on the card as it was lent and on the card as a first calculation left
-- it: the two are alike past their rows, and no list of the ledger has other rows.
use mathlib.Core.Path.{◌≡◌, refl, sym, ap, ◌∙◌}
use mathlib.Core.Logic.{⊎_elim}
use mathlib.Core.List.{List, [], ◌∷◌}
use Prim.Native.Nat.{ℕ, ◌-◌, ◌*◌}
use lib.Dec.{eqb}
use lib.ListN.{length, drop}
use Rattle.fold.proofs.BoolLaws.{passes-or-fails}
use Rattle.answers.specs.Answer.{number_of, done}
use Rattle.layout.specs.Counts.{column_count}
use Rattle.layout.specs.List.{rows}
use Rattle.rows.specs.Tests.{rows_test}
use Rattle.rows.proofs.InRangeLaws.{passed-feeds}
use Rattle.rowwise.specs.WorkOut.{finished, on_passed}
use Rattle.calculate.specs.Whole.{Result, ending, calculation, whole}
use Rattle.calculate.proofs.FrameLaws.{calculation-keeps}
use Rattle.change.specs.Edit.{put_list}
use Rattle.change.specs.Series.{Request, calculated, kept, entered, ledger}
use Rattle.change.proofs.AcceptLaws.{whole-as, accepts, accepted-room, accepted-length}
use Rattle.change.proofs.EditedLaws.{edited-rows}
use Rattle.change.proofs.SeriesLaws.{edit-cases}
use Rattle.change.proofs.SkipLaws.{calculation-same}

-- an accepted list, on another card of the same length that is alike past the rows
whole_again :
    (l c₀ c : List ℕ) → (whole l c₀).answer ≡ done → length c ≡ length c₀ → drop (rows l * column_count) c ≡ drop (rows l * column_count) c₀ →
    (whole l c₀).card ≡ (whole l c).card
unfolding on_passed ending
whole_again l c₀ c e n d =
    let x = accepts l c₀ (whole l c₀).card (λ t. record { answer = e t; card = (whole l c₀).card }) in
    let room = accepted-room l c₀ (whole l c₀).card x in
    let same = calculation-same l (passed-feeds l x.tested) c c₀ (rw n room) room d ∙ x.calculated in
    let worked : on_passed (rows_test l) (calculation l c) ≡ finished (whole l c₀).card = rw (x.tested, same) in
    sym (ap (λ (r : Result). r.card) (whole-as l c (rw n x.size) ∙ ap (ending c) worked))

entered-rows : (l : List ℕ) (place : ℕ) (row : List ℕ) → rows (entered l place row).list ≡ rows l
unfolding entered kept
entered-rows l place row =
    edit-cases l place row
    (λ f e.
    rw e
    (⊎_elim (λ t. rw t (sym (edited-rows l place row f))) (λ t. rw t) (passes-or-fails (eqb (number_of (calculated (put_list l (place - 1) row))) 0))))
    (λ e. rw e)

ledger-rows : (l : List ℕ) (series : List Request) → rows (ledger l series).list ≡ rows l
unfolding ledger
ledger-rows l [] = refl
ledger-rows l (q ∷ qs) = ledger-rows (entered l q.place q.row).list qs ∙ entered-rows l q.place q.row

pub series-again :
    (l c₀ c : List ℕ) → whole l c₀ ≡ record { answer = done; card = c } → (series : List Request) → (whole (ledger l series).list c₀).answer ≡ done →
    (whole (ledger l series).list c₀).card ≡ (whole (ledger l series).list c).card
series-again l c₀ c g series e =
    let x = accepts l c₀ c g in
    whole_again (ledger l series).list c₀ c e (accepted-length l c₀ c x)
    (rw (ledger-rows l series) (calculation-keeps l c₀ c x.calculated).past-rows)
