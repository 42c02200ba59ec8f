-- [01 §4] A series of replacements, and the plain ledger that it is compared with. Definitions only.
use Rattle.answers.specs.declared.Refusal.TheVariants.{Edit}
use Rattle.std.specs.Prelude.{cond, List, [], ◌∷◌, ℕ, ◌-◌, ◌*◌, eqb, replicate, Err}
use Rattle.layout.specs.Counts.{column_count}
use Rattle.answers.specs.Answer.{number_of, Answer}
use Rattle.layout.specs.List.{rows}
use Rattle.calculate.specs.Whole.{whole}
use Rattle.change.specs.Edit.{put_list, edit_right}
use Rattle.change.specs.Replace.{replaced}

-- a place and the new row for it
pub record Request : Type 0 where
  pub place : ℕ
  pub row : List ℕ

-- the answers one by one, and the list and the card after the last
pub record Course : Type 0 where
  pub answers : List Answer
  pub list : List ℕ
  pub card : List ℕ

-- each replacement gets list and card as the last one left them
unfoldable pub replacements : List ℕ → List ℕ → List Request → Course
replacements l c [] = record { answers = []; list = l; card = c }
replacements l c (q ∷ qs) =
    let r = replaced l c q.place q.row in
    let rest = replacements r.list r.card qs in
    record { answers = r.answer ∷ rest.answers; list = rest.list; card = rest.card }

-- the ledger holds one list, and answers each place and row
pub record Entry : Type 0 where
  pub answer : Answer
  pub list : List ℕ

pub record Ledger : Type 0 where
  pub answers : List Answer
  pub list : List ℕ

-- the answer of the whole calculation of a list, with room for its card
unfoldable pub calculated : List ℕ → Answer
calculated l = (whole l (replicate (rows l * column_count) 0)).answer

-- number 0: the ledger holds the list made; any other: it keeps its own
unfoldable pub kept : List ℕ → List ℕ → Answer → Entry
kept l l' a = record { answer = a; list = cond (eqb (number_of a) 0) l' l }

-- where EDIT applies, EDIT; otherwise the whole calculation of the list with the new row in
unfoldable pub entered : List ℕ → ℕ → List ℕ → Entry
entered l place row =
    let l' = put_list l (place - 1) row in
    cond (edit_right l place row) (kept l l' (calculated l')) (record { answer = Err Edit; list = l })

unfoldable pub ledger : List ℕ → List Request → Ledger
ledger l [] = record { answers = []; list = l }
ledger l (q ∷ qs) =
    let e = entered l q.place q.row in
    let rest = ledger e.list qs in
    record { answers = e.answer ∷ rest.answers; list = rest.list }

-- a list with the rows of all requests that were answered 0 put in, in their order
unfoldable pub put_done : List ℕ → List Answer → List Request → List ℕ
put_done l [] qs = l
put_done l (a ∷ answers) [] = l
put_done l (a ∷ answers) (q ∷ qs) = put_done (cond (eqb (number_of a) 0) (put_list l (q.place - 1) q.row) l) answers qs
