-- THE WHOLE WAY [01 §6], for a text of the layout with the rows rs and at most 65,536 bytes:
--     given-as-whole      the numbers given are those of the whole calculation of the rows' numbers
--     prints-the-card     where that is done, what is printed is its card, with the rows' names as they stand in the text
--     prints-a-refusal    otherwise its number, place and field
--     count-exactly       it is COUNT exactly where there are 0 rows, or more than 256
use Rattle.std.proofs.Common.{Ok, Err}
use mathlib.Core.Path.{◌≡◌, refl, sym, ap, ◌∙◌}
use mathlib.Core.Bool.{Bool, true, false, cond}
use mathlib.Core.Logic.{◌⊎◌, inl, inr, ⊎_elim, ◌↔◌}
use mathlib.Core.List.{List, [], ◌∷◌}
use Prim.Native.Nat.{ℕ, ◌*◌, ◌≤◌, ◌<◌}
use native.Mathlib.Omega.{arith}
use lib.ListN.{length, get_or}
use Rattle.fold.proofs.BoolLaws.{fails, lt-or-le}
use Rattle.answers.specs.declared.Refusal.TheVariants as refusal
use Rattle.answers.specs.Answer.{given_by, done as all_well}
use Rattle.layout.specs.Counts.{field_count}
use Rattle.rows.specs.InRange.{RightSize}
use Rattle.text.specs.Grammar.{Row, all_names, numbers_in}
use Rattle.text.proofs.GrammarTheorem.{numbers-in}
use Rattle.list.specs.List.{ListText, list_columns, reading, rows_of, row_numbers}
use Rattle.list.proofs.ListTheorem.{list-complete}
use Rattle.print.specs.Card.{card_text, refusal_text}
use Rattle.calculate.specs.Gets.{Gets}
use Rattle.calculate.proofs.Demand1.{every-list-gets}
use Rattle.sheet.specs.Given.{whole_of}
use Rattle.sheet.specs.Sheet.{names_of, blank_card, done, Sheet, refused_with, sheet_with, sheet_by, sheet_of}
use Rattle.list.proofs.PlaceLaws.{rows-stand}
use Rattle.sheet.proofs.WholeAnswers.{given-done, count-size}

with-given : (names : List (List ℕ)) (card given : List ℕ) → (sheet_with names card given).given ≡ given
unfolding sheet_with
with-given names card given = by-test (done given)
  where
    by-test : (b : Bool) → (cond {A = Sheet} b (record { given = given; text = card_text names card }) (refused_with given)).given ≡ given
    by-test true = refl
    by-test false = refl

module _ (s : List ℕ) (rs : List Row) (size : length s ≤ 65536) (t : ListText s rs) where
  reads : reading s ≡ Ok (length rs)
  reads = (list-complete s rs size t).0

  the-rows : rows_of s ≡ rs
  the-rows = (list-complete s rs size t).1

  the-numbers : row_numbers s ≡ numbers_in rs
  the-numbers = sym (numbers-in list_columns s) ∙ ap numbers_in the-rows

  the-sheet : sheet_of s ≡ sheet_with (all_names rs) (whole_of rs).card (given_by (whole_of rs).answer)
  unfolding sheet_of sheet_by names_of
  the-sheet = rw (reads, the-rows, the-numbers)

  pub given-as-whole : (sheet_of s).given ≡ given_by (whole_of rs).answer
  given-as-whole = ap (λ (z : Sheet). z.given) the-sheet ∙ with-given (all_names rs) (whole_of rs).card (given_by (whole_of rs).answer)

  pub prints-the-card : (whole_of rs).answer ≡ all_well → (sheet_of s).text ≡ card_text (all_names rs) (whole_of rs).card
  unfolding sheet_with
  prints-the-card e = ap (λ (z : Sheet). z.text) the-sheet ∙ rw e

  pub prints-a-refusal : ((whole_of rs).answer ≡ all_well → ⊥) → (sheet_of s).text ≡ refusal_text (given_by (whole_of rs).answer)
  unfolding sheet_with
  prints-a-refusal n =
      ap (λ (z : Sheet). z.text) the-sheet ∙ rw (fails (done (given_by (whole_of rs).answer)) (λ h. n (given-done (whole_of rs).answer h)))

  pub numbers-long : length (numbers_in rs) ≡ length rs * field_count
  numbers-long = ap length (sym the-numbers) ∙ (rows-stand s (length rs) reads).numbers-long

  pub count-exactly : ((sheet_of s).given ≡ 2 ∷ 0 ∷ 0 ∷ []) ↔ ((length rs ≡ 0) ⊎ (256 < length rs))
  count-exactly = (
    λ e.
        wrong_size
        (count-size ((every-list-gets (numbers_in rs) blank_card (whole_of rs).answer).0 refl) (ap (λ (g : List ℕ). get_or g 0 0) (sym given-as-whole ∙ e))),
    λ h. given-as-whole ∙ ap given_by ((every-list-gets (numbers_in rs) blank_card (Err refusal.Count)).1 (Gets.COUNT (λ r. not_right h r))),
  )
    where
      not_right : (length rs ≡ 0) ⊎ (256 < length rs) → RightSize (numbers_in rs) → ⊥
      not_right h r =
          ⊎_elim
          (λ (e : length rs ≡ 0). omega (arith, numbers-long, r.whole-rows, r.some))
          (λ (e : 256 < length rs). omega (arith, numbers-long, r.whole-rows, r.most))
          h

      wrong_size : (RightSize (numbers_in rs) → ⊥) → (length rs ≡ 0) ⊎ (256 < length rs)
      wrong_size n =
          ⊎_elim
          (λ (many : 256 < length rs). inr many)
          (λ (few : length rs ≤ 256).
          ⊎_elim
          (λ (none : length rs < 1). inl (omega arith))
          (λ (some : 1 ≤ length rs). absurd (n (record { count = length rs; whole-rows = numbers-long; some = some; most = few })))
          (lt-or-le (length rs) 1))
          (lt-or-le 256 (length rs))
