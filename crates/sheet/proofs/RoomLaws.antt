-- No sheet is longer than the card's header and 256 of its longest lines, so a buffer with that room gets every sheet whole.
use Rattle.std.proofs.Common.{Ok, Err}
use mathlib.Core.Path.{◌≡◌, refl}
use mathlib.Core.Bool.{Bool, true, false, cond}
use mathlib.Core.Logic.{⊎_elim}
use mathlib.Core.List.{List}
use Prim.Native.Nat.{ℕ, ◌≤◌}
use native.Mathlib.Omega.{arith}
use lib.Dec.{ltb}
use lib.ListN.{length}
use borrow.Author.Tests.{le-leb, ltb-true, ltb-false}
use Rattle.fold.proofs.BoolLaws.{passes-or-fails}
use Rattle.answers.specs.declared.Refusal.TheVariants as refusal
use Rattle.answers.specs.Answer.{given_by}
use Rattle.text.specs.Text.{Reading}
use Rattle.list.specs.List.{reading, row_numbers, row_places}
use Rattle.print.specs.Card.{card_text}
use Rattle.print.proofs.PrintLaws.{refusal-short, card-short}
use Rattle.calculate.specs.Whole.{whole}
use Rattle.sheet.specs.Sheet.{names_of, blank_card, done, Sheet, refused_with, sheet_with, sheet_by, sheet_of, fitted, sheet_most}
use Rattle.list.proofs.PlaceLaws.{rows-stand}
use Rattle.sheet.proofs.SheetLaws.{all-right, many-count}

refused-short : (given : List ℕ) → length (refused_with given).text ≤ sheet_most
refused-short given = omega (arith, refusal-short given)

with-short :
    (names : List (List ℕ)) (card given : List ℕ) → length (card_text names card) ≤ sheet_most → length (sheet_with names card given).text ≤ sheet_most
unfolding sheet_with
with-short names card given h = by-test (done given)
  where
    by-test : (b : Bool) → length (cond {A = Sheet} b (record { given = given; text = card_text names card }) (refused_with given)).text ≤ sheet_most
    by-test true = h
    by-test false = refused-short given

by-reading : (s : List ℕ) (r : Reading) → reading s ≡ r → length (sheet_by s r).text ≤ sheet_most
unfolding sheet_by sheet_with names_of
by-reading s (Err bad) e = refused-short (given_by (Err (refusal.Text bad.0)))
by-reading s (Ok n) e =
    ⊎_elim
    (λ t. rw (many-count s n e (ltb-true 256 n t)) (refused-short (given_by (Err refusal.Count))))
    (λ t.
    let few = ltb-false 256 n t in
    let stand = rows-stand s n e in
    let card = (whole (row_numbers s) blank_card).card in
    with-short (names_of s) card (given_by (whole (row_numbers s) blank_card).answer)
    (rw (← stand.names) (omega (arith, card-short s (row_places s) card n (all-right s n e)))))
    (passes-or-fails (ltb 256 n))

pub sheet-short : (s : List ℕ) → length (sheet_of s).text ≤ sheet_most
unfolding sheet_of
sheet-short s = by-reading s (reading s) refl

-- with that room nothing is refused for room, and all is printed
pub room-enough : (s : List ℕ) (room : ℕ) → sheet_most ≤ room → fitted room (sheet_of s) ≡ sheet_of s
unfolding fitted
room-enough s room h = let k = sheet-short s in rw (le-leb (length (sheet_of s).text) room (omega arith))
