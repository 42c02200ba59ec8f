-- A PRINTED CARD CAN BE READ AGAIN [01 §6]:
--     printed-number     a number below 1,000,000,000 is printed as the grammar writes that number
--     printed-line       a line of the card is a line of a name and five numbers
--     card-read-again    a printed card is a text of the header name,pickup,delay,cutoff,law,multiplier and those columns, with the names and
--                        numbers printed
--     sheet-read-again   so is what is printed for the text of a list that is done, and the reader finds those rows in it
use Rattle.std.proofs.Common.{Ok}
use mathlib.Core.Path.{◌≡◌, refl, sym, ap, ◌∙◌}
use mathlib.Core.Bool.{Bool, true}
use mathlib.Core.Logic.{inr, ⊎_elim}
use mathlib.Core.List.{List, [], ◌∷◌, ◌++◌, append_assoc}
use Prim.Native.Nat.{ℕ, zero, suc, ◌+◌, ◌*◌, ◌/◌, ◌%◌, ◌≤◌, ◌<◌}
use native.Mathlib.Nat.{lt_of_lt_of_le}
use native.Mathlib.Omega.{arith}
use lib.Dec.{lit≤}
use lib.ListN.{length, get_or, take, drop, replicate, length-drop}
use lib.Seq.{get_or-drop}
use Rattle.cursor.specs.declared.Column.TheVariants.{Numbers}
use Rattle.cursor.specs.Bytes.{digit_byte}
use Rattle.cursor.proofs.ByteTheorem.{digit-exactly}
use Rattle.layout.specs.Card.{card_row_at}
use Rattle.layout.specs.Counts.{column_count}
use Rattle.layout.specs.List.{row_at}
use Rattle.layout.specs.Range.{CardRowInRange}
use Rattle.sides.specs.Sides.{setting_most}
use Rattle.sides.proofs.SidesLaws.{setting-to}
use Rattle.calculate.proofs.CardRange.{card-in-range, card-length}
use Rattle.fold.proofs.BoolLaws.{lt-or-le}
use Rattle.answers.specs.Answer.{given_by, done}
use Rattle.text.specs.Gets.{NoCrlf}
use Rattle.text.specs.Grammar.{All, IsNumber, IsNameText, Row, Cells, Line, Lines, Text, rows, rows_as, all_names, numbers_in}
use Rattle.text.specs.Text.{read_as}
use Rattle.text.proofs.GrammarText.{no_cr, all-test, no-cr-no-crlf}
use Rattle.text.proofs.GrammarTheorem.{text-complete}
use Rattle.list.specs.List.{ListText}
use Rattle.print.specs.Card.{line_end, fields_text, line_text, rows_text, card_text}
use Rattle.print.specs.Write.{number_text}
use Rattle.print.proofs.DigitLaws.{number-value}
use Rattle.print.proofs.NumberTheorem.{number_digits, number-some, number-nine, number-no-leading-zero}
use Rattle.sheet.specs.Given.{whole_of}
use Rattle.sheet.specs.Sheet.{blank_card, sheet_of}
use Rattle.sheet.proofs.NamesLaws.{text-names, names-count}
use Rattle.sheet.proofs.RoomLaws.{sheet-short}
use Rattle.sheet.proofs.WholeWay.{given-as-whole, prints-the-card, numbers-long, count-exactly}
use Rattle.sheet.proofs.WholeAnswers.{blank-room}
use Rattle.sheet.specs.Again.{card_header_line, card_columns, card_rows, EachName, CardFor}

all-at : (f : ℕ → Bool) (l : List ℕ) → ((i : ℕ) → i < length l → f (get_or l i 0) ≡ true) → All f l
all-at f [] h = tt
all-at f (b ∷ l) h = (h 0 (omega arith), all-at f l (λ i k. h (suc i) (omega arith)))

pub printed-number : (n : ℕ) → n < 1000000000 → IsNumber (number_text n) n
printed-number n h =
    let word = lt_of_lt_of_le h (lit≤ tt) in
    record {
      digits = all-at digit_byte (number_text n) (λ i k. (digit-exactly (get_or (number_text n) i 0)).1 (number_digits n i k));
      some = number-some n;
      most = number-nine n h;
      no-leading-zero = number-no-leading-zero n word;
      value = sym (number-value n word);
    }

-- the numbers of a row, each behind a comma
fields-cells :
    (k : ℕ) (card : List ℕ) → k ≤ length card → ((i : ℕ) → i < k → get_or card i 0 < 1000000000) →
    Cells (replicate k Numbers) (fields_text k card) (record { numbers = take k card; names = [] })
unfolding fields_text
fields-cells zero card h b = Cells.none
fields-cells (suc k) [] h b = absurd (omega arith)
fields-cells (suc k) (n ∷ card) h b =
    Cells.number (printed-number n (b 0 (omega arith))) (fields-cells k card (omega arith) (λ i l. b (suc i) (omega arith)))

pub printed-line :
    (name card : List ℕ) → IsNameText name → CardFor 1 card →
    Line card_columns (name ++ fields_text column_count card) (record { numbers = take column_count card; names = name ∷ [] })
printed-line name card w c =
    Cells.name w (fields-cells column_count card (omega (arith, c.numbers-there)) (λ i h. c.below i (omega arith)))

-- the lines of the card, one for each name
card-lines :
    (names : List (List ℕ)) (card : List ℕ) → EachName names → CardFor (length names) card → Lines card_columns (rows_text names card) (card_rows names card)
unfolding rows_text line_text card_rows
card-lines [] card w c = Lines.none
card-lines (name ∷ names) card w c =
    let line = name ++ fields_text column_count card in
    let rest = rows_text names (drop column_count card) in
    rw (append_assoc line line_end rest)
    (Lines.more
    (printed-line name card w.0 (record { numbers-there = omega (arith, c.numbers-there); below = λ i h. c.below i (omega arith) }))
    (card-lines names (drop column_count card) w.1
    (record {
      numbers-there = omega (arith, c.numbers-there, length-drop column_count card);
      below = λ i h. rw (get_or-drop column_count card i 0) (c.below (column_count + i) (omega arith));
    })))

pub card-read-again :
    (names : List (List ℕ)) (card : List ℕ) → EachName names → CardFor (length names) card →
    Text card_header_line card_columns (card_text names card) (card_rows names card)
unfolding card_text
card-read-again names card w c = rows (card-lines names card w c)

card-rows-count : (names : List (List ℕ)) (card : List ℕ) → length (card_rows names card) ≡ length names
unfolding card_rows
card-rows-count [] card = refl
card-rows-count (name ∷ names) card = ap suc (card-rows-count names (drop column_count card))

header-one-line : NoCrlf card_header_line
header-one-line = no-cr-no-crlf card_header_line (all-test no_cr card_header_line refl)

-- a number of a card whose rows are in range, on either side, is below 1,000,000,000
in-range-below :
    (primary : ℕ) (card : List ℕ) (i : ℕ) → CardRowInRange (setting_most primary) (card_row_at card (i / column_count)) → get_or card i 0 < 1000000000
in-range-below primary card i r = by-column (i % column_count) refl
  where
    at : (k : ℕ) → i % column_count ≡ k → i ≡ i / column_count * column_count + k
    at k e = omega arith

    by-column : (k : ℕ) → i % column_count ≡ k → get_or card i 0 < 1000000000
    by-column zero e = rw (at 0 e) (omega (arith, r.pickup-to, setting-to primary))
    by-column (suc zero) e = rw (at 1 e) (omega (arith, r.delay-to))
    by-column (suc (suc zero)) e = rw (at 2 e) (omega (arith, r.cutoff-to, setting-to primary))
    by-column (suc (suc (suc zero))) e = rw (at 3 e) (omega (arith, r.law-to))
    by-column (suc (suc (suc (suc zero)))) e = rw (at 4 e) (omega (arith, r.multiplier-to))
    by-column (suc (suc (suc (suc (suc k))))) e = absurd (omega arith)

module _ (s : List ℕ) (rs : List Row) (size : length s ≤ 65536) (t : ListText s rs) (e : (whole_of rs).answer ≡ done) where
  few : length rs ≤ 256
  few =
      ⊎_elim
      (λ (many : 256 < length rs).
      let z : ◌≡◌ {A = ℕ} 2 0 =
      ap (λ (g : List ℕ). get_or g 0 0) (sym ((count-exactly s rs size t).1 (inr many)) ∙ given-as-whole s rs size t ∙ ap given_by e) in
      absurd (omega arith))
      (λ (h : length rs ≤ 256). h)
      (lt-or-le 256 (length rs))

  card-for : CardFor (length rs) (whole_of rs).card
  card-for =
      let n = numbers-long s rs size t in
      record {
        numbers-there = omega (arith, few, blank-room, card-length (numbers_in rs) blank_card);
        below = λ i h.
            in-range-below (row_at (numbers_in rs) (i / column_count)).ratio.primary (whole_of rs).card i
            (card-in-range (numbers_in rs) blank_card e (i / column_count) (omega arith));
      }

  card-text : Text card_header_line card_columns (sheet_of s).text (card_rows (all_names rs) (whole_of rs).card)
  card-text =
      rw (prints-the-card s rs size t e)
      (card-read-again (all_names rs) (whole_of rs).card (text-names t) (rw (names-count t) card-for))

  pub sheet-read-again :
      (read_as card_header_line card_columns 1 (sheet_of s).text ≡ Ok (length rs)) ×
      (rows_as card_columns (sheet_of s).text ≡ card_rows (all_names rs) (whole_of rs).card)
  sheet-read-again =
      let short : length (sheet_of s).text ≤ 65536 = omega (arith, sheet-short s) in
      let z = text-complete card_header_line card_columns header-one-line 1 (sheet_of s).text (card_rows (all_names rs) (whole_of rs).card) short card-text in
      (z.0 ∙ ap (λ (n : ℕ). Ok n) (card-rows-count (all_names rs) (whole_of rs).card ∙ names-count t), z.1)
