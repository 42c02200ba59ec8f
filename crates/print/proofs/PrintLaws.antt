-- What is printed in the end: a refusal, a card, or nothing.
use Rattle.cursor.specs.declared.Place.{Place}
use Rattle.std.specs.List.{list_all}
use Rattle.print.proofs.CardLaws.{name-short}
use Rattle.fold.proofs.BoolLaws.{and_left, and_right}
use mathlib.Core.Path.{◌≡◌, refl, sym, ap, ◌∙◌}
use mathlib.Core.Bool.{true, false}
use mathlib.Core.List.{List, [], ◌++◌, ◌∷◌}
use Prim.Native.Nat.{ℕ, zero, suc, ◌+◌, ◌*◌, ◌≤◌, ◌<◌}
use native.Mathlib.Omega.{arith}
use lib.ListN.{length, take, drop, length-append}
use lib.Seq.{take-append_seam, take-nil}
use borrow.Author.Tests.{le-leb, lt-leb}
use Rattle.layout.specs.Counts.{column_count}
use Rattle.answers.specs.Answer.{number_count}
use Rattle.cursor.specs.Names.{name_at_place, names_at}
use Rattle.print.specs.Write.{written, Wrote}
use Rattle.print.specs.Card.{header_size, line_most, refusal_most, card_header, refusal_header}
use Rattle.print.specs.Card.{numbers_text, line_text, rows_text, card_text, refusal_text}
use Rattle.print.specs.Card.{place_right, printable, Printed, card_printed, refusal_printed}
use Rattle.print.proofs.FieldsLaws.{numbers-short}
use Rattle.print.proofs.PlaceLaws.{printable-room}
use Rattle.print.proofs.WriteLaws.{written_none, wrote_then}
use Rattle.print.proofs.CardLaws.{line-short}

-- what was written from the start on is printed
pub wrote-printed :
    (out xs out' : List ℕ) (r : ℕ) → length xs ≤ length out → length out' ≡ length out → Wrote out 0 xs out' r → Printed out xs out' r
unfolding written
wrote-printed out xs out' r h k w =
    let e : r ≡ length xs = omega (arith, w.end) in
    record {
      fits = omega arith;
      bytes = rw (e, w.bytes) (take-append_seam xs (drop (0 + length xs) out));
      buffer = w.bytes;
      count = e;
    }

-- the bytes printed are as many as the answer says
pub printed-long : {out xs out' : List ℕ} {r : ℕ} → Printed out xs out' r → r ≡ length (take r out')
printed-long p = p.count ∙ ap length (sym p.bytes)

pub nothing-printed : (out : List ℕ) → Printed out [] out 0
nothing-printed out =
    record { fits = omega arith; bytes = refl; buffer = written_none out 0; count = refl }

-- a refusal: too little room, or its header and its line
pub refusal-none : (numbers out : List ℕ) → length out < refusal_most → Printed out (refusal_printed numbers (length out)) out 0
unfolding refusal_printed
refusal-none numbers out h = rw (lt-leb refusal_most (length out) h) (nothing-printed out)

pub refusal-short : (numbers : List ℕ) → length (refusal_text numbers) ≤ refusal_most
unfolding refusal_text
refusal-short numbers = omega (arith, numbers-short number_count numbers, length-append refusal_header (numbers_text number_count numbers))

pub refusal-all :
    (numbers out o₁ o₂ : List ℕ) (r₁ r₂ : ℕ) → refusal_most ≤ length out → length o₂ ≡ length out →
    Wrote out 0 refusal_header o₁ r₁ → Wrote o₁ r₁ (numbers_text number_count numbers) o₂ r₂ →
    Printed out (refusal_printed numbers (length out)) o₂ r₂
unfolding refusal_printed refusal_text
refusal-all numbers out o₁ o₂ r₁ r₂ h same w₁ w₂ =
    let line = numbers_text number_count numbers in
    let n = numbers-short number_count numbers in
    let v = wrote_then out 0 refusal_header o₁ r₁ line o₂ r₂ (omega arith) w₁ w₂ in
    rw (le-leb refusal_most (length out) h) (wrote-printed out (refusal_header ++ line) o₂ r₂ (omega (arith, length-append refusal_header line)) same v)

-- the card: nothing, or its header and its rows
pub card-none :
    (s : List ℕ) (places : List Place) (card : List ℕ) (n : ℕ) (out : List ℕ) → printable (length s) places (length card) n (length out) ≡ false →
    Printed out (card_printed s places card n (length out)) out 0
unfolding card_printed
card-none s places card n out h = rw h (nothing-printed out)

rows_short :
    (s : List ℕ) (n : ℕ) (places : List Place) (card : List ℕ) → list_all (place_right (length s)) (take n places) ≡ true →
    length (rows_text (names_at s n places) card) ≤ n * line_most
unfolding rows_text names_at
rows_short s zero places card h = omega arith
rows_short s (suc n) [] card h =
    let rest = rows_text (names_at s n []) (drop column_count card) in
    omega (
      arith,
      line-short [] card (omega arith),
      rows_short s n [] (drop column_count card) (rw (take-nil n)),
      length-append (line_text [] card) rest,
    )
rows_short s (suc n) (p ∷ ps) card h =
    let name = name_at_place s p in
    let rest = rows_text (names_at s n ps) (drop column_count card) in
    let a = and_left (place_right (length s) p) (list_all (place_right (length s)) (take n ps)) h in
    let b = and_right (place_right (length s) p) (list_all (place_right (length s)) (take n ps)) h in
    omega (
      arith,
      line-short name card (name-short (length s) s p a),
      rows_short s n ps (drop column_count card) b,
      length-append (line_text name card) rest,
    )

pub card-short :
    (s : List ℕ) (places : List Place) (card : List ℕ) (n : ℕ) → list_all (place_right (length s)) (take n places) ≡ true →
    length (card_text (names_at s n places) card) ≤ header_size + n * line_most
unfolding card_text
card-short s places card n h =
    omega (arith, rows_short s n places card h, length-append card_header (rows_text (names_at s n places) card))

pub card-all :
    (s : List ℕ) (places : List Place) (card : List ℕ) (n : ℕ) (out o₁ o₂ : List ℕ) (r₁ r₂ : ℕ) →
    printable (length s) places (length card) n (length out) ≡ true → length o₂ ≡ length out →
    Wrote out 0 card_header o₁ r₁ → Wrote o₁ r₁ (rows_text (names_at s n places) card) o₂ r₂ → Printed out
    (card_printed s places card n (length out)) o₂ r₂
unfolding card_printed card_text
card-all s places card n out o₁ o₂ r₁ r₂ h same w₁ w₂ =
    let room = printable-room (length s) places (length card) n (length out) h in
    let k = card-short s places card n room.rows.right in
    let f : List ℕ = rows_text (names_at s n places) card in
    let v = wrote_then out 0 card_header o₁ r₁ f o₂ r₂ (omega (arith, k, room.rows.out-room, length-append card_header f)) w₁ w₂ in
    rw h (wrote-printed out (card_header ++ f) o₂ r₂ (omega (arith, k, room.rows.out-room)) same v)
