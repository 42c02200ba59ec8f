-- What is printed for a text is what the printers leave, one law for each way that the text goes.
use Rattle.std.proofs.Common.{Ok, Err}
use Rattle.cursor.specs.declared.Place.{Place}
use Rattle.std.specs.List.{list_all}
use mathlib.Core.Path.{◌≡◌, refl, sym, ap, ap₂, ◌∙◌, subst}
use mathlib.Core.Bool.{true}
use mathlib.Core.List.{List, [], ◌∷◌, ◌++◌}
use Prim.Native.Nat.{ℕ, ◌-◌, ◌*◌, ◌/◌, ◌≤◌, ◌<◌}
use native.Mathlib.Omega.{arith}
use lib.ListN.{length, get_or, take, drop}
use lib.Seq.{paste, take_all, take_at, length-take-le}
use borrow.Author.Tests.{le-leb, lt-leb, eq-eqb, ne_eqb}
use Rattle.layout.specs.Counts.{field_count, column_count, card_most, rows_most}
use Rattle.fold.proofs.BoolLaws.{and_both}
use Rattle.answers.specs.declared.Refusal.TheVariants as refusal
use Rattle.answers.specs.Answer.{given_by}
use Rattle.rows.proofs.TestLaws.{size-over}
use Rattle.text.specs.Text.{bad_line}
use Rattle.cursor.specs.Names.{name_at_place, names_at}
use Rattle.list.specs.List.{reading, row_numbers, row_places}
use Rattle.print.specs.Card.{header_size, line_most, place_right, printable, card_printed, refusal_most, refusal_printed, Printed}
use Rattle.print.specs.Write.{written}
use Rattle.print.proofs.PrintLaws.{nothing-printed, wrote-printed}
use Rattle.print.proofs.WriteLaws.{pasted-written, written-long}
use Rattle.calculate.specs.Ready.{Gave}
use Rattle.calculate.specs.Whole.{whole}
use Rattle.calculate.proofs.AnswerLaws.{answered-size}
use Rattle.print.proofs.PlaceLaws.{right-all}
use Rattle.sheet.specs.Ready.{RowsReady}
use Rattle.sheet.specs.Sheet.{names_of, blank_card, Sheet, refused_with, sheet_with, sheet_by, sheet_of, fitted, sheet_most, Filled}
use Rattle.text.proofs.BlockLaws.{blocks-front}
use Rattle.list.proofs.PlaceLaws.{RowsStand, rows-stand}

-- names read from the front of a buffer are those of the front
names-front : (s : List ℕ) (ps rest : List Place) → names_at s (length ps) (ps ++ rest) ≡ names_at s (length ps) ps
unfolding names_at
names-front s [] rest = refl
names-front s (p ∷ ps) rest = ap (λ (names : List (List ℕ)). name_at_place s p ∷ names) (names-front s ps rest)

-- the places of all rows that a text was read to have are right
pub all-right : (s : List ℕ) (n : ℕ) → reading s ≡ Ok n → list_all (place_right (length s)) (take n (row_places s)) ≡ true
all-right s n e =
    let stand = rows-stand s n e in
    right-all (length s) n (row_places s)
    (λ k h d.
    let w = stand.inside k h d in
    record { short = w.short; inside = w.inside })
    (omega (arith, stand.places-long))

-- more than 256 rows are COUNT
pub many-count : (s : List ℕ) (n : ℕ) → reading s ≡ Ok n → 256 < n → (whole (row_numbers s) blank_card).answer ≡ Err refusal.Count
many-count s n e h =
    let long = (rows-stand s n e).numbers-long in
    let size = size-over (length (row_numbers s)) (length blank_card) (omega arith) (omega arith) (omega arith) in
    sym (answered-size (row_numbers s) blank_card _ refusal.Count refl (sym size)).answer

module _ (s list : List ℕ) (names : List Place) (n room : ℕ) (r : RowsReady s list names n room) where
  stand : RowsStand s n
  stand = rows-stand s n r.read

  module _ (few : n ≤ 256) where
    list-is : list ≡ row_numbers s ++ drop (length (row_numbers s)) r.before-list
    list-is = r.numbers ∙ rw stand.read (blocks-front rows_most field_count n (row_numbers s) r.before-list few stand.numbers-long)

    names-is : names ≡ row_places s ++ drop (length (row_places s)) r.before-names
    names-is = r.places ∙ rw stand.read (blocks-front rows_most 1 n (row_places s) r.before-names few (omega (arith, stand.places-long)))

    pub numbers-front : take (n * field_count) list ≡ row_numbers s
    numbers-front = ap (take (n * field_count)) list-is ∙ take_at (row_numbers s) _ (n * field_count) stand.numbers-long

    pub part-long : n * field_count ≡ length (take (n * field_count) list)
    part-long = sym (length-take-le (n * field_count) list (omega (arith, r.list-room)))

    all-names : names_at s n names ≡ names_of s
    unfolding names_of
    all-names =
        ap (names_at s n) names-is ∙
        subst (λ (m : ℕ). names_at s m (row_places s ++ drop (length (row_places s)) r.before-names) ≡ names_at s m (row_places s)) stand.places-long
        (names-front s (row_places s) (drop (length (row_places s)) r.before-names)) ∙
        stand.names

    can-print : (card : List ℕ) → length card ≡ card_most → printable (length s) names (length card) n room ≡ true
    unfolding printable
    can-print card e =
        let o = r.out-room in
        and_both
        (and_both
        (and_both
        (and_both (le-leb header_size room (omega arith)) (le-leb n ((room - header_size) / line_most) (omega arith)))
        (le-leb n (length names) (omega (arith, r.names-room))))
        (le-leb n (length card / column_count) (omega arith)))
        (ap (list_all (place_right (length s))) front ∙ all-right s n r.read)
      where
        front : take n names ≡ take n (row_places s)
        front =
            ap (take n) names-is ∙
            take_at (row_places s) (drop (length (row_places s)) r.before-names) n stand.places-long ∙
            sym (take_all n (row_places s) (omega (arith, stand.places-long)))

    -- the whole calculation of the numbers read
    module _ (g card : List ℕ) (z : Gave (whole (take (n * field_count) list) blank_card) g card) where
      given_is : g ≡ given_by (whole (row_numbers s) blank_card).answer
      given_is = z.numbers ∙ ap (λ (l : List ℕ). given_by (whole l blank_card).answer) numbers-front

      card-is : card ≡ (whole (row_numbers s) blank_card).card
      card-is = z.card ∙ ap (λ (l : List ℕ). (whole l blank_card).card) numbers-front

      sheet-is : sheet_of s ≡ sheet_with (names_of s) card g
      unfolding sheet_of sheet_by
      sheet-is = rw r.read (sym (ap₂ (sheet_with (names_of s)) card-is given_is))

      pub card-filled :
          (out out' : List ℕ) (bytes : ℕ) → length card ≡ card_most → get_or g 0 0 ≡ 0 → Printed out (card_printed s names card n room)
          out' bytes →
          Filled (sheet_of s) out g bytes out'
      unfolding card_printed sheet_with
      card-filled out out' bytes long e p =
          let q = rw (can-print card long, all-names) at p in
          rw (sheet-is, eq-eqb (get_or g 0 0) 0 e) (record { numbers = refl; printed = q })

      pub refusal-filled :
          (out out' g' : List ℕ) (bytes : ℕ) → (get_or g 0 0 ≡ 0 → ⊥) → Filled (refused_with g) out g' bytes out' → Filled
          (sheet_of s) out g' bytes out'
      unfolding sheet_with
      refusal-filled out out' g' bytes e f = rw (sheet-is, ne_eqb (get_or g 0 0) 0 e) f

  -- more than 256 rows
  pub many-filled :
      (g out out' g' : List ℕ) (bytes : ℕ) → g ≡ given_by (Err refusal.Count) → 256 < n →
      Filled (refused_with g) out g' bytes out' → Filled (sheet_of s) out g' bytes out'
  unfolding sheet_of sheet_by sheet_with
  many-filled g out out' g' bytes q h f =
      rw (r.read, many-count s n r.read h) (rw q at f)

-- a bad line
pub bad-filled :
    (s : List ℕ) (line : ℕ) (g out out' g' : List ℕ) (bytes : ℕ) → reading s ≡ bad_line line → g ≡ given_by (Err (refusal.Text line)) →
    Filled (refused_with g) out g' bytes out' → Filled (sheet_of s) out g' bytes out'
unfolding sheet_of sheet_by
bad-filled s line g out out' g' bytes e q f = rw e (rw q at f)

-- a refusal in a buffer with room for any sheet
pub refused-filled :
    (g out out' : List ℕ) (bytes : ℕ) → sheet_most ≤ length out →
    Printed out (refusal_printed g (length out)) out' bytes → Filled (refused_with g) out g bytes out'
unfolding refusal_printed
refused-filled g out out' bytes h p = record { numbers = refl; printed = rw (le-leb refusal_most (length out) (omega arith)) at p }

-- what was printed aside goes into a lent buffer whole, or not at all
module _ (z : Sheet) (space space' g : List ℕ) (bytes : ℕ) (f : Filled z space g bytes space') (out : List ℕ) where
  pub fits-filled :
      (out' : List ℕ) → bytes ≤ length out →
      out' ≡ paste out 0 (take bytes space') (length (take bytes space')) → Filled (fitted (length out) z) out g bytes out'
  unfolding fitted
  fits-filled out' h e =
      let k = f.printed.count in
      let q : out' ≡ written out 0 z.text = rw f.printed.bytes at e ∙ pasted-written out 0 z.text in
      let w : length out' ≡ length out = ap length q ∙ written-long out 0 z.text (omega arith) in
      rw (le-leb (length z.text) (length out) (omega arith))
      (record { numbers = f.numbers; printed = wrote-printed out z.text out' bytes (omega arith) w (record { bytes = q; end = omega arith }) })

  module _ (h : length out < bytes) where
    pub card-unfit : (g' : List ℕ) → get_or g 0 0 ≡ 0 → g' ≡ given_by (Err refusal.Room) → Filled (fitted (length out) z) out g' 0 out
    unfolding fitted
    card-unfit g' e q =
        let k = f.printed.count in
        rw (lt-leb (length z.text) (length out) (omega arith), ← f.numbers, eq-eqb (get_or g 0 0) 0 e)
        (record { numbers = q; printed = nothing-printed out })

    pub refusal-unfit : (get_or g 0 0 ≡ 0 → ⊥) → Filled (fitted (length out) z) out g 0 out
    unfolding fitted
    refusal-unfit e =
        let k = f.printed.count in
        rw (lt-leb (length z.text) (length out) (omega arith), ← f.numbers, ne_eqb (get_or g 0 0) 0 e)
        (record { numbers = refl; printed = nothing-printed out })
