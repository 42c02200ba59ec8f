-- DEMAND 1 for texts: every text gets one answer, by number and place, and a buffer that is lent for what is printed gets all of it or stands as it was.
--     text-given-exactly      the numbers given are those that `TextGiven` says, and no other
--     text-refused-exactly    TEXT with a line exactly where the text is refused with that line (ListTheorem says when, line by line)
--     text-exactly            the number 1 exactly where the text has over 65,536 bytes or is no text of the layout
--     other-exactly           any other number exactly where the whole calculation of the text's rows gives it
--     room-exactly            ROOM exactly where the card is done and the lent buffer holds fewer bytes than it is printed in
--     refusal-keeps-numbers, fits_whole, unfit-kept      what a lent buffer changes of that
-- `fitted` of `sheet_of` is what the public entry's contract cites (specs/Sheet.antt).
use Rattle.std.proofs.Common.{Ok, Err}
use mathlib.Core.Path.{◌≡◌, refl, sym, ap, subst, ◌∙◌}
use mathlib.Core.Bool.{true, false}
use mathlib.Core.Logic.{◌⊎◌, inl, inr, ⊎_elim, ◌↔◌}
use mathlib.Core.List.{List, [], ◌∷◌}
use Prim.Native.Nat.{ℕ, ◌≤◌, ◌<◌}
use native.Mathlib.Omega.{arith}
use lib.Dec.{leb, eqb}
use lib.ListN.{length, get_or}
use borrow.Author.Tests.{le-leb, lt-leb, eq-eqb, ne_eqb, eqb-true, eqb-false}
use Rattle.fold.proofs.BoolLaws.{passes-or-fails, lt-or-le, zero-not-one}
use Rattle.answers.specs.Answer.{given_by}
use Rattle.text.specs.Text.{Reading}
use Rattle.text.specs.Text.{bad_line}
use Rattle.text.specs.Grammar.{Row}
use Rattle.list.specs.List.{ListText, reading, rows_of}
use Rattle.list.proofs.ListTheorem.{line-0-exactly, gets-exactly, list-sound, list-complete}
use Rattle.print.specs.Write.{written}
use Rattle.print.proofs.WriteLaws.{written_none}
use Rattle.sheet.specs.Given.{whole_of, RefusedLine, TextGiven, refused, calculated}
use Rattle.sheet.specs.Sheet.{Sheet, sheet_by, sheet_of, fitted, Filled}
use Rattle.sheet.proofs.WholeAnswers.{whole-no-text}
use Rattle.sheet.proofs.WholeWay.{given-as-whole}

module _ (s : List ℕ) where
  bad-given : (line : ℕ) → reading s ≡ bad_line line → (sheet_of s).given ≡ 1 ∷ line ∷ 0 ∷ []
  unfolding sheet_of sheet_by
  bad-given line e = rw e

  -- by the reading: a line that is refused, or rows
  text-given : TextGiven s (sheet_of s).given
  text-given = by-reading (reading s) refl
    where
      by-reading : (r : Reading) → reading s ≡ r → TextGiven s (sheet_of s).given
      by-reading (Err bad) e = subst (TextGiven s) (sym (bad-given bad.0 e)) (refused ((gets-exactly s (Err bad)).0 e))
      by-reading (Ok n) e =
          ⊎_elim
          (λ (l : 65536 < length s). absurd (let z : ◌≡◌ {A = Reading} (Ok n) (bad_line 0) = sym e ∙ (line-0-exactly s).1 l in zero-not-one cc))
          (λ (l : length s ≤ 65536).
          let t = (list-sound s n e).0 in
          subst (TextGiven s) (sym (given-as-whole s (rows_of s) l t)) (calculated (rows_of s) l t))
          (lt-or-le 65536 (length s))

  given-only : {g : List ℕ} → TextGiven s g → (sheet_of s).given ≡ g
  given-only (refused {line} w) = bad-given line ((gets-exactly s (bad_line line)).1 w)
  given-only (calculated rs l t) = given-as-whole s rs l t

  pub text-given-exactly : (g : List ℕ) → ((sheet_of s).given ≡ g) ↔ TextGiven s g
  text-given-exactly g = (λ e. subst (TextGiven s) e text-given, given-only)

  pub text-refused-exactly : (line : ℕ) → ((sheet_of s).given ≡ 1 ∷ line ∷ 0 ∷ []) ↔ RefusedLine s line
  text-refused-exactly line = (λ e. from ((text-given-exactly (1 ∷ line ∷ 0 ∷ [])).0 e) refl, λ w. given-only (refused w))
    where
      from : {g : List ℕ} → TextGiven s g → g ≡ 1 ∷ line ∷ 0 ∷ [] → RefusedLine s line
      from (refused {line = k} w) e = let q : k ≡ line = cc in subst (RefusedLine s) q w
      from (calculated rs l t) e = absurd ((whole-no-text _).not-text (ap (λ (g : List ℕ). get_or g 0 0) e))

  pub text-exactly : (get_or (sheet_of s).given 0 0 ≡ 1) ↔ ((65536 < length s) ⊎ ((rs : List Row) → ListText s rs → ⊥))
  text-exactly = (λ e. from text-given e, λ h. to text-given h)
    where
      to : {g : List ℕ} → TextGiven s g → (65536 < length s) ⊎ ((rs : List Row) → ListText s rs → ⊥) → get_or g 0 0 ≡ 1
      to (refused w) h = refl
      to (calculated rs l t) h = absurd (⊎_elim (λ (o : 65536 < length s). omega arith) (λ n. n rs t) h)

      from : {g : List ℕ} → TextGiven s g → get_or g 0 0 ≡ 1 → (65536 < length s) ⊎ ((rs : List Row) → ListText s rs → ⊥)
      from (refused {line} w) e =
          ⊎_elim
          (λ (l : 65536 < length s). inl l)
          (λ (l : length s ≤ 65536).
          inr
          (λ rs t.
          let z : ◌≡◌ {A = Reading} (bad_line line) (Ok (length rs)) = sym ((gets-exactly s (bad_line line)).1 w) ∙ (list-complete s rs l t).0 in
          zero-not-one cc))
          (lt-or-le 65536 (length s))
      from (calculated rs l t) e = absurd ((whole-no-text _).not-text e)

  pub other-exactly :
      (n place field : ℕ) → (n ≡ 1 → ⊥) →
      ((sheet_of s).given ≡ n ∷ place ∷ field ∷ []) ↔
      ((length s ≤ 65536) × ((rs : List Row) × (ListText s rs × (given_by (whole_of rs).answer ≡ n ∷ place ∷ field ∷ []))))
  other-exactly n place field m =
      (λ e. from text-given e, λ f. given-as-whole s f.1.0 f.0 f.1.1.0 ∙ f.1.1.1)
    where
      from :
          {g : List ℕ} → TextGiven s g → g ≡ n ∷ place ∷ field ∷ [] →
          (length s ≤ 65536) × ((rs : List Row) × (ListText s rs × (given_by (whole_of rs).answer ≡ n ∷ place ∷ field ∷ [])))
      from (refused {line} w) e = absurd (m (sym (ap (λ (g : List ℕ). get_or g 0 0) e)))
      from (calculated rs l t) e = (l, (rs, (t, e)))

-- what a lent buffer of so much room changes
module _ (z : Sheet) (room : ℕ) where
  pub fits_whole : length z.text ≤ room → fitted room z ≡ z
  unfolding fitted
  fits_whole h = rw (le-leb (length z.text) room h)

  pub refusal-keeps-numbers : (get_or z.given 0 0 ≡ 0 → ⊥) → (fitted room z).given ≡ z.given
  unfolding fitted
  refusal-keeps-numbers n =
      ⊎_elim
      (λ (h : leb (length z.text) room ≡ true). rw h)
      (λ (h : leb (length z.text) room ≡ false). rw (h, ne_eqb (get_or z.given 0 0) 0 n))
      (passes-or-fails (leb (length z.text) room))

  pub card-unfit-room : get_or z.given 0 0 ≡ 0 → room < length z.text → (fitted room z).given ≡ 3 ∷ 0 ∷ 0 ∷ []
  unfolding fitted
  card-unfit-room e h = rw (lt-leb (length z.text) room h, eq-eqb (get_or z.given 0 0) 0 e)

  unfit-nothing : room < length z.text → (fitted room z).text ≡ []
  unfolding fitted
  unfit-nothing h = rw (lt-leb (length z.text) room h)

pub unfit-kept :
    (z : Sheet) (out g out' : List ℕ) (bytes : ℕ) → length out < length z.text → Filled (fitted (length out) z) out g bytes out' →
    (bytes ≡ 0) × (out' ≡ out)
unfit-kept z out g out' bytes h f =
    let e = unfit-nothing z (length out) h in
    (f.printed.count ∙ ap length e, f.printed.buffer ∙ ap (written out 0) e ∙ sym (written_none out 0))

-- a sheet is never ROOM by itself, as its card has room for 256 rows
sheet-not-room : (s : List ℕ) → get_or (sheet_of s).given 0 0 ≡ 3 → ⊥
sheet-not-room s e = from (text-given s) e
  where
    from : {g : List ℕ} → TextGiven s g → get_or g 0 0 ≡ 3 → ⊥
    from (refused w) e = omega arith
    from (calculated rs l t) e = (whole-no-text _).not-room e

pub room-exactly :
    (s : List ℕ) (room : ℕ) →
    (get_or (fitted room (sheet_of s)).given 0 0 ≡ 3) ↔ ((get_or (sheet_of s).given 0 0 ≡ 0) × (room < length (sheet_of s).text))
room-exactly s room = (from, λ h. ap (λ (g : List ℕ). get_or g 0 0) (card-unfit-room (sheet_of s) room h.0 h.1))
  where
    from : get_or (fitted room (sheet_of s)).given 0 0 ≡ 3 → (get_or (sheet_of s).given 0 0 ≡ 0) × (room < length (sheet_of s).text)
    from e =
        ⊎_elim
        (λ (l : room < length (sheet_of s).text).
        ⊎_elim
        (λ p. (eqb-true (get_or (sheet_of s).given 0 0) 0 p, l))
        (λ p.
        let k = refusal-keeps-numbers (sheet_of s) room (eqb-false (get_or (sheet_of s).given 0 0) 0 p) in
        absurd (sheet-not-room s (sym (ap (λ (g : List ℕ). get_or g 0 0) k) ∙ e)))
        (passes-or-fails (eqb (get_or (sheet_of s).given 0 0) 0)))
        (λ (l : length (sheet_of s).text ≤ room).
        absurd (sheet-not-room s (sym (ap (λ (z : Sheet). get_or z.given 0 0) (fits_whole (sheet_of s) room l)) ∙ e)))
        (lt-or-le room (length (sheet_of s).text))
