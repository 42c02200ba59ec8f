-- The grammar theorem [01 §6], over all headers and columns: the reading accepts exactly the texts that the grammar has, and its rows are the
-- grammar's rows. Each part cites the laws of lines. TextTheorem.antt says which answer every other text gets.
use Rattle.text.specs.Text.{bad_line, Reading}
use Rattle.std.proofs.Common.{Err, Ok}
use mathlib.Core.Path.{◌≡◌, refl, sym, ap, subst, ◌∙◌}
use mathlib.Core.Bool.{true, false}
use mathlib.Core.Logic.{◌⊎◌, ⊎_elim}
use mathlib.Core.List.{List, [], ◌∷◌, ◌++◌, map}
use Prim.Native.Nat.{ℕ, ◌+◌, ◌≤◌}
use native.Mathlib.Nat.{le_refl}
use lib.Dec.{eqb}
use lib.ListN.{length, take, length-map}
use borrow.Author.Tests.{eqb-true, eqb-false, eq-eqb, ne_eqb}
use Rattle.fold.proofs.BoolLaws.{passes-or-fails, zero-not-one}
use Rattle.cursor.specs.declared.Column.{Column}
use Rattle.text.specs.Text.{text_most, lines, line_length, after_line, good_lines, lines_read, size_right, headed, row_lines, read_as}
use Rattle.text.specs.Text.{all_numbers, numbers_as}
use Rattle.text.specs.Line.{numbers_of}
use Rattle.text.specs.Gets.{NoCrlf}
use Rattle.text.specs.Grammar.{Row, Lines, Text, alone, rows, row_of, rows_as, numbers_in}
use Rattle.text.proofs.CrlfLaws.{first-is, only-is, first-behind, only-behind}
use Rattle.text.proofs.GrammarText.{RowsThere, lines-complete}
use Rattle.text.proofs.SameLaws.{same-equal, same_refl}
use Rattle.text.proofs.TextLaws.{size-right}
use Rattle.text.proofs.GrammarSound.{split, lines-sound}

-- what an answer of so many rows says
pub record Accepted (h : List ℕ) (ks : List Column) (s : List ℕ) (n : ℕ) : Type 0 where
  pub size : size_right s ≡ true
  pub headed-is : headed h s ≡ true
  pub head : take (line_length s) s ≡ h
  pub good : good_lines ks (row_lines s) ≡ length (row_lines s)
  pub count : length (row_lines s) ≡ n

-- answers that are alike have the same bad line
pub same-line : (a b : ℕ) → bad_line a ≡ bad_line b → a ≡ b
same-line a b e = ap line_of e
  where
    line_of : Reading → ℕ
    line_of (Ok n) = 0
    line_of (Err l) = l.0

-- the reading of lines by its test
pub lines-good : (ks : List Column) (k : ℕ) (ls : List (List ℕ)) → good_lines ks ls ≡ length ls → lines_read ks k ls ≡ Ok (length ls)
unfolding lines_read
lines-good ks k ls e = rw (eq-eqb (good_lines ks ls) (length ls) e) (ap Ok e)

pub lines-refused :
    (ks : List Column) (k : ℕ) (ls : List (List ℕ)) → (good_lines ks ls ≡ length ls → ⊥) → lines_read ks k ls ≡ bad_line (k + good_lines ks ls)
unfolding lines_read
lines-refused ks k ls n = rw (ne_eqb (good_lines ks ls) (length ls) n)

lines-accepted :
    (ks : List Column) (k : ℕ) (ls : List (List ℕ)) (n : ℕ) → lines_read ks k ls ≡ Ok n → (good_lines ks ls ≡ length ls) × (length ls ≡ n)
lines-accepted ks k ls n e =
    ⊎_elim
    (λ (p : eqb (good_lines ks ls) (length ls) ≡ true).
    let q = eqb-true (good_lines ks ls) (length ls) p in
    let z : Ok (length ls) ≡ Ok n = sym (lines-good ks k ls q) ∙ e in
    (q, cc))
    (λ (p : eqb (good_lines ks ls) (length ls) ≡ false).
    let z = sym (lines-refused ks k ls (eqb-false (good_lines ks ls) (length ls) p)) ∙ e in
    absurd (zero-not-one cc))
    (passes-or-fails (eqb (good_lines ks ls) (length ls)))

-- the first line is the header
pub headed-line : (h s : List ℕ) → headed h s ≡ true → take (line_length s) s ≡ h
unfolding headed
headed-line h s q = same-equal (take (line_length s) s) h q

module _ (h : List ℕ) (ks : List Column) (k : ℕ) (s : List ℕ) where
  -- the reading by its tests, in their order
  pub read-long : size_right s ≡ false → read_as h ks k s ≡ bad_line 0
  unfolding read_as
  read-long p = rw p

  pub read-unheaded : size_right s ≡ true → headed h s ≡ false → read_as h ks k s ≡ bad_line k
  unfolding read_as
  read-unheaded p q = rw (p, q)

  pub read-lines : size_right s ≡ true → headed h s ≡ true → read_as h ks k s ≡ lines_read ks (k + 1) (row_lines s)
  unfolding read_as
  read-lines p q = rw (p, q)

  pub accepted : (n : ℕ) → read_as h ks k s ≡ Ok n → Accepted h ks s n
  accepted n e =
      ⊎_elim
      (λ (p : size_right s ≡ true).
      ⊎_elim
      (λ (q : headed h s ≡ true).
      let a = lines-accepted ks (k + 1) (row_lines s) n (sym (read-lines p q) ∙ e) in
      record { size = p; headed-is = q; head = headed-line h s q; good = a.0; count = a.1 })
      (λ (q : headed h s ≡ false). let z : bad_line k ≡ Ok n = sym (read-unheaded p q) ∙ e in absurd (zero-not-one cc))
      (passes-or-fails (headed h s)))
      (λ (p : size_right s ≡ false). let z : bad_line 0 ≡ Ok n = sym (read-long p) ∙ e in absurd (zero-not-one cc))
      (passes-or-fails (size_right s))

  -- Whatever the reading accepts is a text of the grammar, with as many rows as it says.
  pub text-sound : (n : ℕ) → read_as h ks k s ≡ Ok n → Text h ks s (rows_as ks s) × (length (rows_as ks s) ≡ n)
  unfolding rows_as row_lines lines
  text-sound n e = (whole (split s), length-map (lines (after_line s)) (row_of ks) ∙ a.count)
    where
      a : Accepted h ks s n
      a = accepted n e

      below : Lines ks (after_line s) (map (row_of ks) (lines (after_line s)))
      below = lines-sound ks (length (after_line s)) (after_line s) (le_refl (length (after_line s))) a.good

      whole :
          (s ≡ take (line_length s) s ++ 13 ∷ 10 ∷ after_line s) ⊎ ((s ≡ take (line_length s) s) × (after_line s ≡ [])) →
          Text h ks s (map (row_of ks) (lines (after_line s)))
      whole =
          ⊎_elim
          (λ (e : s ≡ take (line_length s) s ++ 13 ∷ 10 ∷ after_line s).
          subst (λ (x : List ℕ). Text h ks x (map (row_of ks) (lines (after_line s))))
          (sym (e ∙ ap (λ (x : List ℕ). x ++ 13 ∷ 10 ∷ after_line s) a.head)) (rows below))
          (λ (e : (s ≡ take (line_length s) s) × (after_line s ≡ [])).
          subst (λ (x : List ℕ). Text h ks x (map (row_of ks) (lines (after_line s)))) (sym (e.0 ∙ a.head))
          (subst (λ (x : List ℕ). Text h ks h (map (row_of ks) (lines x))) (sym e.1) alone))

-- a text of that first line, with these rows behind it
module _
    (h : List ℕ) (ks : List Column) (s rest : List ℕ) (rs : List Row) (f : after_line s ≡ rest) (t : RowsThere ks (lines rest) rs) where
  rows_are : rows_as ks s ≡ rs
  unfolding row_lines rows_as
  rows_are = rw f t.are

  accepts : (k : ℕ) → length s ≤ text_most → take (line_length s) s ≡ h → read_as h ks k s ≡ Ok (length rs)
  unfolding headed row_lines
  accepts k l e =
      let n : length (lines rest) ≡ length rs = sym (length-map (lines rest) (row_of ks)) ∙ ap length t.are in
      read-lines h ks k s (size-right s l) (rw (e, same_refl h)) ∙ rw f (lines-good ks (k + 1) (lines rest) t.good ∙ ap Ok n)

-- Every text of the grammar that is not too long is accepted, and its rows are the grammar's, where the header is one line.
module _ (h : List ℕ) (ks : List Column) (one : NoCrlf h) where
  pub text-accepted : (k : ℕ) {s : List ℕ} {rs : List Row} → length s ≤ text_most → Text h ks s rs → read_as h ks k s ≡ Ok (length rs)
  text-accepted k l alone = accepts h ks h [] [] (only-behind h one) (lines-complete Lines.none) k l (only-is h one)
  text-accepted k l (rows {s = t} {rs = rs} r) =
      accepts h ks (h ++ 13 ∷ 10 ∷ t) t rs (first-behind h t one) (lines-complete r) k l (first-is h t one)

  pub text-rows : {s : List ℕ} {rs : List Row} → Text h ks s rs → rows_as ks s ≡ rs
  text-rows alone = rows_are h ks h [] [] (only-behind h one) (lines-complete Lines.none)
  text-rows (rows {s = t} {rs = rs} r) = rows_are h ks (h ++ 13 ∷ 10 ∷ t) t rs (first-behind h t one) (lines-complete r)

  pub text-complete :
      (k : ℕ) (s : List ℕ) (rs : List Row) → length s ≤ text_most → Text h ks s rs → (read_as h ks k s ≡ Ok (length rs)) × (rows_as ks s ≡ rs)
  text-complete k s rs l t = (text-accepted k l t, text-rows t)

-- the numbers that the reader writes are those of the rows
numbers-of-lines : (ks : List Column) (ls : List (List ℕ)) → numbers_in (map (row_of ks) ls) ≡ all_numbers ks ls
unfolding numbers_in all_numbers row_of
numbers-of-lines ks [] = refl
numbers-of-lines ks (l ∷ ls) = ap (λ (x : List ℕ). numbers_of ks l ++ x) (numbers-of-lines ks ls)

pub numbers-in : (ks : List Column) (s : List ℕ) → numbers_in (rows_as ks s) ≡ numbers_as ks s
unfolding rows_as numbers_as
numbers-in ks s = numbers-of-lines ks (row_lines s)
