-- A well-formed line holds no CR, so that cutting a text at CRLF first gives back its lines.
use mathlib.Core.Path.{◌≡◌, refl, ap, ap₂, subst, ◌∙◌}
use mathlib.Core.Bool.{Bool, true, not, ◌&&◌, false≢true}
use mathlib.Core.Logic.{◌⊎◌, inl, inr, ⊎_elim}
use mathlib.Core.List.{List, [], ◌∷◌, ◌++◌, map}
use Prim.Native.Nat.{ℕ, suc, ◌<◌}
use native.Mathlib.Omega.{arith}
use lib.Dec.{leb, eqb}
use lib.ListN.{length, length-append}
use borrow.Author.Tests.{leb-true, ne_eqb}
use Rattle.fold.proofs.BoolLaws.{and_left, and_right}
use Rattle.cursor.specs.declared.Column.{Column}
use Rattle.cursor.specs.Bytes.{digit_byte, plain_byte, bare_byte, run}
use Rattle.text.specs.Gets.{NoCrlf}
use Rattle.text.specs.Text.{lines, good_lines}
use Rattle.text.specs.Grammar.{All, IsNumber, Body, empty, plain, doubled, Form, bare, quoted, Row, Cells, Line, Lines, row_of}
use Rattle.text.proofs.GrammarRuns.{all_append, all_weaker}
use Rattle.text.proofs.GrammarQuotes.{bare-plain}
use Rattle.text.proofs.GrammarLines.{line-complete}
use Rattle.text.proofs.CrlfLaws.{lines_none, lines-last, lines_more}
use Rattle.text.proofs.RowAtLaws.{good_more}

-- no CR
abbrev pub no_cr : ℕ → Bool
no_cr b = not (eqb b 13)

-- a test of every byte, computed
abbrev pub all_test : (ℕ → Bool) → List ℕ → Bool
all_test f [] = true
all_test f (b ∷ l) = f b && all_test f l

pub all-test : (f : ℕ → Bool) (l : List ℕ) → all_test f l ≡ true → All f l
all-test f [] h = tt
all-test f (b ∷ l) h = (and_left (f b) (all_test f l) h, all-test f l (and_right (f b) (all_test f l) h))

above-cr : (b n : ℕ) → leb n b ≡ true → 13 < n → no_cr b ≡ true
above-cr b n h k = rw (ne_eqb b 13 (λ e. let m = leb-true n b h in omega arith))

digit-no-cr : (b : ℕ) → digit_byte b ≡ true → no_cr b ≡ true
unfolding digit_byte
digit-no-cr b h = above-cr b 48 (and_left (leb 48 b) (leb b 57) h) (omega arith)

plain-no-cr : (b : ℕ) → plain_byte b ≡ true → no_cr b ≡ true
unfolding plain_byte
plain-no-cr b h = above-cr b 32 (and_left (leb 32 b) (leb b 126) (and_left (leb 32 b && leb b 126) (not (eqb b 34)) h)) (omega arith)

body-no-cr : {w : List ℕ} → Body w → All no_cr w
body-no-cr empty = tt
body-no-cr (plain {b} p r) = (plain-no-cr b p, body-no-cr r)
body-no-cr (doubled r) = (refl, (refl, body-no-cr r))

form-no-cr : {w : List ℕ} → Form w → All no_cr w
form-no-cr (bare {w} h) = all_weaker bare_byte no_cr (λ b k. plain-no-cr b (bare-plain b k)) w h
form-no-cr (quoted {w} h) = (refl, all_append no_cr w (34 ∷ []) (body-no-cr h) (refl, tt))

number-no-cr : (w : List ℕ) (n : ℕ) → IsNumber w n → All no_cr w
number-no-cr w n h = all_weaker digit_byte no_cr digit-no-cr w h.digits

cells-no-cr : {ks : List Column} {l : List ℕ} {r : Row} → Cells ks l r → All no_cr l
cells-no-cr Cells.none = tt
cells-no-cr (Cells.number {ks} {n} {w} {l} h r) = (refl, all_append no_cr w l (number-no-cr w n h) (cells-no-cr r))
cells-no-cr (Cells.name {ks} {w} {l} h r) = (refl, all_append no_cr w l (form-no-cr h.form) (cells-no-cr r))

cells-long : {ks : List Column} {l : List ℕ} {r : Row} → Cells ks l r → (length l ≡ 0) ⊎ (1 < length l)
cells-long Cells.none = inl refl
cells-long (Cells.number {ks} {n} {w} {l} h r) = inr (omega (arith, h.some, length-append w l))
cells-long (Cells.name {ks} {w} {l} h r) = inr (omega (arith, h.some, length-append w l))

line-no-cr : {ks : List Column} {l : List ℕ} {r : Row} → Line ks l r → All no_cr l
line-no-cr h = (cells-no-cr h).1

line-some : {ks : List Column} {l : List ℕ} {r : Row} → Line ks l r → 0 < length l
line-some h = ⊎_elim (λ e. absurd (omega arith)) (λ e. omega arith) (cells-long h)

-- bytes without CR hold no CRLF
all-behind : (f : ℕ → Bool) (w v : List ℕ) → All f (w ++ v) → All f v
all-behind f [] v h = h
all-behind f (b ∷ w) v h = all-behind f w v h.1

pub no-cr-no-crlf : (l : List ℕ) → All no_cr l → NoCrlf l
no-cr-no-crlf l h x y e = false≢true (all-behind no_cr x (13 ∷ 10 ∷ y) (subst (All no_cr) e h)).0

pub line-no-crlf : {ks : List Column} {l : List ℕ} {r : Row} → Line ks l r → NoCrlf l
line-no-crlf {ks} {l} h = no-cr-no-crlf l (line-no-cr h)

-- lines of which all are well formed
pub record RowsThere (ks : List Column) (ls : List (List ℕ)) (rs : List Row) : Type 0 where
  pub good : good_lines ks ls ≡ length ls
  pub are : map (row_of ks) ls ≡ rs

more-there :
    {ks : List Column} {l : List ℕ} {r : Row} → Line ks l r → (ls : List (List ℕ)) (rs : List Row) → RowsThere ks ls rs →
    RowsThere ks (l ∷ ls) (r ∷ rs)
more-there {ks} {l} {r} h ls rs t =
    let c = line-complete h in
    record { good = good_more ks l ls c.good ∙ ap suc t.good; are = ap₂ ◌∷◌ c.row t.are }

none-there : {ks : List Column} → RowsThere ks [] []
unfolding good_lines run
none-there = record { good = refl; are = refl }

pub lines-complete : {ks : List Column} {s : List ℕ} {rs : List Row} → Lines ks s rs → RowsThere ks (lines s) rs
lines-complete Lines.none = rw lines_none none-there
lines-complete (Lines.last {ks} {l} {r} h) = rw (lines-last l (line-no-crlf h) (line-some h)) (more-there h [] [] none-there)
lines-complete (Lines.more {ks} {l} {s} {r} {rs} h t) = rw (lines_more l s (line-no-crlf h)) (more-there h (lines s) rs (lines-complete t))
