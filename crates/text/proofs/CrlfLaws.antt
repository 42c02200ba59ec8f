-- Where a text is cut: a line holds no CRLF and ends where the next CRLF stands. `lines_none`, `lines-last` and `lines_more` say all of `lines`.
use mathlib.Core.Path.{◌≡◌, refl, sym, ap, ◌∙◌}
use mathlib.Core.Bool.{true, false, and-false}
use mathlib.Core.List.{List, [], ◌∷◌, ◌++◌}
use Prim.Native.Nat.{ℕ, suc, ◌+◌, ◌≤◌, ◌<◌}
use native.Mathlib.Omega.{arith}
use lib.Dec.{eqb}
use lib.ListN.{length, take, drop, length-append, drop_of_length-le}
use lib.Seq.{drop-append-add, take-append_seam, take-length}
use Rattle.fold.proofs.BoolLaws.{fails}
use Rattle.cursor.specs.declared.Class.TheVariants.{InLine}
use Rattle.cursor.specs.Bytes.{crlf, passes, run}
use Rattle.cursor.proofs.ByteTheorem.{crlf-exactly}
use Rattle.text.specs.Text.{lines, line_length, after_line}
use Rattle.text.specs.Gets.{NoCrlf}
use Rattle.text.proofs.CutLaws.{lines_cut}

pub crlf-next : (l : List ℕ) → crlf l ≡ true → l ≡ 13 ∷ 10 ∷ drop 2 l
crlf-next l h = let e = (crlf-exactly l).0 h in e.1 ∙ ap (λ (x : List ℕ). 13 ∷ 10 ∷ drop 2 x) (sym e.1)

behind-first : (b : ℕ) (l : List ℕ) → NoCrlf (b ∷ l) → NoCrlf l
behind-first b l h x y e = h (b ∷ x) y (ap (λ (z : List ℕ). b ∷ z) e)

-- none at the first byte, whether the text ends with the line or goes on behind a CRLF
not_first : (b : ℕ) (l : List ℕ) → NoCrlf (b ∷ l) → crlf (b ∷ l) ≡ false
not_first b l h = fails (crlf (b ∷ l)) (λ t. h [] (drop 2 (b ∷ l)) (crlf-next (b ∷ l) t))

not-first-on : (b : ℕ) (l s : List ℕ) → NoCrlf (b ∷ l) → crlf (b ∷ l ++ 13 ∷ 10 ∷ s) ≡ false
unfolding crlf
not-first-on b [] s h = and-false (eqb b 13)
not-first-on b (c ∷ l) s h = not_first b (c ∷ l) h

crlf-stops : (s : List ℕ) → run (passes InLine) (13 ∷ 10 ∷ s) ≡ 0
unfolding run passes crlf
crlf-stops s = refl

pub first_ends : (l s : List ℕ) → NoCrlf l → line_length (l ++ 13 ∷ 10 ∷ s) ≡ length l
unfolding line_length run passes
first_ends [] s h = crlf-stops s
first_ends (b ∷ l) s h = rw (not-first-on b l s h) (ap suc (first_ends l s (behind-first b l h)))

pub only-ends : (l : List ℕ) → NoCrlf l → line_length l ≡ length l
unfolding line_length run passes
only-ends [] h = refl
only-ends (b ∷ l) h = rw (not_first b l h) (ap suc (only-ends l (behind-first b l h)))

-- what stands behind the first line
pub first-is : (l s : List ℕ) → NoCrlf l → take (line_length (l ++ 13 ∷ 10 ∷ s)) (l ++ 13 ∷ 10 ∷ s) ≡ l
first-is l s h = rw (first_ends l s h) (take-append_seam l (13 ∷ 10 ∷ s))

pub only-is : (l : List ℕ) → NoCrlf l → take (line_length l) l ≡ l
only-is l h = rw (only-ends l h) (take-length l)

pub first-behind : (l s : List ℕ) → NoCrlf l → after_line (l ++ 13 ∷ 10 ∷ s) ≡ s
unfolding after_line
first-behind l s h = rw (first_ends l s h) (drop-append-add l (13 ∷ 10 ∷ s) 2)

pub only-behind : (l : List ℕ) → NoCrlf l → after_line l ≡ []
unfolding after_line
only-behind l h =
    let o : length l ≤ line_length l + 2 = omega (arith, only-ends l h) in
    drop_of_length-le l o

pub cut-some : (s : List ℕ) → 0 < length s → lines s ≡ take (line_length s) s ∷ lines (after_line s)
cut-some [] h = absurd (omega arith)
cut-some (b ∷ s) h = lines_cut b s

-- A text without a byte has no line; bytes without CRLF are one; before the first CRLF stands the first line, and behind it the others.
pub lines_none : lines [] ≡ []
unfolding lines
lines_none = refl

pub lines-last : (l : List ℕ) → NoCrlf l → 0 < length l → lines l ≡ l ∷ []
lines-last l h k = cut-some l k ∙ rw (only-is l h, only-behind l h, lines_none)

pub lines_more : (l s : List ℕ) → NoCrlf l → lines (l ++ 13 ∷ 10 ∷ s) ≡ l ∷ lines s
lines_more l s h =
    cut-some (l ++ 13 ∷ 10 ∷ s) (omega (arith, length-append l (13 ∷ 10 ∷ s))) ∙ rw (first-is l s h, first-behind l s h)
