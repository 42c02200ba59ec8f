-- A text is its first line and the lines behind it; the line at a cursor, and where the next line starts.
use mathlib.Core.Path.{◌≡◌, refl, ap, ◌∙◌}
use mathlib.Core.Bool.{Bool, true, false, cond, not, and-false}
use mathlib.Core.List.{List, [], ◌∷◌}
use Prim.Native.Nat.{ℕ, suc, ◌+◌, ◌≤◌, ◌<◌}
use native.Mathlib.Omega.{arith}
use lib.Dec.{eqb}
use lib.ListN.{length, take, drop, get_or, length-drop}
use lib.Seq.{drop-drop, drop-cons, length-take-le}
use Rattle.cursor.specs.declared.Cursor.{Cursor}
use Rattle.cursor.specs.Pieces.{moved}
use Rattle.cursor.proofs.RunLaws.{run_length}
use Rattle.cursor.specs.declared.Class.TheVariants.{InLine}
use Rattle.cursor.specs.Bytes.{crlf, passes, run}
use Rattle.text.specs.Text.{onto, lines, line_length, after_line}

no-crlf : (b : ℕ) → crlf (b ∷ []) ≡ false
unfolding crlf
no-crlf b = and-false (eqb b 13)

-- the first line of a text that has a byte
pub lines_cut : (b : ℕ) (s : List ℕ) → lines (b ∷ s) ≡ take (line_length (b ∷ s)) (b ∷ s) ∷ lines (after_line (b ∷ s))
unfolding lines line_length after_line run passes onto
lines_cut b [] = rw (no-crlf b)
lines_cut b (c ∷ s) = by-test (crlf (b ∷ c ∷ s)) refl (lines_cut c s)
  where
    more : ℕ
    more = run (passes InLine) (c ∷ s)

    by-test :
        (t : Bool) → crlf (b ∷ c ∷ s) ≡ t →
        lines (c ∷ s) ≡ take more (c ∷ s) ∷ lines (drop (more + 2) (c ∷ s)) →
        cond t ([] ∷ lines s) (onto b (lines (c ∷ s))) ≡
        take (cond (not t) (suc more) 0) (b ∷ c ∷ s) ∷ lines (drop (cond (not t) (suc more) 0 + 2) (b ∷ c ∷ s))
    by-test true e h = refl
    by-test false e h =
        let z : suc (more + 2) ≡ suc more + 2 = omega arith in
        rw h (ap (λ (k : ℕ). (b ∷ take more (c ∷ s)) ∷ lines (drop k (b ∷ c ∷ s))) z)

-- the line at a cursor that stands inside the text, and where the next one starts
abbrev pub line_at : List ℕ → ℕ → List ℕ
line_at s at = take (line_length (drop at s)) (drop at s)

abbrev pub next_at : List ℕ → ℕ → ℕ
next_at s at = at + line_length (drop at s) + 2

line-behind : (s : List ℕ) (at : ℕ) → after_line (drop at s) ≡ drop (next_at s at) s
unfolding after_line
line-behind s at =
    let z : at + (line_length (drop at s) + 2) ≡ next_at s at = omega arith in
    drop-drop (line_length (drop at s) + 2) at s ∙ ap (λ (k : ℕ). drop k s) z

pub cut_at : (s : List ℕ) (at : ℕ) → at < length s → lines (drop at s) ≡ line_at s at ∷ lines (drop (next_at s at) s)
cut_at s at h =
    let e = drop-cons s at 0 h in
    let q : lines (drop at s) ≡ line_at s at ∷ lines (after_line (drop at s)) = rw e (lines_cut (get_or s at 0) (drop (suc at) s)) in
    q ∙ ap (λ (r : List ℕ). line_at s at ∷ lines r) (line-behind s at)

pub next-line-at : (s : List ℕ) (at : ℕ) → at < length s → at + length (line_at s at) + 2 ≡ next_at s at
unfolding line_length
next-line-at s at h = rw (length-take-le (run (passes InLine) (drop at s)) (drop at s) (run_length (passes InLine) 0 (drop at s)))

pub line-inside : (s : List ℕ) (c p : Cursor) → p ≡ moved c (line_length (drop c.at s)) → c.at ≤ length s → p.at ≤ length s
unfolding line_length
line-inside s c p e h =
    omega (arith, ap (λ (q : Cursor). q.at) e, run_length (passes InLine) 0 (drop c.at s), length-drop c.at s)
