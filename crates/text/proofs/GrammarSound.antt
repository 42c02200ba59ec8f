-- Lines that are all well formed are the grammar's lines: a text is its first line, a CRLF and the rest, or ends there.
use mathlib.Core.Path.{◌≡◌, sym, ap, subst, ◌∙◌}
use mathlib.Core.Bool.{true, false}
use mathlib.Core.Logic.{◌⊎◌, inl, inr, ⊎_elim}
use mathlib.Core.List.{List, [], ◌∷◌, ◌++◌, map}
use Prim.Native.Nat.{ℕ, zero, suc, ◌+◌, ◌≤◌, ◌<◌}
use native.Mathlib.Omega.{arith}
use lib.ListN.{length, take, drop, length-drop, take-append-drop, drop_of_length-le}
use lib.Seq.{drop-drop, take_all}
use borrow.Author.Tests.{not-false}
use Rattle.fold.proofs.BoolLaws.{passes-or-fails, lt-or-le}
use Rattle.cursor.specs.declared.Class.TheVariants.{InLine}
use Rattle.cursor.specs.declared.Column.{Column}
use Rattle.cursor.specs.Bytes.{crlf, passes, run}
use Rattle.cursor.proofs.RunLaws.{run_end}
use Rattle.text.specs.Line.{is_line}
use Rattle.text.specs.Text.{lines, line_length, after_line, good_lines}
use Rattle.text.specs.Grammar.{Line, Lines, row_of}
use Rattle.text.proofs.GrammarLines.{line-sound}
use Rattle.text.proofs.CrlfLaws.{crlf-next, cut-some}
use Rattle.text.proofs.RowAtLaws.{good_more, good_none}

line-stops : (s : List ℕ) → run (passes InLine) s < length s → crlf (drop (run (passes InLine) s) s) ≡ true
unfolding passes
line-stops s h = not-false (crlf (drop (run (passes InLine) s) s)) (run_end (passes InLine) 0 s h)

-- a text is its first line, and a CRLF and what stands behind it unless the text ends there
pub split : (s : List ℕ) → (s ≡ take (line_length s) s ++ 13 ∷ 10 ∷ after_line s) ⊎ ((s ≡ take (line_length s) s) × (after_line s ≡ []))
unfolding line_length after_line
split s = ⊎_elim inside over (lt-or-le (run (passes InLine) s) (length s))
  where
    n : ℕ
    n = run (passes InLine) s

    inside : n < length s → (s ≡ take n s ++ 13 ∷ 10 ∷ drop (n + 2) s) ⊎ ((s ≡ take n s) × (drop (n + 2) s ≡ []))
    inside h =
        let e = crlf-next (drop n s) (line-stops s h) in
        inl (sym (take-append-drop n s) ∙ ap (λ (x : List ℕ). take n s ++ x) (e ∙ ap (λ (x : List ℕ). 13 ∷ 10 ∷ x) (drop-drop 2 n s)))

    over : length s ≤ n → (s ≡ take n s ++ 13 ∷ 10 ∷ drop (n + 2) s) ⊎ ((s ≡ take n s) × (drop (n + 2) s ≡ []))
    over h =
        let o : length s ≤ n + 2 = omega arith in
        inr (sym (take_all n s h), drop_of_length-le s o)

pub record GoodCons (ks : List Column) (l : List ℕ) (ls : List (List ℕ)) : Type 0 where
  pub first : is_line ks l ≡ true
  pub others : good_lines ks ls ≡ length ls

after-shorter : (b : ℕ) (s : List ℕ) (n : ℕ) → length s ≤ n → length (after_line (b ∷ s)) ≤ n
unfolding after_line
after-shorter b s n h = omega (arith, length-drop (line_length (b ∷ s) + 2) (b ∷ s))

module _ (ks : List Column) where
  pub good-inversion : (l : List ℕ) (ls : List (List ℕ)) → good_lines ks (l ∷ ls) ≡ suc (length ls) → GoodCons ks l ls
  good-inversion l ls h =
      ⊎_elim
      (λ (p : is_line ks l ≡ true). record { first = p; others = omega (arith, h, good_more ks l ls p) })
      (λ (p : is_line ks l ≡ false). absurd (omega (arith, h, good_none ks l ls p)))
      (passes-or-fails (is_line ks l))

  put-together :
      (t : List ℕ) → Line ks (take (line_length t) t) (row_of ks (take (line_length t) t)) →
      Lines ks (after_line t) (map (row_of ks) (lines (after_line t))) →
      Lines ks t (row_of ks (take (line_length t) t) ∷ map (row_of ks) (lines (after_line t)))
  unfolding lines
  put-together t l r =
      let first = take (line_length t) t in
      ⊎_elim
      (λ (e : t ≡ first ++ 13 ∷ 10 ∷ after_line t).
      subst (λ (x : List ℕ). Lines ks x (row_of ks first ∷ map (row_of ks) (lines (after_line t)))) (sym e) (Lines.more l r))
      (λ (e : (t ≡ first) × (after_line t ≡ [])).
      subst (λ (x : List ℕ). Lines ks x (row_of ks first ∷ map (row_of ks) (lines (after_line t)))) (sym e.0)
      (subst (λ (x : List ℕ). Lines ks first (row_of ks first ∷ map (row_of ks) (lines x))) (sym e.1) (Lines.last l)))
      (split t)

  no_lines : Lines ks [] (map (row_of ks) (lines []))
  unfolding lines
  no_lines = Lines.none

-- lines that are all well formed are the grammar's
abbrev pub AllLines : List Column → List ℕ → Type 0
AllLines ks s = good_lines ks (lines s) ≡ length (lines s) → Lines ks s (map (row_of ks) (lines s))

-- the first line, and the shorter text behind it
lines-sound-step :
    (ks : List Column) (n : ℕ) (s : List ℕ) → length s ≤ suc n → ((t : List ℕ) → length t ≤ n → AllLines ks t) → AllLines ks s
lines-sound-step ks n [] k f h = no_lines ks
lines-sound-step ks n (b ∷ s) k f h =
    let first = take (line_length (b ∷ s)) (b ∷ s) in
    let c : lines (b ∷ s) ≡ first ∷ lines (after_line (b ∷ s)) = cut-some (b ∷ s) (omega arith) in
    let g = good-inversion ks first (lines (after_line (b ∷ s))) (rw c at h) in
    let r = f (after_line (b ∷ s)) (after-shorter b s n (omega arith)) g.others in
    rw c (put-together ks (b ∷ s) (line-sound ks first g.first) r)

pub lines-sound : (ks : List Column) (n : ℕ) (s : List ℕ) → length s ≤ n → AllLines ks s
lines-sound ks zero s k = of-empty s k
  where
    of-empty : (s : List ℕ) → length s ≤ 0 → AllLines ks s
    of-empty [] k h = no_lines ks
    of-empty (b ∷ s) k h = absurd (omega arith)
lines-sound ks (suc n) s k = lines-sound-step ks n s k (λ t m. lines-sound ks n t m)
