-- The tests of the reading, by what they say of the bytes: the size, the header first, and the first bad line.
use Rattle.text.specs.Text.{bad_line}
use mathlib.Core.Path.{◌≡◌, refl, sym, ap, ◌∙◌}
use mathlib.Core.Bool.{true, false}
use mathlib.Core.Logic.{inl, inr, ⊎_elim}
use mathlib.Core.List.{List, [], ◌∷◌, ◌++◌}
use Prim.Native.Nat.{ℕ, ◌+◌, ◌≤◌, ◌<◌}
use native.Mathlib.Nat.{add-zero}
use native.Mathlib.Omega.{arith}
use lib.ListN.{length, drop, get_or}
use lib.Seq.{get_or-drop}
use borrow.Author.Tests.{leb-true, leb-false, lt-leb}
use Rattle.fold.proofs.BoolLaws.{lt-or-le, not-both}
use Rattle.cursor.specs.declared.Column.{Column}
use Rattle.cursor.specs.Bytes.{run}
use Rattle.cursor.proofs.RunLaws.{run_length, run_end, run_at}
use Rattle.text.specs.Line.{is_line}
use Rattle.text.specs.Text.{text_most, lines, after_line, next_is_line, good_lines, lines_read, size_right, headed, row_lines}
use Rattle.text.specs.Grammar.{row_of}
use Rattle.text.specs.Gets.{NoCrlf, HeaderFirst, FirstBad}
use Rattle.text.proofs.CrlfLaws.{first-is, only-is, first-behind}
use Rattle.text.proofs.GrammarLines.{line-sound, line-complete}
use Rattle.text.proofs.GrammarSound.{split}
use Rattle.text.proofs.GrammarTheorem.{headed-line, lines-refused}
use Rattle.text.proofs.SameLaws.{same_refl}

-- the test of the header passes exactly where the header comes first
module _ (h s : List ℕ) where
  pub first-headed : headed h s ≡ true → HeaderFirst h s
  first-headed q =
      ⊎_elim
      (λ e. inr (after_line s, e ∙ ap (λ (x : List ℕ). x ++ 13 ∷ 10 ∷ after_line s) (headed-line h s q)))
      (λ e. inl (e.0 ∙ headed-line h s q))
      (split s)

  pub headed-first : NoCrlf h → HeaderFirst h s → headed h s ≡ true
  unfolding headed
  headed-first one =
      ⊎_elim
      (λ (e : s ≡ h). rw (e, only-is h one, same_refl h))
      (λ (e : (rest : List ℕ) × (s ≡ h ++ 13 ∷ 10 ∷ rest)). rw (e.1, first-is h e.0 one, same_refl h))

  pub lines-behind : NoCrlf h → (rest : List ℕ) → s ≡ h ++ 13 ∷ 10 ∷ rest → row_lines s ≡ lines rest
  unfolding row_lines
  lines-behind one rest e = rw (e, first-behind h rest one)

-- the lines that are good are those before the first bad one
module _ (ks : List Column) (ls : List (List ℕ)) where
  line_at : (i : ℕ) → next_is_line ks (drop i ls) ≡ is_line ks (get_or ls i [])
  unfolding next_is_line
  line_at i = rw (get_or-drop i ls 0 [], add-zero i)

  pub bad-first : (good_lines ks ls ≡ length ls → ⊥) → FirstBad ks ls (good_lines ks ls)
  unfolding good_lines
  bad-first n =
      let q = run_length (next_is_line ks) [] ls in
      let l : run (next_is_line ks) ls < length ls = omega (arith, n, q) in
      record {
        inside = l;
        before =
            λ i h. (row_of ks (get_or ls i []), line-sound ks (get_or ls i []) (sym (line_at i) ∙ run_at (next_is_line ks) [] ls i h));
        bad =
            λ r h.
            not-both (line-complete h).good
            (sym (line_at (run (next_is_line ks) ls)) ∙ run_end (next_is_line ks) [] ls l);
      }

  first-bad : (j : ℕ) → FirstBad ks ls j → good_lines ks ls ≡ j
  unfolding good_lines
  first-bad j f =
      ⊎_elim
      (λ (l : run (next_is_line ks) ls < j).
      let i = run (next_is_line ks) ls in
      let b = run_end (next_is_line ks) [] ls (omega (arith, f.inside)) in
      absurd (not-both (line-complete (f.before i l).1).good (sym (line_at i) ∙ b)))
      (λ (l : j ≤ run (next_is_line ks) ls).
      ⊎_elim
      (λ (m : j < run (next_is_line ks) ls).
      absurd (f.bad (row_of ks (get_or ls j [])) (line-sound ks (get_or ls j []) (sym (line_at j) ∙ run_at (next_is_line ks) [] ls j m))))
      (λ (m : run (next_is_line ks) ls ≤ j). omega arith)
      (lt-or-le j (run (next_is_line ks) ls)))
      (lt-or-le (run (next_is_line ks) ls) j)

  pub lines-bad : (k j : ℕ) → FirstBad ks ls j → lines_read ks k ls ≡ bad_line (k + j)
  lines-bad k j f =
      let e = first-bad j f in
      lines-refused ks k ls (λ q. omega (arith, f.inside)) ∙ ap (λ (i : ℕ). bad_line (k + i)) e

pub no-lines-good : (ks : List Column) → good_lines ks [] ≡ 0
unfolding good_lines run
no-lines-good ks = refl

pub size-was : (s : List ℕ) → size_right s ≡ true → length s ≤ text_most
unfolding size_right
size-was s p = leb-true (length s) text_most p

pub size-over : (s : List ℕ) → size_right s ≡ false → text_most < length s
unfolding size_right
size-over s p = leb-false (length s) text_most p

pub size-fails : (s : List ℕ) → text_most < length s → size_right s ≡ false
unfolding size_right
size-fails s l = lt-leb (length s) text_most l
