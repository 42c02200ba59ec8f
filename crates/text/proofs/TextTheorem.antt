-- Which answer a text gets [01 §4 TEXT, §6], for every text under any header that is one line, any columns, and the header in any line k:
--     gets-exactly          the answer is the one that `TextGets` says, and no other
--     too-long-exactly      line 0 exactly where the text has over 65,536 bytes
--     no-header-exactly     line k exactly where it has not, and the first line is no header
--     bad-line-exactly      line k + 1 + j exactly where it has not, the header comes first, and j is the first bad line behind it
--     rows-exactly          n rows exactly where it has not, and it is a text of the grammar with n rows
--     rows-unique           a text of the grammar has one list of rows
use Rattle.text.specs.Text.{Reading, bad_line}
use Rattle.std.proofs.Common.{Ok}
use mathlib.Core.Path.{◌≡◌, refl, sym, ap, subst, ◌∙◌}
use mathlib.Core.Bool.{true, false}
use mathlib.Core.Logic.{inr, ⊎_elim, ◌↔◌}
use mathlib.Core.List.{List, [], ◌∷◌, ◌++◌}
use Prim.Native.Nat.{ℕ, ◌+◌, ◌≤◌, ◌<◌}
use native.Mathlib.Omega.{arith}
use lib.Dec.{eqb}
use lib.ListN.{length, take}
use borrow.Author.Tests.{eqb-true, eqb-false}
use Rattle.fold.proofs.BoolLaws.{passes-or-fails, fails, not-both, zero-not-one}
use Rattle.cursor.specs.declared.Column.{Column}
use Rattle.text.specs.Text.{lines, line_length, after_line, good_lines, size_right, headed, row_lines, read_as}
use Rattle.text.specs.Grammar.{Row, Text}
use Rattle.text.specs.Gets.{NoCrlf, HeaderFirst, FirstBad, TextGets, too_long, no_header, bad-line, all-rows}
use Rattle.text.proofs.CrlfLaws.{lines_none}
use Rattle.text.proofs.GrammarSound.{split}
use Rattle.text.proofs.GrammarTheorem.{same-line, headed-line, lines-good, read-long, read-unheaded, read-lines, text-sound, text-accepted, text-rows}
use Rattle.text.proofs.TextLaws.{size-right}
use Rattle.text.proofs.FirstBadLaws.{first-headed, headed-first, lines-behind}
use Rattle.text.proofs.FirstBadLaws.{bad-first, lines-bad, no-lines-good, size-was, size-over, size-fails}

module _ (h : List ℕ) (ks : List Column) (k : ℕ) (s : List ℕ) where
  -- a text that is not too long and has its header: all lines good, or a first bad one
  module _ (p : size_right s ≡ true) (q : headed h s ≡ true) where
    gets-rows : good_lines ks (row_lines s) ≡ length (row_lines s) → TextGets h ks k s (read_as h ks k s)
    gets-rows g =
        let e = read-lines h ks k s p q ∙ lines-good ks (k + 1) (row_lines s) g in
        let t = text-sound h ks k s (length (row_lines s)) e in
        subst (TextGets h ks k s) (ap Ok t.1 ∙ sym e) (all-rows (size-was s p) t.0)

    gets-bad : (good_lines ks (row_lines s) ≡ length (row_lines s) → ⊥) → TextGets h ks k s (read_as h ks k s)
    unfolding row_lines
    gets-bad n =
        let f = bad-first ks (lines (after_line s)) n in
        let e = read-lines h ks k s p q ∙ lines-bad ks (lines (after_line s)) (k + 1) _ f in
        ⊎_elim
        (λ (c : s ≡ take (line_length s) s ++ 13 ∷ 10 ∷ after_line s).
        subst (TextGets h ks k s) (sym e)
        (bad-line (after_line s) (size-was s p) (c ∙ ap (λ (x : List ℕ). x ++ 13 ∷ 10 ∷ after_line s) (headed-line h s q)) f))
        (λ (c : (s ≡ take (line_length s) s) × (after_line s ≡ [])). absurd (n (rw (c.1, lines_none, no-lines-good ks))))
        (split s)

  module _ (one : NoCrlf h) where
    gets : TextGets h ks k s (read_as h ks k s)
    gets =
        ⊎_elim
        (λ (p : size_right s ≡ true).
        ⊎_elim
        (λ (q : headed h s ≡ true).
        ⊎_elim
        (λ g. gets-rows p q (eqb-true (good_lines ks (row_lines s)) (length (row_lines s)) g))
        (λ g. gets-bad p q (eqb-false (good_lines ks (row_lines s)) (length (row_lines s)) g))
        (passes-or-fails (eqb (good_lines ks (row_lines s)) (length (row_lines s)))))
        (λ (q : headed h s ≡ false).
        subst (TextGets h ks k s) (sym (read-unheaded h ks k s p q)) (no_header (size-was s p) (λ f. not-both (headed-first h s one f) q)))
        (passes-or-fails (headed h s)))
        (λ (p : size_right s ≡ false). subst (TextGets h ks k s) (sym (read-long h ks k s p)) (too_long (size-over s p)))
        (passes-or-fails (size_right s))

    gets-only : {r : Reading} → TextGets h ks k s r → read_as h ks k s ≡ r
    gets-only (too_long l) = read-long h ks k s (size-fails s l)
    gets-only (no_header l n) = read-unheaded h ks k s (size-right s l) (fails (headed h s) (λ q. n (first-headed h s q)))
    gets-only (bad-line rest {j} l e f) =
        read-lines h ks k s (size-right s l) (headed-first h s one (inr (rest, e))) ∙
        rw (lines-behind h s one rest e) (lines-bad ks (lines rest) (k + 1) j f)
    gets-only (all-rows l t) = text-accepted h ks one k l t

    -- every text gets one answer, and this one
    pub gets-exactly : (r : Reading) → (read_as h ks k s ≡ r) ↔ TextGets h ks k s r
    gets-exactly r = (λ e. subst (TextGets h ks k s) e gets, gets-only)

    pub rows-exactly : (n : ℕ) → (read_as h ks k s ≡ Ok n) ↔ ((length s ≤ 65536) × ((rs : List Row) × (Text h ks s rs × (length rs ≡ n))))
    rows-exactly n =
        (λ e. from ((gets-exactly (Ok n)).0 e) refl, λ f. text-accepted h ks one k f.0 f.1.1.0 ∙ ap Ok f.1.1.1)
      where
        from : {r : Reading} → TextGets h ks k s r → r ≡ Ok n → (length s ≤ 65536) × ((rs : List Row) × (Text h ks s rs × (length rs ≡ n)))
        from (too_long l) e = absurd (zero-not-one cc)
        from (no_header l f) e = absurd (zero-not-one cc)
        from (bad-line rest l c f) e = absurd (zero-not-one cc)
        from (all-rows {rs} l t) e = (l, (rs, (t, cc)))

    -- the header's line counted from 1, or from any greater number
    module _ (from-1 : 1 ≤ k) where
      pub too-long-exactly : (read_as h ks k s ≡ bad_line 0) ↔ (65536 < length s)
      too-long-exactly = (λ e. from ((gets-exactly (bad_line 0)).0 e) refl, λ l. gets-only (too_long l))
        where
          from : {r : Reading} → TextGets h ks k s r → r ≡ bad_line 0 → 65536 < length s
          from (too_long l) e = l
          from (no_header l f) e = absurd (let z : k ≡ 0 = same-line _ _ e in omega arith)
          from (bad-line rest {j} l c f) e = absurd (let z : k + 1 + j ≡ 0 = same-line _ _ e in omega arith)
          from (all-rows l t) e = absurd (zero-not-one cc)

      pub no-header-exactly : (read_as h ks k s ≡ bad_line k) ↔ ((length s ≤ 65536) × (HeaderFirst h s → ⊥))
      no-header-exactly = (λ e. from ((gets-exactly (bad_line k)).0 e) refl, λ f. gets-only (no_header f.0 f.1))
        where
          from : {r : Reading} → TextGets h ks k s r → r ≡ bad_line k → (length s ≤ 65536) × (HeaderFirst h s → ⊥)
          from (too_long l) e = absurd (let z : 0 ≡ k = same-line _ _ e in omega arith)
          from (no_header l f) e = (l, f)
          from (bad-line rest {j} l c f) e = absurd (let z : k + 1 + j ≡ k = same-line _ _ e in omega arith)
          from (all-rows l t) e = absurd (zero-not-one cc)

      pub bad-line-exactly :
          (j : ℕ) →
          (read_as h ks k s ≡ bad_line (k + 1 + j)) ↔
          ((length s ≤ 65536) × ((rest : List ℕ) × ((s ≡ h ++ 13 ∷ 10 ∷ rest) × FirstBad ks (lines rest) j)))
      bad-line-exactly j =
          (λ e. from ((gets-exactly (bad_line (k + 1 + j))).0 e) refl, λ f. gets-only (bad-line f.1.0 f.0 f.1.1.0 f.1.1.1))
        where
          from :
              {r : Reading} → TextGets h ks k s r → r ≡ bad_line (k + 1 + j) →
              (length s ≤ 65536) × ((rest : List ℕ) × ((s ≡ h ++ 13 ∷ 10 ∷ rest) × FirstBad ks (lines rest) j))
          from (too_long l) e = absurd (let z : 0 ≡ k + 1 + j = same-line _ _ e in omega arith)
          from (no_header l f) e = absurd (let z : k ≡ k + 1 + j = same-line _ _ e in omega arith)
          from (bad-line rest {j = i} l c f) e =
              let z : k + 1 + i ≡ k + 1 + j = same-line _ _ e in
              let y : i ≡ j = omega arith in
              (l, (rest, (c, subst (FirstBad ks (lines rest)) y f)))
          from (all-rows l t) e = absurd (zero-not-one cc)

pub rows-unique : (h : List ℕ) (ks : List Column) → NoCrlf h → {s : List ℕ} {rs rs' : List Row} → Text h ks s rs → Text h ks s rs' → rs ≡ rs'
rows-unique h ks one t t' = sym (text-rows h ks one t) ∙ text-rows h ks one t'
