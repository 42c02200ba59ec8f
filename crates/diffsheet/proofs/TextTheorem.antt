-- What is printed for a text of lines of inputs [02 §11], for every text: the refusal of section 6 exactly where the text is not of the layout, with
-- line 0, 1 or the first bad line; otherwise a line for each of its rows, in their order.
use Rattle.text.specs.Text.{Reading}
use mathlib.Core.Path.{◌≡◌, refl, sym, ap, subst}
use mathlib.Core.Logic.{◌↔◌}
use mathlib.Core.List.{List, ◌++◌}
use Prim.Native.Nat.{ℕ}
use Rattle.text.specs.Gets.{TextGets, too_long, no_header, bad-line, all-rows}
use Rattle.text.specs.Grammar.{Row}
use Rattle.text.proofs.GrammarTheorem.{text-rows}
use Rattle.text.proofs.TextTheorem.{gets-exactly}
use Rattle.diffsheet.specs.Lines.{input_header, input_columns, reading}
use Rattle.diffsheet.specs.Prints.{Prints}
use Rattle.diffsheet.specs.Sheet.{output_header, lines_of, diff_by, diff_of}
use Rattle.diffsheet.proofs.SheetLaws.{header-one-line}

module _ (s : List ℕ) where
  of-reading : {r : Reading} → TextGets input_header input_columns 1 s r → reading s ≡ r
  of-reading {r} g = (gets-exactly input_header input_columns 1 s header-one-line r).1 g

  prints : {xs : List ℕ} → Prints s xs → diff_of s ≡ xs
  unfolding diff_of diff_by
  prints (Prints.refused g) = rw (of-reading g)
  prints (Prints.a-line-each l t) =
      rw (of-reading (all-rows l t)) (ap (λ (rs : List Row). output_header ++ lines_of rs) (text-rows input_header input_columns header-one-line t))

  given : {xs : List ℕ} → Prints s xs → Prints s (diff_of s)
  given p = subst (Prints s) (sym (prints p)) p

  some-prints : {r : Reading} → TextGets input_header input_columns 1 s r → Prints s (diff_of s)
  some-prints (too_long l) = given (Prints.refused (too_long l))
  some-prints (no_header l n) = given (Prints.refused (no_header l n))
  some-prints (bad-line rest l e f) = given (Prints.refused (bad-line rest l e f))
  some-prints (all-rows l t) = given (Prints.a-line-each l t)

  pub prints-exactly : (xs : List ℕ) → (diff_of s ≡ xs) ↔ Prints s xs
  prints-exactly xs = (
    λ e. subst (Prints s) e (some-prints ((gets-exactly input_header input_columns 1 s header-one-line (reading s)).0 refl)),
    λ p. prints p,
  )
