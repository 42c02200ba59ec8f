-- [01 §4 TEXT, §6] Which answer a text gets, said by its bytes and the grammar, without the reader: line 0 where it is too long, the header's
-- line where the first line is no header, the first bad line behind it, or how many rows it has. Definitions only.
use Rattle.std.specs.Prelude.{◌≡◌, ◌⊎◌, List, [], ◌∷◌, ◌++◌, ℕ, ◌+◌, ◌≤◌, ◌<◌, length, get_or, Ok}
use Rattle.cursor.specs.declared.Column.{Column}
use Rattle.text.specs.Text.{Reading, bad_line, text_most, lines}
use Rattle.text.specs.Grammar.{Row, Line, Text}

-- no CRLF stands in these bytes: they are one line, or part of one
abbrev pub NoCrlf : List ℕ → Type 0
NoCrlf l = (before behind : List ℕ) → l ≡ before ++ 13 ∷ 10 ∷ behind → ⊥

-- the first line of the text s is the header h: nothing follows it, or a CRLF and anything
abbrev pub HeaderFirst : List ℕ → List ℕ → Type 0
HeaderFirst h s = (s ≡ h) ⊎ ((rest : List ℕ) × (s ≡ h ++ 13 ∷ 10 ∷ rest))

-- Of these lines, counted from 0, j is the first bad one: each before it is a line of the grammar, and it is none.
pub record FirstBad (ks : List Column) (ls : List (List ℕ)) (j : ℕ) : Type 0 where
  pub inside : j < length ls
  pub before : (i : ℕ) → i < j → (r : Row) × Line ks (get_or ls i []) r
  pub bad : (r : Row) → Line ks (get_or ls j []) r → ⊥

-- What the text s gets, its header h being line k. Its lines behind the header are those that `lines` cuts at each CRLF.
pub data TextGets (h : List ℕ) (ks : List Column) (k : ℕ) (s : List ℕ) : Reading → Type 0 where
  too_long : text_most < length s → TextGets h ks k s (bad_line 0)
  no_header : length s ≤ text_most → (HeaderFirst h s → ⊥) → TextGets h ks k s (bad_line k)
  bad-line :
      (rest : List ℕ) {j : ℕ} → length s ≤ text_most → s ≡ h ++ 13 ∷ 10 ∷ rest → FirstBad ks (lines rest) j →
      TextGets h ks k s (bad_line (k + 1 + j))
  all-rows : {rs : List Row} → length s ≤ text_most → Text h ks s rs → TextGets h ks k s (Ok (length rs))
