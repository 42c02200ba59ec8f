-- The text of a list [01 §4 TEXT, §6]. Which answer it gets, exactly, and what its rows are; each part is the theorem over all layouts, at
-- this one:
--     line-0-exactly      line 0 exactly where it has over 65,536 bytes
--     line-1-exactly      line 1 exactly where it has not, and its first line is no header
--     bad-line-exactly    line 2 + j exactly where it has not, the header comes first, and j, from 0, is the first bad line behind it
--     rows-exactly        n rows exactly where it has not, and it is a text of the layout with n rows
--     gets-exactly        the four as one
--     rows-unique         a text of the layout has one list of rows
--     list-sound, list-complete     the reading accepts exactly the texts of the layout, and its rows are the layout's
--     header-spelt        the header, letter by letter
use Rattle.text.specs.Text.{bad_line}
use Rattle.text.specs.Text.{Reading}
use Rattle.std.proofs.Common.{Ok}
use mathlib.Core.Path.{◌≡◌, refl}
use mathlib.Core.Logic.{◌↔◌}
use mathlib.Core.List.{List, ◌∷◌, ◌++◌}
use Prim.Native.Nat.{ℕ, ◌+◌, ◌≤◌, ◌<◌}
use native.Mathlib.Omega.{arith}
use lib.ListN.{length}
use Rattle.layout.specs.Counts.{field_count}
use Rattle.cursor.specs.Spelt.{spelt}
use Rattle.text.specs.Grammar.{Row}
use Rattle.text.specs.Gets.{NoCrlf, HeaderFirst, FirstBad, TextGets}
use Rattle.text.specs.Text.{text_most, lines}
use Rattle.text.proofs.GrammarText.{no_cr, all-test, no-cr-no-crlf}
use Rattle.text.proofs.GrammarTheorem as grammar
use Rattle.text.proofs.TextTheorem as texts
use Rattle.list.specs.Header.{columns, header}
use Rattle.list.specs.List.{list_columns, ListText, reading, rows_of}

-- the header is one line, with a column for each number of a row and one for the name
pub header-spelt :
    header ≡
    spelt "row,name,feeds_from,kind,volts,work,selfstart,return,far,clear,near,factor,low,high,step,device,floor,ceiling,backed," ++
    spelt "rated_primary,rated_secondary,law,near_greatest"
unfolding header spelt
header-spelt = refl

pub columns-right : length columns ≡ field_count + 1
columns-right = refl

pub header-one-line : NoCrlf header
unfolding header
header-one-line = no-cr-no-crlf header (all-test no_cr header refl)

module _ (s : List ℕ) where
  pub line-0-exactly : (reading s ≡ bad_line 0) ↔ (65536 < length s)
  line-0-exactly = texts.too-long-exactly header list_columns 1 s header-one-line (omega arith)

  pub line-1-exactly : (reading s ≡ bad_line 1) ↔ ((length s ≤ 65536) × (HeaderFirst header s → ⊥))
  line-1-exactly = texts.no-header-exactly header list_columns 1 s header-one-line (omega arith)

  pub bad-line-exactly :
      (j : ℕ) →
      (reading s ≡ bad_line (2 + j)) ↔
      ((length s ≤ 65536) × ((rest : List ℕ) × ((s ≡ header ++ 13 ∷ 10 ∷ rest) × FirstBad list_columns (lines rest) j)))
  bad-line-exactly j = texts.bad-line-exactly header list_columns 1 s header-one-line (omega arith) j

  pub rows-exactly : (n : ℕ) → (reading s ≡ Ok n) ↔ ((length s ≤ 65536) × ((rs : List Row) × (ListText s rs × (length rs ≡ n))))
  rows-exactly n = texts.rows-exactly header list_columns 1 s header-one-line n

  pub gets-exactly : (r : Reading) → (reading s ≡ r) ↔ TextGets header list_columns 1 s r
  gets-exactly r = texts.gets-exactly header list_columns 1 s header-one-line r

  pub rows-unique : (rs rs' : List Row) → ListText s rs → ListText s rs' → rs ≡ rs'
  rows-unique rs rs' t t' = texts.rows-unique header list_columns header-one-line t t'

  -- Whatever the reading accepts is a text of a list, with as many rows as it says.
  pub list-sound : (n : ℕ) → reading s ≡ Ok n → ListText s (rows_of s) × (length (rows_of s) ≡ n)
  list-sound n e = grammar.text-sound header list_columns 1 s n e

  -- Every text of a list that is not too long is accepted, and its rows are those that it says.
  pub list-complete : (rs : List Row) → length s ≤ text_most → ListText s rs → (reading s ≡ Ok (length rs)) × (rows_of s ≡ rs)
  list-complete rs k h = grammar.text-complete header list_columns header-one-line 1 s rs k h
