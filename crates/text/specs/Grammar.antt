-- What a well-formed text is, said without a reader and without a cursor [01 §6]: which bytes make a number, a name, a line, a text,
-- and which rows they say. A layout is a header and a list of columns. Definitions only.
use Rattle.std.specs.Prelude.{◌≡◌, Bool, true, ◌⊎◌, List, [], ◌∷◌, ◌++◌, map, ℕ, ◌≤◌, length, get_or}
use Rattle.cursor.specs.declared.Column.{Column}
use Rattle.cursor.specs.declared.Column.TheVariants.{Numbers, Names}
use Rattle.cursor.specs.Bytes.{digit_byte, plain_byte, bare_byte}
use Rattle.cursor.specs.Pieces.{decimal, name_most}
use Rattle.text.specs.Line.{numbers_of, names_of}
use Rattle.text.specs.Text.{row_lines}

-- every byte passes the test
abbrev pub All : (ℕ → Bool) → List ℕ → Type 0
All ok [] = Unit
All ok (b ∷ l) = (ok b ≡ true) × All ok l

-- the bytes w are the number n: one to nine digits, no leading zero but 0 itself
pub record IsNumber (w : List ℕ) (n : ℕ) : Type 0 where
  pub digits : All digit_byte w
  pub some : 1 ≤ length w
  pub most : length w ≤ 9
  pub no-leading-zero : (length w ≤ 1) ⊎ (get_or w 0 0 ≡ 48 → ⊥)
  pub value : n ≡ decimal 0 w

-- plain bytes and doubled quotes by turns
pub data Body : List ℕ → Type 0 where
  empty : Body []
  plain : {b : ℕ} {l : List ℕ} → plain_byte b ≡ true → Body l → Body (b ∷ l)
  doubled : {l : List ℕ} → Body l → Body (34 ∷ 34 ∷ l)

-- a name without quotes, or with them
pub data Form : List ℕ → Type 0 where
  bare : {w : List ℕ} → All bare_byte w → Form w
  quoted : {w : List ℕ} → Body w → Form (34 ∷ w ++ 34 ∷ [])

-- a name of 1 to 24 bytes as it stands
pub record IsNameText (w : List ℕ) : Type 0 where
  pub some : 1 ≤ length w
  pub most : length w ≤ name_most
  pub form : Form w

-- a row: its numbers in their order, and its names as they stand
pub record Row : Type 0 where
  pub numbers : List ℕ
  pub names : List (List ℕ)

-- a cell for each column, each behind a comma
pub data Cells : List Column → List ℕ → Row → Type 0 where
  none : Cells [] [] (record { numbers = []; names = [] })
  number :
      {ks : List Column} {n : ℕ} {w l ns : List ℕ} {vs : List (List ℕ)} → IsNumber w n → Cells ks l (record { numbers = ns; names = vs }) →
      Cells (Numbers ∷ ks) (44 ∷ w ++ l) (record { numbers = n ∷ ns; names = vs })
  name :
      {ks : List Column} {w l ns : List ℕ} {vs : List (List ℕ)} → IsNameText w → Cells ks l (record { numbers = ns; names = vs }) →
      Cells (Names ∷ ks) (44 ∷ w ++ l) (record { numbers = ns; names = w ∷ vs })

-- a line is its cells without the first comma
abbrev pub Line : List Column → List ℕ → Row → Type 0
Line ks l r = Cells ks (44 ∷ l) r

-- lines with CRLF between, the last CRLF optional
pub data Lines : List Column → List ℕ → List Row → Type 0 where
  none : {ks : List Column} → Lines ks [] []
  last : {ks : List Column} {l : List ℕ} {r : Row} → Line ks l r → Lines ks l (r ∷ [])
  more :
      {ks : List Column} {l s : List ℕ} {r : Row} {rs : List Row} → Line ks l r → Lines ks s rs →
      Lines ks (l ++ 13 ∷ 10 ∷ s) (r ∷ rs)

-- the header, and behind its CRLF the rows
pub data Text : List ℕ → List Column → List ℕ → List Row → Type 0 where
  alone : {h : List ℕ} {ks : List Column} → Text h ks h []
  rows : {h s : List ℕ} {ks : List Column} {rs : List Row} → Lines ks s rs → Text h ks (h ++ 13 ∷ 10 ∷ s) rs

-- the row that the reader finds in a line, and the rows that it finds in a text
unfoldable pub row_of : List Column → List ℕ → Row
row_of ks l = record { numbers = numbers_of ks l; names = names_of ks l }

unfoldable pub rows_as : List Column → List ℕ → List Row
rows_as ks s = map (row_of ks) (row_lines s)

-- the names of rows, and their numbers, one row after the other
unfoldable pub all_names : List Row → List (List ℕ)
all_names [] = []
all_names (r ∷ rs) = r.names ++ all_names rs

unfoldable pub numbers_in : List Row → List ℕ
numbers_in [] = []
numbers_in (r ∷ rs) = r.numbers ++ numbers_in rs
