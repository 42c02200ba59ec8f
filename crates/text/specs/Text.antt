-- A text: a header and lines of one layout, the first bad line, and what the good ones hold [01 §6]. Definitions only.
use Rattle.std.specs.Prelude.{◌≡◌, Bool, true, false, cond, ◌&&◌, List, [], ◌∷◌, ◌++◌, ℕ, ◌+◌, ◌*◌, ◌/◌, ◌≤◌, min, leb, ltb, eqb, length, get_or, take, drop, Option, Result, Ok, Err}
use Rattle.std.proofs.Math.Seq.{paste}
use Rattle.cursor.specs.declared.Class.TheVariants.{InLine}
use Rattle.cursor.specs.declared.Column.{Column}
use Rattle.cursor.specs.declared.Cursor.{Cursor}
use Rattle.cursor.specs.declared.Place.{Place}
use Rattle.cursor.specs.Bytes.{crlf, passes, run}
use Rattle.text.specs.declared.Columns.{Columns}
use Rattle.text.specs.declared.BadLine.{BadLine}
use Rattle.text.specs.Line.{listed, columns_of, number_count, place_count, Usable, is_line, numbers_of, places_of}

-- what reading a text gives: the number of its rows, or its first bad line, 0 where it is too long
abbrev pub Reading : Type 0
Reading = Result ℕ BadLine

abbrev pub bad_line : ℕ → Reading
bad_line k = Err (record { 0 = k })

-- a text has at most so many bytes
abbrev pub text_most : ℕ
text_most = 65536

-- a byte put in front of the first line
unfoldable pub onto : ℕ → List (List ℕ) → List (List ℕ)
onto b [] = (b ∷ []) ∷ []
onto b (l ∷ ls) = (b ∷ l) ∷ ls

-- the lines of a text, cut at each CRLF; nothing after the last CRLF is no line
unfoldable pub lines : List ℕ → List (List ℕ)
lines [] = []
lines (b ∷ []) = (b ∷ []) ∷ []
lines (b ∷ c ∷ s) =
    let next = lines s in
    let same = lines (c ∷ s) in
    cond (crlf (b ∷ c ∷ s)) ([] ∷ next) (onto b same)

-- how many bytes stand before the first CRLF, and what stands behind it
unfoldable pub line_length : List ℕ → ℕ
line_length s = run (passes InLine) s

unfoldable pub after_line : List ℕ → List ℕ
after_line s = drop (line_length s + 2) s

-- two lists of bytes are equal
unfoldable pub same_bytes : List ℕ → List ℕ → Bool
same_bytes [] [] = true
same_bytes [] (b ∷ t) = false
same_bytes (a ∷ s) [] = false
same_bytes (a ∷ s) (b ∷ t) = eqb a b && same_bytes s t

-- the text is not too long, and its first line is the header h
unfoldable pub size_right : List ℕ → Bool
size_right s = leb (length s) text_most

unfoldable pub headed : List ℕ → List ℕ → Bool
headed h s = same_bytes (take (line_length s) s) h

-- the lines behind the header
unfoldable pub row_lines : List ℕ → List (List ℕ)
row_lines s = lines (after_line s)

-- the first of the lines that are left is well formed
unfoldable pub next_is_line : List Column → List (List ℕ) → Bool
next_is_line ks ls = is_line ks (get_or ls 0 [])

-- how many lines are well formed before the first that is not
unfoldable pub good_lines : List Column → List (List ℕ) → ℕ
good_lines ks ls = run (next_is_line ks) ls

-- what reading these lines gives, the first of them having the number k
unfoldable pub lines_read : List Column → ℕ → List (List ℕ) → Reading
lines_read ks k ls =
    cond (eqb (good_lines ks ls) (length ls)) (Ok (good_lines ks ls)) (bad_line (k + good_lines ks ls))

-- what reading a text gives: the first bad line, the header being line k, or how many rows there are
unfoldable pub read_as : List ℕ → List Column → ℕ → List ℕ → Reading
read_as h ks k s = cond (size_right s) (cond (headed h s) (lines_read ks (k + 1) (row_lines s)) (bad_line k)) (bad_line 0)

-- how many rows are read before the first bad line
unfoldable pub rows_read_as : List ℕ → List Column → List ℕ → ℕ
rows_read_as h ks s = cond (size_right s && headed h s) (good_lines ks (row_lines s)) 0

-- the numbers of lines, one line after the other, and the place of each name, the first line starting at i
unfoldable pub all_numbers : List Column → List (List ℕ) → List ℕ
all_numbers ks [] = []
all_numbers ks (l ∷ ls) = numbers_of ks l ++ all_numbers ks ls

unfoldable pub all_places : List Column → ℕ → List (List ℕ) → List Place
all_places ks i [] = []
all_places ks i (l ∷ ls) = places_of ks i l ++ all_places ks (i + length l + 2) ls

-- the same of all the lines behind the header of a text that starts at i
unfoldable pub numbers_as : List Column → List ℕ → List ℕ
numbers_as ks s = all_numbers ks (row_lines s)

unfoldable pub places_as : List Column → ℕ → List ℕ → List Place
places_as ks i s = all_places ks (i + line_length s + 2) (row_lines s)

-- a buffer over which xs was written from its start
unfoldable pub over : {A : Type 0} → List A → List A → List A
over xs l = xs ++ drop (length xs) l

-- a buffer whose n-th block was written, where n is below the room
unfoldable pub kept_in : {A : Type 0} → ℕ → ℕ → List A → List A → List A
kept_in room n block l = cond (ltb n room) (paste l (n * length block) block (length block)) l

-- the same with the first w numbers of a for a block, in as much room as the buffer has
abbrev pub kept_front : ℕ → ℕ → List ℕ → List ℕ → List ℕ
kept_front w n a l = kept_in (length l / length (take w a)) n (take w a) l

-- the same with the place of a name for a block, if there is one
abbrev pub kept_name : ℕ → Option Place → List Place → List Place
kept_name n name l = kept_in (length l / length (listed name)) n (listed name) l

-- a buffer over which the first n blocks of w of xs were written, as far as there is room
unfoldable pub blocks_over : {A : Type 0} → ℕ → ℕ → ℕ → List A → List A → List A
blocks_over room w n xs l = over (take (min n room * w) xs) l

-- What reading asks: a layout that can be read, and a cursor with no more lines before it than bytes.
pub record Ready (c : Columns) (from : Cursor) : Type 0 where
  pub usable : Usable c
  pub early : from.line ≤ from.at + 1

-- What reading leaves: the answer, and in the buffers what the n rows before the first bad line hold, as far as there is room.
pub record Taken (c : Columns) (n : ℕ) (xs : List ℕ) (ps : List Place) (numbers : List ℕ) (names : List Place) (numbers' : List ℕ) (names' : List Place) : Type 0 where
  pub numbers-are : numbers' ≡ blocks_over (length numbers / number_count c) (number_count c) n xs numbers
  pub names-are : names' ≡ blocks_over (length names / place_count c) (place_count c) n ps names

-- Of lines from the place i on, the first having the number k.
pub record LinesTaken (c : Columns) (i k : ℕ) (ls : List (List ℕ)) (numbers : List ℕ) (names : List Place) (numbers' : List ℕ) (names' : List Place) (r : Reading) : Type 0 where
  pub answer : r ≡ lines_read (columns_of c) k ls
  pub taken : Taken c (good_lines (columns_of c) ls) (all_numbers (columns_of c) ls) (all_places (columns_of c) i ls) numbers names numbers' names'

-- Of a text with the header h from the place i on, in line k.
pub record TextTaken (h : List ℕ) (c : Columns) (i k : ℕ) (s numbers : List ℕ) (names : List Place) (numbers' : List ℕ) (names' : List Place) (r : Reading) : Type 0 where
  pub answer : r ≡ read_as h (columns_of c) k s
  pub taken : Taken c (rows_read_as h (columns_of c) s) (numbers_as (columns_of c) s) (places_as (columns_of c) i s) numbers names numbers' names'
