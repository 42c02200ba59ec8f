-- What is left of a text at a cursor: its size, its header, its rows.
use Rattle.cursor.specs.declared.Place.{Place}
use Rattle.text.specs.Text.{Reading, bad_line}
use mathlib.Core.Path.{◌≡◌, ap, ◌∙◌}
use mathlib.Core.Bool.{Bool, true, false}
use mathlib.Core.List.{List}
use Prim.Native.Nat.{ℕ, ◌+◌, ◌-◌, ◌≤◌, ◌<◌}
use native.Mathlib.Nat.{add-sub_cancel_left}
use native.Mathlib.Omega.{arith}
use lib.ListN.{length, take, drop}
use lib.Seq.{drop-drop}
use borrow.Author.Tests.{le-leb, lt-leb}
use Rattle.cursor.specs.declared.Cursor.{Cursor}
use Rattle.cursor.specs.Pieces.{moved, next_line}
use Rattle.text.specs.declared.Columns.{Columns}
use Rattle.text.specs.Line.{columns_of, number_count, place_count}
use Rattle.text.specs.Text.{text_most, lines, line_length, after_line, same_bytes, size_right, headed}
use Rattle.text.specs.Text.{row_lines, read_as, rows_read_as, numbers_as, places_as, LinesTaken, TextTaken}
use Rattle.text.proofs.BlockLaws.{kept-start}

pub size-right : (s : List ℕ) → length s ≤ text_most → size_right s ≡ true
unfolding size_right
size-right s h = le-leb (length s) text_most h

pub size-wrong : (s : List ℕ) → text_most < length s → size_right s ≡ false
unfolding size_right
size-wrong s h = lt-leb (length s) text_most h

module _ (h : List ℕ) (b : Columns) (i k : ℕ) (s numbers : List ℕ) (names : List Place) where
  -- where no row is read, the buffers stay
  untouched : (r : Reading) → r ≡ read_as h (columns_of b) k s → rows_read_as h (columns_of b) s ≡ 0 → TextTaken h b i k s numbers names numbers names r
  untouched r e z =
      record {
        answer = e;
        taken = record { numbers-are = rw z (kept-start _ (number_count b) _ numbers); names-are = rw z (kept-start _ (place_count b) _ names) };
      }

  pub text-long : text_most < length s → TextTaken h b i k s numbers names numbers names (bad_line 0)
  unfolding read_as rows_read_as
  text-long l = untouched (bad_line 0) (rw (size-wrong s l)) (rw (size-wrong s l))

  pub text-unheaded : length s ≤ text_most → headed h s ≡ false → TextTaken h b i k s numbers names numbers names (bad_line k)
  unfolding read_as rows_read_as
  text-unheaded l u = untouched (bad_line k) (rw (size-right s l, u)) (rw (size-right s l, u))

  rows_of :
      (numbers' : List ℕ) (names' : List Place) (r : Reading) → length s ≤ text_most → headed h s ≡ true →
      LinesTaken b (i + line_length s + 2) (k + 1) (lines (after_line s)) numbers names numbers' names' r →
      TextTaken h b i k s numbers names numbers' names' r
  unfolding read_as rows_read_as numbers_as places_as row_lines
  rows_of numbers' names' r l u t =
      let z = size-right s l in
      record {
        answer = rw (z, u) t.answer;
        taken = record { numbers-are = rw (z, u) t.taken.numbers-are; names-are = rw (z, u) t.taken.names-are };
      }

-- what the cursors say of a text at the cursor c, p standing behind its first line and d at the next
module _ (h : List ℕ) (b : Columns) (text : List ℕ) (c p : Cursor) (past : p ≡ moved c (line_length (drop c.at text))) where
  pub headed-is : (r : Bool) → r ≡ same_bytes (take (p.at - c.at) (drop c.at text)) h → r ≡ headed h (drop c.at text)
  unfolding headed
  headed-is r e =
      let n : p.at - c.at ≡ line_length (drop c.at text) = rw past (add-sub_cancel_left c.at (line_length (drop c.at text))) in
      rw n at e

  pub text-rows :
      (numbers : List ℕ) (names : List Place) (numbers' : List ℕ) (names' : List Place) (r : Reading) (d : Cursor) → d ≡ next_line p → length (drop c.at text) ≤ text_most →
      headed h (drop c.at text) ≡ true →
      LinesTaken b d.at d.line (lines (drop d.at text)) numbers names numbers' names' r →
      TextTaken h b c.at c.line (drop c.at text) numbers names numbers' names' r
  unfolding after_line
  text-rows numbers names numbers' names' r d next l u t =
      let n = line_length (drop c.at text) in
      let z : c.at + (n + 2) ≡ c.at + n + 2 = omega arith in
      let e : drop (n + 2) (drop c.at text) ≡ drop (c.at + n + 2) text = drop-drop (n + 2) c.at text ∙ ap (λ (j : ℕ). drop j text) z in
      rows_of h b c.at c.line (drop c.at text) numbers names numbers' names' r l u (rw e (rw (next, past) at t))
