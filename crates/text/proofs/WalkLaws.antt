-- Reading line after line: the lines read so far and the lines left make up all of them.
use Rattle.cursor.specs.declared.Place.{Place}
use Rattle.text.specs.Text.{Reading, bad_line, kept_name}
use Rattle.std.proofs.Common.{Some, None, Ok}
use mathlib.Core.Path.{◌≡◌, refl, sym, ap, ◌∙◌}
use mathlib.Core.List.{List, ◌++◌}
use Prim.Native.Nat.{ℕ, zero, suc, ◌+◌, ◌*◌, ◌/◌, ◌≤◌, ◌<◌}
use native.Mathlib.Nat.{add-zero, mul-zero}
use native.Mathlib.Omega.{arith}
use lib.ListN.{length, take, drop, length-append, length-drop, drop_of_length-le}
use borrow.Author.Tests.{eq-eqb, ne_eqb}
use Rattle.cursor.specs.declared.Cursor.{Cursor}
use Rattle.cursor.specs.Bytes.{run}
use Rattle.cursor.specs.Pieces.{next_line, moved}
use Rattle.text.specs.declared.Columns.{Columns}
use Rattle.text.specs.declared.LineRead.{LineRead}
use Rattle.text.specs.Line.{columns_of, number_count, place_count, numbers_of, places_of, line_read}
use Rattle.text.specs.Text.{lines, line_length, good_lines, lines_read, all_numbers, all_places, kept_in, kept_front, blocks_over, LinesTaken}
use Rattle.text.proofs.BlockLaws.{block-behind, kept_next, kept-start}
use Rattle.text.proofs.ColumnLaws.{numbers-long, places-long}
use Rattle.text.proofs.CutLaws.{line_at, next_at, cut_at, next-line-at}
use Rattle.text.proofs.RowAtLaws.{good_more, good_none, row-was, row-was-not}

-- n blocks of w numbers of xs stand in the buffer l, which now is l'; those of `left` are still to come
pub record Kept {A : Type 0} (w : ℕ) (xs left l l' : List A) (n : ℕ) : Type 0 where
  pub behind : drop (n * w) xs ≡ left
  pub long : length l' ≡ length l
  pub is : l' ≡ blocks_over (length l / w) w n xs l

kept-none : {A : Type 0} → (w : ℕ) (xs l : List A) → Kept w xs xs l l 0
kept-none w xs l = record { behind = rw (native.Mathlib.Nat.zero-mul w); long = refl; is = kept-start (length l / w) w xs l }

-- what is left of xs begins with a block of w, so that there are n blocks before it
blocks-inside : {A : Type 0} → (w n : ℕ) (xs block rest : List A) → drop (n * w) xs ≡ block ++ rest → length block ≡ w → n * w ≤ length xs
blocks-inside zero n xs block rest e h = rw (mul-zero n) (omega arith)
blocks-inside (suc w) n xs block rest e h = omega (arith, simp (length-drop, length-append) at (ap length e))

kept_more :
    {A : Type 0} → (w n : ℕ) (xs block rest l l' l'' : List A) → Kept w xs (block ++ rest) l l' n → length block ≡ w → length l'' ≡ length l' →
    l'' ≡ kept_in (length l' / length block) n block l' → Kept w xs rest l l'' (n + 1)
kept_more w n xs block rest l l' l'' h long same e =
    let i = blocks-inside w n xs block rest h.behind long in
    let k : l'' ≡ kept_in (length l / w) n block l' = rw (h.long, long) at e in
    record {
      behind = block-behind w n xs block rest h.behind long i;
      long = same ∙ h.long;
      is = k ∙ kept_next w n xs block rest h.behind long i (length l / w) l l' h.is;
    }

-- n lines are read, and the cursor stands at c
pub record Walk (b : Columns) (s : List ℕ) (from : Cursor) (numbers : List ℕ) (names : List Place) (numbers' : List ℕ) (names' : List Place) (c : Cursor) (n : ℕ) : Type 0 where
  pub early : c.line ≤ c.at + 1
  pub line : c.line ≡ from.line + n
  pub good : n + good_lines (columns_of b) (lines (drop c.at s)) ≡ good_lines (columns_of b) (lines (drop from.at s))
  pub count : n + length (lines (drop c.at s)) ≡ length (lines (drop from.at s))
  pub numbers-kept :
      Kept (number_count b) (all_numbers (columns_of b) (lines (drop from.at s))) (all_numbers (columns_of b) (lines (drop c.at s))) numbers numbers' n
  pub names-kept :
      Kept (place_count b) (all_places (columns_of b) from.at (lines (drop from.at s)))
      (all_places (columns_of b) c.at (lines (drop c.at s))) names names' n

pub walk_start :
    (b : Columns) (s : List ℕ) (from : Cursor) (numbers : List ℕ) (names : List Place) → from.line ≤ from.at + 1 → Walk b s from numbers names numbers names from 0
walk_start b s from numbers names h =
    record {
      early = h;
      line = omega arith;
      good = omega arith;
      count = omega arith;
      numbers-kept = kept-none (number_count b) _ numbers;
      names-kept = kept-none (place_count b) _ names;
    }

module _
    (b : Columns) (s : List ℕ) (from : Cursor) (numbers : List ℕ) (names : List Place) (numbers' : List ℕ) (names' : List Place) (c : Cursor) (n : ℕ)
    (h : Walk b s from numbers names numbers' names' c n) where
  -- what the readers answer takes the walk one line on
  pub walk_step :
      (p d : Cursor) (r : LineRead) (numbers'' : List ℕ) (names'' : List Place) → c.at < length s → p ≡ moved c (line_length (drop c.at s)) →
      Some r ≡ line_read (columns_of b) c.at (drop c.at (take p.at s)) →
      numbers'' ≡ kept_front (number_count b) n r.numbers numbers' →
      names'' ≡ kept_name n r.name names' →
      length numbers'' ≡ length numbers' → length names'' ≡ length names' → d ≡ next_line p →
      Walk b s from numbers names numbers'' names'' d (n + 1)
  unfolding all_numbers all_places
  walk_step p d r numbers'' names'' inn past e e₁ e₂ k₁ k₂ q =
      let w = row-was b s c p past r e in
      let cut = cut_at s c.at inn in
      let l = line_at s c.at in
      let left = lines (drop (next_at s c.at) s) in
      let ks = columns_of b in
      rw (q, past)
      record {
        early = omega (arith, h.early);
        line = omega (arith, h.line);
        good = omega (arith, h.good, ap (good_lines ks) cut, good_more ks l left w.line);
        count = omega (arith, h.count, ap length cut);
        numbers-kept =
            kept_more (number_count b) n _ (numbers_of ks l) (all_numbers ks left) numbers numbers' numbers''
            (rw cut at h.numbers-kept) (numbers-long b l) k₁ (rw w.numbers at e₁);
        names-kept =
            kept_more (place_count b) n _ (places_of ks c.at l) (all_places ks (next_at s c.at) left) names names' names''
            (rw (cut, next-line-at s c.at inn) at h.names-kept) (places-long b c.at l) k₂ (rw w.name at e₂);
      }

  taken :
      (r : Reading) → good_lines (columns_of b) (lines (drop from.at s)) ≡ n → r ≡ lines_read (columns_of b) from.line (lines (drop from.at s)) →
      LinesTaken b from.at from.line (lines (drop from.at s)) numbers names numbers' names' r
  taken r g a =
      record { answer = a; taken = record { numbers-are = rw g h.numbers-kept.is; names-are = rw g h.names-kept.is } }

  pub walk-done : length s ≤ c.at → LinesTaken b from.at from.line (lines (drop from.at s)) numbers names numbers' names' (Ok n)
  unfolding lines_read lines good_lines run
  walk-done o =
      let d = drop_of_length-le s o in
      let g : good_lines (columns_of b) (lines (drop from.at s)) ≡ n = sym h.good ∙ rw d (add-zero n) in
      let k : length (lines (drop from.at s)) ≡ n = sym h.count ∙ rw d (add-zero n) in
      taken (Ok n) g (rw (g, k, eq-eqb n n refl))

  pub walk-bad :
      (p : Cursor) → c.at < length s → p ≡ moved c (line_length (drop c.at s)) →
      None ≡ line_read (columns_of b) c.at (drop c.at (take p.at s)) →
      LinesTaken b from.at from.line (lines (drop from.at s)) numbers names numbers' names' (bad_line c.line)
  unfolding lines_read
  walk-bad p inn past e =
      let ks = columns_of b in
      let cut = cut_at s c.at inn in
      let left = lines (drop (next_at s c.at) s) in
      let none = good_none ks (line_at s c.at) left (row-was-not b s c p past e) in
      let g : good_lines ks (lines (drop from.at s)) ≡ n = omega (arith, h.good, ap (good_lines ks) cut, none) in
      let k : n ≡ length (lines (drop from.at s)) → ⊥ = λ q. omega (arith, h.count, ap length cut) in
      taken (bad_line c.line) g (rw (g, ne_eqb n (length (lines (drop from.at s))) k) (ap bad_line h.line))
