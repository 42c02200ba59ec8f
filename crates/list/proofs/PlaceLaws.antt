-- In the text of a list that was read whole the numbers fill their rows, and each row's name stands where its place says.
use Rattle.std.proofs.Common.{Ok, get_or}
use Rattle.cursor.specs.declared.Place.{Place}
use mathlib.Core.Path.{◌≡◌, refl, ap, subst, ◌∙◌}
use mathlib.Core.List.{List, [], ◌∷◌}
use Prim.Native.Nat.{ℕ, ◌+◌, ◌*◌, ◌<◌}
use native.Mathlib.Omega.{arith}
use lib.ListN.{length, length-append}
use Rattle.text.specs.Line.{places_of}
use Rattle.text.specs.Grammar.{rows_as, all_names}
use Rattle.cursor.specs.Names.{names_at}
use Rattle.text.specs.Text.{line_length, after_line, row_lines, all_places, numbers_as, places_as}
use Rattle.text.proofs.ColumnLaws.{places-long}
use Rattle.text.proofs.CountLaws.{rows-read, all-numbers-long}
use Rattle.text.proofs.GrammarTheorem.{accepted}
use Rattle.text.proofs.PlaceLaws.{names_stand}
use Rattle.text.proofs.StandLaws.{Stand, PlaceInside, inside-at}
use Rattle.list.specs.Header.{header}
use Rattle.layout.specs.Counts.{field_count}
use Rattle.list.specs.List.{list_layout, list_columns, reading, rows_of, rows_read, row_numbers, row_places}

-- a line has one place
places-length : (i : ℕ) (ls : List (List ℕ)) → length (all_places list_columns i ls) ≡ length ls
unfolding all_places
places-length i [] = refl
places-length i (l ∷ ls) =
    length-append (places_of list_columns i l) (all_places list_columns (i + length l + 2) ls) ∙
    (let a = places-long list_layout i l in let b = places-length (i + length l + 2) ls in omega arith)

-- the rows of a text that was read whole
pub record RowsStand (s : List ℕ) (n : ℕ) : Type 0 where
  pub read : rows_read s ≡ n
  pub numbers-long : length (row_numbers s) ≡ n * field_count
  pub places-long : length (row_places s) ≡ n
  pub inside : (k : ℕ) → k < n → (d : Place) → PlaceInside (length s) (get_or (row_places s) k d)
  pub names : names_at s n (row_places s) ≡ all_names (rows_of s)

pub rows-stand : (s : List ℕ) (n : ℕ) → reading s ≡ Ok n → RowsStand s n
unfolding numbers_as places_as rows_as row_lines after_line
rows-stand s n e =
    let a = accepted header list_columns 1 s n e in
    let z : line_length s + 2 ≡ 0 + line_length s + 2 = omega arith in
    let t =
    subst (λ (j : ℕ). Stand s (all_places list_columns j (row_lines s)) (all_names (rows_of s))) z
    (names_stand list_columns (length s) s (line_length s + 2) (omega arith) a.good) in
    let long = places-length (0 + line_length s + 2) (row_lines s) in
    let count : length (all_names (rows_of s)) ≡ n = omega (arith, t.long, a.count) in
    record {
      read = rows-read header list_columns 1 s n e;
      numbers-long = all-numbers-long list_layout (row_lines s) ∙ ap (λ (k : ℕ). k * field_count) a.count;
      places-long = long ∙ a.count;
      inside = λ k h d. inside-at (length s) (row_places s) k d t.inside (omega (arith, long, a.count));
      names = rw (← count) t.are;
    }
