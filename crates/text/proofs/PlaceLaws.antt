-- In a well-formed text each name's place lies inside the text and holds the name that the grammar gives the row.
use Rattle.cursor.specs.Names.{name_at_place}
use mathlib.Core.Path.{◌≡◌, sym, ap, ◌∙◌}
use mathlib.Core.Bool.{true, ◌&&◌}
use mathlib.Core.Logic.{⊎_elim}
use mathlib.Core.List.{List, [], ◌∷◌, map}
use Prim.Native.Nat.{ℕ, zero, suc, ◌+◌, ◌-◌, ◌≤◌, ◌<◌}
use native.Mathlib.Nat.{sub-zero, zero-sub, suc-sub-suc}
use native.Mathlib.Omega.{arith}
use lib.ListN.{length, take, drop, length-drop, length-take, drop_of_length-le}
use lib.Seq.{drop-drop, length-take-le, take-take, take-nil}
use Rattle.fold.proofs.BoolLaws.{and_left, and_right, lt-or-le}
use Rattle.cursor.specs.declared.Column.{Column}
use Rattle.cursor.specs.declared.Column.TheVariants.{Numbers, Names}
use Rattle.cursor.specs.declared.Class.TheVariants.{InLine}
use Rattle.cursor.specs.Bytes.{passes}
use Rattle.cursor.specs.Pieces.{name_most, is_number, is_name, name_length, is_comma, is_cell, cell_length, after_cell}
use Rattle.cursor.proofs.RunLaws.{run_length}
use Rattle.text.specs.Line.{are_cells, cell_names, cell_places, is_line, places_of, names_of}
use Rattle.text.specs.Grammar.{row_of, all_names}
use Rattle.text.specs.Text.{lines, line_length, good_lines, all_places}
use Rattle.text.proofs.CutLaws.{line_at, next_at, cut_at, next-line-at}
use Rattle.text.proofs.GrammarNames.{name-sound}
use Rattle.text.proofs.GrammarSound.{good-inversion}
use Rattle.text.proofs.StandLaws.{Stand, stand-none, stand-one, stand-both}

drop-take : (m n : ℕ) (l : List ℕ) → drop m (take n l) ≡ take (n - m) (drop m l)
drop-take zero n l = rw sub-zero
drop-take (suc m) zero l = rw (zero-sub (suc m))
drop-take (suc m) (suc n) [] = rw (take-nil (suc n - suc m))
drop-take (suc m) (suc n) (b ∷ l) = rw (suc-sub-suc n m) (drop-take m n l)

-- behind a comma and a cell of n bytes
next-bytes :
    (s l : List ℕ) (e i n : ℕ) → drop 1 l ≡ take (e - i) (drop i s) → drop 1 (drop (1 + n) l) ≡ take (e - (i + n + 1)) (drop (i + n + 1) s)
next-bytes s l e i n h =
    let a : 1 + n + 1 ≡ 1 + (n + 1) = omega arith in
    let b : e - i - (n + 1) ≡ e - (i + n + 1) = omega arith in
    let d : i + (n + 1) ≡ i + n + 1 = omega arith in
    drop-drop 1 (1 + n) l ∙ ap (λ (k : ℕ). drop k l) a ∙ sym (drop-drop (n + 1) 1 l) ∙ ap (drop (n + 1)) h ∙ drop-take (n + 1) (e - i) (drop i s) ∙
    rw (b, drop-drop (n + 1) i s, d)

-- the bytes behind the comma are those of s from i up to e
cells-stand :
    (ks : List Column) (s l : List ℕ) (e i : ℕ) → e ≤ length s → drop 1 l ≡ take (e - i) (drop i s) → are_cells ks l ≡ true →
    Stand s (cell_places ks i l) (cell_names ks l)
unfolding are_cells cell_places cell_names is_cell cell_length after_cell name_at_place
cells-stand [] s l e i fits h g = stand-none s
cells-stand (Numbers ∷ ks) s l e i fits h g =
    cells-stand ks s (after_cell Numbers l) e (i + cell_length Numbers (drop 1 l) + 1) fits (next-bytes s l e i (cell_length Numbers (drop 1 l)) h)
    (and_right (is_comma l && is_number (drop 1 l)) (are_cells ks (after_cell Numbers l)) g)
cells-stand (Names ∷ ks) s l e i fits h g =
    let n = name_length (drop 1 l) in
    let a = and_left (is_comma l && is_name (drop 1 l)) (are_cells ks (after_cell Names l)) g in
    let v = name-sound (drop 1 l) (and_right (is_comma l) (is_name (drop 1 l)) a) in
    let t : length (take n (drop 1 l)) ≡ n = length-take-le n (drop 1 l) v.inside in
    let m = length-take (e - i) (drop i s) in
    let d = length-drop i s in
    let k = ap length h in
    let inside = v.inside in
    let some : 1 ≤ n = rw t at v.name.some in
    let short : n ≤ name_most = rw t at v.name.most in
    let p : take n (drop i s) ≡ take n (drop 1 l) = sym (ap (take n) h ∙ take-take n (e - i) (drop i s) (omega arith)) in
    stand-one s (record { start = i; size = n }) (take n (drop 1 l)) _ _ (record { short = short; inside = omega arith }) p
    (cells-stand ks s (after_cell Names l) e (i + n + 1) fits (next-bytes s l e i n h)
    (and_right (is_comma l && is_name (drop 1 l)) (are_cells ks (after_cell Names l)) g))

line-stands :
    (ks : List Column) (s : List ℕ) (i : ℕ) → i < length s → is_line ks (line_at s i) ≡ true →
    Stand s (places_of ks i (line_at s i)) (names_of ks (line_at s i))
unfolding is_line places_of names_of line_length
line-stands ks s i h g =
    let n = line_length (drop i s) in
    let r = run_length (passes InLine) 0 (drop i s) in
    let z : i + n - i ≡ n = omega arith in
    cells-stand ks s (44 ∷ line_at s i) (i + n) i (omega (arith, r, length-drop i s)) (rw z) g

over-stands :
    (ks : List Column) (s : List ℕ) (i : ℕ) → length s ≤ i →
    Stand s (all_places ks i (lines (drop i s))) (all_names (map (row_of ks) (lines (drop i s))))
unfolding lines all_places all_names
over-stands ks s i h = rw (drop_of_length-le s h) (stand-none s)

joined :
    (ks : List Column) (s : List ℕ) (i : ℕ) → i < length s → (ls : List (List ℕ)) → is_line ks (line_at s i) ≡ true →
    Stand s (all_places ks (next_at s i) ls) (all_names (map (row_of ks) ls)) →
    Stand s (all_places ks i (line_at s i ∷ ls)) (all_names (map (row_of ks) (line_at s i ∷ ls)))
unfolding all_places all_names row_of
joined ks s i b ls g h =
    rw (next-line-at s i b) (stand-both s _ _ (names_of ks (line_at s i)) _ (line-stands ks s i b g) h)

-- where all lines from i on are good, their names stand where the places say
pub names_stand :
    (ks : List Column) (n : ℕ) (s : List ℕ) (i : ℕ) → length s ≤ i + n → good_lines ks (lines (drop i s)) ≡ length (lines (drop i s)) →
    Stand s (all_places ks i (lines (drop i s))) (all_names (map (row_of ks) (lines (drop i s))))
names_stand ks zero s i h g = over-stands ks s i (omega arith)
names_stand ks (suc n) s i h g =
    ⊎_elim
    (λ (b : i < length s). names_more ks s i b g (λ e. names_stand ks n s (next_at s i) (omega arith) e))
    (λ (b : length s ≤ i). over-stands ks s i b)
    (lt-or-le i (length s))
  where
    names_more :
        (ks : List Column) (s : List ℕ) (i : ℕ) → i < length s → good_lines ks (lines (drop i s)) ≡ length (lines (drop i s)) →
        (good_lines ks (lines (drop (next_at s i) s)) ≡ length (lines (drop (next_at s i) s)) →
        Stand s (all_places ks (next_at s i) (lines (drop (next_at s i) s))) (all_names (map (row_of ks) (lines (drop (next_at s i) s))))) →
        Stand s (all_places ks i (lines (drop i s))) (all_names (map (row_of ks) (lines (drop i s))))
    names_more ks s i b g more =
        let c = cut_at s i b in
        let q = good-inversion ks (line_at s i) (lines (drop (next_at s i) s)) (rw c at g) in
        rw c (joined ks s i b (lines (drop (next_at s i) s)) q.first (more q.others))
