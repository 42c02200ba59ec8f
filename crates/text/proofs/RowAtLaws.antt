-- What a row read at a cursor says of the line there.
use Rattle.cursor.specs.declared.Place.{Place}
use Rattle.text.specs.Line.{listed, first_place}
use Rattle.std.proofs.Common.{Some, None, arith, ◌≤◌, sym}
use Rattle.std.proofs.lemmas.Option.{same_Some, none-some}
use mathlib.Core.Path.{◌≡◌, refl, ap, ◌∙◌}
use mathlib.Core.Bool.{Bool, true, false, cond}
use mathlib.Core.List.{List, ◌∷◌}
use Prim.Native.Nat.{ℕ, suc, ◌+◌}
use lib.ListN.{length, take, drop}
use lib.Seq.{take_at}
use Rattle.cursor.specs.declared.Column.{Column}
use Rattle.cursor.specs.declared.Cursor.{Cursor}
use Rattle.cursor.specs.Bytes.{run}
use Rattle.cursor.specs.Pieces.{moved}
use Rattle.std.proofs.lemmas.List.{drop-take}
use mathlib.Core.List.{[], ◌∷◌}
use Rattle.text.specs.declared.Columns.{Columns}
use Rattle.text.specs.declared.LineRead.{LineRead}
use Rattle.text.specs.Line.{columns_of, number_count, place_count, numbers_most, is_line, numbers_of, places_of, padded, line_read}
use Rattle.text.specs.Text.{line_length, good_lines, next_is_line}
use Rattle.text.proofs.ColumnLaws.{numbers-long, places-long}
use Rattle.text.proofs.CutLaws.{line_at}

pub good_more : (ks : List Column) (l : List ℕ) (ls : List (List ℕ)) → is_line ks l ≡ true → good_lines ks (l ∷ ls) ≡ suc (good_lines ks ls)
unfolding good_lines run next_is_line
good_more ks l ls h = rw h

pub good_none : (ks : List Column) (l : List ℕ) (ls : List (List ℕ)) → is_line ks l ≡ false → good_lines ks (l ∷ ls) ≡ 0
unfolding good_lines run next_is_line
good_none ks l ls h = rw h

front_of : (most n : ℕ) (xs : List ℕ) → length xs ≡ n → take n (padded most xs) ≡ xs
unfolding padded
front_of most n xs h = take_at xs _ n h

pub record RowWas (b : Columns) (s : List ℕ) (at : ℕ) (r : LineRead) : Type 0 where
  pub line : is_line (columns_of b) (line_at s at) ≡ true
  pub numbers : take (number_count b) r.numbers ≡ numbers_of (columns_of b) (line_at s at)
  pub name : listed r.name ≡ places_of (columns_of b) at (line_at s at)

listed_first : (ps : List Place) → length ps ≤ 1 → listed (first_place ps) ≡ ps
listed_first [] h = refl
listed_first (p ∷ []) h = refl
listed_first (p ∷ q ∷ ps) h = absurd (omega arith)

few-places : (c : Columns) → place_count c ≤ 1
few-places c = by-test c.named
  where
    by-test : (t : Bool) → cond t 1 0 ≤ 1
    by-test true = omega arith
    by-test false = omega arith

module _ (b : Columns) (s : List ℕ) (c p : Cursor) (past : p ≡ moved c (line_length (drop c.at s))) where
  row_at : line_read (columns_of b) c.at (drop c.at (take p.at s)) ≡ line_read (columns_of b) c.at (line_at s c.at)
  row_at =
      let k : p.at ≡ c.at + line_length (drop c.at s) = ap (λ (q : Cursor). q.at) past in
      rw k (ap (line_read (columns_of b) c.at) (drop-take c.at (line_length (drop c.at s)) s))

  pub row-was : (r : LineRead) → Some r ≡ line_read (columns_of b) c.at (drop c.at (take p.at s)) → RowWas b s c.at r
  unfolding line_read
  row-was r e = by-test (is_line (columns_of b) (line_at s c.at)) refl (e ∙ row_at)
    where
      by-test :
          (t : Bool) → is_line (columns_of b) (line_at s c.at) ≡ t →
          Some r ≡
          cond t
          (Some
          (record {
            numbers = padded numbers_most (numbers_of (columns_of b) (line_at s c.at));
            name = first_place (places_of (columns_of b) c.at (line_at s c.at));
          }))
          None →
          RowWas b s c.at r
      by-test true k q =
          let z = same_Some _ _ q in
          let few = few-places b in
          record {
            line = k;
            numbers = rw z (front_of numbers_most (number_count b) _ (numbers-long b (line_at s c.at)));
            name = rw z (listed_first _ (omega (arith, places-long b c.at (line_at s c.at))));
          }
      by-test false k q = absurd (none-some _ (sym q))

  pub row-was-not : None ≡ line_read (columns_of b) c.at (drop c.at (take p.at s)) → is_line (columns_of b) (line_at s c.at) ≡ false
  unfolding line_read
  row-was-not e = by-test (is_line (columns_of b) (line_at s c.at)) _ (e ∙ row_at)
    where
      by-test : (t : Bool) (r : LineRead) → None ≡ cond t (Some r) None → t ≡ false
      by-test true r q = absurd (none-some r q)
      by-test false r q = refl
