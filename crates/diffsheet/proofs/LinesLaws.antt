-- Laws of the printed lines: how long they are, what is left of them behind some, and that the numbers read give the line of each row.
use mathlib.Core.Path.{◌≡◌, refl, ap, ap₂, ◌∙◌}
use mathlib.Core.List.{List, [], ◌∷◌, ◌++◌, map, append_assoc}
use Prim.Native.Nat.{ℕ, zero, suc, ◌+◌, ◌-◌, ◌*◌, ◌≤◌, ◌<◌}
use native.Mathlib.Omega.{arith}
use lib.ListN.{length, get_or, drop, length-append, get_or-append}
use lib.Seq.{drop-drop, drop_at, get_or-drop}
use Rattle.differential.specs.declared.Given.{Given}
use Rattle.differential.specs.declared.Inputs.{Inputs}
use Rattle.differential.specs.Given.{differential_of}
use Rattle.differential.specs.Inputs.{input_count}
use Rattle.text.specs.Grammar.{row_of}
use Rattle.text.specs.Line.{numbers_of}
use Rattle.text.specs.Text.{all_numbers}
use Rattle.text.proofs.ColumnLaws.{numbers-long}
use Rattle.print.proofs.FieldsLaws.{numbers-short}
use Rattle.diffsheet.specs.Lines.{input_layout, input_columns}
use Rattle.diffsheet.specs.Sheet.{inputs_at, given_numbers, given_count, line_given, line_of, lines_of, lines_from, line_most}

pub line-short : (g : Given) → length (line_given g) ≤ line_most
unfolding line_given
line-short g = numbers-short given_count (given_numbers g)

pub lines-short : (n : ℕ) (xs : List ℕ) → length (lines_from n xs) ≤ n * line_most
unfolding lines_from line_of
lines-short zero xs = omega arith
lines-short (suc n) xs =
    let line = line_given (differential_of (inputs_at xs 0)) in
    omega (arith, line-short (differential_of (inputs_at xs 0)), lines-short n (drop input_count xs), length-append line (lines_from n (drop input_count xs)))

-- rows with the same eight numbers are the same inputs
same_inputs :
    (xs ys : List ℕ) (i j : ℕ) → ((k : ℕ) → k < input_count → get_or xs (i * input_count + k) 0 ≡ get_or ys (j * input_count + k) 0) →
    inputs_at xs i ≡ inputs_at ys j
same_inputs xs ys i j e =
    λ t.
    record {
      start = e 0 (omega arith) t;
      blocking = e 1 (omega arith) t;
      cutoff = e 2 (omega arith) t;
      through = e 3 (omega arith) t;
      first = e 4 (omega arith) t;
      second = e 5 (omega arith) t;
      differential = e 6 (omega arith) t;
      restraint = e 7 (omega arith) t;
    }

-- the inputs of row i are those of the first row behind i rows
inputs-dropped : (xs : List ℕ) (i : ℕ) → inputs_at xs i ≡ inputs_at (drop (i * input_count) xs) 0
inputs-dropped xs i =
    same_inputs xs (drop (i * input_count) xs) i 0
    (λ k h. let z : 0 * input_count + k ≡ k = omega arith in rw (z, get_or-drop (i * input_count) xs k 0))

-- what is left of n lines behind i of them
abbrev pub lines_left : ℕ → List ℕ → ℕ → List ℕ
lines_left n xs i = lines_from (n - i) (drop (i * input_count) xs)

module _ (n : ℕ) (xs : List ℕ) (i : ℕ) where
  pub lines_next : i < n → lines_left n xs i ≡ line_given (differential_of (inputs_at xs i)) ++ lines_left n xs (i + 1)
  unfolding lines_from line_of
  lines_next l =
      let e : n - i ≡ suc (n - (i + 1)) = omega arith in
      let b : i * input_count + input_count ≡ (i + 1) * input_count = omega arith in
      rw (e, inputs-dropped xs i, drop-drop input_count (i * input_count) xs, b)

  pub lines_end : n ≤ i → lines_left n xs i ≡ []
  unfolding lines_from
  lines_end l = let e : n - i ≡ 0 = omega arith in rw e

pub lines-all : (n : ℕ) (xs : List ℕ) → lines_left n xs 0 ≡ lines_from n xs
lines-all n xs = let e : n - 0 ≡ n = omega arith in rw e

-- ---- the numbers read, and the rows of the text

-- a row's numbers are eight, so the first row of what is read has its inputs
module _ (l rest : List ℕ) where
  eight-long : length (numbers_of input_columns l) ≡ input_count
  eight-long = numbers-long input_layout l

  line-front : line_of (numbers_of input_columns l ++ rest) ≡ line_of (numbers_of input_columns l)
  unfolding line_of
  line-front =
      ap (λ (x : Inputs). line_given (differential_of x))
      (same_inputs (numbers_of input_columns l ++ rest) (numbers_of input_columns l) 0 0
      (λ k h. get_or-append (numbers_of input_columns l) rest 0 (0 * input_count + k) (omega (arith, eight-long))))

  behind-front : drop input_count (numbers_of input_columns l ++ rest) ≡ rest
  behind-front = drop_at (numbers_of input_columns l) rest input_count eight-long

pub lines-of-rows :
    (ls : List (List ℕ)) (rest : List ℕ) → lines_from (length ls) (all_numbers input_columns ls ++ rest) ≡ lines_of (map (row_of input_columns) ls)
unfolding lines_from lines_of all_numbers row_of
lines-of-rows [] rest = refl
lines-of-rows (l ∷ ls) rest =
    let more = all_numbers input_columns ls ++ rest in
    ap (λ (xs : List ℕ). line_of xs ++ lines_from (length ls) (drop input_count xs)) (append_assoc (numbers_of input_columns l) (all_numbers input_columns ls) rest)
    ∙ ap₂ (λ (a b : List ℕ). a ++ b) (line-front l more) (ap (lines_from (length ls)) (behind-front l more) ∙ lines-of-rows ls rest)
