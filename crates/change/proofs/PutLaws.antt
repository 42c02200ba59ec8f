-- A row put into a list: what stands there afterwards, and that the old one put back gives the old list.
use mathlib.Core.Path.{◌≡◌, sym, ap, ◌∙◌}
use mathlib.Core.List.{List, ◌++◌, append_assoc}
use Prim.Native.Nat.{ℕ, ◌+◌, ◌-◌, ◌*◌, ◌≤◌, ◌<◌}
use native.Mathlib.Omega.{arith}
use lib.ListN.{length, get_or, take, drop, length-append, get_or-append, take-append-drop}
use lib.Seq.{take-length, paste, length-paste, take_at, drop_at, drop-drop, length-take-le, get_or-append-add, get_or-take, get_or-drop}
use Rattle.layout.specs.Counts.{field_count}
use Rattle.change.specs.Edit.{PutReady, put_list}

module _ (l : List ℕ) (i : ℕ) (row : List ℕ) (h : PutReady l i row) where
  pub put-pasted : paste l (i * field_count) row (length row) ≡ put_list l i row
  unfolding put_list
  put-pasted = rw (take-length row, h.row-length)

  pub put_list-length : length (put_list l i row) ≡ length l
  put_list-length = ap length (sym put-pasted) ∙ length-paste l (i * field_count) row (length row) (omega (arith, h.in_list, h.row-length)) (omega arith)

  -- the numbers before the row, of the row, and after it
  pub put_list-before : (x : ℕ) → x < i * field_count → get_or (put_list l i row) x 0 ≡ get_or l x 0
  unfolding put_list
  put_list-before x b =
      let n : length (take (i * field_count) l) ≡ i * field_count = length-take-le (i * field_count) l (omega (arith, h.in_list)) in
      get_or-append (take (i * field_count) l ++ row) (drop (i * field_count + field_count) l) 0 x
      (omega (arith, length-append (take (i * field_count) l) row)) ∙
      get_or-append (take (i * field_count) l) row 0 x (omega arith) ∙ get_or-take (i * field_count) l x 0 b

  pub put_list-within : (k : ℕ) → k < field_count → get_or (put_list l i row) (i * field_count + k) 0 ≡ get_or row k 0
  unfolding put_list
  put_list-within k b =
      let n : length (take (i * field_count) l) ≡ i * field_count = length-take-le (i * field_count) l (omega (arith, h.in_list)) in
      get_or-append (take (i * field_count) l ++ row) (drop (i * field_count + field_count) l) 0 (i * field_count + k)
      (omega (arith, length-append (take (i * field_count) l) row, h.row-length)) ∙
      ap (λ (m : ℕ). get_or (take (i * field_count) l ++ row) (m + k) 0) (sym n) ∙ get_or-append-add (take (i * field_count) l) row k 0

  pub put_list-after : (x : ℕ) → i * field_count + field_count ≤ x → get_or (put_list l i row) x 0 ≡ get_or l x 0
  unfolding put_list
  put_list-after x b =
      let n : length (take (i * field_count) l ++ row) ≡ i * field_count + field_count =
      length-append (take (i * field_count) l) row ∙ rw (length-take-le (i * field_count) l (omega (arith, h.in_list)), h.row-length) in
      let e : x ≡ i * field_count + field_count + (x - (i * field_count + field_count)) = omega arith in
      ap (λ (x : ℕ). get_or (take (i * field_count) l ++ row ++ drop (i * field_count + field_count) l) x 0)
      (e ∙ ap (λ (m : ℕ). m + (x - (i * field_count + field_count))) (sym n)) ∙
      get_or-append-add (take (i * field_count) l ++ row) (drop (i * field_count + field_count) l) (x - (i * field_count + field_count)) 0 ∙
      get_or-drop (i * field_count + field_count) l (x - (i * field_count + field_count)) 0 ∙ ap (λ (x : ℕ). get_or l x 0) (sym e)

-- the row that stood there, put back
pub put_back :
    (l : List ℕ) (i : ℕ) (row old : List ℕ) → PutReady l i row → old ≡ take field_count (drop (i * field_count) l) → put_list
    (put_list l i row) i old ≡ l
unfolding put_list
put_back l i row old h e =
    let n : length (take (i * field_count) l) ≡ i * field_count = length-take-le (i * field_count) l (omega (arith, h.in_list)) in
    let m : length (take (i * field_count) l ++ row) ≡ i * field_count + field_count = length-append (take (i * field_count) l) row ∙ rw (n, h.row-length) in
    rw (
      append_assoc (take (i * field_count) l) row (drop (i * field_count + field_count) l),
      take_at (take (i * field_count) l) (row ++ drop (i * field_count + field_count) l) (i * field_count) n,
      ← append_assoc (take (i * field_count) l) row (drop (i * field_count + field_count) l),
      drop_at (take (i * field_count) l ++ row) (drop (i * field_count + field_count) l) (i * field_count + field_count) m,
      e,
      ← drop-drop field_count (i * field_count) l,
      append_assoc (take (i * field_count) l) (take field_count (drop (i * field_count) l)) (drop field_count (drop (i * field_count) l)),
      take-append-drop field_count (drop (i * field_count) l),
      take-append-drop (i * field_count) l,
    )
