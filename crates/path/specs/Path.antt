-- [01 §2] A row's path: the row itself and then the path of its feeding row. Rows are counted from 0. `OnPath` says it as a
-- reader would; `path_of` lists the same rows (proofs/OnPathLaws.antt). Definitions only.
use Rattle.std.specs.Prelude.{◌≡◌, Bool, false, cond, ◌||◌, List, [], ◌∷◌, ℕ, zero, suc, ◌+◌, ◌-◌, eqb, Option, Some, None}
use Rattle.layout.specs.Fields.{at_feeder}
use Rattle.layout.specs.List.{rows, field}

-- row j is on the path of row i: it is that row itself, or on the path of the row that feeds it
pub data OnPath (l : List ℕ) : ℕ → ℕ → Type 0 where
  itself : (i : ℕ) → OnPath l i i
  above : (i j : ℕ) → (field l i at_feeder ≡ 0 → ⊥) → OnPath l (field l i at_feeder - 1) j → OnPath l i j

-- row j is the n-th row of the path of row i, which is the first
pub data Nth (l : List ℕ) : ℕ → ℕ → ℕ → Type 0 where
  first : (i : ℕ) → Nth l i 1 i
  next : (i n j : ℕ) → (field l i at_feeder ≡ 0 → ⊥) → Nth l (field l i at_feeder - 1) n j → Nth l i (n + 1) j

-- the path from row i, of at most n rows
unfoldable pub path_from : List ℕ → ℕ → ℕ → List ℕ
path_from l zero i = []
path_from l (suc n) i =
    let above = path_from l n (field l i at_feeder - 1) in
    i ∷ cond (eqb (field l i at_feeder) 0) [] above

-- feeding rows have greater numbers, so a path has no more rows than the list
unfoldable pub path_of : List ℕ → ℕ → List ℕ
path_of l i = path_from l (rows l) i

-- the row that feeds row i
unfoldable pub above_of : List ℕ → ℕ → Option ℕ
above_of l i = cond (eqb (field l i at_feeder) 0) None (Some (field l i at_feeder - 1))

unfoldable pub has : List ℕ → ℕ → Bool
has [] j = false
has (i ∷ is) j = eqb j i || has is j

-- row j is on the path of row i
unfoldable pub on_path : List ℕ → ℕ → ℕ → Bool
on_path l i j = has (path_of l i) j
