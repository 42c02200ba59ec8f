-- The columns of a layout: how many there are, what each holds, and how many numbers and places a line of them gives.
use mathlib.Core.Path.{◌≡◌, refl, sym, ap, ◌∙◌}
use mathlib.Core.Bool.{Bool, true, false, cond}
use mathlib.Core.Logic.{⊎_elim}
use mathlib.Core.List.{List, [], ◌∷◌, ◌++◌}
use Prim.Native.Nat.{ℕ, zero, suc, ◌+◌, ◌-◌, ◌≤◌, ◌<◌}
use native.Mathlib.Omega.{arith}
use lib.ListN.{length, get_or, drop, replicate, length-append, length-replicate}
use lib.Seq.{get_or-append-add}
use Rattle.fold.proofs.BoolLaws.{lt-or-le}
use Rattle.cursor.specs.declared.Column.{Column}
use Rattle.cursor.specs.declared.Column.TheVariants.{Numbers, Names}
use Rattle.cursor.specs.Pieces.{cell_length, after_cell}
use Rattle.text.specs.declared.Columns.{Columns}
use Rattle.text.specs.Line.{columns_of, number_count, place_count, Usable, cell_numbers, cell_places, numbers_of, places_of}

pub columns-long : (c : Columns) → length (columns_of c) ≡ c.before + cond c.named 1 0 + c.after
unfolding columns_of
columns-long c =
    simp (length-append, length-replicate)
    (by-test c.named c.before c.after)
  where
    by-test : (t : Bool) (a b : ℕ) → a + (length {A = Column} (cond t (Names ∷ []) []) + b) ≡ a + cond t 1 0 + b
    by-test true a b = omega arith
    by-test false a b = omega arith

pub some-columns : (c : Columns) → Usable c → 1 ≤ length (columns_of c)
some-columns c u = rw (columns-long c) (by-test c.named u.some)
  where
    by-test : (t : Bool) → 1 ≤ c.before + c.after + cond t 1 0 → 1 ≤ c.before + cond t 1 0 + c.after
    by-test true h = omega arith
    by-test false h = omega arith

-- numbers stand before others, and behind them come the others
front : (a k : ℕ) (ks : List Column) → k < a → get_or (replicate a Numbers ++ ks) k Numbers ≡ Numbers
front zero k ks h = absurd (omega arith)
front (suc a) zero ks h = refl
front (suc a) (suc k) ks h = front a k ks (omega arith)

behind : (a k : ℕ) (ks : List Column) → a ≤ k → get_or (replicate a Numbers ++ ks) k Numbers ≡ get_or ks (k - a) Numbers
behind a k ks h =
    let e : k ≡ length (replicate a Numbers) + (k - a) = omega (arith, length-replicate a Numbers) in
    ap (λ (j : ℕ). get_or (replicate a Numbers ++ ks) j Numbers) e ∙ get_or-append-add (replicate a Numbers) ks (k - a) Numbers

numbers-alone : (b k : ℕ) → get_or (replicate b Numbers) k Numbers ≡ Numbers
numbers-alone zero k = refl
numbers-alone (suc b) zero = refl
numbers-alone (suc b) (suc k) = numbers-alone b k

module _ (c : Columns) (k : ℕ) where
  pub nameless-kind : c.named ≡ false → Numbers ≡ get_or (columns_of c) k Numbers
  unfolding columns_of
  nameless-kind e =
      rw e
      (⊎_elim
      (λ (h : k < c.before). sym (front c.before k (replicate c.after Numbers) h))
      (λ (h : c.before ≤ k). sym (behind c.before k (replicate c.after Numbers) h ∙ numbers-alone c.after (k - c.before)))
      (lt-or-le k c.before))

  pub name-kind : c.named ≡ true → k ≡ c.before → Names ≡ get_or (columns_of c) k Numbers
  unfolding columns_of
  name-kind e h =
      let z : k - c.before ≡ 0 = omega arith in
      rw e (sym (behind c.before k (Names ∷ replicate c.after Numbers) (omega arith) ∙ rw z))

  pub number-kind : c.named ≡ true → (k ≡ c.before → ⊥) → Numbers ≡ get_or (columns_of c) k Numbers
  unfolding columns_of
  number-kind e n =
      rw e
      (⊎_elim
      (λ (h : k < c.before). sym (front c.before k (Names ∷ replicate c.after Numbers) h))
      (λ (h : c.before ≤ k).
      let z : k - c.before ≡ suc (k - c.before - 1) = omega (arith, n) in
      sym (behind c.before k (Names ∷ replicate c.after Numbers) h ∙ rw z (numbers-alone c.after (k - c.before - 1))))
      (lt-or-le k c.before))

-- how many columns hold numbers, and how many names
abbrev pub numbers_in : List Column → ℕ
numbers_in [] = 0
numbers_in (Numbers ∷ ks) = suc (numbers_in ks)
numbers_in (Names ∷ ks) = numbers_in ks

abbrev pub names_in : List Column → ℕ
names_in [] = 0
names_in (Numbers ∷ ks) = names_in ks
names_in (Names ∷ ks) = suc (names_in ks)

pub cell-numbers-long : (ks : List Column) (l : List ℕ) → length (cell_numbers ks l) ≡ numbers_in ks
unfolding cell_numbers
cell-numbers-long [] l = refl
cell-numbers-long (Numbers ∷ ks) l = ap suc (cell-numbers-long ks (after_cell Numbers l))
cell-numbers-long (Names ∷ ks) l = cell-numbers-long ks (after_cell Names l)

pub cell-places-long : (ks : List Column) (i : ℕ) (l : List ℕ) → length (cell_places ks i l) ≡ names_in ks
unfolding cell_places
cell-places-long [] i l = refl
cell-places-long (Numbers ∷ ks) i l = cell-places-long ks (i + cell_length Numbers (drop 1 l) + 1) (after_cell Numbers l)
cell-places-long (Names ∷ ks) i l = let e = cell-places-long ks (i + cell_length Names (drop 1 l) + 1) (after_cell Names l) in omega arith

numbers-before :
    (a : ℕ) (ks : List Column) → (numbers_in (replicate a Numbers ++ ks) ≡ a + numbers_in ks) × (names_in (replicate a Numbers ++ ks) ≡ names_in ks)
numbers-before zero ks = (omega arith, refl)
numbers-before (suc a) ks = let h = numbers-before a ks in (let e = h.0 in omega arith, h.1)

numbers-only : (b : ℕ) → (numbers_in (replicate b Numbers) ≡ b) × (names_in (replicate b Numbers) ≡ 0)
numbers-only zero = (refl, refl)
numbers-only (suc b) = let h = numbers-only b in (ap suc h.0, h.1)

pub counted : (c : Columns) → (numbers_in (columns_of c) ≡ number_count c) × (names_in (columns_of c) ≡ place_count c)
unfolding columns_of
counted c = by-test c.named
  where
    by-test :
        (t : Bool) →
        (numbers_in (replicate c.before Numbers ++ (cond t (Names ∷ []) [] ++ replicate c.after Numbers)) ≡ number_count c) ×
        (names_in (replicate c.before Numbers ++ (cond t (Names ∷ []) [] ++ replicate c.after Numbers)) ≡ cond t 1 0)
    by-test true =
        let a = numbers-before c.before (Names ∷ replicate c.after Numbers) in
        let b = numbers-only c.after in
        (omega (arith, a.0, b.0), omega (arith, a.1, b.1))
    by-test false =
        let a = numbers-before c.before (replicate c.after Numbers) in
        let b = numbers-only c.after in
        (omega (arith, a.0, b.0), omega (arith, a.1, b.1))

pub numbers-long : (c : Columns) (l : List ℕ) → length (numbers_of (columns_of c) l) ≡ number_count c
unfolding numbers_of
numbers-long c l = cell-numbers-long (columns_of c) (44 ∷ l) ∙ (counted c).0

pub places-long : (c : Columns) (i : ℕ) (l : List ℕ) → length (places_of (columns_of c) i l) ≡ place_count c
unfolding places_of
places-long c i l = cell-places-long (columns_of c) i (44 ∷ l) ∙ (counted c).1
