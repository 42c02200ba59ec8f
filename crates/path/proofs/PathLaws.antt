-- A path ascends, holds the feeding row of each of its rows, and is the row itself and then the path of its feeding row.
use Rattle.std.proofs.Common.{Option, Some, None}
use mathlib.Core.Path.{◌≡◌, refl, sym, ap, ◌∙◌}
use mathlib.Core.Bool.{Bool, true, false, cond, ◌||◌, or-false, or-true}
use mathlib.Core.Logic.{⊎_elim}
use mathlib.Core.List.{List, [], ◌∷◌}
use Prim.Native.Nat.{ℕ, zero, suc, ◌+◌, ◌-◌, ◌≤◌, ◌<◌}
use native.Mathlib.Omega.{arith}
use lib.Dec.{eqb}
use lib.ListN.{length}
use borrow.Author.Tests.{eqb-true, eqb-false, eq-eqb, ne_eqb}
use Rattle.fold.proofs.BoolLaws.{passes-or-fails, fails, zero-not-one}
use Rattle.layout.specs.Fields.{at_feeder}
use Rattle.layout.specs.List.{rows, field}
use Rattle.rows.specs.InRange.{Feeds}
use Rattle.rows.proofs.InRangeLaws.{feeder-above, feeder-of-last}
use Rattle.path.specs.Path.{path_from, path_of, above_of, has, on_path}

-- a row that is fed stands below its feeder, which is a row; only the last row is fed by the source
pub record Climbs (l : List ℕ) (i : ℕ) : Type 0 where
  pub above : i < field l i at_feeder - 1
  pub within : field l i at_feeder - 1 < rows l

module _ (l : List ℕ) (i f : ℕ) (e : f ≡ field l i at_feeder) where
  pub above-source : f ≡ 0 → None ≡ above_of l i
  unfolding above_of
  above-source z = rw (eq-eqb (field l i at_feeder) 0 (sym e ∙ z))

  pub above-fed : (f ≡ 0 → ⊥) → Some (f - 1) ≡ above_of l i
  unfolding above_of
  above-fed n = rw (ne_eqb (field l i at_feeder) 0 (λ z. n (e ∙ z))) (ap (λ (x : ℕ). Some (x - 1)) e)

pub path-length : (l : List ℕ) (i : ℕ) → length (path_of l i) ≤ rows l
unfolding path_of path_from
path-length l i = by-fuel (rows l) i
  where
    by-test : (b : Bool) (n i : ℕ) (is : List ℕ) → length is ≤ n → length (i ∷ cond b [] is) ≤ suc n
    by-test true n i is h = omega arith
    by-test false n i is h = omega arith

    by-fuel : (n i : ℕ) → length (path_from l n i) ≤ n
    by-fuel zero i = omega arith
    by-fuel (suc n) i = by-test (eqb (field l i at_feeder) 0) n i (path_from l n (field l i at_feeder - 1)) (by-fuel n (field l i at_feeder - 1))

module _ (l : List ℕ) (b : Feeds l) where
  pub fed-climbs : (i : ℕ) → i < rows l → (field l i at_feeder ≡ 0 → ⊥) → Climbs l i
  fed-climbs i h n =
      let f = feeder-above l b i h (λ e. n (feeder-of-last l b i h e)) in
      record { above = omega arith; within = omega arith }

  pub source-last : (i : ℕ) → i < rows l → field l i at_feeder ≡ 0 → i + 1 ≡ rows l
  source-last i h z =
      ⊎_elim (λ e. eqb-true (i + 1) (rows l) e)
      (λ e. absurd (omega (arith, (feeder-above l b i h (eqb-false (i + 1) (rows l) e)).0)))
      (passes-or-fails (eqb (i + 1) (rows l)))

  -- enough fuel is enough
  fuel : (n m i : ℕ) → i < rows l → rows l ≤ i + n → rows l ≤ i + m → path_from l n i ≡ path_from l m i
  unfolding path_from
  fuel zero m i h x y = absurd (omega arith)
  fuel (suc n) zero i h x y = absurd (omega arith)
  fuel (suc n) (suc m) i h x y =
      ⊎_elim
      (λ e. rw e)
      (λ e.
      let k = fed-climbs i h (eqb-false (field l i at_feeder) 0 e) in
      rw e (ap (λ (t : List ℕ). i ∷ t) (fuel n m (field l i at_feeder - 1) k.within (omega (arith, k.above)) (omega (arith, k.above)))))
      (passes-or-fails (eqb (field l i at_feeder) 0))

  -- the row itself, and then the path of its feeding row
  pub path-source : (i : ℕ) → i < rows l → field l i at_feeder ≡ 0 → path_of l i ≡ i ∷ []
  unfolding path_of path_from
  path-source i h z =
      fuel (rows l) (suc (rows l)) i h (omega arith) (omega arith) ∙ rw (eq-eqb (field l i at_feeder) 0 z)

  pub path-fed : (i : ℕ) → i < rows l → (field l i at_feeder ≡ 0 → ⊥) → path_of l i ≡ i ∷ path_of l (field l i at_feeder - 1)
  unfolding path_of path_from
  path-fed i h n =
      fuel (rows l) (suc (rows l)) i h (omega arith) (omega arith) ∙ rw (ne_eqb (field l i at_feeder) 0 n)

  pub on-source : (i j : ℕ) → i < rows l → field l i at_feeder ≡ 0 → on_path l i j ≡ eqb j i
  unfolding on_path has
  on-source i j h z = rw (path-source i h z) (or-false (eqb j i))

  pub on-fed : (i j : ℕ) → i < rows l → (field l i at_feeder ≡ 0 → ⊥) → on_path l i j ≡ (eqb j i || on_path l (field l i at_feeder - 1) j)
  unfolding on_path has
  on-fed i j h n = rw (path-fed i h n)

  pub on-self : (i : ℕ) → i < rows l → on_path l i i ≡ true
  on-self i h =
      ⊎_elim
      (λ e. on-source i i h (eqb-true (field l i at_feeder) 0 e) ∙ eq-eqb i i refl)
      (λ e. on-fed i i h (eqb-false (field l i at_feeder) 0 e) ∙ rw (eq-eqb i i refl))
      (passes-or-fails (eqb (field l i at_feeder) 0))

  or_cases : {P : Type 0} (x y : Bool) → (x || y) ≡ true → (x ≡ true → P) → (y ≡ true → P) → P
  or_cases true y e f g = f refl
  or_cases false y e f g = g e

  -- by induction on the rows left above
  module _ (P : ℕ → ℕ → Type 0) (here : (i : ℕ) → i < rows l → P i i)
      (up : (i j : ℕ) → i < rows l → Climbs l i → on_path l (field l i at_feeder - 1) j ≡ true → P (field l i at_feeder - 1) j → P i j) where
    climbing : (n i j : ℕ) → i < rows l → rows l ≤ i + n → on_path l i j ≡ true → P i j
    climbing zero i j h x o = absurd (omega arith)
    climbing (suc n) i j h x o =
        ⊎_elim
        (λ e.
        let q : i ≡ j = sym (eqb-true j i (sym (on-source i j h (eqb-true (field l i at_feeder) 0 e)) ∙ o)) in
        rw (← q) (here i h))
        (λ e.
        let k = fed-climbs i h (eqb-false (field l i at_feeder) 0 e) in
        or_cases (eqb j i) (on_path l (field l i at_feeder - 1) j) (sym (on-fed i j h (eqb-false (field l i at_feeder) 0 e)) ∙ o)
        (λ g. let q : i ≡ j = sym (eqb-true j i g) in rw (← q) (here i h))
        (λ g. up i j h k g (climbing n (field l i at_feeder - 1) j k.within (omega (arith, k.above)) g)))
        (passes-or-fails (eqb (field l i at_feeder) 0))

    pub on-path : (i j : ℕ) → i < rows l → on_path l i j ≡ true → P i j
    on-path i j h o = climbing (rows l) i j h (omega arith) o

  pub on-above : (i j : ℕ) → i < rows l → on_path l i j ≡ true → i ≤ j
  on-above = on-path (λ i j. i ≤ j) (λ i h. omega arith) (λ i j h k g p. omega (arith, k.above))

  pub on-within : (i j : ℕ) → i < rows l → on_path l i j ≡ true → j < rows l
  on-within = on-path (λ i j. j < rows l) (λ i h. h) (λ i j h k g p. p)

  -- a path holds the feeding row of each of its rows
  pub on-feeder : (i j : ℕ) → i < rows l → on_path l i j ≡ true → (field l j at_feeder ≡ 0 → ⊥) → on_path l i (field l j at_feeder - 1) ≡ true
  on-feeder =
      on-path (λ i j. (field l j at_feeder ≡ 0 → ⊥) → on_path l i (field l j at_feeder - 1) ≡ true)
      (λ i h n. on-fed i (field l i at_feeder - 1) h n ∙ rw (on-self (field l i at_feeder - 1) (fed-climbs i h n).within)
      (or-true (eqb (field l i at_feeder - 1) i)))
      (λ i j h k g p n. on-fed i (field l j at_feeder - 1) h (λ z. omega (arith, k.above)) ∙ rw (p n) (or-true (eqb (field l j at_feeder - 1) i)))

  pub off-below : (i j : ℕ) → i < rows l → j < i → on_path l i j ≡ false
  off-below i j h b = fails (on_path l i j) (λ o. omega (arith, on-above i j h o))

  -- row j is on the path of row x, if there is one
  abbrev pub on_from : Option ℕ → ℕ → Bool
  on_from (Some x) j = on_path l x j
  on_from None j = false

  -- the rows of a path above row i are those of the path of its feeding row
  pub on-next : (i j : ℕ) → i < rows l → i < j → on_path l i j ≡ on_from (above_of l i) j
  unfolding above_of
  on-next i j h g =
      ⊎_elim
      (λ e.
      on-source i j h (eqb-true (field l i at_feeder) 0 e) ∙ ne_eqb j i (λ q. omega arith) ∙ sym (rw e))
      (λ e.
      let n = eqb-false (field l i at_feeder) 0 e in
      on-fed i j h n ∙ rw (e, ne_eqb j i (λ q. omega arith)))
      (passes-or-fails (eqb (field l i at_feeder) 0))

  pub off-before : (x : Option ℕ) (j : ℕ) → ((y : ℕ) → x ≡ Some y → (j < y) × (y < rows l)) → on_from x j ≡ false
  off-before None j b = refl
  off-before (Some x) j b = let y = b x refl in off-below x j y.1 y.0

  pub above-above : (i : ℕ) → i < rows l → (x : ℕ) → above_of l i ≡ Some x → (i < x) × (x < rows l)
  unfolding above_of
  above-above i h x e =
      ⊎_elim
      (λ (z : eqb (field l i at_feeder) 0 ≡ true). let q : None ≡ Some x = rw z at e in absurd (zero-not-one cc))
      (λ (z : eqb (field l i at_feeder) 0 ≡ false).
      let k = fed-climbs i h (eqb-false (field l i at_feeder) 0 z) in
      let s : Some (field l i at_feeder - 1) ≡ Some x = rw z at e in
      let q : field l i at_feeder - 1 ≡ x = cc in
      rw (← q) (k.above, k.within))
      (passes-or-fails (eqb (field l i at_feeder) 0))
