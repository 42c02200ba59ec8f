-- The path that is listed is section 2's: the row itself, and then the path of its feeding row.
use mathlib.Core.Path.{◌≡◌, refl, ap, ◌∙◌, subst}
use mathlib.Core.Bool.{true, false, or-true}
use mathlib.Core.Logic.{◌↔◌}
use mathlib.Core.List.{List}
use Prim.Native.Nat.{ℕ, ◌+◌, ◌-◌, ◌≤◌, ◌<◌}
use native.Mathlib.Omega.{arith}
use lib.Dec.{eqb}
use Rattle.fold.proofs.BoolLaws.{fails, not-both}
use Rattle.layout.specs.Fields.{at_feeder}
use Rattle.layout.specs.List.{rows, field}
use Rattle.rows.specs.InRange.{Feeds}
use Rattle.path.specs.Path.{OnPath, itself, above, Nth, on_path}
use Rattle.path.proofs.PathLaws.{fed-climbs, on-fed, on-self, on-path, on-above}

module _ (l : List ℕ) (b : Feeds l) where
  pub path-on : {i j : ℕ} → i < rows l → OnPath l i j → on_path l i j ≡ true
  path-on h (itself i) = on-self l b i h
  path-on h (above i j n p) =
      on-fed l b i j h n ∙ rw (path-on (fed-climbs l b i h n).within p) (or-true (eqb j i))

  pub on-path-exactly : (i j : ℕ) → i < rows l → (on_path l i j ≡ true) ↔ OnPath l i j
  on-path-exactly i j h = (
    on-path l b (OnPath l) (λ i _. itself i) (λ i j _ k _ p. above i j (λ z. omega (arith, k.above)) p) i j h,
    path-on h,
  )

  pub off-path-exactly : (i j : ℕ) → i < rows l → (on_path l i j ≡ false) ↔ (OnPath l i j → ⊥)
  off-path-exactly i j h = (
    λ e p. not-both (path-on h p) e,
    λ n. fails (on_path l i j) (λ o. n ((on-path-exactly i j h).0 o)),
  )

  nth_on : {i n j : ℕ} → Nth l i n j → OnPath l i j
  nth_on (Nth.first i) = itself i
  nth_on (Nth.next i n j m p) = above i j m (nth_on p)

  nth-above : {i n j : ℕ} → i < rows l → Nth l i n j → i ≤ j
  nth-above {i} {n} {j} h p = on-above l b i j h (path-on h (nth_on p))

  -- a path ascends, so a row has one place on it
  pub nth-one : {i n m j : ℕ} → i < rows l → Nth l i n j → Nth l i m j → n ≡ m
  nth-one h (Nth.first i) q = by_cases q refl
    where
      by_cases : {m j : ℕ} → Nth l i m j → j ≡ i → 1 ≡ m
      by_cases (Nth.first i) e = refl
      by_cases (Nth.next i m j n p) e =
          let k = fed-climbs l b i h n in absurd (omega (arith, k.above, nth-above k.within p))
  nth-one h (Nth.next i n j f p) q = by_cases q refl (λ m p'. nth-one (fed-climbs l b i h f).within p p')
    where
      by_cases : {m j' : ℕ} → Nth l i m j' → j' ≡ j → ((m : ℕ) → Nth l (field l i at_feeder - 1) m j → n ≡ m) → n + 1 ≡ m
      by_cases (Nth.first i) e ih = let k = fed-climbs l b i h f in absurd (omega (arith, k.above, nth-above k.within p))
      by_cases (Nth.next i m j' g p') e ih = ap (λ (x : ℕ). x + 1) (ih m (subst (Nth l (field l i at_feeder - 1) m) e p'))
