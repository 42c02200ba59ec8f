-- Laws of `field_right`, one for each way that a field is judged, and of the two ratings and the table that judge it.
use mathlib.Core.Path.{◌≡◌, sym, ◌∙◌}
use mathlib.Core.Bool.{Bool, true, false, not, ◌&&◌, ◌||◌, and-true}
use mathlib.Core.List.{List}
use Prim.Native.Nat.{ℕ, ◌+◌}
use lib.Dec.{eqb}
use borrow.Author.Tests.{eq-eqb, ne_eqb}
use Rattle.layout.specs.Fields.{at_primary, at_secondary, bounds_to, in_bounds}
use Rattle.layout.specs.List.{field, bounds_at}
use Rattle.sides.specs.Sides.{setting_most}
use Rattle.rows.specs.Tests.{rating_right, field_right}

-- a rated secondary with no rated primary, a secondary of 1, and another
module _ (p s : ℕ) where
  pub rating-none : p ≡ 0 → eqb s 0 ≡ rating_right p s
  unfolding rating_right
  rating-none e = rw (eq-eqb p 0 e)

  pub rating-one : (p ≡ 0 → ⊥) → s ≡ 1 → true ≡ rating_right p s
  unfolding rating_right
  rating-one n e = rw (ne_eqb p 0 n, eq-eqb s 1 e)

  pub rating-other : (p ≡ 0 → ⊥) → (s ≡ 1 → ⊥) → eqb s 5 ≡ rating_right p s
  unfolding rating_right
  rating-other n m = rw (ne_eqb p 0 n, ne_eqb s 1 m)

-- the table of a row without a ratio, and of one with a ratio
module _ (l : List ℕ) (i p : ℕ) (e : p ≡ field l i at_primary) (t : List ℕ) where
  pub table-plain : t ≡ bounds_to 100000000 → p ≡ 0 → t ≡ bounds_at l i
  unfolding setting_most
  table-plain b z = b ∙ rw (← e, eq-eqb p 0 z)

  pub table-keyed : t ≡ bounds_to 500000 → (p ≡ 0 → ⊥) → t ≡ bounds_at l i
  unfolding setting_most
  table-keyed b n = b ∙ rw (← e, ne_eqb p 0 n)

-- x is the field, and r says how it stands in the table t, which is the row's own
module _ (l : List ℕ) (i k x : ℕ) (e : x ≡ field l i k) (t : List ℕ) (b : t ≡ bounds_at l i) (r : Bool) (f : r ≡ in_bounds t k x) where
  judged : field_right l i k ≡ (r && ((not (eqb k 0) || eqb x (i + 1)) && (not (eqb k at_secondary) || rating_right (field l i at_primary) x)))
  unfolding field_right
  judged = rw (← e, ← b, ← f)

  pub right-out : r ≡ false → false ≡ field_right l i k
  right-out h = sym (judged ∙ rw h)

  pub right-own : r ≡ true → k ≡ 0 → eqb x (i + 1) ≡ field_right l i k
  right-own h z = sym (judged ∙ rw (h, z) (and-true (eqb x (i + 1))))

  pub right-rating : r ≡ true → (k ≡ 0 → ⊥) → k ≡ at_secondary → (b : Bool) (p : ℕ) → p ≡ field l i at_primary → b ≡ rating_right p x → b ≡ field_right l i k
  right-rating h n z b p q g = sym (judged ∙ rw (h, ne_eqb k 0 n, eq-eqb k at_secondary z, ← q) (sym g))

  pub right-other : r ≡ true → (k ≡ 0 → ⊥) → (k ≡ at_secondary → ⊥) → true ≡ field_right l i k
  right-other h n m = sym (judged ∙ rw (h, ne_eqb k 0 n, ne_eqb k at_secondary m))
