-- Names by their places: start and length, inside the bytes s.
use Rattle.cursor.specs.declared.Place.{Place}
use mathlib.Core.Path.{◌≡◌, refl, ap, ap₂, ◌∙◌}
use mathlib.Core.List.{List, [], ◌∷◌, ◌++◌}
use Prim.Native.Nat.{ℕ, zero, suc, ◌+◌, ◌≤◌, ◌<◌}
use native.Mathlib.Omega.{arith}
use lib.ListN.{length, get_or, length-append}
use Rattle.cursor.specs.Pieces.{name_most}
use Rattle.cursor.specs.Names.{name_at_place, names_at}

-- places of names, each of at most 24 bytes and inside so many
pub record PlaceInside (size : ℕ) (p : Place) : Type 0 where
  pub short : p.size ≤ name_most
  pub inside : p.start + p.size ≤ size

abbrev pub Inside : ℕ → List Place → Type 0
Inside size [] = Unit
Inside size (p ∷ ps) = PlaceInside size p × Inside size ps

-- what places say of names in the bytes s
pub record Stand (s : List ℕ) (ps : List Place) (names : List (List ℕ)) : Type 0 where
  pub inside : Inside (length s) ps
  pub long : length ps ≡ length names
  pub are : names_at s (length names) ps ≡ names

pub stand-none : (s : List ℕ) → Stand s [] []
unfolding names_at
stand-none s = record { inside = tt; long = refl; are = refl }

pub stand-one :
    (s : List ℕ) (p : Place) (v : List ℕ) (ps : List Place) (vs : List (List ℕ)) → PlaceInside (length s) p → name_at_place s p ≡ v → Stand s ps vs →
    Stand s (p ∷ ps) (v ∷ vs)
unfolding names_at
stand-one s p v ps vs i e h = record { inside = (i, h.inside); long = omega (arith, h.long); are = ap₂ ◌∷◌ e h.are }

inside_both : (size : ℕ) (ps qs : List Place) → Inside size ps → Inside size qs → Inside size (ps ++ qs)
inside_both size [] qs h k = k
inside_both size (p ∷ ps) qs h k = (h.0, inside_both size ps qs h.1 k)

names-both :
    (s : List ℕ) (vs : List (List ℕ)) (m : ℕ) (ps qs : List Place) → length ps ≡ length vs →
    names_at s (length vs + m) (ps ++ qs) ≡ names_at s (length vs) ps ++ names_at s m qs
unfolding names_at
names-both s [] m [] qs h = rw (native.Mathlib.Nat.zero-add m)
names-both s [] m (p ∷ ps) qs h = absurd (omega arith)
names-both s (v ∷ vs) m [] qs h = absurd (omega arith)
names-both s (v ∷ vs) m (p ∷ ps) qs h =
    rw (native.Mathlib.Nat.suc-add (length vs) m)
    (ap (λ (x : List (List ℕ)). name_at_place s p ∷ x) (names-both s vs m ps qs (omega arith)))

pub stand-both : (s : List ℕ) (ps qs : List Place) (vs ws : List (List ℕ)) → Stand s ps vs → Stand s qs ws → Stand s (ps ++ qs) (vs ++ ws)
stand-both s ps qs vs ws h k =
    record {
      inside = inside_both (length s) ps qs h.inside k.inside;
      long = omega (arith, length-append ps qs, length-append vs ws, h.long, k.long);
      are = rw (length-append vs ws) (names-both s vs (length ws) ps qs h.long ∙ ap₂ ◌++◌ h.are k.are);
    }

-- the place of name k, by its index
pub inside-at : (size : ℕ) (ps : List Place) (k : ℕ) (d : Place) → Inside size ps → k < length ps → PlaceInside size (get_or ps k d)
inside-at size [] k d h i = absurd (omega arith)
inside-at size (p ∷ ps) zero d h i = h.0
inside-at size (p ∷ ps) (suc k) d h i = inside-at size ps k d h.1 (omega arith)
