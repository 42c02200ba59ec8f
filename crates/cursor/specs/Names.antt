-- Names by their places in the text. Definitions only.
use Rattle.std.specs.Prelude.{List, [], ◌∷◌, ℕ, zero, suc, take, drop}
use Rattle.cursor.specs.declared.Place.{Place}

-- the bytes of the name that stands there
unfoldable pub name_at_place : List ℕ → Place → List ℕ
name_at_place s p = take p.size (drop p.start s)

-- the names at the first n places
unfoldable pub names_at : List ℕ → ℕ → List Place → List (List ℕ)
names_at s zero places = []
names_at s (suc n) [] = [] ∷ names_at s n []
names_at s (suc n) (p ∷ places) = name_at_place s p ∷ names_at s n places
