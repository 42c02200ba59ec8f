-- Bytes by their letters, for laws and worked cases: `spelt "a,b"` is 97, 44, 98. A quote is written `\"`. Definitions only.
use Rattle.std.specs.Prelude.{List, [], ◌∷◌, ℕ}
use Prim.Native.Char.{code}
use Prim.Native.String.{String, [] as none, ◌∷◌ as ◌then◌}

unfoldable pub spelt : String → List ℕ
spelt none = []
spelt (c then s) = code c ∷ spelt s
