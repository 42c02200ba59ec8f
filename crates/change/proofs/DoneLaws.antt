-- A replacement that is done passed every test before its path.
use mathlib.Core.Path.{◌≡◌, refl, ap}
use mathlib.Core.Bool.{false}
use mathlib.Core.List.{List}
use Prim.Native.Nat.{ℕ}
use lib.Dec.{eqb}
use Rattle.fold.proofs.BoolLaws.{not-both}
use Rattle.answers.specs.Answer.{number_of, Answer, done}
use Rattle.change.specs.Gets.{Passes, ReplacementGets}
use Rattle.change.specs.Replace.{replaced}
use Rattle.change.proofs.Demand1.{replacement-gets}

pub done-passes : (l c : List ℕ) (place : ℕ) (row : List ℕ) → (replaced l c place row).answer ≡ done → Passes l c place row
done-passes l c place row e = by_cases ((replacement-gets l c place row done).0 e) refl
  where
    other : {a : Answer} → a ≡ done → eqb (number_of a) 0 ≡ false → Passes l c place row
    other q n = absurd (not-both (ap (λ (a : Answer). eqb (number_of a) 0) q) n)

    by_cases : {a : Answer} → ReplacementGets l c place row a → a ≡ done → Passes l c place row
    by_cases (ReplacementGets.COUNT n) q = other q refl
    by_cases (ReplacementGets.ROOM s n) q = other q refl
    by_cases (ReplacementGets.EDIT s r n) q = other q refl
    by_cases (ReplacementGets.FIELD i k f w) q = other q refl
    by_cases (ReplacementGets.TREE i f r w) q = other q refl
    by_cases (ReplacementGets.CARD i f r b w) q = other q refl
    by_cases (ReplacementGets.UNSETTLED p z) q = p
    by_cases (ReplacementGets.DONE k last p w) q = p
