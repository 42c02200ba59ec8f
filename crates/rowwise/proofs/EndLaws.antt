-- How tests and workings out end: no end is two things at once.
use Rattle.answers.specs.Answer.{Answer, done}
use Rattle.std.proofs.Common.{Err}
use Rattle.answers.specs.declared.Refusal.{Refusal}
use mathlib.Core.Path.{◌≡◌}
use mathlib.Core.List.{List}
use Prim.Native.Nat.{ℕ}
use Rattle.fold.proofs.BoolLaws.{zero-not-one}
use Rattle.rowwise.specs.WorkOut.{finished, refused}

pub never-passed : {a : Refusal} → done ≡ Err a → ⊥
never-passed e = zero-not-one cc

pub never-finished : {a : Refusal} {c : List ℕ} → refused a ≡ finished c → ⊥
never-finished e = zero-not-one cc

pub same-refusal : {a b : Refusal} → refused a ≡ refused b → a ≡ b
same-refusal e = cc

pub same_answer : {a b : Refusal} → ◌≡◌ {A = Answer} (Err a) (Err b) → a ≡ b
same_answer e = cc
