-- The numbers of section 4's table, with request §2's in the place of 6, which none has, and those of requests §3 and §11; a row that can't be
-- settled is refused, and not with EDIT, whatever the reason.
use Rattle.answers.specs.declared.Refusal.TheVariants.{Text, Count, Room, Field, Tree, Unsettled, Study, Card, Edit, Input, Slope}
use Rattle.std.proofs.Common.{Ok, Err}
use mathlib.Core.Path.{◌≡◌, refl, ap}
use mathlib.Core.Bool.{false}
use mathlib.Core.List.{[], ◌∷◌, map}
use Prim.Native.Nat.{ℕ, ◌<◌}
use native.Mathlib.Omega.{arith}
use lib.Dec.{eqb}
use borrow.Author.Tests.{ne_eqb}
use Rattle.answers.specs.declared.Cause.TheVariants.{Range, OwnZone, Backup}
use Rattle.answers.specs.declared.Reason.{Reason}
use Rattle.answers.specs.declared.Reason.TheVariants.{Pickup, Curve, Delay}
use Rattle.answers.specs.Answer.{given_by, number_of, Answer, done}

pub unsettled-above : (row : ℕ) (why : Reason) → 5 < number_of (Err (Unsettled row why))
unsettled-above row (Pickup Range) = omega arith
unsettled-above row (Pickup OwnZone) = omega arith
unsettled-above row (Pickup (Backup fed)) = omega arith
unsettled-above row (Curve stalled) = omega arith
unsettled-above row Delay = omega arith

pub unsettled-not-0 : (row : ℕ) (why : Reason) → eqb (number_of (Err (Unsettled row why))) 0 ≡ false
unsettled-not-0 row why = ne_eqb (number_of (Err (Unsettled row why))) 0 (λ e. omega (arith, unsettled-above row why))

pub unsettled-not-10 : (row : ℕ) (why : Reason) → eqb (number_of (Err (Unsettled row why))) 10 ≡ false
unsettled-not-10 row (Pickup Range) = refl
unsettled-not-10 row (Pickup OwnZone) = refl
unsettled-not-10 row (Pickup (Backup fed)) = refl
unsettled-not-10 row (Curve stalled) = refl
unsettled-not-10 row Delay = refl

pub unsettled-not-done : {row : ℕ} {why : Reason} → Err (Unsettled row why) ≡ done → ⊥
unsettled-not-done {row} {why} e = let q = ap number_of e in omega (arith, unsettled-above row why)

-- [02 §2] "6 is retired"
pub six-retired : (a : Answer) → eqb (number_of a) 6 ≡ false
six-retired (Ok _) = refl
six-retired (Err (Text line)) = refl
six-retired (Err Count) = refl
six-retired (Err Room) = refl
six-retired (Err (Field row field)) = refl
six-retired (Err (Tree row)) = refl
six-retired (Err (Unsettled row (Pickup Range))) = refl
six-retired (Err (Unsettled row (Pickup OwnZone))) = refl
six-retired (Err (Unsettled row (Pickup (Backup fed)))) = refl
six-retired (Err (Unsettled row (Curve stalled))) = refl
six-retired (Err (Unsettled row Delay)) = refl
six-retired (Err (Study place)) = refl
six-retired (Err (Card row)) = refl
six-retired (Err Edit) = refl
six-retired (Err (Input place)) = refl
six-retired (Err Slope) = refl

-- section 4's table, line by line, 11 to 13 where 6 stood, then 14, and 16 and 17 last: each answer's number, its place, and the field or the fed row
-- where one is named; the place of 14 is the row whose M it is
pub table :
    (place field fed stalled : ℕ) →
    map given_by
    (done ∷ Err (Text place) ∷ Err Count ∷ Err Room ∷ Err (Field place field) ∷ Err (Tree place) ∷
    Err (Unsettled place (Pickup Range)) ∷ Err (Unsettled place (Pickup OwnZone)) ∷
    Err (Unsettled place (Pickup (Backup fed))) ∷ Err (Unsettled place (Curve stalled)) ∷ Err (Unsettled place Delay) ∷
    Err (Study place) ∷ Err (Card place) ∷ Err Edit ∷ Err (Input place) ∷ Err Slope ∷ []) ≡
    (0 ∷ 0 ∷ 0 ∷ []) ∷ (1 ∷ place ∷ 0 ∷ []) ∷ (2 ∷ 0 ∷ 0 ∷ []) ∷ (3 ∷ 0 ∷ 0 ∷ []) ∷
    (4 ∷ place ∷ field ∷ []) ∷ (5 ∷ place ∷ 0 ∷ []) ∷
    (11 ∷ place ∷ 0 ∷ []) ∷ (12 ∷ place ∷ 0 ∷ []) ∷ (13 ∷ place ∷ fed ∷ []) ∷
    (14 ∷ stalled ∷ 0 ∷ []) ∷ (7 ∷ place ∷ 0 ∷ []) ∷
    (8 ∷ place ∷ 0 ∷ []) ∷ (9 ∷ place ∷ 0 ∷ []) ∷ (10 ∷ 0 ∷ 0 ∷ []) ∷
    (16 ∷ place ∷ 0 ∷ []) ∷ (17 ∷ 0 ∷ 0 ∷ []) ∷ []
table place field fed stalled = refl
