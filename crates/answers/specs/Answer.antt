-- [01 §4], [02 §2, §3, §11] The numbers given back. 6 is retired. Definitions only.
use Rattle.std.specs.Prelude.{⊤, List, [], ◌∷◌, ℕ, get_or, Result, Ok, Err}
use Rattle.answers.specs.declared.Refusal.{Refusal}
use Rattle.answers.specs.declared.Refusal.TheVariants.{Text, Count, Room, Field, Tree, Unsettled, Study, Card, Edit, Input, Slope}
use Rattle.answers.specs.declared.Cause.TheVariants.{Range, OwnZone, Backup}
use Rattle.answers.specs.declared.Reason.TheVariants.{Pickup, Curve, Delay}

-- an answer, or what a test finds: DONE where nothing is refused, or the refusal
abbrev pub Answer : Type 0
Answer = Result ⊤ Refusal

abbrev pub done : Answer
done = Ok tt

-- an answer is given in so many numbers
abbrev pub number_count : ℕ
number_count = 3

-- the number, the place, and what names the place more closely
abbrev numbered : ℕ → ℕ → ℕ → List ℕ
numbered n p x = n ∷ p ∷ x ∷ []

abbrev pub given_by : Answer → List ℕ
given_by (Ok _) = numbered 0 0 0
given_by (Err (Text line)) = numbered 1 line 0
given_by (Err Count) = numbered 2 0 0
given_by (Err Room) = numbered 3 0 0
given_by (Err (Field row field)) = numbered 4 row field
given_by (Err (Tree row)) = numbered 5 row 0
given_by (Err (Unsettled row (Pickup Range))) = numbered 11 row 0
given_by (Err (Unsettled row (Pickup OwnZone))) = numbered 12 row 0
given_by (Err (Unsettled row (Pickup (Backup fed)))) = numbered 13 row fed
given_by (Err (Unsettled row (Curve stalled))) = numbered 14 stalled 0
given_by (Err (Unsettled row Delay)) = numbered 7 row 0
given_by (Err (Study place)) = numbered 8 place 0
given_by (Err (Card row)) = numbered 9 row 0
given_by (Err Edit) = numbered 10 0 0
given_by (Err (Input place)) = numbered 16 place 0
given_by (Err Slope) = numbered 17 0 0

abbrev pub number_of : Answer → ℕ
number_of a = get_or (given_by a) 0 0

abbrev pub place_of : Answer → ℕ
place_of a = get_or (given_by a) 1 0
