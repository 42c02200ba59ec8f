-- [01 §4], [02 §3] A card lent as numbers: its rows one after the other, column by column. Rows are counted from 0. Definitions only.
use Rattle.std.specs.Prelude.{Bool, ◌&&◌, List, [], ◌∷◌, ℕ, ◌+◌, ◌*◌, eqb, get_or}
use Rattle.std.proofs.lemmas.List.Edits.{sets}
use Rattle.layout.specs.declared.CardRow.{CardRow}
use Rattle.layout.specs.Counts.{column_count}
use Rattle.sides.specs.Sides.{keyed}

-- the number in column k of card row i
abbrev pub column : List ℕ → ℕ → ℕ → ℕ
column c i k = get_or c (i * column_count + k) 0

-- card row i, and its columns in their order; its currents are as they are keyed: secondary mA where row i has a ratio, primary mA where not
abbrev pub card_row_at : List ℕ → ℕ → CardRow
card_row_at c i =
    record {
      pickup = keyed (column c i 0);
      delay = column c i 1;
      cutoff = keyed (column c i 2);
      law = column c i 3;
      multiplier = column c i 4;
    }

abbrev pub columns_of : CardRow → List ℕ
columns_of k = k.pickup.0 ∷ k.delay ∷ k.cutoff.0 ∷ k.law ∷ k.multiplier ∷ []

-- the card with another row i
unfoldable pub put_card_row : List ℕ → ℕ → CardRow → List ℕ
put_card_row c i k = sets c (i * column_count) (columns_of k)

-- [02 §8] two card rows are equal in all their numbers
abbrev pub same_card_row : CardRow → CardRow → Bool
same_card_row a b =
    eqb a.pickup.0 b.pickup.0 &&
    (eqb a.delay b.delay && (eqb a.cutoff.0 b.cutoff.0 && (eqb a.law b.law && eqb a.multiplier b.multiplier)))

-- the least and the greatest number of each column of a lent card, in the order of the card [01 §4, 9 CARD]; pickup and cutoff
-- go to `most` [02 §1]
abbrev pub column_bounds_to : ℕ → List ℕ
column_bounds_to most =
    1 ∷ most ∷  -- pickup
    0 ∷ 100000 ∷  -- delay
    0 ∷ most ∷  -- cutoff
    0 ∷ 2 ∷  -- law
    0 ∷ 1500 ∷  -- multiplier
    []
