-- [01 §2, §3, §4], [02 §2, §5, §8] Worked cases beside the starred ones: kinds 2 and 3, devices 2 and 3, unequal volts, every refusal
-- number, and pairs of faults that show the order. The numbers were worked out from the documents by hand. Rows, fields and
-- places are counted from 1, as there. Definitions only.
use Rattle.std.specs.Prelude.{List, [], ◌∷◌, ◌++◌, ℕ, ◌+◌, ◌-◌, ◌*◌, set, take, drop, replicate}
use Rattle.layout.specs.Counts.{field_count}
use Rattle.cases.specs.Case.{Worked, worked}
use Rattle.cases.specs.Case.Case.{calculates, replaces}
use Rattle.cases.specs.Case.Comes.{calculated, replacing}

-- A line (10,000 V, device 2, backed) and a motor (6,000 V, device 3, not backed), both fed by a transformer (25,000 V).
-- Row 3 by P2 above row 2: 10 × 152,900 × 25,000 = 11 × (412,500 × 6,000 + 100,000 × 10,000); above row 1 less. By P3:
-- 10 × 229,350 = 15 × 152,900. By P4: 10 × 458,700 × 10,000 = 12 × 152,900 × 25,000. By D2: 0 + 500, not 100 + 300; its floor, 390,
-- lies below every delay that D2 asks of it here.
unfoldable pub plant : List ℕ
plant =
    1 ∷ 3 ∷ 1 ∷ 10000 ∷ 100000 ∷ 1500 ∷ 1000 ∷ 458700 ∷ 500000 ∷ 726000 ∷ 1200 ∷ 5000 ∷ 1005000 ∷ 10000 ∷
    2 ∷ 0 ∷ 1000 ∷ 1 ∷ 0 ∷ 0 ∷ 0 ∷ 726000 ∷
    2 ∷ 3 ∷ 3 ∷ 6000 ∷ 50000 ∷ 6000 ∷ 800 ∷ 700000 ∷ 900000 ∷ 1825000 ∷ 1000 ∷ 12500 ∷ 1012500 ∷ 100000 ∷
    3 ∷ 0 ∷ 100 ∷ 0 ∷ 0 ∷ 0 ∷ 0 ∷ 1825000 ∷
    3 ∷ 0 ∷ 2 ∷ 25000 ∷ 60000 ∷ 1200 ∷ 1000 ∷ 229350 ∷ 150000 ∷ 605800 ∷ 2000 ∷ 2900 ∷ 402900 ∷ 10000 ∷
    1 ∷ 390 ∷ 500 ∷ 0 ∷ 0 ∷ 0 ∷ 0 ∷ 605800 ∷ []

-- the list with number x in field k of row n; row n of a list
abbrev pub with : List ℕ → ℕ → ℕ → ℕ → List ℕ
with l n k x = set l ((n - 1) * field_count + (k - 1)) x

abbrev pub row : ℕ → List ℕ → List ℕ
row n l = take field_count (drop ((n - 1) * field_count) l)

-- a card of three rows with one number more, as lent and as the list leaves it
unfoldable pub lent : List ℕ
lent = 1 ∷ 2 ∷ 3 ∷ 4 ∷ 5 ∷ 6 ∷ 7 ∷ 8 ∷ 9 ∷ 10 ∷ 11 ∷ 12 ∷ 13 ∷ 14 ∷ 15 ∷ 77 ∷ []

-- the rows of the card: line, motor and transformer, the last by its pickup, delay and cutoff
abbrev card_of : ℕ → ℕ → ℕ → List ℕ
card_of I t C = 165000 ∷ 0 ∷ 605000 ∷ 0 ∷ 0 ∷ 412500 ∷ 100 ∷ 912500 ∷ 0 ∷ 0 ∷ I ∷ t ∷ C ∷ 0 ∷ 0 ∷ 77 ∷ []

unfoldable pub plant_card : List ℕ
plant_card = card_of 152900 500 302900

-- a whole calculation: done with a card, or refused with three numbers
abbrev pub done : List ℕ → List ℕ → Worked
done l c = worked (calculates l lent) (calculated (0 ∷ 0 ∷ 0 ∷ []) c)

abbrev pub refused : List ℕ → ℕ → ℕ → ℕ → Worked
refused l number place field = worked (calculates l lent) (calculated (number ∷ place ∷ field ∷ []) lent)

-- row n of a list and card replaced by that of another list, m rows being worked out; that is then the list, with its card
abbrev pub becomes : List ℕ → List ℕ → ℕ → ℕ → List ℕ → List ℕ → Worked
becomes l c n m l' c' = worked (replaces l c n (row n l')) (replacing (0 ∷ 0 ∷ 0 ∷ []) m l' c')

-- a replacement on a list and a card refused with three numbers; on the plant
abbrev pub kept_in : List ℕ → List ℕ → ℕ → List ℕ → ℕ → ℕ → ℕ → Worked
kept_in l c place new number at field = worked (replaces l c place new) (replacing (number ∷ at ∷ field ∷ []) 0 l c)

abbrev kept : List ℕ → ℕ → List ℕ → ℕ → ℕ → ℕ → Worked
kept = kept_in plant

-- a card that does not belong to the plant, with this pickup of the motor; what a replacement leaves of it where that is 300,000, by the
-- line's row
abbrev found : ℕ → List ℕ
found I = 9 ∷ 9 ∷ 9 ∷ 0 ∷ 0 ∷ I ∷ 50 ∷ 0 ∷ 0 ∷ 0 ∷ 9 ∷ 9 ∷ 9 ∷ 0 ∷ 0 ∷ 77 ∷ []

abbrev left : ℕ → ℕ → ℕ → List ℕ
left I t C = I ∷ t ∷ C ∷ 0 ∷ 0 ∷ 300000 ∷ 50 ∷ 0 ∷ 0 ∷ 0 ∷ 132900 ∷ 500 ∷ 302900 ∷ 0 ∷ 0 ∷ 77 ∷ []

-- conditions at equality and one off, in a whole calculation
unfoldable pub conditions : List Worked
conditions =
    done plant plant_card
    -- P2: 152,899 is not enough, and the next pickup offered is 162,899
    ∷ done (with (with (with plant 3 12 2899) 3 8 300000) 1 8 500000) (card_of 162899 500 302899)
    -- the greatest pickup offered is the least that P2 allows, and one off
    ∷ done (with plant 3 13 152900) (card_of 152900 500 0)
    ∷ refused (with plant 3 13 152899) 11 3 0
    -- P3 and P4 one off; the motor backed too, and one off: it is named, or the line where that fails too, if by less
    ∷ refused (with plant 3 8 229349) 12 3 0
    ∷ refused (with plant 1 8 458699) 13 3 1
    ∷ done (with (with plant 2 18 1) 2 8 764500) plant_card
    ∷ refused (with (with plant 2 18 1) 2 8 764499) 13 3 2
    ∷ refused (with (with (with plant 2 18 1) 2 8 650000) 1 8 458699) 13 3 1
    -- the line not backed needs no such far
    ∷ done (with (with plant 1 18 0) 1 8 458699) plant_card
    -- D2: 0 + 500 above row 1, by its device; with device 1 there, 100 + 300 above row 2, by row 3's own; with device 2 in row 2,
    -- 100 + 500
    ∷ refused (with plant 3 17 499) 7 3 0
    ∷ done (with (with plant 1 15 1) 3 17 400) (card_of 152900 400 302900)
    ∷ refused (with (with plant 1 15 1) 3 17 399) 7 3 0
    ∷ done (with (with plant 2 15 2) 3 17 600) (card_of 152900 600 302900)
    -- D1: a motor's 100
    ∷ refused (with plant 2 17 99) 7 2 0
    -- the cutoff of the line, the motor and the transformer one off
    ∷ done (with plant 1 10 725999) (set plant_card 2 0)
    ∷ done (with plant 2 10 1824999) (set plant_card 7 0)
    ∷ done (with plant 3 10 605799) (card_of 152900 500 0)
    -- 11, 12 or 13 and 7 in one row; 12 and 13; 11 and 12; 7 in row 1 before 12 in row 3; 12 in row 1 before 11 in row 3
    ∷ refused (with (with plant 3 13 152899) 3 17 499) 11 3 0
    ∷ refused (with (with plant 3 8 229349) 3 17 499) 12 3 0
    ∷ refused (with (with plant 1 8 458699) 3 17 499) 13 3 1
    ∷ refused (with (with plant 1 8 458699) 3 8 229349) 12 3 0
    ∷ refused (with (with plant 3 13 152899) 3 8 1) 11 3 0
    ∷ refused (with (with plant 3 8 229349) 1 16 1001) 7 1 0
    ∷ refused (with (with plant 3 13 152899) 1 8 1) 12 1 0
    ∷ []

-- 2, 3, 4 and 5, and their order
unfoldable pub faults : List Worked
faults =
    refused [] 2 0 0
    ∷ refused (drop 1 plant) 2 0 0
    ∷ refused (0 ∷ plant) 2 0 0
    -- 257 rows; 256 are as many as are taken, with room for 5 numbers each: the first field at fault is row 1's volts
    ∷ refused (replicate (257 * field_count) 1) 2 0 0
    ∷ worked (calculates (replicate (256 * field_count) 1) (replicate 1279 0)) (calculated (3 ∷ 0 ∷ 0 ∷ []) (replicate 1279 0))
    ∷ worked (calculates (replicate (256 * field_count) 1) (replicate 1280 0)) (calculated (4 ∷ 1 ∷ 4 ∷ []) (replicate 1280 0))
    -- 2 before 3, and 3 before 4: no room for three rows
    ∷ worked (calculates (drop 1 plant) (take 14 lent)) (calculated (2 ∷ 0 ∷ 0 ∷ []) (take 14 lent))
    ∷ worked (calculates plant (take 14 lent)) (calculated (3 ∷ 0 ∷ 0 ∷ []) (take 14 lent))
    ∷ worked (calculates (with plant 1 3 4) (take 14 lent)) (calculated (3 ∷ 0 ∷ 0 ∷ []) (take 14 lent))
    ∷ worked (calculates plant (take 15 lent)) (calculated (0 ∷ 0 ∷ 0 ∷ []) (take 15 plant_card))
    -- low above high is field 12, after the fields' own ranges
    ∷ refused (with plant 2 12 1012501) 4 2 12
    ∷ refused (with (with plant 2 12 1012501) 2 18 2) 4 2 18
    ∷ refused (with (with plant 2 12 1012501) 2 11 999) 4 2 11
    -- 4 over all rows before 5: fields in row 3 at fault, and the motor of row 2 feeding row 1; the first row, the first field
    ∷ refused (with (with plant 1 2 2) 3 18 2) 4 3 18
    ∷ refused (with (with (with plant 3 3 4) 2 18 2) 2 15 4) 4 2 15
    -- 5: fed by a motor, by itself, by a row before it, by no row of the list, by the source; the last one fed by a row
    ∷ refused (with plant 1 2 2) 5 1 0
    ∷ refused (with plant 3 3 3) 5 1 0
    ∷ refused (with plant 2 2 2) 5 2 0
    ∷ refused (with plant 2 2 1) 5 2 0
    ∷ refused (with plant 1 2 4) 5 1 0
    ∷ refused (with plant 2 2 0) 5 2 0
    ∷ refused (with plant 3 2 1) 5 3 0
    -- 5 before 12: row 1 blind in its own zone
    ∷ refused (with (with plant 2 2 0) 1 8 1) 5 2 0
    ∷ refused (with plant 1 8 1) 12 1 0
    ∷ []

-- each field below its least number and above its greatest
abbrev outside : ℕ → ℕ → Worked
outside k x = refused (with plant 1 k x) 4 1 k

unfoldable pub ranges : List Worked
ranges =
    outside 1 0 ∷ outside 1 2
    ∷ outside 2 257
    ∷ outside 3 0 ∷ outside 3 4
    ∷ outside 4 99 ∷ outside 4 500001
    ∷ outside 5 0 ∷ outside 5 100000001
    ∷ outside 6 999 ∷ outside 6 10001
    ∷ outside 7 799 ∷ outside 7 1001
    ∷ outside 8 0 ∷ outside 8 100000001
    ∷ outside 9 0 ∷ outside 9 100000001
    ∷ outside 10 0 ∷ outside 10 100000001
    ∷ outside 11 999 ∷ outside 11 2001
    ∷ outside 12 0 ∷ outside 12 100000001
    ∷ outside 13 0 ∷ outside 13 100000001
    ∷ outside 14 0 ∷ outside 14 100000001
    ∷ outside 15 0 ∷ outside 15 4
    ∷ outside 16 100001
    ∷ outside 17 100001
    ∷ outside 18 2
    -- every field at its least number, and every field but the first two and the two ratings at its greatest: in range, and 11
    ∷ refused (1 ∷ 0 ∷ 1 ∷ 100 ∷ 1 ∷ 1000 ∷ 800 ∷ 1 ∷ 1 ∷ 1 ∷ 1000 ∷ 1 ∷ 1 ∷ 1 ∷
    1 ∷ 0 ∷ 0 ∷ 0 ∷ 0 ∷ 0 ∷ 0 ∷ 1 ∷ []) 11 1 0
    ∷ refused
    (1 ∷ 0 ∷ 3 ∷ 500000 ∷ 100000000 ∷ 10000 ∷ 1000 ∷ 100000000 ∷ 100000000 ∷ 100000000 ∷ 2000 ∷
    100000000 ∷ 100000000 ∷ 100000000 ∷ 3 ∷ 100000 ∷ 100000 ∷ 1 ∷ 0 ∷ 0 ∷ 2 ∷ 100000000 ∷ []) 11 1 0
    ∷ []

-- replacements: what they leave, and every refusal in its order
unfoldable pub replacements : List Worked
replacements =
    -- the line with another far: its own card row stays, and the transformer is settled anew
    becomes plant plant_card 1 2 (with plant 1 8 500000) plant_card
    ∷ kept plant_card 1 (row 1 (with plant 1 8 458699)) 13 3 1
    -- the transformer by itself
    ∷ becomes plant plant_card 3 1 (with plant 3 16 500) plant_card
    ∷ becomes plant plant_card 3 1 (with plant 3 10 605799) (card_of 152900 500 0)
    -- offering pickups from 162,900 on: P4 asks 12 × 162,900 × 25,000 = 10 × 488,700 × 10,000 of the line, which is off its path
    ∷ becomes (with plant 1 8 488700) plant_card 3 1 (with (with (with plant 1 8 488700) 3 12 162900) 3 8 300000) (card_of 162900 500 302900)
    ∷ kept_in (with plant 1 8 488699) plant_card 3 (row 3 (with (with plant 3 12 162900) 3 8 300000)) 13 3 1
    -- a card that does not belong to the list: the motor's row is read as it is found, those of the path are not read. P2:
    -- 11 × (300,000 × 6,000 + 100,000 × 10,000) / (10 × 25,000) = 123,200, so 132,900
    ∷ becomes plant (found 300000) 1 2 plant (left 165000 0 605000)
    -- so P4 asks 12 × 132,900 × 25,000 = 10 × 398,700 × 10,000 of the line, and P3 15 × 132,900 = 10 × 199,350
    ∷ becomes plant (found 300000) 1 2 (with plant 1 8 398700) (left 165000 0 605000)
    ∷ kept (found 300000) 1 (row 1 (with plant 1 8 398699)) 13 3 1
    ∷ becomes plant (set (found 300000) 1 0) 3 1 (with plant 3 8 199350) (left 9 0 9)
    ∷ kept (set (found 300000) 1 0) 3 (row 3 (with plant 3 8 199349)) 12 3 0
    -- 11 × (1,359,469 × 6,000 + 100,000 × 10,000) / (10 × 25,000) = 402,899.816, and the greatest offered is 402,900
    ∷ kept (found 1359469) 1 (row 1 plant) 12 3 0
    ∷ kept (found 1359470) 1 (row 1 plant) 11 3 0
    -- 2 and 3
    ∷ worked (replaces (drop 1 plant) plant_card 1 (row 1 plant)) (replacing (2 ∷ 0 ∷ 0 ∷ []) 0 (drop 1 plant) plant_card)
    ∷ kept (take 14 plant_card) 0 (row 1 plant) 3 0 0
    -- 10: the place, the new row's length, its field 1, its field 2; before 4
    ∷ kept plant_card 0 (row 1 plant) 10 0 0
    ∷ kept plant_card 4 (row 3 plant) 10 0 0
    ∷ kept plant_card 1 (take 18 plant) 10 0 0
    ∷ kept plant_card 1 (take 20 plant) 10 0 0
    ∷ kept plant_card 1 (take 21 plant) 10 0 0
    ∷ kept plant_card 1 (take 23 plant) 10 0 0
    ∷ kept plant_card 2 (row 1 plant) 10 0 0
    ∷ kept plant_card 1 (row 1 (with plant 1 2 2)) 10 0 0
    ∷ kept plant_card 1 (row 1 (with (with plant 1 2 2) 1 3 4)) 10 0 0
    -- 4 and 5 over the list as it would be; both before 9
    ∷ kept plant_card 2 (row 2 (with plant 2 3 4)) 4 2 3
    ∷ kept plant_card 3 (row 3 (with plant 3 3 3)) 5 1 0
    ∷ kept (0 ∷ drop 1 plant_card) 2 (row 2 (with plant 2 3 4)) 4 2 3
    ∷ kept (0 ∷ drop 1 plant_card) 3 (row 3 (with plant 3 3 3)) 5 1 0
    -- 9: each column, on the path or off it, the first row; before 12 and 7
    ∷ kept (set plant_card 5 0) 1 (row 1 plant) 9 2 0
    ∷ kept (set plant_card 5 100000001) 1 (row 1 plant) 9 2 0
    ∷ kept (set plant_card 6 100001) 1 (row 1 plant) 9 2 0
    ∷ kept (set plant_card 7 100000001) 1 (row 1 plant) 9 2 0
    ∷ kept (set (set plant_card 0 0) 5 0) 3 (row 3 plant) 9 1 0
    ∷ kept (set plant_card 10 0) 1 (row 1 plant) 9 3 0
    ∷ kept (set plant_card 5 0) 1 (row 1 (with plant 1 8 1)) 9 2 0
    ∷ kept (set plant_card 5 0) 1 (row 1 (with plant 1 16 1001)) 9 2 0
    -- 12 and 7 along the path, 12 first in a row; the motor is not on it
    ∷ kept plant_card 1 (row 1 (with plant 1 8 1)) 12 1 0
    ∷ kept plant_card 1 (row 1 (with plant 1 16 1001)) 7 1 0
    ∷ kept plant_card 1 (row 1 (with (with plant 1 8 1) 1 16 1001)) 12 1 0
    ∷ kept plant_card 2 (row 2 (with plant 2 17 99)) 7 2 0
    ∷ kept plant_card 3 (row 3 (with plant 3 17 499)) 7 3 0
    ∷ []

-- A chain of three lines with these devices, the first with a delay of 100; the floors of the others, 290 and 490, lie below every
-- delay that D2 asks of them. Each pickup is 1.1 times the work, and by P2 1.1 times the pickup below.
abbrev link : ℕ → ℕ → ℕ → ℕ → ℕ → List ℕ → List ℕ
link n feeder work device floor rest =
    n ∷ feeder ∷ 1 ∷ 10000 ∷ work ∷ 1000 ∷ 1000 ∷ 1000000 ∷ 220000 ∷ 264000 ∷ 1000 ∷ 11000 ∷ 1100000 ∷ 1100 ∷
    device ∷ floor ∷ 2000 ∷ 0 ∷ 0 ∷ 0 ∷ 0 ∷ 264000 ∷ rest

unfoldable pub chain : ℕ → ℕ → ℕ → List ℕ
chain d₁ d₂ d₃ = link 1 2 100000 d₁ 100 (link 2 3 110000 d₂ 290 (link 3 0 121000 d₃ 490 []))

-- its card, the delays of the second and the third row being these
unfoldable pub chain_card : ℕ → ℕ → List ℕ
chain_card t₂ t₃ =
    110000 ∷ 100 ∷ 220000 ∷ 0 ∷ 0 ∷ 121000 ∷ t₂ ∷ 220000 ∷ 0 ∷ 0 ∷ 133100 ∷ t₃ ∷ 220000 ∷ 0 ∷ 0 ∷ 77 ∷ []

-- row n replaced by that of another list, and refused with a number at a row
abbrev refused_at : List ℕ → List ℕ → ℕ → List ℕ → ℕ → ℕ → Worked
refused_at l c n l' number at = kept_in l c n (row n l') number at 0

-- D2 takes the larger of the two rows' steps
unfoldable pub gradings : List Worked
gradings =
    done (chain 1 1 1) (chain_card 400 700)
    ∷ done (chain 2 1 1) (chain_card 600 900)
    ∷ done (chain 1 2 1) (chain_card 600 1100)
    ∷ done (chain 1 1 2) (chain_card 400 900)
    ∷ done (chain 1 3 3) (chain_card 400 600)
    ∷ done (chain 3 3 3) (chain_card 300 500)
    -- the second row replaced, by its device alone: downward its own delay, upward its feeder's; then by device 3
    ∷ becomes (chain 1 1 1) (chain_card 400 700) 2 2 (chain 1 2 1) (chain_card 600 1100)
    ∷ becomes (chain 1 2 1) (chain_card 600 1100) 2 2 (chain 1 3 1) (chain_card 400 700)
    -- the first: only upward; the third: only downward
    ∷ becomes (chain 1 1 1) (chain_card 400 700) 1 3 (chain 2 1 1) (chain_card 600 900)
    ∷ becomes (chain 1 1 1) (chain_card 400 700) 3 1 (chain 1 1 2) (chain_card 400 900)
    -- the second with floor 600: its own card row stays, and its feeder's does not
    ∷ becomes (with (chain 1 1 1) 2 16 600) (chain_card 600 900) 2 2 (with (chain 1 2 1) 2 16 600) (chain_card 600 1100)
    -- a card that does not belong to the list: 250 is found in the first row
    ∷ becomes (chain 1 1 1) (set (chain_card 9 9) 1 250) 2 2 (chain 1 2 1) (set (chain_card 750 1250) 1 250)
    -- at the ceiling and one off, in the row itself and in its feeder
    ∷ becomes (chain 1 1 1) (chain_card 400 700) 2 2 (with (chain 1 2 1) 2 17 600) (chain_card 600 1100)
    ∷ refused_at (chain 1 1 1) (chain_card 400 700) 2 (with (chain 1 2 1) 2 17 599) 7 2
    ∷ becomes (with (chain 1 1 1) 3 17 1100) (chain_card 400 700) 2 2 (with (chain 1 2 1) 3 17 1100) (chain_card 600 1100)
    ∷ refused_at (with (chain 1 1 1) 3 17 1099) (chain_card 400 700) 2 (with (chain 1 2 1) 3 17 1099) 7 3
    ∷ []

-- [02 §8] the chain's first row with this work and floor, and its third with this floor and ceiling; a card with the pickups and
-- delays of its first two rows, and its third row by itself. The second row needs 1.1 times its own work, 121,000, whatever the first's
-- pickup up to 110,000
abbrev three : ℕ → ℕ → ℕ → ℕ → List ℕ
three work floor floor₃ ceiling₃ = with (with (with (with (chain 1 1 1) 1 5 work) 1 16 floor) 3 16 floor₃) 3 17 ceiling₃

abbrev three_card : ℕ → ℕ → ℕ → ℕ → List ℕ → List ℕ
three_card I t I₂ t₂ rest = I ∷ t ∷ 220000 ∷ 0 ∷ 0 ∷ I₂ ∷ t₂ ∷ 220000 ∷ 0 ∷ 0 ∷ rest

abbrev third : ℕ → ℕ → List ℕ
third I t = I ∷ t ∷ 220000 ∷ 0 ∷ 0 ∷ 77 ∷ []

-- the chain with floor 800 in its third row and a fourth that feeds it
abbrev four : ℕ → List ℕ
four floor = with (with (with (chain 1 1 1) 1 16 floor) 3 2 4) 3 16 800 ++ link 4 0 133100 1 0 []

-- the last two rows of its card, by the third's delay and the fourth row
abbrev above : ℕ → ℕ → ℕ → ℕ → List ℕ
above t I t₄ C = 133100 ∷ t ∷ 220000 ∷ 0 ∷ 0 ∷ I ∷ t₄ ∷ C ∷ 0 ∷ 0 ∷ 77 ∷ []

-- how far a change goes
unfoldable pub stopping : List Worked
stopping =
    -- the replaced row never stops it, even as it was; the second row, as it was, does; what stands past it stays, whatever it is
    becomes (three 100000 100 490 2000) (three_card 110000 100 121000 400 (third 133100 700)) 1 2 (three 100000 100 490 2000)
    (three_card 110000 100 121000 400 (third 133100 700))
    ∷ becomes (three 100000 100 490 2000) (three_card 110000 100 121000 400 (third 9 9)) 1 2 (three 90000 100 490 2000)
    (three_card 99000 100 121000 400 (third 9 9))
    -- equal in the pickup only, in the delay only; in both and not in the cutoff, which was lent as another
    ∷ becomes (three 100000 100 490 2000) (three_card 110000 100 121000 400 (third 133100 700)) 1 3 (three 100000 200 490 2000)
    (three_card 110000 200 121000 500 (third 133100 800))
    ∷ becomes (three 100000 100 490 2000) (three_card 110000 100 121000 400 (third 133100 700)) 1 3 (three 101000 100 490 2000)
    (three_card 111100 100 123200 400 (third 136400 700))
    ∷ becomes (three 100000 100 490 2000) (set (three_card 110000 100 121000 400 (third 9 9)) 7 219999) 1 3 (three 100000 100 490 2000)
    (three_card 110000 100 121000 400 (third 133100 700))
    -- the third row, as it was, is the last either way: 500 + 300 and its floor
    ∷ becomes (three 100000 100 800 2000) (three_card 110000 100 121000 400 (third 133100 800)) 1 3 (three 100000 200 800 2000)
    (three_card 110000 200 121000 500 (third 133100 800))
    -- and stops it short of a fourth
    ∷ becomes (four 100) (three_card 110000 100 121000 400 (above 800 9 9 9)) 1 3 (four 200)
    (three_card 110000 200 121000 500 (above 800 9 9 9))
    ∷ becomes (four 100) (three_card 110000 100 121000 400 (above 800 9 9 9)) 1 4 (four 201)
    (three_card 110000 201 121000 501 (above 801 147400 1101 220000))
    -- past the stop nothing is refused: the third row's ceiling is a millisecond short; the second row lent otherwise, it is
    ∷ becomes (three 100000 100 490 699) (three_card 110000 100 121000 400 (third 9 9)) 1 2 (three 90000 100 490 699)
    (three_card 99000 100 121000 400 (third 9 9))
    ∷ refused_at (three 100000 100 490 699) (three_card 110000 100 121000 401 (third 9 9)) 1 (three 90000 100 490 699) 7 3
    -- [01 §7] the trap: only the line's work is another and its own card row stays. By P2 above the motor the transformer needs
    -- 11 × (412,500 × 6,000 + 77,272 × 10,000) / (10 × 25,000) = 142,899.68, so its card row changes; with 77,273 it needs 142,900.12,
    -- and its card row stays
    ∷ becomes (with plant 1 12 165000) plant_card 1 2 (with (with plant 1 12 165000) 1 5 77272) (card_of 142900 500 302900)
    ∷ becomes (with plant 1 12 165000) plant_card 1 2 (with (with plant 1 12 165000) 1 5 77273) plant_card
    ∷ []

unfoldable pub more_table : List Worked
more_table = conditions ++ (faults ++ (ranges ++ (replacements ++ (gradings ++ stopping))))
