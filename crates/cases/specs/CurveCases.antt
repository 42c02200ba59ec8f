-- [02 §3] Worked cases of whole calculations with rows on curves B and C: each law above each other, D1 and D2 at the currents that the
-- request names, M on both sides of 1.000 and of 20.000, and 14 CURVE and the new fields in their order. The numbers were worked out from the
-- documents, and once more by a program of exact fractions that knows nothing of the definitions. Times are in ms, k is a multiplier in
-- thousandths. Rows, fields and places are counted from 1. Definitions only.
use Rattle.std.specs.Prelude.{List, [], ◌∷◌, ◌++◌, ℕ, take, drop}
use Rattle.cases.specs.Case.{Worked, worked}
use Rattle.cases.specs.Case.Case.{calculates}
use Rattle.cases.specs.Case.Comes.{calculated}
use Rattle.cases.specs.MoreCases.{with, lent, done, refused}

-- a row of 6,000 V that offers 99,000, 110,000, .. 220,000 mA, with a cutoff of 143,000
abbrev pub row_of : ℕ → ℕ → ℕ → ℕ → ℕ → ℕ → ℕ → ℕ → List ℕ → List ℕ
row_of n feeder kind work floor ceiling law greatest rest =
    n ∷ feeder ∷ kind ∷ 6000 ∷ work ∷ 1000 ∷ 1000 ∷ 220000 ∷ 143000 ∷ 300000 ∷ 1000 ∷ 99000 ∷ 220000 ∷ 11000 ∷
    1 ∷ floor ∷ ceiling ∷ 0 ∷ 0 ∷ 0 ∷ law ∷ greatest ∷ rest

-- A motor on C, its feeder on B, and the incoming line with a definite delay.
-- Row 1, pickup 110,000: at its 330,000 mA M is 3.000, and 80 / (9 − 1) s is 10 k: 100 with k = 10.
-- Row 2, pickup 121,000: at those 330,000 M is 2.727, and 13,500 × 52 / 1,727 = 406.5 where D2 asks 100 + 300; with 51 it is 398.7. At its own
-- 1,210,000 M is 10.000, and the time 13,500 × 52 / 9,000 = 78.
-- Row 3, pickup 143,000, at those 1,210,000: 78 + 300.
unfoldable pub drive : List ℕ
drive =
    row_of 1 2 3 100000 0 1000 2 330000
    (row_of 2 3 1 110000 0 1000 1 1210000
    (row_of 3 0 1 120000 300 1000 0 2000000 []))

-- it with other laws
abbrev pub laws : ℕ → ℕ → ℕ → List ℕ
laws a b c = with (with (with drive 1 21 a) 2 21 b) 3 21 c

-- rows of cards: with a delay, with a multiplier of B, of C
abbrev pub definite : ℕ → ℕ → List ℕ → List ℕ
definite I t rest = I ∷ t ∷ 143000 ∷ 0 ∷ 0 ∷ rest

abbrev pub on_B : ℕ → ℕ → List ℕ → List ℕ
on_B I k rest = I ∷ 0 ∷ 143000 ∷ 1 ∷ k ∷ rest

abbrev pub on_C : ℕ → ℕ → List ℕ → List ℕ
on_C I k rest = I ∷ 0 ∷ 143000 ∷ 2 ∷ k ∷ rest

-- the incoming line's row with this delay, and what follows it
abbrev pub incoming : ℕ → List ℕ
incoming t = definite 143000 t (77 ∷ [])

-- the motor and its feeder alone: their laws, the motor's floor
abbrev two : ℕ → ℕ → ℕ → List ℕ
two a b floor = row_of 1 2 3 100000 floor 20000 a 330000 (row_of 2 0 1 110000 0 3000 b 1210000 [])

-- one row by its kind, law, greatest current, floor and ceiling: pickup 110,000
abbrev alone : ℕ → ℕ → ℕ → ℕ → ℕ → List ℕ
alone kind law greatest floor ceiling = row_of 1 0 kind 100000 floor ceiling law greatest []

-- a list of one row is done with this multiplier of B, of C
abbrev gives_B : List ℕ → ℕ → Worked
gives_B l k = done l (on_B 110000 k (drop 5 lent))

abbrev gives_C : List ℕ → ℕ → Worked
gives_C l k = done l (on_C 110000 k (drop 5 lent))

-- a law above a law
unfoldable pub curves : List Worked
curves =
    done drive (on_C 110000 10 (on_B 121000 52 (incoming 378)))
    -- the motor with its definite 100, as all three; on B, 13,500 × 15 / 2,000 = 101.25, and the feeder's 406.5 still clears 102 + 300
    ∷ done (laws 0 1 0) (definite 110000 100 (on_B 121000 52 (incoming 378)))
    ∷ done (laws 0 0 0) (definite 110000 100 (definite 121000 400 (incoming 700)))
    ∷ done (laws 1 1 0) (on_B 110000 15 (on_B 121000 52 (incoming 378)))
    -- the feeder with a delay above C; on C above C, above B and above a delay: 80,000,000 × 33 / (2,727² − 1,000,000) = 410.2, with 32 it is
    -- 397.7; at M = 10.000 it is 26.7
    ∷ done (laws 2 0 0) (on_C 110000 10 (definite 121000 400 (incoming 700)))
    ∷ done (laws 2 2 0) (on_C 110000 10 (on_C 121000 33 (incoming 327)))
    ∷ done (laws 1 2 0) (on_B 110000 15 (on_C 121000 33 (incoming 327)))
    ∷ done (laws 0 2 0) (definite 110000 100 (on_C 121000 33 (incoming 327)))
    -- the incoming line on B: D2 asks 378 at M = 8.461, so 209, which at its own 13.986 is 217.3. D1 is judged there: with floor 219 it is 210,
    -- with 300 it is 288
    ∷ done (with (laws 2 1 1) 3 16 218) (on_C 110000 10 (on_B 121000 52 (on_B 143000 209 (77 ∷ []))))
    ∷ done (with (laws 2 1 1) 3 16 219) (on_C 110000 10 (on_B 121000 52 (on_B 143000 210 (77 ∷ []))))
    ∷ done (laws 2 1 1) (on_C 110000 10 (on_B 121000 52 (on_B 143000 288 (77 ∷ []))))
    -- on C above B: 80,000,000 × 333 / (8,461² − 1,000,000) = 377.4
    ∷ done (with (laws 2 1 2) 3 16 0) (on_C 110000 10 (on_B 121000 52 (on_C 143000 333 (77 ∷ []))))
    -- [02 §5] device 2 in row 1: 100 + 500, so 77, which is 115.5 at M = 10.000; in row 3: 78 + 500
    ∷ done (with drive 1 15 2) (on_C 110000 10 (on_B 121000 77 (incoming 416)))
    ∷ done (with drive 3 15 2) (on_C 110000 10 (on_B 121000 52 (incoming 578)))
    -- a longer time below asks a greater multiplier above: the motor from 150 on, definite and on C
    ∷ done (two 0 1 150) (definite 110000 150 (on_B 121000 58 (drop 10 lent)))
    ∷ done (two 2 1 150) (on_C 110000 15 (on_B 121000 58 (drop 10 lent)))
    ∷ []

-- D1 on each side, and the least and the greatest multiplier
unfoldable pub bounds : List Worked
bounds =
    -- B at M = 2.000 is 13.5 k, rounded up: 135 with 10, 148.5 and so 149 with 11
    gives_B (alone 1 1 220000 135 1000) 10
    ∷ gives_B (alone 1 1 220000 136 1000) 11
    ∷ gives_B (alone 1 1 220000 149 1000) 11
    ∷ gives_B (alone 1 1 220000 150 1000) 12
    ∷ gives_B (alone 1 1 220000 0 135) 10
    ∷ refused (alone 1 1 220000 0 134) 7 1 0
    ∷ gives_B (alone 1 1 220000 136 149) 11
    ∷ refused (alone 1 1 220000 136 148) 7 1 0
    -- C at M = 3.000 is 10 k
    ∷ gives_C (alone 1 2 330000 100 1000) 10
    ∷ gives_C (alone 1 2 330000 101 1000) 11
    ∷ gives_C (alone 1 2 330000 0 100) 10
    ∷ refused (alone 1 2 330000 0 99) 7 1 0
    -- a motor's 100 on C: 800,000,000 / (3,013² − 1,000,000) = 99.03, and 98.96 at 3.014, where a line may have its 99; with 11 it is 108.9
    ∷ gives_C (alone 3 2 331430 0 1000) 10
    ∷ gives_C (alone 3 2 331540 0 1000) 11
    ∷ gives_C (alone 1 2 331540 0 99) 10
    ∷ gives_C (alone 3 2 331540 0 109) 11
    ∷ refused (alone 3 2 331540 0 108) 7 1 0
    -- on B: 135,000 / 1,363 = 99.05, and 98.97 with 1,364
    ∷ gives_B (alone 3 1 259930 0 1000) 10
    ∷ gives_B (alone 3 1 260040 0 1000) 11
    -- 1,500 by D1: 13.5 × 1,500 and 10 × 1,500; and one past
    ∷ gives_B (alone 1 1 220000 20250 100000) 1500
    ∷ refused (alone 1 1 220000 20251 100000) 7 1 0
    ∷ gives_C (alone 1 2 330000 15000 100000) 1500
    ∷ refused (alone 1 2 330000 15001 100000) 7 1 0
    -- by D2: 13,500 × 1,500 / 1,727 = 11,725.5; its own time is then 2,250
    ∷ done (two 0 1 11426) (definite 110000 11426 (on_B 121000 1500 (drop 10 lent)))
    ∷ refused (two 0 1 11427) 7 2 0
    -- 10 though D2 would do with less: the motor's 100 + 300, at M = 1.001 of the feeder 13,500 × 10
    ∷ done (with (two 0 1 0) 1 22 121121) (definite 110000 100 (on_B 121000 10 (drop 10 lent)))
    -- the ceiling is judged at the row's own current only: 407 at the motor's, 78 at its own
    ∷ done (with (two 2 1 0) 2 17 78) (on_C 110000 10 (on_B 121000 52 (drop 10 lent)))
    ∷ refused (with (two 2 1 0) 2 17 77) 7 2 0
    ∷ []

-- one row on B or C that offers `low` first, with a greatest current of 110,000 or 2,200,000
abbrev offering : ℕ → ℕ → ℕ → List ℕ
offering low greatest floor = with (with (alone 1 1 greatest floor 100000) 1 5 99000) 1 12 low

-- A line of 400 V with a delay of 1, fed by a transformer of 6,000 V on C and keyed through 7 / 5 A at 15,873, which is 22,222.2 primary.
-- 999,999 mA at 400 V are 66,666.6 at 6,000 V: M is 3.000, and 301 asks k = 31. With a mA less it is 2.99999.., so 2.999, and k = 30 gives
-- 300.2, so 301. Rounding that current down or the pickup up would give 2.999 above, the other way round 3.000 below.
abbrev referred : ℕ → List ℕ
referred greatest =
    with (with (row_of 1 2 1 100000 1 1000 0 greatest []) 1 4 400) 1 9 220001 ++
    (2 ∷ 0 ∷ 2 ∷ 6000 ∷ 20000 ∷ 1000 ∷ 1000 ∷ 220000 ∷ 143000 ∷ 300000 ∷ 1000 ∷ 15873 ∷ 15873 ∷ 1 ∷
    1 ∷ 0 ∷ 1000 ∷ 0 ∷ 7 ∷ 5 ∷ 2 ∷ 222222 ∷ [])

abbrev referred_card : ℕ → List ℕ
referred_card k = 110000 ∷ 1 ∷ 0 ∷ 0 ∷ 0 ∷ 15873 ∷ 0 ∷ 0 ∷ 2 ∷ k ∷ drop 10 lent

-- a line keyed through 7 / 5 A at 110,003, which is 154,004.2 primary, on C with a ceiling of 100. 462,013 / 154,004.2 is 3.000 and 462,012 /
-- 154,004.2 is 2.999, which gives 100.1
abbrev keyed_at : ℕ → List ℕ
keyed_at greatest =
    1 ∷ 0 ∷ 1 ∷ 6000 ∷ 140000 ∷ 1000 ∷ 1000 ∷ 240000 ∷ 143000 ∷ 300000 ∷ 1000 ∷ 110003 ∷ 110003 ∷ 1 ∷
    1 ∷ 0 ∷ 100 ∷ 0 ∷ 7 ∷ 5 ∷ 2 ∷ greatest ∷ []

-- M: its bounds, its rounding, and what it is made of
unfoldable pub multiples : List Worked
multiples =
    -- at most 1.000 by the greatest current: 110,109 / 110,000 is 1.00099; at 1.001 B gives 135,000 with 10, above every ceiling
    refused (alone 1 1 110000 0 100000) 14 1 0
    ∷ refused (alone 1 1 110109 0 100000) 14 1 0
    ∷ refused (alone 1 1 110110 0 100000) 7 1 0
    ∷ gives_B (alone 1 1 110220 0 67500) 10
    ∷ refused (alone 1 1 110220 0 67499) 7 1 0
    ∷ refused (alone 1 1 1 0 100000) 14 1 0
    -- C: at 1.003 it is 133,134 with 10, at 1.004 99,801
    ∷ refused (alone 1 2 110109 0 100000) 14 1 0
    ∷ refused (alone 1 2 110330 0 100000) 7 1 0
    ∷ gives_C (alone 1 2 110440 0 99801) 10
    -- a definite row needs no M
    ∷ done (alone 1 0 1 0 1000) (definite 110000 0 (drop 5 lent))
    ∷ done (with (laws 0 0 0) 1 22 1) (definite 110000 100 (definite 121000 400 (incoming 700)))
    -- by the pickup: 110,000 / 109,780 is 1.002, / 109,781 and / 109,890 1.001, / 109,891 1.00099
    ∷ done (offering 109780 110000 0) (109780 ∷ 0 ∷ 153780 ∷ 1 ∷ 10 ∷ drop 5 lent)
    ∷ refused (offering 109781 110000 0) 7 1 0
    ∷ refused (offering 109890 110000 0) 7 1 0
    ∷ refused (offering 109891 110000 0) 14 1 0
    -- the row's own M at the current of the row that it feeds: 121,000 and 121,120 over 121,000 are 1.000, 121,121 is 1.001. The motor's 3,809.5
    -- or 3,770.01 is then below the feeder's 135,000, which at its own current is 15
    ∷ refused (with (with drive 1 17 5000) 1 22 121000) 14 2 0
    ∷ refused (with (with drive 1 17 5000) 1 22 121120) 14 2 0
    ∷ done (with (with drive 1 17 5000) 1 22 121121) (on_C 110000 10 (on_B 121000 10 (incoming 315)))
    -- and where that feeder has a delay, none is needed: the motor's 3,809.5 + 300
    ∷ done (with (with (with (two 2 0 0) 1 22 121000) 2 16 4100) 2 17 4110) (on_C 110000 10 (definite 121000 4110 (drop 10 lent)))
    -- at 20.000 B gives 27 with 38, at 19.999 it gives 27.001, so 28; above 20.000 as there
    ∷ gives_B (alone 1 1 2200000 28 1000) 39
    ∷ gives_B (alone 1 1 2199999 28 1000) 38
    ∷ gives_B (alone 1 1 2200110 28 1000) 39
    ∷ gives_B (alone 1 1 100000000 28 1000) 39
    -- 715 gives 508.03 at 20.000, and would give 507.9995 at 20.001
    ∷ gives_B (alone 1 1 2200110 509 1000) 715
    ∷ done (offering 110001 2200000 28) (110001 ∷ 0 ∷ 143001 ∷ 1 ∷ 38 ∷ drop 5 lent)
    -- C gives 80 with 399 at 20.000, and 80.008 at 19.999
    ∷ gives_C (alone 1 2 2200000 81 1000) 400
    ∷ gives_C (alone 1 2 2199999 81 1000) 399
    ∷ gives_C (alone 1 2 100000000 81 1000) 400
    -- so does the feeder at the greatest current of the row below: 13,500 × 421 / 19,000 = 299.1
    ∷ done (with (with (two 0 1 0) 1 3 1) 1 22 100000000) (definite 110000 0 (on_B 121000 421 (drop 10 lent)))
    -- currents referred by voltage, and a pickup that is a fraction
    ∷ done (referred 999999) (referred_card 31)
    ∷ done (referred 999998) (referred_card 30)
    ∷ done (keyed_at 462013) (110003 ∷ 0 ∷ 110003 ∷ 2 ∷ 10 ∷ drop 5 lent)
    ∷ refused (keyed_at 462012) 7 1 0
    ∷ []

-- a motor and a line under one line, with these laws, the last row having this floor. Its pickup is 231,000, by P2 1.1 × (110,000 + 100,000).
-- On C the motor takes 100; on B the line, at its 440,000 mA and so at M = 4.000, takes 4.5 k
abbrev pub fork : ℕ → ℕ → ℕ → ℕ → List ℕ
fork a b c floor =
    row_of 1 3 3 100000 0 1000 a 330000
    (row_of 2 3 1 100000 0 1000 b 440000
    (3 ∷ 0 ∷ 1 ∷ 6000 ∷ 150000 ∷ 1000 ∷ 1000 ∷ 1000000 ∷ 231000 ∷ 300000 ∷ 1000 ∷ 231000 ∷ 660000 ∷ 11000 ∷
    1 ∷ floor ∷ 1000 ∷ 0 ∷ 0 ∷ 0 ∷ c ∷ 2000000 ∷ []))

-- the last row of its card, by its pickup, delay, law and multiplier
abbrev pub joint : ℕ → ℕ → ℕ → ℕ → List ℕ
joint I t c k = I ∷ t ∷ 231000 ∷ c ∷ k ∷ 77 ∷ []

-- one row on B with M = 1.000
abbrev still : List ℕ
still = alone 1 1 110000 0 1000

-- the motor with this far, backed by a feeder that offers 143,000 and has M = 1.000 there. P4: 12 × 143,000 = 10 × 171,600
abbrev behind : ℕ → List ℕ
behind far = with (with (with (with (two 2 1 0) 2 12 143000) 2 22 143000) 1 18 1) 1 8 far

-- 14 CURVE in its order, and the row that it names
unfoldable pub places : List Worked
places =
    -- in one row: 11, 12 and 13 before it, 7 after it
    refused (with still 1 13 109999) 11 1 0
    ∷ refused (with still 1 8 164999) 12 1 0
    ∷ refused (behind 171599) 13 2 1
    ∷ refused (behind 171600) 14 2 0
    ∷ refused (with still 1 16 1001) 14 1 0
    ∷ refused (alone 1 1 220000 1001 1000) 7 1 0
    -- by its M at the motor's current: 12 before it, 7 after it
    ∷ refused (with (with (with drive 1 17 5000) 1 22 121000) 2 8 181499) 12 2 0
    ∷ refused (with (with (with drive 1 17 5000) 1 22 121000) 2 16 1001) 14 2 0
    -- row by row: 7 and 14 of row 1 before 11 of row 2, and of row 2 before 11 of row 3; 7 of row 1 before 14 of row 2, 14 before 14
    ∷ refused (with (with drive 1 17 99) 2 13 120999) 7 1 0
    ∷ refused (with (with drive 1 22 110000) 2 13 120999) 14 1 0
    ∷ refused (with drive 2 13 120999) 11 2 0
    ∷ refused (with (with drive 2 17 77) 3 13 142999) 7 2 0
    ∷ refused (with (with drive 2 22 121000) 3 13 142999) 14 2 0
    ∷ refused (with drive 3 13 142999) 11 3 0
    ∷ refused (with (with drive 1 17 99) 2 22 121000) 7 1 0
    ∷ refused (with (with drive 1 22 110000) 2 22 121000) 14 1 0
    -- above two rows: 100 + 300 and 45 + 300; on B at M = 1.428 and 1.904 that is 13 and 24
    ∷ done (fork 2 1 0 390) (on_C 110000 10 (on_B 110000 10 (joint 231000 400 0 0)))
    ∷ done (fork 2 1 1 0) (on_C 110000 10 (on_B 110000 10 (joint 231000 0 1 24)))
    -- its M at the one's current or at the other's: 231,000 over 231,000; 231,231 is 1.001, and the motor then asks the more
    ∷ refused (with (fork 2 1 1 0) 1 22 231000) 14 3 0
    ∷ refused (with (fork 2 1 1 0) 2 22 231000) 14 3 0
    ∷ done (with (fork 2 1 1 0) 2 22 231231) (on_C 110000 10 (on_B 110000 10 (joint 231000 0 1 13)))
    ∷ []

-- no room on a card of so many numbers for three rows
abbrev no_room : ℕ → Worked
no_room n = worked (calculates drive (take n lent)) (calculated (3 ∷ 0 ∷ 0 ∷ []) (take n lent))

-- the two new fields, and the counts
unfoldable pub fields : List Worked
fields =
    refused (with drive 1 21 3) 4 1 21
    ∷ refused (with drive 2 22 0) 4 2 22
    ∷ refused (with drive 3 22 100000001) 4 3 22
    -- of a definite row too
    ∷ refused (with (laws 0 0 0) 1 22 0) 4 1 22
    -- 20, 21, 22 in their order; both before low above high and before high above 100,000,000 mA primary
    ∷ refused (with (with drive 1 20 1) 1 21 3) 4 1 20
    ∷ refused (with (with drive 1 21 3) 1 22 0) 4 1 21
    ∷ refused (with (with drive 1 21 3) 1 12 220001) 4 1 21
    ∷ refused (with (with drive 1 22 0) 1 12 220001) 4 1 22
    ∷ refused (with drive 1 12 220001) 4 1 12
    ∷ refused (with (with (with drive 1 19 20000) 1 20 5) 1 21 3) 4 1 21
    ∷ refused (with (with (with drive 1 19 20000) 1 20 5) 1 22 100000001) 4 1 22
    ∷ refused (with (with drive 1 19 20000) 1 20 5) 4 1 13
    -- the first row; 4 over all rows before 5, and before 14 in an earlier row
    ∷ refused (with (with drive 1 22 0) 2 21 3) 4 1 22
    ∷ refused (with (with drive 2 2 2) 3 21 3) 4 3 21
    ∷ refused (with (with drive 1 22 1) 3 21 3) 4 3 21
    -- rows of 20 and of 21 numbers; room for 3 and for 4 numbers a row, and for one number less than 5
    ∷ refused (take 60 drive) 2 0 0
    ∷ refused (take 63 drive) 2 0 0
    ∷ no_room 9 ∷ no_room 12 ∷ no_room 14
    ∷ worked (calculates drive (take 15 lent)) (calculated (0 ∷ 0 ∷ 0 ∷ []) (take 15 (on_C 110000 10 (on_B 121000 52 (incoming 378)))))
    ∷ []

unfoldable pub curve_table : List Worked
curve_table = curves ++ (bounds ++ (multiples ++ (places ++ fields)))
