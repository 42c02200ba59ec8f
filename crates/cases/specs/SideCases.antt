-- [02 §1] Worked cases of rows that are keyed at the secondary side of their current transformers: the two ratings and what they leave to
-- low, high and step, the conditions on true fractions of a mA, and the lent card. Each was worked out from the documents by hand, on both
-- sides of its bound; where a primary pickup is no whole mA, rounding it down or up would give another answer, and the comment says which.
-- With 0 in both ratings stand all rows of the other two tables. Rows, fields and places are counted from 1. Definitions only.
use Rattle.std.specs.Prelude.{List, [], ◌∷◌, ◌++◌, ℕ, ◌-◌, set, drop}
use Rattle.cases.specs.Case.{Worked}
use Rattle.cases.specs.MoreCases.{with, row, lent, done, refused, becomes, kept_in, chain}

-- a row of a list offering other pickups, or with other ratings
abbrev offers : List ℕ → ℕ → ℕ → ℕ → ℕ → List ℕ
offers l n low high step = with (with (with l n 12 low) n 13 high) n 14 step

abbrev rated : List ℕ → ℕ → ℕ → ℕ → List ℕ
rated l n primary secondary = with (with l n 19 primary) n 20 secondary

-- A motor keyed through 7 / 5 A: x mA at its relay are 7 × x / 5 primary, so that P1 reads 14 × x × 1,000 ≥ 11 × 1,000 × 140,003, and
-- 110,003 are 154,004.2. P3: 15 × 154,004.2 = 2,310,063 ≤ 10 × 231,007. Cutoff: 1,400 × 110,006 = 1,300 × 118,468, at 154,008.4,
-- and 20 × 154,008.4 = 3,080,168 ≤ 10 × 308,017.
abbrev motor_row : ℕ → ℕ → List ℕ → List ℕ
motor_row n feeder rest =
    n ∷ feeder ∷ 3 ∷ 6000 ∷ 140003 ∷ 1000 ∷ 1000 ∷ 231007 ∷ 118468 ∷ 308017 ∷ 1300 ∷ 110001 ∷ 110021 ∷ 1 ∷
    1 ∷ 0 ∷ 1000 ∷ 0 ∷ 7 ∷ 5 ∷ 0 ∷ 308017 ∷ rest

unfoldable pub motor : List ℕ
motor = motor_row 1 0 []

-- A motor keyed through 75 / 1 A. P1: 10 × 75 × 2,200 = 11 × 150,000. P3: 15 × 165,000 = 10 × 247,500. Cutoff: 1,000 × 75 × 2,210 =
-- 1,300 × 127,500, and 20 × 165,750 = 10 × 331,500.
abbrev small_row : ℕ → ℕ → List ℕ → List ℕ
small_row n feeder rest =
    n ∷ feeder ∷ 3 ∷ 6000 ∷ 150000 ∷ 1000 ∷ 1000 ∷ 247500 ∷ 127500 ∷ 331500 ∷ 1300 ∷ 2199 ∷ 2219 ∷ 1 ∷
    1 ∷ 0 ∷ 1000 ∷ 0 ∷ 75 ∷ 1 ∷ 0 ∷ 331500 ∷ rest

unfoldable pub small : List ℕ
small = small_row 1 0 []

-- a motor by itself is done with this pickup and this cutoff
abbrev keys : List ℕ → ℕ → ℕ → Worked
keys l I C = done l (I ∷ 100 ∷ C ∷ 0 ∷ 0 ∷ drop 5 lent)

-- the motor keyed through 7 / 5 A and offering pickups from `low` on, fed by a line keyed in primary mA. By P2 the line needs 1.1 times
-- the motor's primary pickup
unfoldable pub under_line : ℕ → List ℕ
under_line low =
    with (with (offers (motor_row 1 2 []) 1 low 110040 1) 1 8 300000) 1 10 400000 ++
    (2 ∷ 0 ∷ 1 ∷ 6000 ∷ 100000 ∷ 1000 ∷ 1000 ∷ 300000 ∷ 169440 ∷ 300000 ∷ 1000 ∷ 169430 ∷ 169460 ∷ 1 ∷
    1 ∷ 0 ∷ 1000 ∷ 0 ∷ 0 ∷ 0 ∷ 0 ∷ 300000 ∷ [])

-- A line of 400 V keyed in primary mA, with a pickup of 3,500,100 or more, fed by a transformer of 10,000 V keyed through 7 / 5 A. P2: 10 ×
-- 7 × x / 5 × 10,000 ≥ 11 × 3,500,100 × 400, so 350 × x ≥ 11 × 3,500,100
unfoldable pub supply : List ℕ
supply =
    1 ∷ 2 ∷ 1 ∷ 400 ∷ 2000000 ∷ 1000 ∷ 1000 ∷ 5300000 ∷ 3500600 ∷ 5000000 ∷ 1000 ∷ 3500100 ∷ 3500600 ∷ 250 ∷
    1 ∷ 0 ∷ 1000 ∷ 0 ∷ 0 ∷ 0 ∷ 0 ∷ 5000000 ∷
    2 ∷ 0 ∷ 2 ∷ 10000 ∷ 100000 ∷ 1000 ∷ 1000 ∷ 300000 ∷ 118468 ∷ 308017 ∷ 1300 ∷ 110001 ∷ 110021 ∷ 1 ∷
    1 ∷ 0 ∷ 1000 ∷ 0 ∷ 7 ∷ 5 ∷ 0 ∷ 308017 ∷ []

-- its card, by the pickups of both rows
abbrev supply_card : ℕ → ℕ → List ℕ
supply_card I J = I ∷ 0 ∷ 3500600 ∷ 0 ∷ 0 ∷ J ∷ 300 ∷ 110006 ∷ 0 ∷ 0 ∷ drop 10 lent

-- the same with 3,000,000 as the line's only pickup, this far and backed, and the transformer offering pickups from 110,011 on, which are
-- 154,015.4 primary. P4: 12 × 154,015.4 × 10,000 = 10 × 4,620,462 × 400
abbrev backed : ℕ → List ℕ
backed far = with (with (with (offers supply 1 3000000 3000000 1) 1 8 far) 1 18 1) 2 12 110011

-- Both motors fed by a transformer keyed through 100 / 5 A, which is 20 × x. P2 above the second: 10 × 20 × x ≥ 11 × (165,000 + 140,003),
-- so x ≥ 16,775.2; above the first less. Cutoff: 1,000 × 20 × 16,796 = 1,300 × 258,400.
unfoldable pub pair : List ℕ
pair =
    motor_row 1 3 (small_row 2 3
    (3 ∷ 0 ∷ 2 ∷ 6000 ∷ 290000 ∷ 1000 ∷ 1000 ∷ 600000 ∷ 258400 ∷ 671840 ∷ 1300 ∷ 16770 ∷ 16800 ∷ 1 ∷
    1 ∷ 0 ∷ 1000 ∷ 0 ∷ 100 ∷ 5 ∷ 0 ∷ 671840 ∷ []))

-- its card, by the first row's pickup and cutoff and the last row's pickup
abbrev pair_with : ℕ → ℕ → ℕ → List ℕ
pair_with I C J = I ∷ 100 ∷ C ∷ 0 ∷ 0 ∷ 2200 ∷ 100 ∷ 2210 ∷ 0 ∷ 0 ∷ J ∷ 400 ∷ 16796 ∷ 0 ∷ 0 ∷ 77 ∷ []

unfoldable pub pair_card : List ℕ
pair_card = pair_with 110003 110006 16776

-- the conditions
unfoldable pub on_fractions : List Worked
on_fractions =
    keys motor 110003 110006
    -- P1: 14 × 110,011 = 11 × 140,014; rounded down, 10 × 154,015 would not do
    ∷ keys (with (with motor 1 5 140014) 1 8 231024) 110011 110006
    -- 14 × 110,003 = 1,540,042 < 11 × 140,004; rounded up, 10 × 154,005 would do
    ∷ keys (with (with motor 1 5 140004) 1 8 231024) 110004 110006
    -- the greatest offered is the least that P1 allows, and one step off
    ∷ keys (with motor 1 13 110003) 110003 0
    ∷ refused (with motor 1 13 110002) 11 1 0
    -- P3: 2,310,063 ≤ 10 × 231,007 above, where rounded up it would be 15 × 154,005 = 2,310,075; with a mA less it is refused, where
    -- rounded down it would be 15 × 154,004 = 10 × 231,006
    ∷ refused (with motor 1 8 231006) 12 1 0
    -- the cutoff stays clear: with a mA more, 13 × 118,469 = 1,540,097 > 14 × 110,006; rounded down, 1,000 × 154,008 would not even do above
    ∷ keys (with (with motor 1 9 118469) 1 10 400000) 110003 110007
    -- 14 × 110,013 = 1,540,182 < 13 × 118,476 = 1,540,188; rounded up, 1,000 × 154,019 would do
    ∷ keys (with (with motor 1 9 118476) 1 10 400000) 110003 110014
    -- its near fault: 3,080,168 ≤ 10 × 308,017 above, where rounded up it would be 20 × 154,009 = 3,080,180; with a mA less it is not
    -- fitted, where rounded down it would be 20 × 154,008 = 10 × 308,016
    ∷ keys (with motor 1 10 308016) 110003 0
    -- the same as a line: 12 × 154,008.4 = 1,848,100.8
    ∷ done (with (with motor 1 3 1) 1 10 184811) (110003 ∷ 0 ∷ 110006 ∷ 0 ∷ 0 ∷ drop 5 lent)
    ∷ done (with (with motor 1 3 1) 1 10 184810) (110003 ∷ 0 ∷ 0 ∷ 0 ∷ 0 ∷ drop 5 lent)
    -- through 75 / 1 A each condition at equality, and a mA off
    ∷ keys small 2200 2210
    ∷ keys (with (with small 1 5 150001) 1 8 300000) 2201 2210
    ∷ refused (with small 1 8 247499) 12 1 0
    ∷ keys (with (with small 1 9 127501) 1 10 400000) 2200 2211
    ∷ keys (with small 1 10 331499) 2200 0
    -- P2 above a row keyed at the secondary side: 1.1 × 154,030.8 = 169,433.88, where rounded down 169,433 would do and rounded up 169,434
    -- would not; 1.1 × 154,050.4 = 169,455.44 likewise
    ∷ done (under_line 110022) (110022 ∷ 100 ∷ 110022 ∷ 0 ∷ 0 ∷ 169434 ∷ 400 ∷ 169440 ∷ 0 ∷ 0 ∷ drop 10 lent)
    ∷ done (under_line 110036) (110036 ∷ 100 ∷ 110036 ∷ 0 ∷ 0 ∷ 169456 ∷ 400 ∷ 169440 ∷ 0 ∷ 0 ∷ drop 10 lent)
    -- P4 of it: its far is primary, 10 × 240,000 = 12 × 200,000
    ∷ done (with (with (offers (under_line 110022) 2 200000 200000 1) 1 8 240000) 1 18 1)
    (110022 ∷ 100 ∷ 110022 ∷ 0 ∷ 0 ∷ 200000 ∷ 400 ∷ 200000 ∷ 0 ∷ 0 ∷ drop 10 lent)
    ∷ refused (with (with (offers (under_line 110022) 2 200000 200000 1) 1 8 239999) 1 18 1) 13 2 1
    -- P2 of a row keyed there above one in primary mA: 350 × 110,003 = 38,501,050 < 11 × 3,500,100, where rounded up 10 × 154,005 × 10,000 =
    -- 15,400,500,000 ≥ 4,400 × 3,500,100 = 15,400,440,000 would do; 350 × 110,011 = 11 × 3,500,350, where rounded down it would not
    ∷ done supply (supply_card 3500100 110004)
    ∷ done (with supply 1 12 3500350) (supply_card 3500350 110011)
    ∷ refused (with (with supply 1 12 3500350) 2 13 110010) 11 2 0
    -- P4 at equality, where rounded up 12 × 154,016 × 10,000 would be above; with a mA less in far it is refused, where rounded down
    -- 12 × 154,015 × 10,000 = 18,481,800,000 ≤ 10 × 4,620,461 × 400 = 18,481,844,000 would do. The cutoff, 110,011, does not see its near fault
    ∷ done (backed 4620462) (3000000 ∷ 0 ∷ 0 ∷ 0 ∷ 0 ∷ 110011 ∷ 300 ∷ 0 ∷ 0 ∷ 0 ∷ drop 10 lent)
    ∷ refused (backed 4620461) 13 2 1
    -- 1 A beside 5 A under one transformer: 200 × 16,775 = 11 × (165,000 + 140,000), and a step below
    ∷ done pair pair_card
    ∷ done (with pair 1 5 140000) (pair_with 110001 110006 16775)
    ∷ refused (with (with pair 1 5 140000) 3 13 16774) 11 3 0
    -- above the first: 11 × (154,030.8 + 150,000) = 3,344,338.8, so 16,721.7, the second asking 11 × (165,000 + 138,000) = 3,333,000; its
    -- cutoff, at 154,030.8, does not see its near fault
    ∷ done (offers (with (with (offers pair 1 110022 110040 1) 1 5 138000) 1 8 300000) 3 16716 16796 1) (pair_with 110022 0 16722)
    -- 20 / 1 A is the same ratio; in steps of 12 mA at the relay, and the cutoff then does not see its near fault
    ∷ done (rated pair 3 20 1) pair_card
    ∷ done (with (with pair 3 13 16806) 3 14 12) (set (pair_with 110003 110006 16782) 12 0)
    -- P3: 15 × 20 × 16,776 = 10 × 503,280
    ∷ done (with pair 3 8 503280) pair_card
    ∷ refused (with pair 3 8 503279) 12 3 0
    ∷ []

-- row 1 of a list is refused as FIELD
abbrev fault : List ℕ → ℕ → Worked
fault l field = refused l 4 1 field

-- the motor offering 1,000 and 500,000 through these ratings, and with a far and a near for 200,000 primary
abbrev up_to : ℕ → ℕ → List ℕ
up_to primary secondary = with (with (rated (offers motor 1 1000 500000 499000) 1 primary secondary) 1 8 300000) 1 10 400000

-- it offering `low` and `high`, `low` being 400,000 primary or less
abbrev between : ℕ → ℕ → ℕ → ℕ → List ℕ
between low high primary secondary = with (with (rated (offers motor 1 low high (high - low)) 1 primary secondary) 1 8 600000) 1 10 800000

-- the ratings, and what they leave to low, high and step
unfoldable pub ratings : List Worked
ratings =
    -- to 500,000 where there is a ratio, here 15 × 700,000 = 10 × 1,050,000; beyond where there is none
    keys (with (offers motor 1 500000 500000 1) 1 8 1050000) 500000 0
    ∷ fault (offers motor 1 500001 500001 500001) 12
    ∷ fault (offers motor 1 110001 500001 500001) 13
    ∷ fault (with motor 1 14 500001) 14
    ∷ keys (with (with motor 1 14 500000) 1 5 140000) 110001 0
    ∷ keys (with (with (rated (offers motor 1 500001 500001 500001) 1 0 0) 1 8 750002) 1 10 1000002) 500001 500001
    ∷ fault (with motor 1 12 0) 12 ∷ fault (with motor 1 13 0) 13 ∷ fault (with motor 1 14 0) 14
    -- 19: 20,000 and one more
    ∷ keys (between 100 25000 20000 5) 100 100
    ∷ fault (between 100 25000 20001 5) 19
    -- 20: 1 or 5 with a rated primary, 0 without
    ∷ fault (with motor 1 20 0) 20 ∷ fault (with motor 1 20 2) 20 ∷ fault (with motor 1 20 3) 20
    ∷ fault (with motor 1 20 4) 20 ∷ fault (with motor 1 20 6) 20
    ∷ fault (rated motor 1 0 1) 20 ∷ fault (rated motor 1 0 5) 20 ∷ fault (rated motor 1 0 6) 20
    -- the first field: 12, 13 and 14 as any rated primary but 0 bounds them, before 19 and 20; with 0 there they are primary, and 20 is named
    ∷ fault (rated (offers motor 1 500001 500001 1) 1 20001 0) 12
    ∷ fault (rated (with motor 1 14 500001) 1 20001 0) 14
    ∷ fault (rated motor 1 20001 0) 19
    ∷ fault (rated (offers motor 1 500001 500001 1) 1 0 5) 20
    -- high at 100,000,000 mA primary: 500,000 × 200 / 1 and × 1,000 / 5, 25,000 × 20,000 / 5 and 5,000 × 20,000 / 1; and one above
    ∷ keys (up_to 200 1) 1000 1000 ∷ fault (up_to 201 1) 13
    ∷ keys (up_to 1000 5) 1000 1000 ∷ fault (up_to 1001 5) 13
    ∷ fault (between 100 25001 20000 5) 13
    ∷ keys (between 20 5000 20000 1) 20 20 ∷ fault (between 20 5001 20000 1) 13
    -- after the other tests of its row: low above high, and the fields behind it
    ∷ fault (with (with (up_to 1001 5) 1 13 499999) 1 12 500000) 12
    ∷ fault (with (up_to 1001 5) 1 14 0) 14
    ∷ fault (with (up_to 1001 5) 1 15 4) 15
    ∷ fault (with (up_to 1001 5) 1 16 100001) 16
    ∷ fault (with (up_to 1001 5) 1 17 100001) 17
    ∷ fault (with (up_to 1001 5) 1 18 2) 18
    ∷ fault (with (up_to 1001 5) 1 19 20001) 19
    ∷ fault (with (up_to 1001 5) 1 20 2) 20
    -- but before the next row, and before 5: with high 500,000 through 1,001 / 5 A in row 1, row 2 of no kind, or fed by itself
    ∷ refused (with (with (with pair 1 13 500000) 1 19 1001) 2 3 4) 4 1 13
    ∷ refused (with (with (with pair 1 13 500000) 1 19 1001) 2 2 2) 4 1 13
    ∷ []

-- row n of the pair replaced by itself on this card: done, m rows being worked out, with the card that is left; or refused with a number at
-- a row
abbrev again : List ℕ → ℕ → ℕ → List ℕ → Worked
again c n m c' = becomes pair c n m pair c'

abbrev held : List ℕ → ℕ → ℕ → ℕ → Worked
held c n number at = kept_in pair c n (row n pair) number at 0

-- 9 CARD
unfoldable pub lent_cards : List Worked
lent_cards =
    -- row 2, off the path: 500,000 are 37,500,000 primary, more than row 3 can be set above
    held (set pair_card 5 500000) 1 11 3
    ∷ held (set pair_card 5 500001) 1 9 2
    ∷ held (set pair_card 5 0) 1 9 2
    ∷ again (set pair_card 7 500000) 1 2 (set pair_card 7 500000)
    ∷ held (set pair_card 7 500001) 1 9 2
    ∷ held (set pair_card 6 100000) 1 7 3
    ∷ held (set pair_card 6 100001) 1 9 2
    -- read by its ratio: 11 × (75 × 2,201 + 140,003) = 3,355,858, so 16,779.3
    ∷ again (set pair_card 5 2201) 1 2 (set (pair_with 110003 110006 16780) 5 2201)
    -- row 3, on the path
    ∷ again (set pair_card 10 500000) 1 2 pair_card
    ∷ held (set pair_card 10 500001) 1 9 3
    ∷ again (set pair_card 12 500000) 1 2 pair_card
    ∷ held (set pair_card 12 500001) 1 9 3
    ∷ again (set pair_card 11 100000) 1 2 pair_card
    ∷ held (set pair_card 11 100001) 1 9 3
    -- the replaced row, first on the path and last
    ∷ again (set pair_card 0 100000000) 1 2 pair_card
    ∷ held (set pair_card 0 100000001) 1 9 1
    ∷ held (set pair_card 0 0) 1 9 1
    ∷ again (set pair_card 2 100000000) 1 2 pair_card
    ∷ held (set pair_card 2 100000001) 1 9 1
    ∷ again (set pair_card 1 100000) 1 2 pair_card
    ∷ held (set pair_card 1 100001) 1 9 1
    ∷ again (set (set pair_card 10 100000000) 12 100000000) 3 1 pair_card
    ∷ held (set pair_card 10 100000001) 3 9 3
    ∷ held (set (set pair_card 10 100000000) 0 500001) 3 9 1
    -- 500,000 through 20,000 / 1 A are 10,000,000,000 primary
    ∷ kept_in (rated (offers pair 2 5 5 1) 2 20000 1) (set pair_card 5 500000) 1 (row 1 pair) 11 3 0
    -- a row keyed in primary mA beside the replaced one: to 100,000,000
    ∷ becomes supply (supply_card 3500100 110004) 2 1 supply (supply_card 3500100 110004)
    ∷ kept_in supply (supply_card 100000000 110004) 2 (row 2 supply) 11 2 0
    ∷ kept_in supply (supply_card 100000001 110004) 2 (row 2 supply) 9 1 0
    -- 4 before it, in a new row too
    ∷ kept_in pair (set pair_card 5 500001) 1 (row 1 (with (with pair 1 13 500000) 1 19 1001)) 4 1 13
    ∷ kept_in pair (set pair_card 5 500001) 1 (row 1 (with pair 1 14 500001)) 4 1 14
    ∷ []

-- the pair with its first motor keyed in primary mA: 154,004 by P1 and 154,009 as cutoff, and 20 × 154,009 is above 10 × 308,017
abbrev primary_pair : List ℕ
primary_pair = rated (offers pair 1 154000 154020 1) 1 0 0

abbrev primary_pair_card : List ℕ
primary_pair_card = pair_with 154004 0 16776

-- the chain with row n keyed through 100 / 5 A, in steps of 55 mA from `low` on: from 550 on they are the chain's own pickups
abbrev keyed_chain : ℕ → ℕ → List ℕ
keyed_chain n low = rated (offers (chain 1 1 1) n low 55000 55) n 100 5

-- cards of the chain, by their first two rows and the third; a third row that is not the chain's
abbrev chain_with : ℕ → ℕ → ℕ → ℕ → List ℕ → List ℕ
chain_with I C I₂ C₂ rest = I ∷ 100 ∷ C ∷ 0 ∷ 0 ∷ I₂ ∷ 400 ∷ C₂ ∷ 0 ∷ 0 ∷ rest

abbrev other : List ℕ
other = 9 ∷ 9 ∷ 9 ∷ 0 ∷ 0 ∷ 77 ∷ []

-- a row goes over to the other side
unfoldable pub exchanges : List Worked
exchanges =
    becomes pair pair_card 1 2 primary_pair primary_pair_card
    ∷ becomes primary_pair primary_pair_card 1 2 pair pair_card
    -- whatever it was and will be, its card row is held to 100,000,000
    ∷ becomes pair (set (set pair_card 0 100000000) 2 100000000) 1 2 primary_pair primary_pair_card
    ∷ becomes primary_pair (set (set primary_pair_card 0 100000000) 2 100000000) 1 2 pair pair_card
    ∷ kept_in pair (set pair_card 0 100000001) 1 (row 1 primary_pair) 9 1 0
    ∷ kept_in primary_pair (set primary_pair_card 0 100000001) 1 (row 1 pair) 9 1 0
    ∷ kept_in pair (set pair_card 2 100000001) 1 (row 1 primary_pair) 9 1 0
    ∷ kept_in primary_pair (set primary_pair_card 2 100000001) 1 (row 1 pair) 9 1 0
    -- the new row is held to what its own ratings allow
    ∷ kept_in pair pair_card 1 (row 1 (offers pair 1 500001 500001 1)) 4 1 12
    ∷ kept_in primary_pair primary_pair_card 1 (row 1 (with primary_pair 1 20 5)) 4 1 20
    -- [02 §8] the chain's first row to the secondary side and back: 5,500 × 20 = 110,000 and 11,000 × 20 = 220,000, so the second row is as it
    -- was and stops the climb
    ∷ becomes (chain 1 1 1) (chain_with 110000 220000 121000 220000 other) 1 2 (keyed_chain 1 550) (chain_with 5500 11000 121000 220000 other)
    ∷ becomes (keyed_chain 1 550) (chain_with 5500 11000 121000 220000 other) 1 2 (chain 1 1 1) (chain_with 110000 220000 121000 220000 other)
    -- 5,501 × 20 = 110,020, and 1.1 times that is above 121,000: the second row goes to 122,100, and the third to 135,300. The cutoff would be
    -- 11,001 × 20 = 220,020, and 12 times that is above 10 × 264,000
    ∷ becomes (chain 1 1 1) (chain_with 110000 220000 121000 220000 other) 1 3 (keyed_chain 1 551)
    (chain_with 5501 0 122100 220000 (135300 ∷ 700 ∷ 220000 ∷ 0 ∷ 0 ∷ 77 ∷ []))
    -- the second keyed there, 6,050 × 20 = 121,000: it stops the climb where its card row is as it was on its own side
    ∷ becomes (keyed_chain 2 550) (chain_with 110000 220000 6050 11000 other) 1 2 (with (keyed_chain 2 550) 1 5 90000)
    (chain_with 99000 220000 6050 11000 other)
    ∷ becomes (keyed_chain 2 550) (chain_with 110000 220000 121000 220000 other) 1 3 (with (keyed_chain 2 550) 1 5 90000)
    (chain_with 99000 220000 6050 11000 (133100 ∷ 700 ∷ 220000 ∷ 0 ∷ 0 ∷ 77 ∷ []))
    -- and it replaced, in both directions, on the card of the whole list
    ∷ becomes (chain 1 1 1) (chain_with 110000 220000 121000 220000 (133100 ∷ 700 ∷ 220000 ∷ 0 ∷ 0 ∷ 77 ∷ [])) 2 2 (keyed_chain 2 550)
    (chain_with 110000 220000 6050 11000 (133100 ∷ 700 ∷ 220000 ∷ 0 ∷ 0 ∷ 77 ∷ []))
    ∷ becomes (keyed_chain 2 550) (chain_with 110000 220000 6050 11000 (133100 ∷ 700 ∷ 220000 ∷ 0 ∷ 0 ∷ 77 ∷ [])) 2 2 (chain 1 1 1)
    (chain_with 110000 220000 121000 220000 (133100 ∷ 700 ∷ 220000 ∷ 0 ∷ 0 ∷ 77 ∷ []))
    ∷ []

unfoldable pub side_table : List Worked
side_table = on_fractions ++ (ratings ++ (lent_cards ++ exchanges))
