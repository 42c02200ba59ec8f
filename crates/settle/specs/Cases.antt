-- [01 §3, §4], [02 §1, §2, §3, §5] Worked cases of one row's conditions and of its settling, each worked out by hand from the section, on
-- each side of every bound. Rows are named by their numbers, from 1. Definitions only.
use Rattle.settle.specs.Outcomes.{Settled}
use Rattle.answers.specs.declared.Refusal.TheVariants.{Unsettled}
use Rattle.std.specs.Prelude.{Bool, true, false, not, cond, ◌&&◌, List, [], ◌∷◌, ℕ, zero, suc, ◌+◌, ◌-◌, ◌*◌, eqb, set, Ok, Err}
use Rattle.answers.specs.Answer.{given_by}
use Rattle.layout.specs.Card.{columns_of}
use Rattle.layout.specs.Counts.{field_count}
use Rattle.layout.specs.Fields.{at_kind, at_work, at_far, at_near, at_low, at_high, at_step, at_device, at_floor, at_ceiling, at_backed}
use Rattle.layout.specs.Fields.{at_primary, at_secondary, at_law, at_greatest}
use Rattle.layout.specs.View.{view_of, Settings}
use Rattle.layout.specs.declared.CardRow.{CardRow}
use Rattle.layout.specs.declared.Row.{Row}
use Rattle.sides.specs.declared.Primary.{Primary}
use Rattle.sides.specs.Sides.{milliamperes, keyed}
use Rattle.settle.specs.Conditions.{primary_of, each_fed, returns_after_self_start, clear_of, sees_own_zone, backs_up}
use Rattle.settle.specs.Conditions.{multiple_at, time_at, within_delays, margin_between, graded_above, stays_clear, sees_near}
use Rattle.settle.specs.Settle.{shown, settled}

-- A line (6,000 V) fed by a transformer (10,000 V, not backed), which with a motor (400 V) is fed by a line (6,000 V). Their
-- devices are 1, 2, 3 and 1.
unfoldable pub network : List ℕ
network =
    1 ∷ 2 ∷ 1 ∷ 6000 ∷ 10000 ∷ 1100 ∷ 1000 ∷ 90000 ∷ 100000 ∷ 146520 ∷ 1200 ∷
    2100 ∷ 502100 ∷ 10000 ∷ 1 ∷ 0 ∷ 1000 ∷ 1 ∷ 0 ∷ 0 ∷ 0 ∷ 146520 ∷
    2 ∷ 4 ∷ 2 ∷ 10000 ∷ 30000 ∷ 1000 ∷ 800 ∷ 80000 ∷ 500000 ∷ 1002500 ∷ 1000 ∷
    1250 ∷ 1001250 ∷ 10000 ∷ 2 ∷ 0 ∷ 900 ∷ 0 ∷ 0 ∷ 0 ∷ 0 ∷ 1002500 ∷
    3 ∷ 4 ∷ 3 ∷ 400 ∷ 150000 ∷ 5000 ∷ 1000 ∷ 2250000 ∷ 1000000 ∷ 3050000 ∷ 1500 ∷
    25000 ∷ 9925000 ∷ 100000 ∷ 3 ∷ 0 ∷ 500 ∷ 1 ∷ 0 ∷ 0 ∷ 0 ∷ 3050000 ∷
    4 ∷ 0 ∷ 1 ∷ 6000 ∷ 50000 ∷ 1600 ∷ 880 ∷ 300000 ∷ 1000000 ∷ 1561200 ∷ 1300 ∷ 61000 ∷ 1921000 ∷ 20000 ∷ 1 ∷ 1000 ∷
    1500 ∷ 0 ∷ 0 ∷ 0 ∷ 0 ∷ 1561200 ∷ []

abbrev row_of : List ℕ → ℕ → Row
row_of l n = (view_of l).row (n - 1)

abbrev row : ℕ → Row
row n = row_of network n

-- the list with another number in a field of row n
abbrev pub with : List ℕ → ℕ → ℕ → ℕ → List ℕ
with l n k x = set l ((n - 1) * field_count + k) x

-- and with a current transformer there
abbrev pub ratio : List ℕ → ℕ → ℕ → ℕ → List ℕ
ratio l n primary secondary = with (with l n at_primary primary) n at_secondary secondary

-- and with other pickups that the relay offers
abbrev pub offers : List ℕ → ℕ → ℕ → ℕ → ℕ → List ℕ
offers l n low high step = with (with (with l n at_low low) n at_high high) n at_step step

-- and with another law; with another greatest current at its near end
abbrev pub law : List ℕ → ℕ → ℕ → List ℕ
law l n x = with l n at_law x

abbrev pub current : List ℕ → ℕ → ℕ → List ℕ
current l n x = with l n at_greatest x

-- so many mA on the primary side, a fifth of a mA less, and a fifth of a mA more
abbrev mA : ℕ → Primary
mA x = milliamperes x

abbrev under : ℕ → Primary
under x = record { 0 = 5 * x - 1 }

abbrev over : ℕ → Primary
over x = record { 0 = 5 * x + 1 }

-- the settings of the rows below: pickup and delay; pickup, curve and multiplier
abbrev card : ℕ → ℕ → CardRow
card I t = record { pickup = keyed I; delay = t; cutoff = keyed 0; law = 0; multiplier = 0 }

abbrev curve : ℕ → ℕ → ℕ → CardRow
curve I law x = record { pickup = keyed I; delay = 0; cutoff = keyed 0; law = law; multiplier = x }

unfoldable pub below : Settings
below zero = card 20000 400
below (suc zero) = card 60000 700
below (suc (suc j)) = card 750000 100

-- and with others for row n
abbrev but : Settings → ℕ → CardRow → Settings
but k n s j = cond (eqb j (n - 1)) s (k j)

-- every case of a table is as the section says
unfoldable pub all : List Bool → Bool
all [] = true
all (b ∷ bs) = b && all bs

-- what it says of a test
abbrev holds : Bool → Bool
holds b = b

abbrev fails : Bool → Bool
fails b = not b

-- P2 of row n above row m, and above every row that it feeds; D2 of row n above row m, and the step between two devices; the others
-- are named as they are
abbrev clear_above : ℕ → ℕ → Primary → Bool
clear_above n m I = clear_of (view_of network) below (n - 1) (m - 1) I

abbrev clear_above_all : ℕ → Primary → Bool
clear_above_all n I = each_fed (view_of network) (n - 1) (λ j. clear_of (view_of network) below (n - 1) j I)

abbrev later_than : ℕ → ℕ → ℕ → Bool
later_than n m t = graded_above (row n) (row m) (below (m - 1)) (mA 1) t

abbrev step_is : ℕ → ℕ → ℕ → Bool
step_is d e x = eqb (margin_between d e) x

-- M of row n at the near end of row m: with the primary pickup I, and with the pickup I as it is keyed
abbrev multiple_is : List ℕ → ℕ → ℕ → Primary → ℕ → Bool
multiple_is l n m I x = eqb (multiple_at (row_of l n) (row_of l m) I) x

abbrev keyed_multiple_is : List ℕ → ℕ → ℕ → ℕ → ℕ → Bool
keyed_multiple_is l n m I x = multiple_is l n m (primary_of (row_of l n) (keyed I)) x

-- D1 of the setting x of row n at the pickup I; D2 of it above row m with the settings s
abbrev timely : List ℕ → ℕ → Primary → ℕ → Bool
timely l n I x = within_delays (row_of l n) (time_at (row_of l n) (row_of l n) I x)

abbrev graded : List ℕ → ℕ → ℕ → CardRow → Primary → ℕ → Bool
graded l n m s I x = graded_above (row_of l n) (row_of l m) s I x

-- row 2's near end at 1,200,000 mA, which is 2,000,000 mA at the 6,000 V of row 4: M of row 4 there is 2 at 1,000,000 mA; of row 2, 3 at 400,000 mA
abbrev near : List ℕ
near = current network 2 1200000

unfoldable pub conditions : List Bool
conditions =
    -- P1: 10 × 12,100 × 1,000 = 11 × 1,100 × 10,000, and the same of rows 2, 3 and 4
    holds (returns_after_self_start (row 1) (mA 12100)) ∷ fails (returns_after_self_start (row 1) (under 12100))
    ∷ holds (returns_after_self_start (row 2) (mA 41250)) ∷ fails (returns_after_self_start (row 2) (under 41250))
    ∷ holds (returns_after_self_start (row 3) (mA 825000)) ∷ fails (returns_after_self_start (row 3) (under 825000))
    ∷ holds (returns_after_self_start (row 4) (mA 100000)) ∷ fails (returns_after_self_start (row 4) (under 100000))
    -- P2: 10 × 121,000 × 6,000 = 11 × (60,000 × 10,000 + 150,000 × 400), the motor being the other
    ∷ holds (clear_above 4 2 (mA 121000)) ∷ fails (clear_above 4 2 (under 121000))
    -- 10 × 110,000 × 6,000 = 11 × (750,000 × 400 + 30,000 × 10,000), the transformer being the other
    ∷ holds (clear_above 4 3 (mA 110000)) ∷ fails (clear_above 4 3 (under 110000))
    ∷ holds (clear_above_all 4 (mA 121000)) ∷ fails (clear_above_all 4 (under 121000))
    -- 10 × 13,200 × 10,000 = 11 × 20,000 × 6,000, and no other
    ∷ holds (clear_above_all 2 (mA 13200)) ∷ fails (clear_above_all 2 (under 13200))
    -- P3: 10 × 300,000 = 15 × 200,000
    ∷ holds (sees_own_zone (row 4) (mA 200000)) ∷ fails (sees_own_zone (row 4) (over 200000))
    -- P4: 10 × 2,250,000 × 400 = 12 × 125,000 × 6,000, and 10 × 90,000 × 6,000 = 12 × 45,000 × 10,000; row 2 is not backed
    ∷ holds (backs_up (row 4) (row 3) (mA 125000)) ∷ fails (backs_up (row 4) (row 3) (over 125000))
    ∷ holds (backs_up (row 2) (row 1) (mA 45000)) ∷ fails (backs_up (row 2) (row 1) (over 45000))
    ∷ holds (backs_up (row 4) (row 2) (mA 100000000))
    -- D1: floor 1,000 and ceiling 1,500; the motor waits 100, and no other does
    ∷ holds (within_delays (row 4) 1000) ∷ fails (within_delays (row 4) 999)
    ∷ holds (within_delays (row 4) 1500) ∷ fails (within_delays (row 4) 1501)
    ∷ holds (within_delays (row 3) 100) ∷ fails (within_delays (row 3) 99)
    ∷ holds (within_delays (row 1) 0) ∷ holds (within_delays (row 2) 0)
    -- D2 of device 2 above 1: 400 + 500; of device 1 above 2 and above 3: 700 + 500, 100 + 300
    ∷ holds (later_than 2 1 900) ∷ fails (later_than 2 1 899)
    ∷ holds (later_than 4 2 1200) ∷ fails (later_than 4 2 1199)
    ∷ holds (later_than 4 3 400) ∷ fails (later_than 4 3 399)
    -- the step of a row of the first device above one of the second
    ∷ step_is 1 1 300 ∷ step_is 1 2 500 ∷ step_is 1 3 300
    ∷ step_is 2 1 500 ∷ step_is 2 2 500 ∷ step_is 2 3 500
    ∷ step_is 3 1 300 ∷ step_is 3 2 500 ∷ step_is 3 3 200
    -- cutoff: 1,000 × 1,300,000 = 1,300 × 1,000,000
    ∷ holds (stays_clear (row 4) (mA 1300000)) ∷ fails (stays_clear (row 4) (under 1300000))
    -- 10 × 1,561,200 = 12 × 1,301,000 for a line; 10 × 1,002,500 = 20 × 501,250 for a transformer; 10 × 3,050,000 =
    -- 20 × 1,525,000 for a motor
    ∷ holds (sees_near (row 4) (mA 1301000)) ∷ fails (sees_near (row 4) (over 1301000))
    ∷ holds (sees_near (row 2) (mA 501250)) ∷ fails (sees_near (row 2) (over 501250))
    ∷ holds (sees_near (row 3) (mA 1525000)) ∷ fails (sees_near (row 3) (over 1525000))
    -- [02 §3] M: 1,000,999 / 1,000,000 is 1.000 rounded down, 1,001,000 / 1,000,000 is 1.001
    ∷ multiple_is (current network 4 1000999) 4 4 (mA 1000000) 1000
    ∷ multiple_is (current network 4 1001000) 4 4 (mA 1000000) 1001
    -- 999,999 / 50,000 = 19.99998; 20 from 20 on
    ∷ multiple_is (current network 4 999999) 4 4 (mA 50000) 19999
    ∷ multiple_is (current network 4 1000000) 4 4 (mA 50000) 20000
    ∷ multiple_is (current network 4 1000001) 4 4 (mA 50000) 20000
    ∷ multiple_is (current network 4 100000000) 4 4 (mA 50000) 20000
    -- row 4, 6,000 V, above row 2: 10,000 / 6,000; above the motor: 46 × 400 / 6,000 = 3.0666.., not 3, over 3; row 2 above row 1: 5 × 6,000 /
    -- 10,000 = 3 over 3
    ∷ multiple_is network 4 2 (mA 1002500) 1666
    ∷ multiple_is (current network 3 46) 4 3 (mA 3) 1022
    ∷ multiple_is (current network 1 5) 2 1 (mA 3) 1000
    -- row 4 at 7 / 5, keyed 86,429, is 121,000.6 primary: 121,121 / 121,000.6 = 1.00099.., 121,122 / 121,000.6 = 1.00100..; above the motor
    -- 1,816,824 × 400 / 6,000 = 121,121.6 and 1,816,825 × 400 / 6,000 = 121,121.66..: 1.00099.. and 1.00100..
    ∷ keyed_multiple_is (current (ratio network 4 7 5) 4 121121) 4 4 86429 1000
    ∷ keyed_multiple_is (current (ratio network 4 7 5) 4 121122) 4 4 86429 1001
    ∷ keyed_multiple_is (current (ratio network 4 7 5) 3 1816824) 4 3 86429 1000
    ∷ keyed_multiple_is (current (ratio network 4 7 5) 3 1816825) 4 3 86429 1001
    -- D1 at M = 1,561,200 / 780,600 = 2, floor 1,000 and ceiling 1,500. B: 13.5 × 75 = 1,012.5 and × 74 = 999, × 111 = 1,498.5 and × 112 = 1,512
    ∷ holds (timely (law network 4 1) 4 (mA 780600) 75) ∷ fails (timely (law network 4 1) 4 (mA 780600) 74)
    ∷ holds (timely (law network 4 1) 4 (mA 780600) 111) ∷ fails (timely (law network 4 1) 4 (mA 780600) 112)
    -- rounded up, 1,013 and 1,499
    ∷ holds (timely (with (law network 4 1) 4 at_floor 1013) 4 (mA 780600) 75)
    ∷ fails (timely (with (law network 4 1) 4 at_floor 1014) 4 (mA 780600) 75)
    ∷ holds (timely (with (law network 4 1) 4 at_ceiling 1499) 4 (mA 780600) 111)
    ∷ fails (timely (with (law network 4 1) 4 at_ceiling 1498) 4 (mA 780600) 111)
    -- C: 80 / 3 × 38 = 1,013.33.. and × 37 = 986.66.., × 56 = 1,493.33.. and × 57 = 1,520; rounded up, 1,014 and 1,494
    ∷ holds (timely (law network 4 2) 4 (mA 780600) 38) ∷ fails (timely (law network 4 2) 4 (mA 780600) 37)
    ∷ holds (timely (law network 4 2) 4 (mA 780600) 56) ∷ fails (timely (law network 4 2) 4 (mA 780600) 57)
    ∷ holds (timely (with (law network 4 2) 4 at_floor 1014) 4 (mA 780600) 38)
    ∷ fails (timely (with (law network 4 2) 4 at_floor 1015) 4 (mA 780600) 38)
    ∷ holds (timely (with (law network 4 2) 4 at_ceiling 1494) 4 (mA 780600) 56)
    ∷ fails (timely (with (law network 4 2) 4 at_ceiling 1493) 4 (mA 780600) 56)
    -- the motor waits 100 at M = 10: 1.5 × 67 = 100.5 and × 66 = 99; 80 / 99 × 123 = 99.39.. and × 122 = 98.58..; row 1 does not
    ∷ holds (timely (law network 3 1) 3 (mA 305000) 67) ∷ fails (timely (law network 3 1) 3 (mA 305000) 66)
    ∷ holds (timely (law network 3 2) 3 (mA 305000) 123) ∷ fails (timely (law network 3 2) 3 (mA 305000) 122)
    ∷ holds (timely (law network 1 1) 1 (mA 14652) 66) ∷ holds (timely (law network 1 2) 1 (mA 14652) 122)
    -- D2, definite above a curve: B at M = 3, 6.75 × 80 = 540, and C there, 10 × 54 = 540, both + 500; one multiplier on, 546.75 and 550
    ∷ holds (graded near 4 2 (curve 400000 1 80) (mA 1) 1040) ∷ fails (graded near 4 2 (curve 400000 1 80) (mA 1) 1039)
    ∷ fails (graded near 4 2 (curve 400000 1 81) (mA 1) 1040) ∷ holds (graded near 4 2 (curve 400000 1 81) (mA 1) 1047)
    ∷ holds (graded near 4 2 (curve 400000 2 54) (mA 1) 1040) ∷ fails (graded near 4 2 (curve 400000 2 54) (mA 1) 1039)
    ∷ fails (graded near 4 2 (curve 400000 2 55) (mA 1) 1040)
    -- a curve above definite, M = 2: B, 13.5 × 89 = 1,201.5, rounded up 702 + 500; C, 80 / 3 × 45 = 700 + 500
    ∷ holds (graded (law near 4 1) 4 2 (card 400000 702) (mA 1000000) 89)
    ∷ fails (graded (law near 4 1) 4 2 (card 400000 702) (mA 1000000) 88)
    ∷ fails (graded (law near 4 1) 4 2 (card 400000 703) (mA 1000000) 89)
    ∷ holds (graded (law near 4 2) 4 2 (card 400000 700) (mA 1000000) 45)
    ∷ fails (graded (law near 4 2) 4 2 (card 400000 700) (mA 1000000) 44)
    ∷ fails (graded (law near 4 2) 4 2 (card 400000 701) (mA 1000000) 45)
    -- a curve above a curve: C above B, 80 / 3 × 39 = 540 + 500; B above C, 13.5 × 80 = 580 + 500
    ∷ holds (graded (law near 4 2) 4 2 (curve 400000 1 80) (mA 1000000) 39)
    ∷ fails (graded (law near 4 2) 4 2 (curve 400000 1 80) (mA 1000000) 38)
    ∷ fails (graded (law near 4 2) 4 2 (curve 400000 1 81) (mA 1000000) 39)
    ∷ holds (graded (law near 4 1) 4 2 (curve 400000 2 58) (mA 1000000) 80)
    ∷ fails (graded (law near 4 1) 4 2 (curve 400000 2 58) (mA 1000000) 79)
    ∷ fails (graded (law near 4 1) 4 2 (curve 400000 2 59) (mA 1000000) 80)
    ∷ []

-- row n settled: 0 and its card row, or the numbers of its refusal
abbrev outcome : ℕ → Settled → List ℕ
outcome n (Ok o) = 0 ∷ columns_of (shown o)
outcome n (Err why) = given_by (Err (Unsettled n why))

-- two lists have the same numbers
unfoldable pub same : List ℕ → List ℕ → Bool
same [] [] = true
same [] (y ∷ ys) = false
same (x ∷ xs) [] = false
same (x ∷ xs) (y ∷ ys) = eqb x y && same xs ys

-- row n of the list comes to these numbers, the rows below at the settings k; at those above
abbrev comes_to_by : Settings → List ℕ → ℕ → List ℕ → Bool
comes_to_by k l n o = same (outcome n (settled (view_of l) k (n - 1))) o

abbrev comes_to : List ℕ → ℕ → List ℕ → Bool
comes_to l n o = comes_to_by below l n o

-- it is settled with this card row; row 4 is, as in `network`; row n is refused, with the fed row where one is named
abbrev settles : List ℕ → ℕ → List ℕ → Bool
settles l n k = comes_to l n (0 ∷ k)

abbrev stands : List ℕ → Bool
stands l = settles l 4 (121000 ∷ 1200 ∷ 1301000 ∷ 0 ∷ 0 ∷ [])

abbrev refuses : List ℕ → ℕ → ℕ → ℕ → Bool
refuses l n number fed = comes_to l n (number ∷ n ∷ fed ∷ [])

-- row 4 with the settings k below: it is settled with this delay, the rest as in `network`, or with this curve and multiplier; refused with CURVE,
-- which names the row whose M it is; or refused with another number
abbrev waits : Settings → List ℕ → ℕ → Bool
waits k l t = comes_to_by k l 4 (0 ∷ 121000 ∷ t ∷ 1301000 ∷ 0 ∷ 0 ∷ [])

abbrev curves : Settings → List ℕ → ℕ → ℕ → Bool
curves k l law x = comes_to_by k l 4 (0 ∷ 121000 ∷ 0 ∷ 1301000 ∷ law ∷ x ∷ [])

abbrev stalls : Settings → List ℕ → ℕ → Bool
stalls k l place = comes_to_by k l 4 (14 ∷ place ∷ 0 ∷ [])

abbrev refuses_by : Settings → List ℕ → ℕ → ℕ → Bool
refuses_by k l number fed = comes_to_by k l 4 (number ∷ 4 ∷ fed ∷ [])

-- row 2 or row 3 or both below at B with the least multiplier; near ends where their M are 1.00098.. and 1.00099.., rounded down 1.000: 60,059 /
-- 60,000, 750,749 / 750,000. At 121,000 mA that of row 4 there is less than 1: 60,059 × 10,000 / 6,000, 750,749 × 400 / 6,000
abbrev curve2 : Settings
curve2 = but below 2 (curve 60000 1 10)

abbrev curve3 : Settings
curve3 = but below 3 (curve 750000 1 10)

abbrev curves23 : Settings
curves23 = but curve2 3 (curve 750000 1 10)

abbrev weak2 : List ℕ
weak2 = current network 2 60059

abbrev weak23 : List ℕ
weak23 = current weak2 3 750749

unfoldable pub settlings : List Bool
settlings =
    settles network 1 (12100 ∷ 0 ∷ 122100 ∷ 0 ∷ 0 ∷ [])
    ∷ settles network 2 (41250 ∷ 900 ∷ 501250 ∷ 0 ∷ 0 ∷ [])
    ∷ settles network 3 (825000 ∷ 100 ∷ 1525000 ∷ 0 ∷ 0 ∷ [])
    ∷ stands network
    -- the least pickup offered is 61,001 + 3 × 20,000; a cutoff at 1,301,001 would not see its near fault
    ∷ settles (with network 4 at_low 61001) 4 (121001 ∷ 1200 ∷ 0 ∷ 0 ∷ 0 ∷ [])
    -- the greatest offered is the pickup, and none is left for the cutoff; one less, and none meets P2, or P1: RANGE
    ∷ settles (with network 4 at_high 121000) 4 (121000 ∷ 1200 ∷ 0 ∷ 0 ∷ 0 ∷ [])
    ∷ refuses (with network 4 at_high 120999) 4 11 0
    ∷ settles (with network 1 at_high 12100) 1 (12100 ∷ 0 ∷ 0 ∷ 0 ∷ 0 ∷ [])
    ∷ refuses (with network 1 at_high 12099) 1 11 0
    -- P3 at the least pickup and one off: OWN ZONE. P4 of the motor, row 3, which BACKUP names: the transformer's far is too small too,
    -- but it is not backed. P4 of the transformer, backed
    ∷ stands (with network 4 at_far 181500)
    ∷ refuses (with network 4 at_far 181499) 4 12 0
    ∷ stands (with network 3 at_far 2178000)
    ∷ refuses (with network 3 at_far 2177999) 4 13 3
    ∷ stands (with (with network 2 at_backed 1) 2 at_far 87120)
    ∷ refuses (with (with network 2 at_backed 1) 2 at_far 87119) 4 13 2
    -- both fail, the later one by more: the first is named; the own zone before them, and RANGE before it
    ∷ refuses (with (with (with network 2 at_backed 1) 2 at_far 87119) 3 at_far 1) 4 13 2
    ∷ refuses (with (with network 3 at_far 2177999) 4 at_far 181499) 4 12 0
    ∷ refuses (with (with network 4 at_far 1) 4 at_high 120999) 4 11 0
    -- row 1 feeds nothing: far alone, here at 15 × 12,100 = 10 × 18,150
    ∷ settles (with network 1 at_far 18150) 1 (12100 ∷ 0 ∷ 122100 ∷ 0 ∷ 0 ∷ [])
    ∷ refuses (with network 1 at_far 18149) 1 12 0
    -- the delay at the ceiling and one off; from the floor on
    ∷ stands (with network 4 at_ceiling 1200)
    ∷ refuses (with network 4 at_ceiling 1199) 4 7 0
    ∷ settles (with network 4 at_floor 1201) 4 (121000 ∷ 1201 ∷ 1301000 ∷ 0 ∷ 0 ∷ [])
    ∷ settles (with network 3 at_ceiling 100) 3 (825000 ∷ 100 ∷ 1525000 ∷ 0 ∷ 0 ∷ [])
    ∷ refuses (with network 3 at_ceiling 99) 3 7 0
    -- the row's own device at the ceiling and one off; device 3 waits for the fed row's 300
    ∷ refuses (with network 2 at_ceiling 899) 2 7 0
    ∷ settles (with (with network 2 at_device 3) 2 at_ceiling 700) 2 (41250 ∷ 700 ∷ 501250 ∷ 0 ∷ 0 ∷ [])
    ∷ refuses (with (with network 2 at_device 3) 2 at_ceiling 699) 2 7 0
    -- neither a pickup nor a delay: 11, 12 and 13 before 7
    ∷ refuses (with (with network 4 at_high 120999) 4 at_ceiling 1199) 4 11 0
    ∷ refuses (with (with network 4 at_far 181499) 4 at_ceiling 1199) 4 12 0
    ∷ refuses (with (with network 3 at_far 2177999) 4 at_ceiling 1199) 4 13 3
    -- the cutoff of a line one off, and the same row as a transformer
    ∷ settles (with network 4 at_near 1561199) 4 (121000 ∷ 1200 ∷ 0 ∷ 0 ∷ 0 ∷ [])
    ∷ settles (with network 4 at_kind 2) 4 (121000 ∷ 1200 ∷ 0 ∷ 0 ∷ 0 ∷ [])
    ∷ stands (with (with network 4 at_kind 2) 4 at_near 2602000)
    ∷ settles (with (with network 4 at_kind 2) 4 at_near 2601999) 4 (121000 ∷ 1200 ∷ 0 ∷ 0 ∷ 0 ∷ [])
    -- [02 §1] row 1 at 100 / 5, P1: 605 × 20 = 12,100, and 604 is too low; its cutoff 6,000 × 20 = 120,000
    ∷ settles (with (with (ratio network 1 100 5) 1 at_low 605) 1 at_step 5395) 1 (605 ∷ 0 ∷ 6000 ∷ 0 ∷ 0 ∷ [])
    ∷ settles (offers (ratio network 1 100 5) 1 604 605 1) 1 (605 ∷ 0 ∷ 0 ∷ 0 ∷ 0 ∷ [])
    ∷ refuses (offers (ratio network 1 100 5) 1 604 604 1) 1 11 0
    -- at 11 / 1: 1,100 × 11 = 12,100, and the cutoff 11,100 × 11 = 122,100
    ∷ settles (offers (ratio network 1 11 1) 1 1100 11100 10000) 1 (1100 ∷ 0 ∷ 11100 ∷ 0 ∷ 0 ∷ [])
    ∷ refuses (offers (ratio network 1 11 1) 1 1099 1099 1) 1 11 0
    -- row 4 at 7 / 5, P2: 86,429 × 1.4 = 121,000.6 clears the 121,000 asked, 86,428 × 1.4 = 120,999.2 does not
    ∷ settles (offers (ratio network 4 7 5) 4 86428 86429 1) 4 (86429 ∷ 1200 ∷ 0 ∷ 0 ∷ 0 ∷ [])
    ∷ refuses (offers (ratio network 4 7 5) 4 86428 86428 1) 4 11 0
    -- P3 there: 1.5 × 121,000.6 = 181,500.9, where 121,000 would see 181,500; P4 of the motor: 12 × 121,000.6 × 6,000 = 10 × 2,178,010.8 × 400
    ∷ settles (with (offers (ratio network 4 7 5) 4 86428 86429 1) 4 at_far 181501) 4 (86429 ∷ 1200 ∷ 0 ∷ 0 ∷ 0 ∷ [])
    ∷ refuses (with (offers (ratio network 4 7 5) 4 86428 86429 1) 4 at_far 181500) 4 12 0
    ∷ settles (with (offers (ratio network 4 7 5) 4 86428 86429 1) 3 at_far 2178011) 4 (86429 ∷ 1200 ∷ 0 ∷ 0 ∷ 0 ∷ [])
    ∷ refuses (with (offers (ratio network 4 7 5) 4 86428 86429 1) 3 at_far 2178010) 4 13 3
    -- its cutoff, at a number past 500,000 that FIELD would not let in (settling does not ask): 928,572 × 1.4 = 1,300,000.8, where
    -- 928,571 × 1.4 = 1,299,999.4 is not clear of 1,300,000; 1.2 × 1,300,000.8 = 1,560,000.96
    ∷ settles (with (offers (ratio network 4 7 5) 4 86429 928572 842143) 4 at_near 1560001) 4 (86429 ∷ 1200 ∷ 928572 ∷ 0 ∷ 0 ∷ [])
    ∷ settles (with (offers (ratio network 4 7 5) 4 86429 928572 842143) 4 at_near 1560000) 4 (86429 ∷ 1200 ∷ 0 ∷ 0 ∷ 0 ∷ [])
    ∷ settles (with (offers (ratio network 4 7 5) 4 86429 928571 842142) 4 at_near 1560001) 4 (86429 ∷ 1200 ∷ 0 ∷ 0 ∷ 0 ∷ [])
    -- row 1 at 7 / 5, keyed 20,000 below, is 28,000 primary: row 2 clears 11 × 28,000 × 6,000 = 10 × 18,480 × 10,000, and not with 18,479; P1
    -- asks less here
    ∷ settles (offers (with (ratio network 1 7 5) 2 at_work 1) 2 18479 18480 1) 2 (18480 ∷ 900 ∷ 0 ∷ 0 ∷ 0 ∷ [])
    ∷ refuses (offers (with (ratio network 1 7 5) 2 at_work 1) 2 18479 18479 1) 2 11 0
    -- [02 §3] row 1 at M = 146,520 / 12,100 = 12.109: the least multiplier, with which B gives 12.15.. ms and C less; 1.500, with which B gives
    -- 1,822.8.. and C 824.0.. ms; the times at the ceiling and one off, and none left from one ms more on
    ∷ settles (law network 1 1) 1 (12100 ∷ 0 ∷ 122100 ∷ 1 ∷ 10 ∷ [])
    ∷ settles (law network 1 2) 1 (12100 ∷ 0 ∷ 122100 ∷ 2 ∷ 10 ∷ [])
    ∷ settles (with (law network 1 1) 1 at_ceiling 13) 1 (12100 ∷ 0 ∷ 122100 ∷ 1 ∷ 10 ∷ [])
    ∷ refuses (with (law network 1 1) 1 at_ceiling 12) 1 7 0
    ∷ settles (with (with (law network 1 1) 1 at_floor 1823) 1 at_ceiling 1823) 1 (12100 ∷ 0 ∷ 122100 ∷ 1 ∷ 1500 ∷ [])
    ∷ refuses (with (with (law network 1 1) 1 at_floor 1824) 1 at_ceiling 5000) 1 7 0
    ∷ settles (with (with (law network 1 2) 1 at_floor 825) 1 at_ceiling 825) 1 (12100 ∷ 0 ∷ 122100 ∷ 2 ∷ 1500 ∷ [])
    ∷ refuses (with (with (law network 1 2) 1 at_floor 826) 1 at_ceiling 5000) 1 7 0
    -- the motor at M = 3.696: 13.5 / 2.696 × 20 = 100.1.., and × 19 = 95.1.. is under 100
    ∷ settles (with (law network 3 1) 3 at_ceiling 101) 3 (825000 ∷ 0 ∷ 1525000 ∷ 1 ∷ 20 ∷ [])
    ∷ refuses (with (law network 3 1) 3 at_ceiling 100) 3 7 0
    -- row 4 with B, above definite rows: above row 2 M = 13.808, and 13.5 / 12.808 × 1,138 = 1,199.4.. is the 700 + 500 asked, where 1,137 gives
    -- 1,198.4..; above the motor M = 1.680, and 21 do; at its own near end M = 12.902, 881 do for the floor, and 1,138 give 1,290.7..
    ∷ curves below (with (law network 4 1) 4 at_ceiling 1291) 1 1138
    ∷ refuses_by below (with (law network 4 1) 4 at_ceiling 1290) 7 0
    -- definite above row 2 with B: at M = 16.708, 13.5 / 15.708 × 1,000 = 859.4.., and 500
    ∷ waits (but below 2 (curve 60000 1 1000)) (with network 4 at_ceiling 1360) 1360
    ∷ refuses_by (but below 2 (curve 60000 1 1000)) (with network 4 at_ceiling 1359) 7 0
    -- C above B: 13.5 / 15.708 × 100 = 85.9.., 86 + 500; 80 / (13.808² − 1) × 1,387 = 585.0.., where 1,386 gives 584.6..
    ∷ curves (but below 2 (curve 60000 1 100)) (with (law network 4 2) 4 at_floor 0) 2 1387
    -- CURVE, by the row's own M: 12,112 / 12,100 = 1.00099..; with 12,113 M is 1.001, and the least time 135 s
    ∷ refuses (current (law network 1 1) 1 12112) 1 14 0
    ∷ refuses (current (law network 1 2) 1 12112) 1 14 0
    ∷ refuses (current (law network 1 1) 1 12113) 1 7 0
    -- by the fed row's, which is named; with 60,060 / 60,000 it is 1.001, and the lent multiplier 0 gives 0 ms, 10 give 135 s
    ∷ stalls (but below 2 (curve 60000 1 0)) weak2 2
    ∷ waits (but below 2 (curve 60000 1 0)) (current network 2 60060) 1000
    ∷ refuses_by curve2 (current network 2 60060) 7 0
    -- by the row's own above the motor: 1,816,814 × 400 / 6,000 = 121,120.9.. over 121,000; with 1,816,815 it is 121,121, and M 1.001
    ∷ stalls below (current (law network 4 1) 3 1816814) 4
    ∷ curves below (current (law network 4 1) 3 1816815) 1 1138
    -- row 4 at 7 / 5 and 121,000.6 primary: 121,121 and 121,122 over it; row 1 at 7 / 5, keyed 20,000 below, 28,000 primary: 28,027 and 28,028
    -- over it
    ∷ refuses (current (law (offers (ratio network 4 7 5) 4 86428 86429 1) 4 1) 4 121121) 4 14 0
    ∷ refuses (current (law (offers (ratio network 4 7 5) 4 86428 86429 1) 4 1) 4 121122) 4 7 0
    ∷ comes_to_by (but below 1 (curve 20000 1 0)) (current (ratio network 1 7 5) 1 28027) 2 (14 ∷ 1 ∷ 0 ∷ [])
    ∷ comes_to_by (but below 1 (curve 20000 1 0)) (current (ratio network 1 7 5) 1 28028) 2 (0 ∷ 41250 ∷ 500 ∷ 501250 ∷ 0 ∷ 0 ∷ [])
    -- the order, all M of rows 2 and 3 being at most 1.000: the row's own first; then row 2's; where that is not needed, the row's own above row 2,
    -- before row 3's; row 3's before the row's own above it; of two fed rows the first
    ∷ stalls curves23 (current (law weak23 4 1) 4 121120) 4
    ∷ stalls curves23 (law weak23 4 1) 2
    ∷ stalls curve3 (law weak23 4 1) 4
    ∷ stalls curves23 (current (law network 4 1) 3 750749) 3
    ∷ stalls curves23 weak23 2
    ∷ stalls curves23 (current network 3 750749) 3
    -- before DELAY, by each of the three; after RANGE, OWN ZONE and BACKUP
    ∷ stalls below (with (current (law network 4 1) 4 121120) 4 at_ceiling 999) 4
    ∷ stalls curve2 (with weak2 4 at_ceiling 999) 2
    ∷ stalls below (with (current (law network 4 1) 3 1816814) 4 at_ceiling 999) 4
    ∷ refuses_by curve2 (with weak2 4 at_high 120999) 11 0
    ∷ refuses_by curve2 (with weak2 4 at_far 181499) 12 0
    ∷ refuses_by curve2 (with weak2 3 at_far 2177999) 13 3
    -- of a fed row the card's law is read, not the list's: definite where the list has B, B where it has C
    ∷ waits below (law weak2 2 1) 1200
    ∷ waits (but below 2 (curve 60000 1 1000)) (law network 2 2) 1360
    -- multipliers under 10 as they are, 7.73.. and 8.59.. ms, and 0; not the delay beside them, nor the multiplier beside a delay
    ∷ waits (but below 2 (curve 60000 1 0)) (with network 4 at_floor 0) 500
    ∷ waits (but below 2 (curve 60000 1 9)) (with network 4 at_floor 0) 508
    ∷ waits (but below 2 (curve 60000 1 10)) (with network 4 at_floor 0) 509
    ∷ waits (but below 2 (record { pickup = keyed 60000; delay = 99999; cutoff = keyed 0; law = 1; multiplier = 9 })) (with network 4 at_floor 0) 508
    ∷ waits (but below 2 (record { pickup = keyed 60000; delay = 700; cutoff = keyed 0; law = 0; multiplier = 1500 })) network 1200
    -- of definite rows neither near-end currents nor the pickups below matter
    ∷ stands (current (current (current network 2 1) 3 1) 4 1)
    ∷ settles (current network 1 1) 1 (12100 ∷ 0 ∷ 122100 ∷ 0 ∷ 0 ∷ [])
    ∷ waits (but below 3 (card 1 100)) network 1200
    ∷ []
