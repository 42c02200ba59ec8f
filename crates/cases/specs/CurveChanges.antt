-- [02 §3, §8] Worked cases of replacements with rows on curves B and C: what a new law or a new current at the near end moves, how far the
-- climb goes with five columns to compare, and cards that are not the list's, whose laws and multipliers are read as they are found. They were
-- worked out as those of CurveCases. Definitions only.
use Rattle.std.specs.Prelude.{List, [], ◌∷◌, ◌++◌, ℕ, set, take}
use Rattle.cases.specs.Case.{Worked}
use Rattle.cases.specs.MoreCases.{with, row, becomes, kept_in}
use Rattle.cases.specs.CurveCases.{row_of, drive, laws, definite, on_B, on_C, incoming, fork, joint}

-- the card of the drive
unfoldable pub drive_card : List ℕ
drive_card = on_C 110000 10 (on_B 121000 52 (incoming 378))

-- row n of the drive replaced by that of another list: done, m rows being worked out, with this card; or refused with a number at a row
abbrev moves : ℕ → ℕ → List ℕ → List ℕ → Worked
moves n m l' c' = becomes drive drive_card n m l' c'

abbrev stays : ℕ → List ℕ → ℕ → ℕ → Worked
stays n l' number at = kept_in drive drive_card n (row n l') number at 0

unfoldable pub changes : List Worked
changes =
    -- the motor from a delay to B, to C and back: its feeder comes out as it was, by 102 + 300 as by 100 + 300, and stops the climb
    becomes (laws 0 1 0) (definite 110000 100 (on_B 121000 52 (incoming 378))) 1 2 (laws 1 1 0) (on_B 110000 15 (on_B 121000 52 (incoming 378)))
    ∷ becomes (laws 1 1 0) (on_B 110000 15 (on_B 121000 52 (incoming 378))) 1 2 drive drive_card
    ∷ moves 1 2 (laws 0 1 0) (definite 110000 100 (on_B 121000 52 (incoming 378)))
    -- the feeder likewise, and the incoming line with it
    ∷ becomes (laws 2 0 0) (on_C 110000 10 (definite 121000 400 (incoming 700))) 2 2 drive drive_card
    ∷ moves 2 2 (laws 2 2 0) (on_C 110000 10 (on_C 121000 33 (incoming 327)))
    ∷ becomes (laws 2 2 0) (on_C 110000 10 (on_C 121000 33 (incoming 327))) 2 2 (laws 2 0 0) (on_C 110000 10 (definite 121000 400 (incoming 700)))
    -- the incoming line
    ∷ moves 3 1 (with (laws 2 1 1) 3 16 218) (on_C 110000 10 (on_B 121000 52 (on_B 143000 209 (77 ∷ []))))
    ∷ becomes (laws 2 1 1) (on_C 110000 10 (on_B 121000 52 (on_B 143000 288 (77 ∷ [])))) 3 1 drive drive_card
    -- the motor's greatest current: at 300,000 M is 2.727, so 124.3 with the same 10; the feeder's M there is 2.479, and 425 asks 47, which at
    -- its own current is 70.5
    ∷ moves 1 3 (with drive 1 22 300000) (on_C 110000 10 (on_B 121000 47 (incoming 371)))
    -- at 331,000 it is 3.009, and 99.3 as 100 before; the feeder's is 2.735, where 51 gives 396.9
    ∷ moves 1 2 (with drive 1 22 331000) drive_card
    -- the feeder's: M is 9.000, and its 52 gives 87.75
    ∷ moves 2 2 (with drive 2 22 1089000) (on_C 110000 10 (on_B 121000 52 (incoming 388)))
    -- that of the motor with a delay: the feeder's 400 at 2.479 is 44, and 66 at its own; below a definite row it moves nothing
    ∷ becomes (laws 0 1 0) (definite 110000 100 (on_B 121000 52 (incoming 378))) 1 3 (with (laws 0 1 0) 1 22 300000)
    (definite 110000 100 (on_B 121000 44 (incoming 366)))
    ∷ becomes (laws 0 0 0) (definite 110000 100 (definite 121000 400 (incoming 700))) 1 2 (with (laws 0 0 0) 1 22 1)
    (definite 110000 100 (definite 121000 400 (incoming 700)))
    ∷ moves 3 1 (with drive 3 22 1) drive_card
    -- the motor from 101 on: 11, and 110 + 300 above it asks 53, whose 79.5 asks 380
    ∷ moves 1 3 (with drive 1 16 101) (on_C 110000 11 (on_B 121000 53 (incoming 380)))
    -- its work, and so the pickups: M is 2.727, 2.307 at 143,000 and 8.461 there, 125 + 300 asks 42, and 76 + 300 follows; 165,000 asks a far
    -- of 247,500
    ∷ becomes (with drive 3 8 247500) drive_card 1 3 (with (with drive 3 8 247500) 1 5 110000)
    (on_C 121000 10 (on_B 143000 42 (definite 165000 376 (77 ∷ []))))
    ∷ stays 1 (with drive 1 5 110000) 12 3
    -- refused: the motor's M, the feeder's at the motor's current, its own, before 7 and after 12; its ceiling
    ∷ stays 1 (with drive 1 22 110109) 14 1
    ∷ stays 1 (with (with drive 1 17 5000) 1 22 121120) 14 2
    ∷ stays 2 (with drive 2 22 121120) 14 2
    ∷ stays 2 (with (with drive 2 22 121120) 2 16 1001) 14 2
    ∷ stays 2 (with (with drive 2 22 121120) 2 8 181499) 12 2
    ∷ stays 2 (with drive 2 17 77) 7 2
    -- 10: a new row of 20 and of 21 numbers; 4 in a new row
    ∷ kept_in drive drive_card 1 (take 20 drive) 10 0 0
    ∷ kept_in drive drive_card 1 (take 21 drive) 10 0 0
    ∷ kept_in drive drive_card 1 (row 1 (with drive 1 21 3)) 4 1 21
    ∷ kept_in drive drive_card 1 (row 1 (with drive 1 22 100000001)) 4 1 22
    ∷ []

-- the drive's card with this second row, and a third that is not the list's
abbrev second : ℕ → ℕ → ℕ → ℕ → ℕ → List ℕ
second I t C b k = on_C 110000 10 (I ∷ t ∷ C ∷ b ∷ k ∷ 9 ∷ 9 ∷ 9 ∷ 1 ∷ 9 ∷ 77 ∷ [])

-- the motor replaced by itself: the climb stops at its feeder, or goes on
abbrev stops : List ℕ → List ℕ → Worked
stops l c = becomes l c 1 2 l c

abbrev goes_on : List ℕ → Worked
goes_on c = becomes drive c 1 3 drive drive_card

unfoldable pub climbs : List Worked
climbs =
    -- all five columns as they were, and one of them not
    stops drive (second 121000 0 143000 1 52)
    ∷ goes_on (second 120999 0 143000 1 52)
    ∷ goes_on (second 121000 1 143000 1 52)
    ∷ goes_on (second 121000 0 0 1 52)
    ∷ goes_on (second 121000 0 143000 2 52) ∷ goes_on (second 121000 0 143000 0 52)
    ∷ goes_on (second 121000 0 143000 1 51) ∷ goes_on (second 121000 0 143000 1 0)
    -- the same of a definite feeder: neither its law nor its multiplier is read, and both are compared
    ∷ stops (laws 2 0 0) (second 121000 400 143000 0 0)
    ∷ becomes (laws 2 0 0) (second 121000 400 143000 0 10) 1 3 (laws 2 0 0) (on_C 110000 10 (definite 121000 400 (incoming 700)))
    ∷ becomes (laws 2 0 0) (second 121000 400 143000 1 0) 1 3 (laws 2 0 0) (on_C 110000 10 (definite 121000 400 (incoming 700)))
    -- past the stop nothing is refused, neither 14 nor 7: the incoming line on B with M = 1.000, or with a ceiling a millisecond short
    ∷ stops (with (laws 2 1 1) 3 22 143000) (second 121000 0 143000 1 52)
    ∷ kept_in (with (laws 2 1 1) 3 22 143000) (second 121000 0 143000 1 51) 1 (row 1 drive) 14 3 0
    ∷ stops (with drive 3 17 377) (second 121000 0 143000 1 52)
    ∷ kept_in (with drive 3 17 377) (second 121000 0 143000 1 51) 1 (row 1 drive) 7 3 0
    -- along the path no lent law, multiplier or delay is read
    ∷ goes_on
    (110000 ∷ 5 ∷ 143000 ∷ 1 ∷ 1500 ∷ 121000 ∷ 5 ∷ 143000 ∷ 2 ∷ 1500 ∷ 143000 ∷ 5 ∷ 143000 ∷ 1 ∷ 1500 ∷ 77 ∷ [])
    -- nor anything of a row that no row of the path feeds: the motor with a pickup of 330,000 has M = 1.000
    ∷ becomes drive (set drive_card 0 330000) 3 1 drive (set drive_card 0 330000)
    ∷ []

-- the last row of a list of three replaced by itself, the rows that it feeds being lent so, and its own with a delay of 9: done with this
-- pickup, delay, law and multiplier, or refused with a number at a row
abbrev above : List ℕ → List ℕ → ℕ → ℕ → ℕ → ℕ → Worked
above l fed I t c k = becomes l (fed ++ joint 231000 9 0 0) 3 1 l (fed ++ joint I t c k)

abbrev refused_above : List ℕ → List ℕ → ℕ → ℕ → Worked
refused_above l fed number at = kept_in l (fed ++ joint 231000 9 0 0) 3 (row 3 l) number at 0

-- the motor's row of the fork's card beside another: its 100 asks 400; the same row with a delay of 0, which asks 300
abbrev beside : List ℕ → List ℕ
beside other = on_C 110000 10 other

abbrev at_once : List ℕ → List ℕ
at_once other = definite 110000 0 other

-- the motor with so much at its near end that the row above has M over 1.000 there with a pickup of 594,000
abbrev strong : ℕ → List ℕ
strong c = with (fork 2 1 c 0) 1 22 700000

-- the line keyed through 7 / 5 A, with this current at its near end
abbrev keyed_there : ℕ → List ℕ
keyed_there greatest = with (with (with (fork 2 1 0 390) 2 19 7) 2 20 5) 2 22 greatest

unfoldable pub lent_curves : List Worked
lent_curves =
    -- the card's law, not the list's: on C 20 gives 106.7, on B it would be 90; on B 25 gives 112.5, whatever the list has
    above (fork 2 1 0 390) (beside (on_C 110000 20 [])) 231000 407 0 0
    ∷ above (fork 2 1 0 390) (beside (on_B 110000 25 [])) 231000 413 0 0
    ∷ above (fork 2 0 0 390) (beside (on_B 110000 25 [])) 231000 413 0 0
    ∷ above (fork 2 2 0 390) (beside (on_B 110000 25 [])) 231000 413 0 0
    -- with law 0 its multiplier is not read, with a curve its delay is not
    ∷ above (fork 2 1 0 390) (beside (110000 ∷ 120 ∷ 0 ∷ 0 ∷ 1500 ∷ [])) 231000 420 0 0
    ∷ above (fork 2 1 0 390) (beside (110000 ∷ 100000 ∷ 0 ∷ 1 ∷ 25 ∷ [])) 231000 413 0 0
    -- multipliers that no relay offers: 0, 1, 9, and then 10; the row above on B as well, at M = 1.428 and 1.904
    ∷ above (fork 0 1 0 290) (at_once (on_B 110000 0 [])) 231000 300 0 0
    ∷ above (fork 0 1 0 290) (at_once (on_B 110000 1 [])) 231000 305 0 0
    ∷ above (fork 0 1 0 290) (at_once (on_B 110000 9 [])) 231000 341 0 0
    ∷ above (fork 0 1 0 290) (at_once (on_B 110000 10 [])) 231000 345 0 0
    ∷ above (fork 0 1 1 0) (at_once (on_B 110000 0 [])) 231000 0 1 21
    ∷ above (fork 0 1 1 0) (at_once (on_B 110000 9 [])) 231000 0 1 23
    ∷ above (fork 0 1 2 0) (at_once (on_C 110000 9 [])) 231000 0 2 12
    -- 14 names the fed row though the row above is worked out: 440,000 over 440,000 and over 439,561 is 1.000, over 439,560 it is 1.001, and
    -- 1 then gives 13,500
    ∷ refused_above (fork 2 1 0 390) (beside (on_B 440000 10 [])) 14 2
    ∷ refused_above (fork 2 1 0 390) (beside (on_B 439561 0 [])) 14 2
    ∷ above (fork 2 1 0 390) (beside (on_B 439560 0 [])) 594000 400 0 0
    ∷ refused_above (fork 2 1 0 390) (beside (on_B 439560 1 [])) 7 3
    ∷ above (fork 2 1 0 390) (beside (definite 440000 50 [])) 594000 400 0 0
    ∷ refused_above (fork 2 0 0 390) (beside (on_C 440000 10 [])) 14 2
    -- the same where the motor is replaced, and the line is off its path
    ∷ kept_in (fork 2 1 0 390) (beside (on_B 440000 10 (joint 231000 9 0 0))) 1 (row 1 (fork 2 1 0 390)) 14 2 0
    -- keyed through 7 / 5 A: 440,000 over 439,560.8 is 1.000, and rounded down 439,560 would do; 439,999 over 439,559.4 is 1.001, and rounded up
    -- 439,560 would not do
    ∷ refused_above (keyed_there 440000) (beside (on_B 313972 0 [])) 14 2
    ∷ above (keyed_there 439999) (beside (on_B 313971 0 [])) 594000 400 0 0
    -- "its own M, then by fed rows ascending the fed row's, then its own there": the motor at 330,000 has M = 1.000, and the row above a pickup
    -- of 473,000
    ∷ refused_above (with (fork 2 1 1 0) 3 22 473472) (on_C 330000 10 (on_B 110000 10 [])) 14 3
    ∷ refused_above (with (fork 2 1 1 0) 3 22 473473) (on_C 330000 10 (on_B 110000 10 [])) 14 1
    ∷ refused_above (fork 2 1 1 0) (on_C 330000 10 (on_B 440000 10 [])) 14 1
    -- with 330,000 as a definite row it stalls no more, but the row above does at its current, and before the line's 1.000 is asked for
    ∷ refused_above (fork 2 1 1 0) (definite 330000 0 (on_B 110000 10 [])) 14 3
    ∷ refused_above (fork 2 1 1 0) (beside (on_B 440000 10 [])) 14 3
    -- where it does not, the line's is next, then its own at the line's current
    ∷ refused_above (strong 1) (beside (on_B 440000 10 [])) 14 2
    ∷ refused_above (strong 1) (beside (on_B 439560 10 [])) 14 3
    ∷ refused_above (strong 2) (beside (on_B 439560 10 [])) 14 3
    -- 11 and 12 before it: at 600,000 the row above would need 770,000; its far for 594,000 is 891,000
    ∷ refused_above (fork 2 1 0 390) (beside (on_B 600000 10 [])) 11 3
    ∷ refused_above (with (fork 2 1 0 390) 3 8 890999) (beside (on_B 440000 10 [])) 12 3
    ∷ []

-- the fork and its card
abbrev forked : List ℕ
forked = fork 2 1 0 390

unfoldable pub fork_card : List ℕ
fork_card = on_C 110000 10 (on_B 110000 10 (joint 231000 400 0 0))

-- the motor replaced by itself on this card: refused, or done with this card
abbrev held : List ℕ → ℕ → ℕ → Worked
held c number at = kept_in forked c 1 (row 1 forked) number at 0

abbrev again : List ℕ → List ℕ → Worked
again c c' = becomes forked c 1 2 forked c'

-- 9 CARD for laws and multipliers
unfoldable pub lent_tests : List Worked
lent_tests =
    -- laws 3 and multipliers 1,501 of the replaced row, of one off the path and of one on it; 2 and 1,500 are let in
    held (set fork_card 3 3) 9 1 ∷ held (set fork_card 4 1501) 9 1 ∷ again (set (set fork_card 3 1) 4 1500) fork_card
    ∷ held (set fork_card 8 3) 9 2 ∷ held (set fork_card 9 1501) 9 2
    ∷ held (set fork_card 13 3) 9 3 ∷ held (set fork_card 14 1501) 9 3 ∷ again (set (set fork_card 13 2) 14 1500) fork_card
    -- off the path they are read: 53.3 on C asks less than the motor; 1,500 is 6,750 on B, past the ceiling
    ∷ again (set fork_card 8 2) (set fork_card 8 2)
    ∷ held (set fork_card 9 1500) 7 3
    -- 1,500 too in a definite card row, and 1,501 not
    ∷ again (set (set fork_card 8 0) 9 1500) (set (set fork_card 8 0) 9 1500)
    ∷ held (set (set fork_card 8 0) 9 1501) 9 2
    -- the first row; before 14 and 12, after 4, 5 and 10
    ∷ held (set (set fork_card 13 3) 9 1501) 9 2
    ∷ held (set (set fork_card 5 440000) 13 3) 9 3
    ∷ held (set fork_card 5 440000) 14 2
    ∷ kept_in forked (set fork_card 9 1501) 1 (row 1 (with forked 1 22 110000)) 9 2 0
    ∷ kept_in forked (set fork_card 9 1501) 1 (row 1 (with forked 1 8 1)) 9 2 0
    ∷ kept_in forked (set fork_card 3 3) 1 (row 1 (with forked 1 21 3)) 4 1 21
    ∷ kept_in forked (set fork_card 3 3) 3 (row 3 (with forked 3 3 3)) 5 1 0
    ∷ kept_in forked (set fork_card 3 3) 1 (take 20 forked) 10 0 0
    ∷ []

unfoldable pub curve_change_table : List Worked
curve_change_table = changes ++ (climbs ++ (lent_curves ++ lent_tests))
