-- [01 §7] The starred cases, as one table, with those of [02 §2, §5]. Definitions only.
use Rattle.std.specs.Prelude.{Bool, true, false, List, [], ◌∷◌, ℕ, zero, suc, set}
use Rattle.layout.specs.Fields.{at_work, at_far, at_near, at_low, at_high, at_device, at_ceiling}
use Rattle.layout.specs.View.{Settings}
use Rattle.settle.specs.Cases.{with}
use Rattle.sides.specs.Sides.{keyed}
use Rattle.cases.specs.Case.{Worked, worked}
use Rattle.cases.specs.Case.Case.{calculates, replaces, clears}
use Rattle.cases.specs.Case.Comes.{calculated, replacing, clear}

-- the list of section 6: F1, fed by IN
unfoldable pub two_rows : List ℕ
two_rows =
    1 ∷ 2 ∷ 1 ∷ 35000 ∷ 180000 ∷ 1500 ∷ 935 ∷ 900000 ∷ 1000000 ∷ 1800000 ∷ 1300 ∷ 50000 ∷ 5000000 ∷ 1000 ∷
    1 ∷ 1900 ∷ 5000 ∷ 1 ∷ 0 ∷ 0 ∷ 0 ∷ 1800000 ∷
    2 ∷ 0 ∷ 1 ∷ 35000 ∷ 200000 ∷ 1500 ∷ 935 ∷ 1500000 ∷ 3300000 ∷ 5200000 ∷ 1300 ∷ 50000 ∷ 10000000 ∷ 10000 ∷
    1 ∷ 0 ∷ 3000 ∷ 0 ∷ 0 ∷ 0 ∷ 0 ∷ 5200000 ∷ []

-- F1 with another work, and with another far
unfoldable pub first_row : ℕ → ℕ → List ℕ
first_row work far = 1 ∷ 2 ∷ 1 ∷ 35000 ∷ work ∷ 1500 ∷ 935 ∷ far ∷ 1000000 ∷ 1800000 ∷ 1300 ∷ 50000 ∷ 5000000 ∷ 1000 ∷
    1 ∷ 1900 ∷ 5000 ∷ 1 ∷ 0 ∷ 0 ∷ 0 ∷ 1800000 ∷ []

-- two rows of equal volts, work 10,000 and 90,000, fed by a third
unfoldable pub under_one : List ℕ
under_one =
    1 ∷ 3 ∷ 1 ∷ 6000 ∷ 10000 ∷ 1000 ∷ 1000 ∷ 900000 ∷ 1000000 ∷ 1800000 ∷ 1300 ∷ 50000 ∷ 5000000 ∷ 1000 ∷
    1 ∷ 0 ∷ 5000 ∷ 0 ∷ 0 ∷ 0 ∷ 0 ∷ 1800000 ∷
    2 ∷ 3 ∷ 1 ∷ 6000 ∷ 90000 ∷ 1000 ∷ 1000 ∷ 900000 ∷ 1000000 ∷ 1800000 ∷ 1300 ∷ 50000 ∷ 5000000 ∷ 1000 ∷
    1 ∷ 0 ∷ 5000 ∷ 0 ∷ 0 ∷ 0 ∷ 0 ∷ 1800000 ∷
    3 ∷ 0 ∷ 1 ∷ 6000 ∷ 100000 ∷ 1000 ∷ 1000 ∷ 900000 ∷ 1000000 ∷ 1800000 ∷ 1300 ∷ 50000 ∷ 5000000 ∷ 1000 ∷
    1 ∷ 0 ∷ 5000 ∷ 0 ∷ 0 ∷ 0 ∷ 0 ∷ 1800000 ∷ []

-- the pickups of those two rows
unfoldable pub pickups : ℕ → ℕ → Settings
pickups a b zero = record { pickup = keyed a; delay = 0; cutoff = keyed 0; law = 0; multiplier = 0 }
pickups a b (suc j) = record { pickup = keyed b; delay = 0; cutoff = keyed 0; law = 0; multiplier = 0 }

unfoldable pub blank : List ℕ
blank = 0 ∷ 0 ∷ 0 ∷ 0 ∷ 0 ∷ 0 ∷ 0 ∷ 0 ∷ 0 ∷ 0 ∷ []

-- the card of the list of section 6
unfoldable pub two_card : List ℕ
two_card = 318000 ∷ 1900 ∷ 1300000 ∷ 0 ∷ 0 ∷ 360000 ∷ 2200 ∷ 4290000 ∷ 0 ∷ 0 ∷ []

-- its card with device 2 in row 2: 1,900 + 500
unfoldable pub later_card : List ℕ
later_card = 318000 ∷ 1900 ∷ 1300000 ∷ 0 ∷ 0 ∷ 360000 ∷ 2400 ∷ 4290000 ∷ 0 ∷ 0 ∷ []

-- [02 §2] the list with row 2 offering pickups from 400,000 on only, and row 1 with this far. By P4, 12 × 400,000 = 10 × 480,000; by P3
-- row 1 needs 477,000
abbrev backed_up : ℕ → List ℕ
backed_up far = with (with two_rows 2 at_low 400000) 1 at_far far

unfoldable pub backed_card : List ℕ
backed_card = 318000 ∷ 1900 ∷ 1300000 ∷ 0 ∷ 0 ∷ 400000 ∷ 2200 ∷ 4290000 ∷ 0 ∷ 0 ∷ []

-- the list done with this card, or refused with this number at this row, and with the row that it feeds where one is named
abbrev done : List ℕ → List ℕ → Worked
done l c = worked (calculates l blank) (calculated (0 ∷ 0 ∷ 0 ∷ []) c)

abbrev refused : List ℕ → ℕ → ℕ → ℕ → Worked
refused l number row fed = worked (calculates l blank) (calculated (number ∷ row ∷ fed ∷ []) blank)

-- row 1 of a list and card replaced by one with this work and far: done, both rows being worked out, or refused
abbrev becomes : List ℕ → List ℕ → ℕ → ℕ → List ℕ → List ℕ → Worked
becomes l c work far l' c' = worked (replaces l c 1 (first_row work far)) (replacing (0 ∷ 0 ∷ 0 ∷ []) 2 l' c')

abbrev refused_at : List ℕ → List ℕ → ℕ → ℕ → ℕ → ℕ → ℕ → Worked
refused_at l c work far number row fed = worked (replaces l c 1 (first_row work far)) (replacing (number ∷ row ∷ fed ∷ []) 0 l c)

-- pickup I of the third row against P2, the pickups below being a and b
abbrev held_to : ℕ → ℕ → ℕ → Bool → Worked
held_to a b I met = worked (clears under_one (pickups a b) 2 I) (clear met)

unfoldable pub table : List Worked
table =
    done two_rows two_card
    ∷ done (with two_rows 2 at_far 540000) two_card
    ∷ refused (with two_rows 2 at_far 539999) 12 2 0
    ∷ done (with two_rows 2 at_ceiling 2200) two_card
    ∷ refused (with two_rows 2 at_ceiling 2199) 7 2 0
    ∷ done (with two_rows 2 at_near 5148000) two_card
    ∷ done (with two_rows 2 at_near 5147999) (318000 ∷ 1900 ∷ 1300000 ∷ 0 ∷ 0 ∷ 360000 ∷ 2200 ∷ 0 ∷ 0 ∷ 0 ∷ [])
    ∷ becomes two_rows two_card 190000 900000 (with two_rows 1 at_work 190000)
    (336000 ∷ 1900 ∷ 1300000 ∷ 0 ∷ 0 ∷ 370000 ∷ 2200 ∷ 4290000 ∷ 0 ∷ 0 ∷ [])
    ∷ refused_at two_rows two_card 180000 431000 12 1 0
    ∷ held_to 100000 99000 209000 true
    ∷ held_to 100000 99000 208999 false
    ∷ held_to 100000 101000 209000 true
    ∷ held_to 100000 101000 208999 false
    ∷ held_to 100000 101000 122100 false
    -- [02 §2] RANGE: by P2 row 2 needs 1.1 × 318,000, and by P1 352,942; row 1 by P1 317,648. The cutoff is then above what is offered.
    ∷ done (with two_rows 2 at_high 360000) (318000 ∷ 1900 ∷ 1300000 ∷ 0 ∷ 0 ∷ 360000 ∷ 2200 ∷ 0 ∷ 0 ∷ 0 ∷ [])
    ∷ refused (with two_rows 2 at_high 359999) 11 2 0
    ∷ done (with two_rows 1 at_high 318000) (318000 ∷ 1900 ∷ 0 ∷ 0 ∷ 0 ∷ 360000 ∷ 2200 ∷ 4290000 ∷ 0 ∷ 0 ∷ [])
    ∷ refused (with two_rows 1 at_high 317999) 11 1 0
    -- in a replacement by the new row's pickup: 1.1 × 336,000 = 369,600
    ∷ becomes (with two_rows 2 at_high 370000) (set two_card 7 0) 190000 900000 (with (with two_rows 2 at_high 370000) 1 at_work 190000)
    (336000 ∷ 1900 ∷ 1300000 ∷ 0 ∷ 0 ∷ 370000 ∷ 2200 ∷ 0 ∷ 0 ∷ 0 ∷ [])
    ∷ refused_at (with two_rows 2 at_high 369999) (set two_card 7 0) 190000 900000 11 2 0
    -- BACKUP of row 1 by row 2, calculated and replaced
    ∷ done (backed_up 480000) backed_card
    ∷ refused (backed_up 479999) 13 2 1
    ∷ becomes (backed_up 900000) backed_card 180000 480000 (backed_up 480000) backed_card
    ∷ refused_at (backed_up 900000) backed_card 180000 479999 13 2 1
    -- [02 §5]
    ∷ done (with two_rows 2 at_device 2) later_card
    ∷ done (with (with two_rows 2 at_device 2) 2 at_ceiling 2400) later_card
    ∷ refused (with (with two_rows 2 at_device 2) 2 at_ceiling 2399) 7 2 0
    ∷ []
