-- [01 §7] What a worked case is: a whole calculation, a replacement or P2 by itself, and what it comes to in section 4's numbers.
-- Definitions only.
use Rattle.std.specs.Prelude.{Bool, List, ℕ}
use Rattle.answers.specs.Answer.{given_by}
use Rattle.layout.specs.View.{view_of, Settings}
use Rattle.settle.specs.Conditions.{each_fed, clear_of}
use Rattle.sides.specs.Sides.{milliamperes}
use Rattle.calculate.specs.Whole.{whole}
use Rattle.change.specs.Replace.{replaced}

-- a list calculated on a lent card; a place and a new row for it, replaced on a list and a card; pickup I of row i of a list,
-- in primary mA, held against P2, the rows below at these settings
pub data Case : Type 0 where
  calculates : List ℕ → List ℕ → Case
  replaces : List ℕ → List ℕ → ℕ → List ℕ → Case
  clears : List ℕ → Settings → ℕ → ℕ → Case

-- number, place and what names it more closely, with the card afterwards; the same with the count of the rows worked out, and list and
-- card afterwards; whether it is met
pub data Comes : Type 0 where
  calculated : List ℕ → List ℕ → Comes
  replacing : List ℕ → ℕ → List ℕ → List ℕ → Comes
  clear : Bool → Comes

unfoldable pub comes : Case → Comes
comes (calculates l c) = calculated (given_by (whole l c).answer) (whole l c).card
comes (replaces l c place row) =
    let r = replaced l c place row in
    replacing (given_by r.answer) r.count r.list r.card
comes (clears l k i I) = clear (each_fed (view_of l) i (λ j. clear_of (view_of l) k i j (milliamperes I)))

-- a case with what the documents say of it
pub record Worked : Type 0 where
  pub case : Case
  pub is : Comes

unfoldable pub worked : Case → Comes → Worked
worked c w = record { case = c; is = w }
