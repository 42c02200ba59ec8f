-- [01 §4], [02 §2, §3, §8] Which number and place a replacement gets, for any list, card, place and new row: "2, 3, 10, then 4 and 5 over the
-- list as it would be, then 9 over all rows ascending, then 6 and 7 along the path", with 11, 12 and 13 where 6 stood and 14 before 7, as
-- far as the climb goes. Each answer stands with all that comes before it in this order absent. Rows and fields are counted from 0, places in
-- answers from 1. Definitions only.
use Rattle.answers.specs.declared.Refusal.TheVariants.{Count, Room, Field, Tree, Card, Edit}
use Rattle.answers.specs.Answer.{Answer, done}
use Rattle.std.specs.Prelude.{List, ℕ, ◌+◌, ◌-◌, length, Err}
use Rattle.layout.specs.View.{Settings}
use Rattle.path.specs.CardTest.{CardInRange, FirstCardOut}
use Rattle.rows.specs.InRange.{RightSize, HasRoom, InRange, Feeds, FirstOutOfRange, FirstMisfed}
use Rattle.change.specs.AnyCard.{WorkedTo, PathRefused}
use Rattle.change.specs.Edit.{put_list, EditFits}

-- the list as it would be
abbrev pub made : List ℕ → ℕ → List ℕ → List ℕ
made l place row = put_list l (place - 1) row

-- none of 2, 3 and 10 applies
pub record Fits (l c : List ℕ) (place : ℕ) (row : List ℕ) : Type 0 where
  pub right-size : RightSize l
  pub room : HasRoom l (length c)
  pub edit : EditFits l place row

-- nor does 4, 5 or 9: what is left is the path
pub record Passes (l c : List ℕ) (place : ℕ) (row : List ℕ) : Type 0 where
  pub fits : Fits l c place row
  pub in-range : InRange (made l place row)
  pub feeds : Feeds (made l place row)
  pub card : CardInRange (made l place row) (place - 1) c

pub data ReplacementGets (l c : List ℕ) (place : ℕ) (row : List ℕ) : Answer → Type 0 where
  COUNT : (RightSize l → ⊥) → ReplacementGets l c place row (Err Count)
  ROOM : RightSize l → (HasRoom l (length c) → ⊥) → ReplacementGets l c place row (Err Room)
  EDIT : RightSize l → HasRoom l (length c) → (EditFits l place row → ⊥) → ReplacementGets l c place row (Err Edit)
  FIELD :
      (i k : ℕ) → Fits l c place row → FirstOutOfRange (made l place row) i k → ReplacementGets l c place row (Err (Field (i + 1) (k + 1)))
  TREE :
      (i : ℕ) → Fits l c place row → InRange (made l place row) → FirstMisfed (made l place row) i →
      ReplacementGets l c place row (Err (Tree (i + 1)))
  CARD :
      (i : ℕ) → Fits l c place row → InRange (made l place row) → Feeds (made l place row) → FirstCardOut (made l place row) (place - 1) c i →
      ReplacementGets l c place row (Err (Card (i + 1)))
  UNSETTLED :
      {a : Answer} → Passes l c place row → PathRefused (made l place row) (place - 1) c a → ReplacementGets l c place row a
  DONE :
      (k : Settings) (last : ℕ) → Passes l c place row → WorkedTo (made l place row) (place - 1) c k last → ReplacementGets l c place row done
