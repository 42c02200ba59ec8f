-- [01 §2, §4], [02 §1] When a list is in range and feeds as section 2 says, and which refusal it gets otherwise.
-- Rows and fields are counted from 0; places in answers from 1. Definitions only.
use Rattle.answers.specs.declared.Refusal.TheVariants.{Count, Room, Field, Tree}
use Rattle.answers.specs.Answer.{Answer, done}
use Rattle.std.specs.Prelude.{List, Bool, not, cond, ◌&&◌, ◌||◌, ℕ, ◌+◌, ◌-◌, ◌*◌, ◌/◌, ◌%◌, leb, ltb, eqb, Option, Some, None, is_some, unwrap_or, Err}
use Rattle.layout.specs.Counts.{field_count, column_count, list_most}
use Rattle.fold.specs.First.{first}
use Rattle.layout.specs.Fields.{at_feeder, at_kind, at_low, at_high, at_primary, at_secondary, in_bounds}
use Rattle.layout.specs.List.{rows, field, bounds_at}

-- a rated secondary beside the rated primary p: 0 with 0, otherwise 1 or 5
unfoldable pub rating_right : ℕ → ℕ → Bool
rating_right p s = cond (eqb p 0) (eqb s 0) (eqb s 1 || eqb s 5)

-- field k of row i lies within its bounds; field 1 besides is the row's own place, and field 20 fits field 19
unfoldable pub field_right : List ℕ → ℕ → ℕ → Bool
field_right l i k =
    in_bounds (bounds_at l i) k (field l i k) &&
    ((not (eqb k 0) || eqb (field l i k) (i + 1)) && (not (eqb k at_secondary) || rating_right (field l i at_primary) (field l i k)))

-- "high" is at most 100,000,000 mA primary: high × primary ≤ 100,000,000 × secondary, which with 0 in both holds
unfoldable pub high_right : ℕ → ℕ → ℕ → Bool
high_right high p s = leb (high * p) (100000000 * s)

-- where each field is right by itself, the field at fault, from 1: low above high is field 12, then high above its most is field 13
unfoldable pub order_fault : List ℕ → ℕ → Option ℕ
order_fault l i =
    cond (leb (field l i at_low) (field l i at_high))
    (cond (high_right (field l i at_high) (field l i at_primary) (field l i at_secondary)) None (Some (at_high + 1)))
    (Some (at_low + 1))

abbrev pub field_wrong : List ℕ → ℕ → ℕ → Bool
field_wrong l i k = not (field_right l i k)

-- the first field at fault of a row, from 1: the fields' own ranges first
unfoldable pub fault_after : Option ℕ → Option ℕ → Option ℕ
fault_after order (Some k) = Some (k + 1)
fault_after order None = order

unfoldable pub row_fault : List ℕ → ℕ → Option ℕ
row_fault l i = fault_after (order_fault l i) (first (λ k. not (field_right l i k)) 0 field_count)

-- each row but the last is fed by a row with a greater number, and by no motor; the last has 0
unfoldable pub feeds_right : List ℕ → ℕ → Bool
feeds_right l i =
    cond (eqb (i + 1) (rows l))
    (eqb (field l i at_feeder) 0)
    (ltb (i + 1) (field l i at_feeder) && (leb (field l i at_feeder) (rows l) && not (eqb (field l (field l i at_feeder - 1) at_kind) 3)))

-- 2 COUNT, then 3 ROOM: `room` is how many numbers the lent card holds
unfoldable pub size_test : ℕ → ℕ → Answer
size_test len room =
    cond (eqb (len % field_count) 0 && (leb field_count len && leb len (list_most)))
    (cond (leb (column_count * (len / field_count)) room) done (Err Room))
    (Err Count)

-- 5 TREE over all rows ascending; the place is the fed row
abbrev pub fed_wrongly : List ℕ → ℕ → Bool
fed_wrongly l i = not (feeds_right l i)

unfoldable pub tree_answer : Option ℕ → Answer
tree_answer (Some i) = Err (Tree (i + 1))
tree_answer None = done

unfoldable pub tree_test : List ℕ → Answer
tree_test l = tree_answer (first (fed_wrongly l) 0 (rows l))

-- 4 FIELD over all rows ascending, then 5 over all rows
abbrev pub row_at_fault : List ℕ → ℕ → Bool
row_at_fault l i = is_some (row_fault l i)

unfoldable pub field_answer : List ℕ → Answer → Option ℕ → Answer
field_answer l next (Some i) = Err (Field (i + 1) (unwrap_or (row_fault l i) 0))
field_answer l next None = next

unfoldable pub fields_test : List ℕ → Answer
fields_test l = field_answer l done (first (row_at_fault l) 0 (rows l))

unfoldable pub rows_test : List ℕ → Answer
rows_test l = field_answer l (tree_test l) (first (row_at_fault l) 0 (rows l))
