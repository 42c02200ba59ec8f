-- `read_line` meets its contract, turn by turn.
use Rattle.std.proofs.Common.{rules, Option, None, refl, ap, ◌≡◌, eqb, drop}
use Rattle.cursor.specs.declared.Cell.{Cell}
use Rattle.cursor.specs.declared.Cell.TheVariants.{Number}
use Rattle.cursor.specs.declared.Cursor.{Cursor}
use Rattle.cursor.specs.Pieces.{cell_read, field_at}
use mathlib.Core.Path.{◌∙◌}
use Prim.Native.Nat.{◌≤◌}
use native.Mathlib.Omega.{arith}
use lib.ListN.{length}
use borrow.Author.Rules.{rules}
use Rattle.text.specs.Line.{columns_of}
use Rattle.text.proofs.TurnLaws.{Turn, turn-none, turn-room, turn-number, turn-name, line-over, line-done}
use Rattle.text.proofs.line.read_line.Goals as goal
use Rattle.text.proofs.line.read_line.Goals.{in-Number, in-Name, After-field, In-Number}

-- what is known where a field was read
turn :
    (c : After-field) (r : Option (Cell × Cursor)) → r ≡ field_at (eqb c.loop-k.k 0) c.kind.result c.loop-k.c (drop c.loop-k.c.at c.args.s.now) →
    let l = c.loop-k in
    Turn c.args.columns c.args.s.now c.args.from.at l.numbers l.name l.c l.k l.n r
turn c r e =
    record {
      usable = c.requires;
      read = c.loop-k.invariant;
      inside = omega (arith, c.loop-k-test.true, c.count-k-end.ensures);
      answer = e ∙ rw c.kind.ensures;
    }

-- a number, or a name's place, was read
number-read : (c : In-Number) → cell_read c.in_ok-cell.cell c.in_ok-cell.past ≡ cell_read (Number c.in-Number.v) c.in_ok-cell.past
number-read c = rw c.in-Number.is

pub returns-in_err-cell : goal.returns-in_err-cell
returns-in_err-cell c =
    c.from_residual.ensures ∙ turn-none _ _ _ _ _ _ _ _ _ (turn (goal.at.returns-in_err-cell c).After-field None c.in_err-cell.ensures) refl

pub offset_bounds-numbers-n : goal.offset_bounds-numbers-n
offset_bounds-numbers-n c =
    let t = turn (goal.at.offset_bounds-numbers-n c).After-field _ c.in_ok-cell.ensures in
    let h = turn-room _ _ _ _ _ _ _ _ _ t _ _ (number-read (goal.at.offset_bounds-numbers-n c).In-Number) in
    search rules

pub bounds-numbers-n : goal.bounds-numbers-n
bounds-numbers-n c =
    let t = turn (goal.at.bounds-numbers-n c).After-field _ c.in_ok-cell.ensures in
    turn-room _ _ _ _ _ _ _ _ _ t _ _ (number-read (goal.at.bounds-numbers-n c).In-Number)

pub overflow_add-n : goal.overflow_add-n
overflow_add-n c =
    let t = turn (goal.at.overflow_add-n c).After-field _ c.in_ok-cell.ensures in
    let h = turn-room _ _ _ _ _ _ _ _ _ t _ _ (number-read (goal.at.overflow_add-n c).In-Number) in
    search rules

pub loop-k-preserved : goal.loop-k-preserved
loop-k-preserved c =
    let t = turn (goal.at.loop-k-preserved c).After-field _ c.in_ok-cell.ensures in
    elim c.match-cell.branch [
      | in-Number w ↦
          rw (w.numbers-is, w.name-is, w.n-is)
          (turn-number _ _ _ _ _ _ _ _ _ t w.in-Number.v c.in_ok-cell.past (ap (λ (x : Cell). cell_read x c.in_ok-cell.past) w.in-Number.is))
      | in-Name w ↦
          rw (w.numbers-is, w.name-is, w.n-is)
          (turn-name _ _ _ _ _ _ _ _ _ t w.in-Name.place.start w.in-Name.place.size c.in_ok-cell.past
          (ap (λ (x : Cell). cell_read x c.in_ok-cell.past) w.in-Name.is))
    ]

pub returns-then-c-s : goal.returns-then-c-s
returns-then-c-s c =
    let all : length (columns_of c.args.columns) ≤ c.loop-k.k = omega (arith, c.count-k-end.ensures, c.loop-k-test.false) in
    line-over _ _ _ _ _ c.loop-k.c _ _ c.requires c.loop-k.invariant all c.if-c-s.true

pub returns : goal.returns
returns c =
    let all : length (columns_of c.args.columns) ≤ c.loop-k.k = omega (arith, c.count-k-end.ensures, c.loop-k-test.false) in
    line-done _ _ _ _ _ c.loop-k.c _ _ c.requires c.loop-k.invariant all c.if-c-s.false
