-- One row of a climb: row i is settled by its sums, and by its fed rows as the card has them, as section 3 says, since all rows that it feeds
-- are off its path, and so done.
use Rattle.settle.specs.declared.Fed.{Fed}
use Rattle.settle.specs.Outcomes.{Settled}
use Rattle.answers.specs.declared.Refusal.{Refusal}
use Rattle.answers.specs.Answer.{Answer, done}
use Rattle.std.proofs.Common.{Ok, Err}
use mathlib.Core.Path.{◌≡◌, refl, sym, ap, ◌∙◌}
use mathlib.Core.Bool.{Bool, true, not}
use mathlib.Core.List.{List}
use Prim.Native.Nat.{ℕ, ◌+◌, ◌-◌, ◌≤◌, ◌<◌}
use native.Mathlib.Omega.{arith}
use Rattle.layout.specs.Card.{card_row_at, put_card_row}
use Rattle.layout.specs.List.{rows, row_at}
use Rattle.layout.specs.View.{view_of}
use Rattle.settle.specs.Conditions.{fed}
use Rattle.settle.specs.Fed.{CardBounded}
use Rattle.settle.specs.Settle.{shown, settled}
use Rattle.settle.proofs.SameLaws.{fed-below}
use Rattle.rowwise.specs.Ready.{WorkReady, RowsReady, Stepped}
use Rattle.rowwise.specs.Sums.{pushed, step_by, settled_at, step, steps}
use Rattle.rowwise.specs.WorkOut.{on_settled, work_out}
use Rattle.rowwise.proofs.EndLaws.{never-passed, same_answer}
use Rattle.rowwise.proofs.StepsLaws.{one-row, one-row-ready}
use Rattle.rowwise.proofs.WorkingLaws.{work-ready, work-settles, settled-to}
use Rattle.path.specs.Path.{path_of, on_path}
use Rattle.path.specs.Reach.{reach_from, comes_to, refused-there}
use Rattle.path.specs.Ready.{ClimbReady, far_of, card_of, WorkedOut}
use Rattle.path.proofs.PathLaws.{on-self, on-feeder, off-below}
use Rattle.settle.specs.declared.Outcome.{Outcome}
use Rattle.path.proofs.ReachLaws.{get-reached}

-- row j is off the path of row i
abbrev pub off : List ℕ → ℕ → ℕ → Bool
off l i j = not (on_path l i j)

module _ (l : List ℕ) (i : ℕ) (c : List ℕ) (s : List Fed) (r : ClimbReady l i c s) where
  -- the feeder of a row on the path is on it
  feeder-on : 1 ≤ (row_at l i).feeder → on_path l i ((row_at l i).feeder - 1) ≡ true
  feeder-on q =
      let b = r.working.feeds in
      on-feeder l b i i r.is_row (on-self l b i r.is_row) (λ z. omega arith)

  -- the rows that row i feeds are off its path
  fed-off : (j : ℕ) → j < rows l → fed (view_of l) i j ≡ true → off l i j ≡ true
  fed-off j h g =
      let b = r.working.feeds in
      rw (off-below l b i j r.is_row (fed-below l b i j h g))

  pub climb-works : WorkReady l i c s
  climb-works =
      work-ready l (off l i) (on_path l i) c s r.working i r.is_row feeder-on
      (on-self l r.working.feeds i r.is_row) fed-off

  pub climb-ready : RowsReady l i (i + 1 - i) c s
  climb-ready = one-row-ready l i c s climb-works

  settles : settled_at l i c s ≡ settled (view_of l) (card_row_at c) i
  settles =
      work-settles l (off l i) (on_path l i) c s r.working i r.is_row (on-self l r.working.feeds i r.is_row) fed-off

  comes : comes_to l i c ≡ settled_at l i c s
  comes = sym settles

  -- the row's own step
  module _ (t : Answer) (c' : List ℕ) (s' : List Fed) (worked : Stepped (steps l i (i + 1 - i) c s) t c' s') where
    z : Stepped (step l i c s) t c' s'
    z = rw (one-row l i c s) at worked

    pub climb-refused :
        (feeding : Bool) (a : Refusal) → t ≡ Err a → WorkedOut l (reach_from l feeding (path_of l i) c) c (Err a) c'
    unfolding step step_by work_out on_settled far_of card_of
    climb-refused feeding a e = by_cases (settled_at l i c s) comes z
      where
        by_cases :
            (o : Settled) → comes_to l i c ≡ o → Stepped (step_by l i c s o) t c' s' →
            WorkedOut l (reach_from l feeding (path_of l i) c) c (Err a) c'
        by_cases (Ok o) q z = absurd (never-passed (sym z.answer ∙ e))
        by_cases (Err why) q z =
            rw (get-reached l r.working.feeds r.is_row (refused-there feeding i c why q), q)
            (record { far = ap Err (same_answer (sym e ∙ z.answer)); card = z.card })

    -- what it comes to, where it passed
    pub record Comes : Type 0 where
      pub outcome : Outcome
      pub comes-to : comes_to l i c ≡ Ok outcome
      pub bounded : CardBounded (row_at l i) (shown outcome)
      pub card : c' ≡ put_card_row c i (shown outcome)
      pub sums : s' ≡ pushed (row_at l i) (shown outcome) s

    pub climb-passes : t ≡ done → Comes
    unfolding step step_by
    climb-passes e = by_cases (settled_at l i c s) refl z
      where
        by_cases : (o : Settled) → settled_at l i c s ≡ o → Stepped (step_by l i c s o) t c' s' → Comes
        by_cases (Ok o) q z =
            record {
              outcome = o;
              comes-to = comes ∙ q;
              bounded = settled-to l (off l i) (on_path l i) c s r.working i r.is_row o (sym q);
              card = z.card;
              sums = z.sums;
            }
        by_cases (Err why) q z = absurd (never-passed (sym e ∙ z.answer))
