-- One row's step, one law for each way that it ends.
use Rattle.answers.specs.Answer.{done}
use Rattle.settle.specs.Outcomes.{Settled}
use Rattle.answers.specs.declared.Refusal.TheVariants.{Unsettled}
use Rattle.std.proofs.Common.{Ok, Err}
use mathlib.Core.Path.{◌≡◌, refl, sym, ap, ap₂, ◌∙◌}
use mathlib.Core.Bool.{Bool, true, false, cond}
use mathlib.Core.List.{List}
use Prim.Native.Nat.{ℕ, ◌+◌, ◌-◌}
use lib.Dec.{eqb}
use lib.ListN.{length, set, length-set}
use borrow.Author.Tests.{eq-eqb, ne_eqb}
use Rattle.answers.specs.declared.Reason.{Reason}
use Rattle.layout.specs.declared.CardRow.{CardRow}
use Rattle.layout.specs.declared.Row.{Row}
use Rattle.layout.specs.Card.{card_row_at, put_card_row}
use Rattle.layout.specs.List.{row_at}
use Rattle.layout.specs.View.{view_of}
use Rattle.settle.specs.declared.Fed.{Fed}
use Rattle.settle.specs.declared.Outcome.{Outcome}
use Rattle.settle.specs.Fed.{asked, settled_by}
use Rattle.settle.specs.Settle.{shown}
use Rattle.rowwise.specs.Ready.{Stepped}
use Rattle.rowwise.specs.Sums.{fed_at, joined, pushed, step_by, step}

module _ (r : Row) (k : CardRow) (s : List Fed) where
  pub pushed-source : r.feeder ≡ 0 → s ≡ pushed r k s
  unfolding pushed
  pushed-source e = rw (eq-eqb r.feeder 0 e)

  pub pushed-feeder :
      (a b f : Fed) → (r.feeder ≡ 0 → ⊥) → a ≡ fed_at s (r.feeder - 1) → b ≡ asked r k → f ≡ joined a b →
      set s (r.feeder - 1) f ≡ pushed r k s
  unfolding pushed
  pushed-feeder a b f n ea eb ef =
      rw (ne_eqb r.feeder 0 n) (ap (set s (r.feeder - 1)) (ef ∙ ap₂ joined ea eb))

  pub pushed-length : length (pushed r k s) ≡ length s
  unfolding pushed
  pushed-length = by_cases (eqb r.feeder 0)
    where
      by_cases : (b : Bool) → length (cond b s (set s (r.feeder - 1) (joined (fed_at s (r.feeder - 1)) (asked r k)))) ≡ length s
      by_cases true = refl
      by_cases false = length-set s (r.feeder - 1) _

module _ (l : List ℕ) (i : ℕ) (c : List ℕ) (s : List Fed) (r : Row) (f : Fed) (er : r ≡ row_at l i) (ef : f ≡ fed_at s i) where
  settles : (o : Settled) → o ≡ settled_by (view_of l) (card_row_at c) i r f → step l i c s ≡ step_by l i c s o
  unfolding step
  settles o e = ap (step_by l i c s) (sym (e ∙ ap₂ (settled_by (view_of l) (card_row_at c) i) er ef))

  pub step-unsettled :
      (why : Reason) → Err why ≡ settled_by (view_of l) (card_row_at c) i r f → Stepped (step l i c s) (Err (Unsettled (i + 1) why)) c s
  unfolding step_by
  step-unsettled why e = rw (settles (Err why) e) (record { answer = refl; card = refl; sums = refl })

  pub step_set :
      (o : Outcome) (k : CardRow) (c' : List ℕ) (s' : List Fed) → Ok o ≡ settled_by (view_of l) (card_row_at c) i r f → k ≡ shown o → c' ≡ put_card_row c i k → s' ≡
      pushed r k s →
      Stepped (step l i c s) done c' s'
  unfolding step_by
  step_set o k c' s' e ek ec es =
      rw (settles (Ok o) e)
      (record {
        answer = refl;
        card = ec ∙ ap (put_card_row c i) ek;
        sums = es ∙ ap₂ (λ (r : Row) (k : CardRow). pushed r k s) er ek;
      })
