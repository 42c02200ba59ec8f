-- An accepted list and its card: the tests pass, the calculation finishes with the card, and each row of the card stands at
-- its own least settings, which pass CARD.
use Rattle.answers.specs.declared.Refusal.{Refusal}
use Rattle.answers.specs.Answer.{Answer, done}
use Rattle.std.proofs.Common.{Ok, Err}
use mathlib.Core.Path.{◌≡◌, refl, sym, ap, ◌∙◌}
use mathlib.Core.List.{List}
use Prim.Native.Nat.{ℕ, ◌*◌, ◌≤◌, ◌<◌}
use native.Mathlib.Omega.{arith}
use lib.ListN.{length}
use Rattle.layout.specs.Card.{card_row_at}
use Rattle.layout.specs.Counts.{column_count}
use Rattle.layout.specs.List.{rows, row_at}
use Rattle.sides.specs.Sides.{setting_most}
use Rattle.layout.specs.View.{view_of}
use Rattle.layout.specs.Range.{CardRowInRange}
use Rattle.rows.specs.InRange.{InRange}
use Rattle.rows.specs.Tests.{size_test, rows_test}
use Rattle.rows.proofs.InRangeLaws.{passed-feeds}
use Rattle.rows.proofs.TestLaws.{size-passed}
use Rattle.rowwise.specs.WorkOut.{Worked, finished, refused, on_passed}
use Rattle.calculate.specs.Whole.{Result, ending, calculation, whole}
use Rattle.calculate.proofs.CardRange.{least-in-range}
use Rattle.calculate.proofs.FrameLaws.{calculation-keeps}
use Rattle.settle.proofs.SettledTheorems.{settled-least}
use Rattle.calculate.proofs.SettledLaws.{Settles, calculation-settled}
use Rattle.change.proofs.RefusalLaws.{Later, refuses-done, size-refuses, rows-later, work-later, passed-refused, passed-finished}

-- the whole calculation, its size being right
pub whole-as : (l c : List ℕ) → size_test (length l) (length c) ≡ done → whole l c ≡ ending c (on_passed (rows_test l) (calculation l c))
unfolding whole on_passed
whole-as l c e = rw e

pub record Accepts (l c₀ c : List ℕ) : Type 0 where
  pub size : size_test (length l) (length c₀) ≡ done
  pub tested : rows_test l ≡ done
  pub calculated : calculation l c₀ ≡ finished c

pub calculation-later : (l c : List ℕ) (a : Refusal) → on_passed (rows_test l) (calculation l c) ≡ refused a → Later a
unfolding calculation
calculation-later l c = passed-refused _ _ Later (rows-later l) (work-later l _ c)

pub accepts : (l c₀ c : List ℕ) → whole l c₀ ≡ record { answer = done; card = c } → Accepts l c₀ c
unfolding whole on_passed ending
accepts l c₀ c e = by_size (size_test (length l) (length c₀)) refl
  where
    by-work :
        (w : Worked) → size_test (length l) (length c₀) ≡ done → on_passed (rows_test l) (calculation l c₀) ≡ w →
        ending c₀ w ≡ record { answer = done; card = c } → Accepts l c₀ c
    by-work (finished d) s q g =
        let p = passed-finished (rows_test l) (calculation l c₀) d q in
        record { size = s; tested = p.0; calculated = p.1 ∙ ap (λ (r : Result). finished r.card) g }
    by-work (refused a) s q g = absurd (refuses-done (calculation-later l c₀ a q).refuses (ap (λ (r : Result). r.answer) g))

    by_size : (t : Answer) → size_test (length l) (length c₀) ≡ t → Accepts l c₀ c
    by_size (Ok _) s = by-work _ s refl (sym (whole-as l c₀ s) ∙ e)
    by_size (Err a) s =
        let g : whole l c₀ ≡ record { answer = Err a; card = c₀ } = rw s in
        absurd (refuses-done (size-refuses (length l) (length c₀) a s) (ap (λ (r : Result). r.answer) (sym g ∙ e)))

-- a card row at its own least settings passes CARD
module _ (l : List ℕ) (a : InRange l) (c : List ℕ) (j : ℕ) (h : j < rows l) (s : Settles l c j) where
  pub settled-fits : CardRowInRange (setting_most (row_at l j).ratio.primary) (card_row_at c j)
  settled-fits =
      let b = (a j h).bounded in
      least-in-range (view_of l) (card_row_at c) j b (settled-least (view_of l) (card_row_at c) j b s)

module _ (l c₀ c : List ℕ) (x : Accepts l c₀ c) where
  pub accepted-room : rows l * column_count ≤ length c₀
  accepted-room = omega (arith, (size-passed (length l) (length c₀) x.size).card-room)

  pub accepted-length : length c ≡ length c₀
  accepted-length = (calculation-keeps l c₀ c x.calculated).same_length

  pub rows_settled : (j : ℕ) → j < rows l → Settles l c j
  rows_settled = calculation-settled l (passed-feeds l x.tested) c₀ c accepted-room x.calculated
