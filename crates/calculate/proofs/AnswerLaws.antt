-- The whole calculation's answer, one law for each way that it ends.
use Rattle.feeding.specs.declared.Links.{Links}
use Rattle.answers.specs.declared.Refusal.{Refusal}
use Rattle.settle.specs.declared.Fed.{Fed}
use Rattle.answers.specs.Answer.{Answer, done}
use Rattle.std.proofs.Common.{Err}
use mathlib.Core.Path.{◌≡◌, refl, sym, ap, ◌∙◌, subst}
use mathlib.Core.List.{List, ◌++◌}
use Prim.Native.Nat.{ℕ, ◌*◌, ◌≤◌}
use native.Mathlib.Nat.{mul_comm}
use native.Mathlib.Omega.{arith}
use lib.ListN.{length, take, drop}
use Rattle.layout.specs.Counts.{column_count, rows_most, card_most}
use Rattle.layout.specs.List.{rows}
use Rattle.rows.specs.Tests.{size_test, rows_test}
use Rattle.rows.proofs.InRangeLaws.{passed-feeds}
use Rattle.rows.proofs.TestLaws.{SizeRight, size-passed}
use Rattle.rowwise.specs.Sums.{nothing, fed_at}
use Rattle.rowwise.specs.WorkOut.{Worked, on_passed}
use Rattle.feeding.specs.Fed.{unlinked, link_at, LinkReady}
use Rattle.rowwise.proofs.LinkLaws.{link-ready}
use Rattle.rowwise.specs.Working.{Unworked}
use Rattle.calculate.specs.Ready.{WorkTested, Answered}
use Rattle.calculate.specs.Whole.{Result, ending, calculation, worked_as, whole}
use Rattle.calculate.proofs.FrameLaws.{framed, calculation-frame}

module _ (l c : List ℕ) where
  pub answered-size : (t : Answer) (a : Refusal) → t ≡ size_test (length l) (length c) → t ≡ Err a → Answered (whole l c) (Err a) c
  unfolding whole ending on_passed
  answered-size t a e f = rw (sym e ∙ f) (record { answer = refl; card = refl })

  module _ (s : Answer) (es : s ≡ size_test (length l) (length c)) (fs : s ≡ done) where
    size : SizeRight (length l) (length c)
    size = size-passed (length l) (length c) (sym es ∙ fs)

    pub answered-rows : (t : Answer) (a : Refusal) → t ≡ rows_test l → t ≡ Err a → Answered (whole l c) (Err a) c
    unfolding whole ending on_passed
    answered-rows t a e f = rw (sym es ∙ fs, sym e ∙ f) (record { answer = refl; card = refl })

    -- both passed: what is left is the calculation
    module _ (t : Answer) (et : t ≡ rows_test l) (ft : t ≡ done) where
      pub work-tested : WorkTested l c
      work-tested =
          record { rows-to = omega (arith, size.most-rows); tested = sym et ∙ ft; card-room = omega (arith, size.card-room) }

      worked : whole l c ≡ ending c (calculation l c)
      unfolding whole on_passed
      worked = rw (sym es ∙ fs, sym et ∙ ft)

      pub answered-worked : (a : Answer) (c' : List ℕ) → Answered (ending c (calculation l c)) a c' → Answered (whole l c) a c'
      answered-worked a c' = subst (λ (z : Result). Answered z a c') (sym worked)

module _ (l c : List ℕ) (r : WorkTested l c) where
  pub links-ready : (links : List Links) → rows_most ≤ length links → ((i : ℕ) → link_at links i ≡ unlinked) → LinkReady l links
  links-ready links = link-ready l links (passed-feeds l r.tested) r.rows-to

  -- on a card of its own with room for every row, and sums that are 0
  pub own-unworked :
      (z : List ℕ) (y : List Fed) → card_most ≤ length z → rows_most ≤ length y → ((i : ℕ) → fed_at y i ≡ nothing) → Unworked l z y
  own-unworked z y h k q =
      record {
        rows-to = r.rows-to;
        tested = r.tested;
        card-room = omega (arith, r.rows-to);
        sums-room = omega (arith, r.rows-to);
        sums-clear = q;
      }

  calculates :
      (z : List ℕ) (w : Worked) → card_most ≤ length z → calculation l z ≡ w →
      ending c (calculation l c) ≡ ending c (framed (rows l * column_count) c w)
  calculates z w h e =
      ap (ending c)
      (calculation-frame l (passed-feeds l r.tested) z c (omega (arith, r.rows-to)) r.card-room ∙
      ap (framed (rows l * column_count) c) e)

  pub answered-refused :
      (z z' : List ℕ) (w : Answer) (a : Refusal) → card_most ≤ length z → calculation l z ≡ worked_as w z' → w ≡ Err a →
      Answered (ending c (calculation l c)) (Err a) c
  unfolding ending framed worked_as
  answered-refused z z' w a h e f =
      rw (calculates z (worked_as w z') h e, f) (record { answer = refl; card = refl })

  pub answered-done :
      (z z' c' : List ℕ) (w : Answer) → card_most ≤ length z → calculation l z ≡ worked_as w z' → w ≡ done →
      c' ≡ take (column_count * rows l) z' ++ drop (column_count * rows l) c → Answered (ending c (calculation l c)) done c'
  unfolding ending framed worked_as
  answered-done z z' c' w h e f g =
      rw (calculates z (worked_as w z') h e, f)
      (record { answer = refl; card = g ∙ ap (λ (n : ℕ). take n z' ++ drop n c) (mul_comm column_count (rows l)) })
