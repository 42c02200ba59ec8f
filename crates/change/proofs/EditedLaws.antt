-- A list with a new row that EDIT lets pass: as long as before, all rows but one as before, every row fed as before, and the
-- same paths.
use mathlib.Core.Path.{◌≡◌, sym, ap, ◌∙◌}
use mathlib.Core.Logic.{⊎_elim}
use mathlib.Core.List.{List}
use Prim.Native.Nat.{ℕ, ◌+◌, ◌-◌, ◌*◌, ◌/◌, ◌<◌}
use native.Mathlib.Omega.{arith}
use lib.Dec.{eqb, ltb}
use lib.ListN.{length}
use borrow.Author.Tests.{eqb-true, eqb-false, ltb-true, ltb-false}
use Rattle.layout.specs.Counts.{field_count}
use Rattle.fold.proofs.BoolLaws.{passes-or-fails}
use Rattle.layout.specs.Fields.{at_feeder}
use Rattle.layout.specs.List.{rows, field, row_at}
use Rattle.layout.proofs.RowLaws.{same_row}
use Rattle.path.specs.Path.{OnPath, itself, above}
use Rattle.change.specs.Edit.{put_list, EditFits, PutReady}
use Rattle.change.proofs.PutLaws.{put_list-length, put_list-before, put_list-within, put_list-after}

module _ (l : List ℕ) (place : ℕ) (row : List ℕ) (f : EditFits l place row) where
  pub edited-put : PutReady l (place - 1) row
  edited-put = record { in_list = omega (arith, f.from, f.to); row-length = f.row-length }

  pub edited-length : length (put_list l (place - 1) row) ≡ length l
  edited-length = put_list-length l (place - 1) row edited-put

  pub edited-rows : rows l ≡ rows (put_list l (place - 1) row)
  edited-rows = ap (λ (n : ℕ). n / field_count) (sym edited-length)

  pub edited-is-row : place - 1 < rows l
  edited-is-row = omega (arith, f.from, f.to)

  edited-field : (j k : ℕ) → (j ≡ place - 1 → ⊥) → k < field_count → field l j k ≡ field (put_list l (place - 1) row) j k
  edited-field j k n h =
      ⊎_elim
      (λ b. let g = ltb-true j (place - 1) b in sym (put_list-before l (place - 1) row edited-put (j * field_count + k) (omega arith)))
      (λ b. let g = ltb-false j (place - 1) b in sym (put_list-after l (place - 1) row edited-put (j * field_count + k) (omega arith)))
      (passes-or-fails (ltb j (place - 1)))

  pub edited-row : (j : ℕ) → (j ≡ place - 1 → ⊥) → row_at l j ≡ row_at (put_list l (place - 1) row) j
  edited-row j n = same_row l (put_list l (place - 1) row) j (λ k. edited-field j k n)

  pub edited-feeder : (j : ℕ) → field l j at_feeder ≡ field (put_list l (place - 1) row) j at_feeder
  edited-feeder j =
      ⊎_elim
      (λ b. let e = eqb-true j (place - 1) b in rw e (sym (put_list-within l (place - 1) row edited-put at_feeder (omega arith) ∙ f.same-feeder)))
      (λ b. edited-field j at_feeder (eqb-false j (place - 1) b) (omega arith))
      (passes-or-fails (eqb j (place - 1)))

  pub edited-path : {i j : ℕ} → OnPath (put_list l (place - 1) row) i j → OnPath l i j
  edited-path (itself i) = itself i
  edited-path (above i j n p) =
      above i j (λ z. n (sym (edited-feeder i) ∙ z)) (rw (edited-feeder i) (edited-path p))
