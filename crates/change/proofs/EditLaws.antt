-- The test 10 EDIT passes exactly what section 4 lets pass.
use Rattle.answers.specs.Answer.{done}
use Rattle.answers.specs.declared.Refusal.TheVariants.{Edit}
use Rattle.std.proofs.Common.{Err}
use mathlib.Core.Path.{◌≡◌, refl}
use mathlib.Core.Bool.{Bool, true, false, cond, ◌&&◌}
use mathlib.Core.List.{List}
use Prim.Native.Nat.{ℕ, ◌-◌}
use lib.Dec.{leb, eqb}
use lib.ListN.{length, get_or}
use borrow.Author.Tests.{eqb-true, leb-true, le-leb, eq-eqb}
use Rattle.layout.specs.Counts.{field_count}
use Rattle.fold.proofs.BoolLaws.{and_left, and_right, and_both, fails, zero-not-one}
use Rattle.layout.specs.Fields.{at_feeder}
use Rattle.layout.specs.List.{rows, field}
use Rattle.change.specs.Edit.{EditFits, edit_right, edit_test}

module _ (l : List ℕ) (place : ℕ) (row : List ℕ) where
  pub edit-fits : edit_right l place row ≡ true → EditFits l place row
  unfolding edit_right
  edit-fits e =
      let a = leb 1 place in
      let b = leb place (rows l) in
      let x = eqb (length row) field_count in
      let y = eqb (get_or row 0 0) place in
      let z = eqb (get_or row at_feeder 0) (field l (place - 1) at_feeder) in
      let first = and_left (a && b) (x && (y && z)) e in
      let rest = and_right (a && b) (x && (y && z)) e in
      let last = and_right x (y && z) rest in
      record {
        from = leb-true _ _ (and_left a b first);
        to = leb-true place (rows l) (and_right a b first);
        row-length = eqb-true _ _ (and_left x (y && z) rest);
        own-number = eqb-true _ _ (and_left y z last);
        same-feeder = eqb-true _ _ (and_right y z last);
      }

  pub fits-edit : EditFits l place row → edit_right l place row ≡ true
  unfolding edit_right
  fits-edit f =
      and_both (and_both (le-leb _ _ f.from) (le-leb place (rows l) f.to))
      (and_both (eq-eqb _ _ f.row-length) (and_both (eq-eqb _ _ f.own-number) (eq-eqb _ _ f.same-feeder)))

  pub edit-passes : EditFits l place row → done ≡ edit_test l place row
  unfolding edit_test
  edit-passes f = rw (fits-edit f)

  pub edit-refuses : (EditFits l place row → ⊥) → Err Edit ≡ edit_test l place row
  unfolding edit_test
  edit-refuses n = rw (fails (edit_right l place row) (λ e. n (edit-fits e)))

  pub edit-passed : edit_test l place row ≡ done → EditFits l place row
  unfolding edit_test
  edit-passed e = edit-fits (by_cases (edit_right l place row) e)
    where
      by_cases : (b : Bool) → cond b done (Err Edit) ≡ done → b ≡ true
      by_cases true q = refl
      by_cases false q = absurd (zero-not-one cc)
