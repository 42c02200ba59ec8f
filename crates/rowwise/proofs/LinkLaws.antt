-- The feeders of a list that feeds as section 2 says are rows of it, so its rows can be linked.
use Rattle.feeding.specs.declared.Links.{Links}
use mathlib.Core.Path.{◌≡◌}
use mathlib.Core.Logic.{⊎_elim}
use mathlib.Core.List.{List}
use Prim.Native.Nat.{ℕ, ◌+◌, ◌≤◌}
use native.Mathlib.Omega.{arith}
use lib.Dec.{eqb}
use lib.ListN.{length}
use borrow.Author.Tests.{eqb-true, eqb-false}
use Rattle.feeding.specs.Fed.{unlinked, link_at, LinkReady}
use Rattle.fold.proofs.BoolLaws.{passes-or-fails}
use Rattle.layout.specs.Counts.{rows_most}
use Rattle.layout.specs.List.{rows}
use Rattle.rows.specs.InRange.{Feeds}
use Rattle.rows.proofs.InRangeLaws.{feeder-above, feeder-of-last}

pub link-ready :
    (l : List ℕ) (links : List Links) → Feeds l → rows l ≤ rows_most → rows_most ≤ length links → ((i : ℕ) → link_at links i ≡ unlinked) → LinkReady l links
link-ready l links f few room clear =
    record {
      rows-to = few;
      feeders =
          λ j h some.
          ⊎_elim
          (λ e. absurd (some (feeder-of-last l f j h (eqb-true (j + 1) (rows l) e))))
          (λ e. feeder-above l f j h (eqb-false (j + 1) (rows l) e))
          (passes-or-fails (eqb (j + 1) (rows l)));
      links-room = omega arith;
      links-clear = clear;
    }
