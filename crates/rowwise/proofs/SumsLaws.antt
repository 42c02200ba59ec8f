-- What is asked of a row: two such are one where they are equal number by number; and one that is kept is read again at its row alone.
use mathlib.Core.Path.{◌≡◌}
use mathlib.Core.List.{List}
use mathlib.Core.Logic.{◌≢◌}
use Prim.Native.Nat.{ℕ, ◌<◌}
use lib.ListN.{length}
use lib.Seq.{get_or-set_same, get_or-set_other}
use Rattle.std.specs.Prelude.{slice_set}
use Rattle.settle.specs.declared.Fed.{Fed}
use Rattle.rowwise.specs.Sums.{nothing, fed_at}

pub same-fed : {f g : Fed} → f.load ≡ g.load → f.excess ≡ g.excess → f.shortfall ≡ g.shortfall → f ≡ g
same-fed a b c = λ t. record { load = a t; excess = b t; shortfall = c t }

module _ (s : List Fed) (k : ℕ) (f : Fed) where
  pub put_fed-own : k < length s → fed_at (slice_set s k f) k ≡ f
  put_fed-own h = get_or-set_same s k f nothing h

  pub put_fed-other : (j : ℕ) → j ≢ k → fed_at (slice_set s k f) j ≡ fed_at s j
  put_fed-other j n = get_or-set_other s k j f nothing n
