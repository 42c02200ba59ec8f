-- How a working out ends: what its count or its refusal says of it, and of the card.
use Rattle.answers.specs.declared.Refusal.{Refusal}
use Rattle.std.proofs.Common.{Ok, Err}
use mathlib.Core.Path.{◌≡◌, sym, ap, ◌∙◌}
use mathlib.Core.List.{List}
use Prim.Native.Nat.{ℕ}
use lib.ListN.{length}
use Rattle.fold.proofs.BoolLaws.{zero-not-one}
use Rattle.rowwise.specs.WorkOut.{Worked, finished, refused}
use Rattle.path.specs.Ready.{far_of, card_of, Reworked, HowFar}

rows-not-refused : {n : ℕ} {a : Refusal} → ◌≡◌ {A = HowFar} (Ok n) (Err a) → ⊥
rows-not-refused e = zero-not-one cc

same_rows : {n m : ℕ} → ◌≡◌ {A = HowFar} (Ok n) (Ok m) → n ≡ m
same_rows e = cc

same-refused : {a b : Refusal} → ◌≡◌ {A = HowFar} (Err a) (Err b) → a ≡ b
same-refused e = cc

module _ (is : List ℕ) (w : Worked) (c : List ℕ) (f : HowFar) (c' : List ℕ) (z : Reworked is w c f c') where
  pub reworked-done : (n : ℕ) → f ≡ Ok n → (w ≡ finished c') × (n ≡ length is)
  unfolding far_of card_of
  reworked-done n e = by_cases w (sym e ∙ z.far) z.card
    where
      by_cases : (w : Worked) → Ok n ≡ far_of is w → c' ≡ card_of c w → (w ≡ finished c') × (n ≡ length is)
      by_cases (finished d) e q = (ap finished (sym q), same_rows e)
      by_cases (refused a) e q = absurd (rows-not-refused e)

  -- what a refusal is, and that it kept the card
  pub reworked-refused : (a : Refusal) → f ≡ Err a → (w ≡ refused a) × (c' ≡ c)
  unfolding far_of card_of
  reworked-refused a e = by_cases w (sym e ∙ z.far) z.card
    where
      by_cases : (w : Worked) → Err a ≡ far_of is w → c' ≡ card_of c w → (w ≡ refused a) × (c' ≡ c)
      by_cases (finished d) e q = absurd (rows-not-refused (sym e))
      by_cases (refused b) e q = (ap refused (sym (same-refused e)), q)
