-- A path worked out on any card, as far as the climb goes: it finishes with each row up to the last at its least settings, the others
-- as they were found, or it is refused at the first row of the path that no pickup, or else no delay, fits.
use mathlib.Core.Path.{◌≡◌, refl, sym, ◌∙◌, subst}
use mathlib.Core.Bool.{Bool, true, false}
use mathlib.Core.Logic.{inl, inr, ⊎_elim}
use mathlib.Core.List.{List, [], ◌∷◌}
use Prim.Native.Nat.{ℕ, ◌-◌, ◌*◌, ◌≤◌, ◌<◌}
use native.Mathlib.Numerals.{add-one}
use native.Mathlib.Omega.{arith}
use lib.ListN.{length}
use Rattle.fold.proofs.BoolLaws.{passes-or-fails, not-both}
use Rattle.layout.specs.Card.{card_row_at, put_card_row}
use Rattle.layout.specs.Counts.{column_count}
use Rattle.layout.specs.Fields.{at_feeder}
use Rattle.layout.specs.List.{rows, field}
use Rattle.layout.specs.View.{view_of}
use Rattle.layout.specs.Range.{AllBounded}
use Rattle.rows.specs.InRange.{Feeds}
use Rattle.settle.specs.Settle.{shown}
use Rattle.rowwise.specs.WorkOut.{Worked, on_settled, work_out}
use Rattle.path.specs.Path.{Nth}
use Rattle.path.specs.Reach.{Reaches, refused-there, at_source, as_it_was, goes_on, reach}
use Rattle.path.proofs.ReachLaws.{reaches-from}
use Rattle.path.proofs.PathLaws.{fed-climbs, on-above}
use Rattle.change.specs.AnyCard.{GoesOn}
use Rattle.change.proofs.ReachedLaws.{IsNext, Climbed, worked-to, refused-by, on-next, unsettled, own, ends, stays, climbs}

module _ (l : List ℕ) (a : AllBounded (view_of l)) (b : Feeds l) (i : ℕ) (h : i < rows l) (c₀ : List ℕ) where
  -- one row more
  longer : {x : ℕ} {is : List ℕ} {w : Worked} → (field l x at_feeder ≡ 0 → ⊥) → Climbed l i c₀ (field l x at_feeder - 1) is w → Climbed l i c₀ x (x ∷ is) w
  longer {x} {is} n (worked-to c s w k) = worked-to c s w (subst (λ (m : ℕ). Nth l x m s) (add-one (length is)) (Nth.next x (length is) s n k))
  longer n (refused-by a z) = refused-by a z

  -- from row x on, which is the replaced one exactly if it is no feeding row
  along :
      {feeding : Bool} {x : ℕ} {c is : List ℕ} → (feeding ≡ true → x ≡ i → ⊥) → (feeding ≡ false → x ≡ i) → IsNext l i c₀ c x → Reaches l feeding x c is →
      Climbed l i c₀ x is (work_out l is c)
  unfolding work_out on_settled
  along f g r (refused-there feeding x c why e) = rw e (unsettled l a b i h c₀ c x r (x ∷ []) why e)
  along f g r (at_source feeding x c o e z) = rw e (ends l a b i h c₀ c x r o e (x ∷ []) refl (inl z))
  along f g r (as_it_was x c o e q) = rw e (ends l a b i h c₀ c x r o e (x ∷ []) refl (inr (f refl, stays l a b i h c₀ c x r o e q)))
  along f g r (goes_on feeding x c o is e n p t) =
      let up = fed-climbs l b x r.within n in
      let goes : GoesOn i c₀ (card_row_at (put_card_row c x (shown o))) x =
      λ other same.
      ⊎_elim (λ q. p q (r.ahead x (omega arith) ∙ sym same ∙ own l a b i h c₀ c x r o e)) (λ q. other (g q)) (passes-or-fails feeding) in
      rw e
      (longer n
      (along (λ _ q. omega (arith, up.above, on-above l b i x h (on-next l a b i h c₀ c x r))) (λ q. absurd (not-both refl q))
      (climbs l a b i h c₀ c x r o e n goes) t))

  pub climbed : rows l * column_count ≤ length c₀ → Climbed l i c₀ i (reach l i c₀) (work_out l (reach l i c₀) c₀)
  climbed k =
      along (λ q. absurd (not-both q refl)) (λ _. refl)
      (record {
        within = h;
        left = λ z _. refl;
        found = λ j _. refl;
        below = λ j p g. absurd (omega (arith, on-above l b i j h p));
        went_on = λ j p g. absurd (omega (arith, on-above l b i j h p));
        ahead = λ j _. refl;
        room = k;
      })
      (reaches-from l b false i c₀ h)
