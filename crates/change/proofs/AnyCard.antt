-- A REPLACEMENT WITH ANY CARD, belonging to the list or not, that passes 2, 3, 10, 4, 5 and 9 (specs/Gets.antt, Passes):
--     path-visits     done, the rows of the path up to the last one worked out stand at their least settings, which meet P1 to D2 at the
--                     numbers found elsewhere; the last is the first feeding row after the replaced one that stands as it was, or the
--                     row that the source feeds; rows past it and off the path keep what they had; the count is that of the rows up to it
--     visits-exactly  and the count is no other, whatever settings are said to be so worked out
--     path-only       and there are no other such settings
--     path-least-pickups  no other pickups that meet P1 to P4 up to that row are lower in any row there
--     path-least      no other settings that meet every condition up to that row have a lower pickup, a shorter delay or a lesser
--                     multiplier in any row there
--     path-exactly    it is done exactly when some settings are so worked out
--     path-accepted   it is done where some settings meet every condition along the whole path
--     path-refused    any other is refused with 11, 12, 13, 14 or 7 at the first row of the path that no pickup, or else no setting,
--                     fits, no row below it having stopped the climb
--     refused_none    refused, no row counts as worked out
-- `replaced` is the definition that the public entry's contract cites (specs/Replace.antt).
use Rattle.answers.specs.Answer.{done}
use mathlib.Core.Path.{◌≡◌, sym, ◌∙◌, subst}
use mathlib.Core.Logic.{◌↔◌}
use mathlib.Core.List.{List}
use Prim.Native.Nat.{ℕ, ◌+◌, ◌-◌, ◌≤◌, ◌<◌}
use native.Mathlib.Numerals.{add-one}
use Rattle.layout.specs.Card.{card_row_at}
use Rattle.layout.specs.List.{rows}
use Rattle.layout.specs.View.{view_of, Settings}
use Rattle.settle.specs.Conditions.{pickup_at, setting_of}
use Rattle.path.specs.Path.{Nth}
use Rattle.path.proofs.OnPathLaws.{nth-one}
use Rattle.change.specs.AnyCard.{PickupsBelow, MeetsBelow, PathRefused, WorkedTo, Visits}
use Rattle.change.specs.Gets.{made, Passes}
use Rattle.change.specs.Replace.{replaced}
use Rattle.change.proofs.KeptLaws.{refused-counts}
use Rattle.change.proofs.PathEndLaws.{refused-not-done, is_row, Ended, ended}
use Rattle.change.proofs.PathLeastLaws.{under, under-pickups}
use Rattle.change.proofs.PathOneLaws.{never-refused, ended-not-refused, one_end, one-settings}

module _ (l c : List ℕ) (place : ℕ) (row : List ℕ) (p : Passes l c place row) where
  abbrev l' : List ℕ
  l' = made l place row

  -- the settings that stand on the card afterwards
  abbrev card : Settings
  card = card_row_at (replaced l c place row).card

  row-of-it : place - 1 < rows l'
  row-of-it = is_row l c place row p

  pub path-visits :
      (replaced l c place row).answer ≡ done →
      Visits (made l place row) (place - 1) c (card_row_at (replaced l c place row).card) (replaced l c place row).count
  path-visits e = by_cases (ended l c place row p)
    where
      by_cases : Ended l c place row p → Visits l' (place - 1) c card (replaced l c place row).count
      by_cases (Ended.worked d v) = v
      by_cases (Ended.refused-by x d z) = absurd (refused-not-done z (sym d ∙ e))

  pub visits-exactly :
      (replaced l c place row).answer ≡ done → (n : ℕ) →
      ((replaced l c place row).count ≡ n) ↔ ((k : Settings) × Visits (made l place row) (place - 1) c k n)
  visits-exactly e n =
      let v = path-visits e in (
        λ q. (card, subst (Visits l' (place - 1) c card) q v),
        λ s.
            let v' = s.1 in
            let same = one_end l' p.feeds (place - 1) row-of-it c card s.0 v.last v'.last v.worked v'.worked in
            nth-one l' p.feeds row-of-it (subst (Nth l' (place - 1) (replaced l c place row).count) same v.counted) v'.counted,
      )

  pub path-only :
      (replaced l c place row).answer ≡ done → (k : Settings) (last : ℕ) → WorkedTo (made l place row) (place - 1) c k last →
      (j : ℕ) → j < rows (made l place row) → card_row_at (replaced l c place row).card j ≡ k j
  path-only e k last w =
      let v = path-visits e in
      one-settings l' p.feeds (place - 1) row-of-it c card k v.last last v.worked w

  pub path-least :
      (last : ℕ) → WorkedTo (made l place row) (place - 1) c (card_row_at (replaced l c place row).card) last → (k : Settings) →
      MeetsBelow (made l place row) (place - 1) c k (last + 1) → (j : ℕ) → j ≤ last →
      ((pickup_at (view_of (made l place row)) (card_row_at (replaced l c place row).card) j).0 ≤ (pickup_at (view_of (made l place row)) k j).0) ×
      (setting_of (card_row_at (replaced l c place row).card j) ≤ setting_of (k j))
  path-least last w k m =
      under l' p.feeds (place - 1) row-of-it c card k last w (subst (MeetsBelow l' (place - 1) c k) (add-one last) m)

  pub path-least-pickups :
      (last : ℕ) → WorkedTo (made l place row) (place - 1) c (card_row_at (replaced l c place row).card) last → (k : Settings) →
      PickupsBelow (made l place row) (place - 1) c k (last + 1) → (j : ℕ) → j ≤ last →
      (pickup_at (view_of (made l place row)) (card_row_at (replaced l c place row).card) j).0 ≤ (pickup_at (view_of (made l place row)) k j).0
  path-least-pickups last w k m =
      under-pickups l' p.feeds (place - 1) row-of-it c card k last w (subst (PickupsBelow l' (place - 1) c k) (add-one last) m)

  path-ended : (k : Settings) (s : ℕ) → WorkedTo l' (place - 1) c k s → (replaced l c place row).answer ≡ done
  path-ended k s w = by_cases (ended l c place row p)
    where
      by_cases : Ended l c place row p → (replaced l c place row).answer ≡ done
      by_cases (Ended.worked d v) = d
      by_cases (Ended.refused-by x d z) = absurd (ended-not-refused l' p.feeds (place - 1) row-of-it c (λ j h. (p.in-range j h).bounded) k s w z)

  pub path-exactly :
      ((replaced l c place row).answer ≡ done) ↔ ((k : Settings) × (s : ℕ) × WorkedTo (made l place row) (place - 1) c k s)
  path-exactly = (λ e. let v = path-visits e in (card, v.last, v.worked), λ s. path-ended s.0 s.1 s.2)

  pub path-accepted : (k : Settings) → MeetsBelow (made l place row) (place - 1) c k (rows (made l place row)) → (replaced l c place row).answer ≡ done
  path-accepted k m = by_cases (ended l c place row p)
    where
      by_cases : Ended l c place row p → (replaced l c place row).answer ≡ done
      by_cases (Ended.worked d v) = d
      by_cases (Ended.refused-by x d z) = absurd (never-refused l' p.feeds (place - 1) row-of-it c k m z)

  pub path-refused : ((replaced l c place row).answer ≡ done → ⊥) → PathRefused (made l place row) (place - 1) c (replaced l c place row).answer
  path-refused n = by_cases (ended l c place row p)
    where
      by_cases : Ended l c place row p → PathRefused l' (place - 1) c (replaced l c place row).answer
      by_cases (Ended.worked d v) = absurd (n d)
      by_cases (Ended.refused-by x d z) = rw d z

-- of any replacement
pub refused_none : (l c : List ℕ) (place : ℕ) (row : List ℕ) → ((replaced l c place row).answer ≡ done → ⊥) → (replaced l c place row).count ≡ 0
refused_none l c place row n = refused-counts l c place row n
