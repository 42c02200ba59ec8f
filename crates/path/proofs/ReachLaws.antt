-- [02 §8] The rows that are listed are those that a change reaches.
use Rattle.settle.specs.Outcomes.{Settled}
use Rattle.std.proofs.Common.{Ok, Err}
use mathlib.Core.Path.{◌≡◌, refl, sym, ap, ◌∙◌, subst}
use mathlib.Core.Bool.{Bool, true, false, cond, ◌&&◌}
use mathlib.Core.Logic.{◌↔◌, ⊎_elim}
use mathlib.Core.List.{List, [], ◌∷◌}
use Prim.Native.Nat.{ℕ, zero, suc, ◌+◌, ◌-◌, ◌≤◌, ◌<◌}
use native.Mathlib.Omega.{arith}
use lib.Dec.{eqb}
use borrow.Author.Tests.{eqb-true, eqb-false}
use Rattle.fold.proofs.BoolLaws.{passes-or-fails, fails, not-both, and_left, and_right, and_both}
use Rattle.layout.specs.declared.CardRow.{CardRow}
use Rattle.layout.specs.Card.{card_row_at, put_card_row, same_card_row}
use Rattle.layout.specs.Fields.{at_feeder}
use Rattle.layout.specs.List.{rows, field}
use Rattle.layout.proofs.CardLaws.{same-card-row-exactly}
use Rattle.rows.specs.InRange.{Feeds}
use Rattle.settle.specs.declared.Outcome.{Outcome}
use Rattle.settle.specs.Settle.{shown}
use Rattle.path.specs.Path.{path_of}
use Rattle.path.specs.Reach.{comes_to, Reaches, refused-there, at_source, as_it_was, goes_on, onward, reach_from, reach}
use Rattle.path.proofs.PathLaws.{fed-climbs, path-source, path-fed}

-- the test: a feeding row that comes out as it was
pub stops-exactly : (feeding : Bool) (old k : CardRow) → ((feeding && same_card_row old k) ≡ true) ↔ ((feeding ≡ true) × (old ≡ k))
stops-exactly feeding old k = (
  λ e. (and_left feeding (same_card_row old k) e, (same-card-row-exactly old k).0 (and_right feeding (same_card_row old k) e)),
  λ p. and_both p.0 ((same-card-row-exactly old k).1 p.1),
)

cond-nil : (t : Bool) → cond {A = List ℕ} t [] [] ≡ []
cond-nil true = refl
cond-nil false = refl

module _ (l : List ℕ) (b : Feeds l) where
  -- m rows are left above
  reaches : (m : ℕ) (feeding : Bool) (x : ℕ) (c : List ℕ) → x < rows l → rows l ≤ x + m → Reaches l feeding x c (reach_from l feeding (path_of l x) c)
  unfolding reach_from onward
  reaches zero feeding x c h d = absurd (omega arith)
  reaches (suc m) feeding x c h d =
      ⊎_elim
      (λ t.
      let z = eqb-true (field l x at_feeder) 0 t in
      rw (path-source l b x h z) (alone z (comes_to l x c) refl))
      (λ t.
      let n = eqb-false (field l x at_feeder) 0 t in
      let up = fed-climbs l b x h n in
      rw (path-fed l b x h n)
      (by_cases n (comes_to l x c) refl
      (λ o. reaches m true (field l x at_feeder - 1) (put_card_row c x (shown o)) up.within (omega (arith, up.above)))))
      (passes-or-fails (eqb (field l x at_feeder) 0))
    where
      alone :
          field l x at_feeder ≡ 0 → (s : Settled) → comes_to l x c ≡ s →
          Reaches l feeding x c (x ∷ onward feeding (card_row_at c x) s (λ k. reach_from l true [] (put_card_row c x k)))
      alone z (Ok o) e =
          subst (λ (is : List ℕ). Reaches l feeding x c (x ∷ is)) (sym (cond-nil (feeding && same_card_row (card_row_at c x) (shown o))))
          (at_source feeding x c o e z)
      alone z (Err why) e = refused-there feeding x c why e

      by-test :
          (is : List ℕ) (n : field l x at_feeder ≡ 0 → ⊥) (o : Outcome) → comes_to l x c ≡ Ok o → (t : Bool) →
          (feeding && same_card_row (card_row_at c x) (shown o)) ≡ t → Reaches l true (field l x at_feeder - 1) (put_card_row c x (shown o)) is →
          Reaches l feeding x c (x ∷ cond t [] is)
      by-test is n o e true q r =
          let s = (stops-exactly feeding (card_row_at c x) (shown o)).0 q in
          subst (λ (f : Bool). Reaches l f x c (x ∷ [])) (sym s.0) (as_it_was x c o e s.1)
      by-test is n o e false q r = goes_on feeding x c o is e n (λ f k. not-both ((stops-exactly feeding (card_row_at c x) (shown o)).1 (f, k)) q) r

      by_cases :
          (field l x at_feeder ≡ 0 → ⊥) → (s : Settled) → comes_to l x c ≡ s →
          ((o : Outcome) → Reaches l true (field l x at_feeder - 1) (put_card_row c x (shown o))
          (reach_from l true (path_of l (field l x at_feeder - 1)) (put_card_row c x (shown o)))) →
          Reaches l feeding x c
          (x ∷ onward feeding (card_row_at c x) s (λ k. reach_from l true (path_of l (field l x at_feeder - 1)) (put_card_row c x k)))
      by_cases n (Ok o) e r =
          by-test (reach_from l true (path_of l (field l x at_feeder - 1)) (put_card_row c x (shown o))) n o e
          (feeding && same_card_row (card_row_at c x) (shown o)) refl (r o)
      by_cases n (Err why) e r = refused-there feeding x c why e

  -- the front of the path of row x, and of what is reached, by what row x comes to
  starts :
      (feeding : Bool) (x : ℕ) (c : List ℕ) {s : Settled} → comes_to l x c ≡ s → (is : List ℕ) → path_of l x ≡ x ∷ is →
      reach_from l feeding (path_of l x) c ≡ x ∷ onward feeding (card_row_at c x) s (λ k. reach_from l true is (put_card_row c x k))
  unfolding reach_from
  starts feeding x c e is p =
      rw p (ap (λ (s : Settled). x ∷ onward feeding (card_row_at c x) s (λ k. reach_from l true is (put_card_row c x k))) e)

  -- a path starts with its row, whatever follows
  pub path-starts : (x : ℕ) → x < rows l → (is : List ℕ) × (path_of l x ≡ x ∷ is)
  path-starts x h =
      ⊎_elim
      (λ t. ([], path-source l b x h (eqb-true (field l x at_feeder) 0 t)))
      (λ t. (path_of l (field l x at_feeder - 1), path-fed l b x h (eqb-false (field l x at_feeder) 0 t)))
      (passes-or-fails (eqb (field l x at_feeder) 0))

  pub get-reached : {feeding : Bool} {x : ℕ} {c is : List ℕ} → x < rows l → Reaches l feeding x c is → reach_from l feeding (path_of l x) c ≡ is
  unfolding onward reach_from
  get-reached h (refused-there feeding x c why e) = starts feeding x c e (path-starts x h).0 (path-starts x h).1
  get-reached h (at_source feeding x c o e z) =
      starts feeding x c e [] (path-source l b x h z) ∙ ap (λ (is : List ℕ). x ∷ is)
      (cond-nil (feeding && same_card_row (card_row_at c x) (shown o)))
  get-reached h (as_it_was x c o e q) =
      starts true x c e (path-starts x h).0 (path-starts x h).1 ∙ rw ((same-card-row-exactly (card_row_at c x) (shown o)).1 q)
  get-reached h (goes_on feeding x c o is e n g r) =
      starts feeding x c e (path_of l (field l x at_feeder - 1)) (path-fed l b x h n) ∙
      rw
      (fails (feeding && same_card_row (card_row_at c x) (shown o))
      (λ q. let s = (stops-exactly feeding (card_row_at c x) (shown o)).0 q in g s.0 s.1))
      (ap (λ (is : List ℕ). x ∷ is) (get-reached (fed-climbs l b x h n).within r))

  pub reaches-from : (feeding : Bool) (x : ℕ) (c : List ℕ) → x < rows l → Reaches l feeding x c (reach_from l feeding (path_of l x) c)
  reaches-from feeding x c h = reaches (rows l) feeding x c h (omega arith)

  -- the replaced row i
  pub reach-exactly : (i : ℕ) (c is : List ℕ) → i < rows l → (reach l i c ≡ is) ↔ Reaches l false i c is
  reach-exactly i c is h = (λ e. subst (Reaches l false i c) e (reaches-from false i c h), get-reached h)
