-- [02 §8] Where the rows of a path above its first stand at their own least settings on the card as it is found, a climb that stops
-- ends as the climb to the source does: a row that comes out as it was leaves those above it at their least settings, and one that
-- comes out otherwise changes what its feeding row is asked only.
use mathlib.Core.Path.{◌≡◌, refl, sym, ap, ◌∙◌}
use mathlib.Core.Bool.{Bool, true, false, or-true}
use mathlib.Core.Logic.{⊎_elim}
use mathlib.Core.List.{List, [], ◌∷◌}
use Prim.Native.Nat.{ℕ, ◌+◌, ◌-◌, ◌<◌}
use native.Mathlib.Omega.{arith}
use lib.Dec.{eqb}
use borrow.Author.Tests.{eqb-true, eqb-false, eq-eqb, ne_eqb}
use Rattle.fold.proofs.BoolLaws.{passes-or-fails, not-both}
use Rattle.layout.specs.declared.CardRow.{CardRow}
use Rattle.layout.specs.Card.{card_row_at, put_card_row}
use Rattle.layout.specs.Fields.{at_feeder}
use Rattle.layout.specs.List.{rows, field}
use Rattle.layout.specs.View.{view_of}
use Rattle.layout.proofs.CardLaws.{put_card_row-stands}
use Rattle.rows.specs.InRange.{Feeds}
use Rattle.settle.specs.Conditions.{fed}
use Rattle.settle.specs.Settle.{shown}
use Rattle.rowwise.specs.WorkOut.{finished, on_settled, work_out}
use Rattle.calculate.proofs.SettledLaws.{Settles}
use Rattle.path.specs.Path.{path_of, has, on_path}
use Rattle.path.specs.Reach.{Reaches, refused-there, at_source, as_it_was, goes_on, reach}
use Rattle.path.proofs.PathLaws.{Climbs, fed-climbs, path-source, path-fed, on-fed, on-above}
use Rattle.path.proofs.ReachLaws.{path-starts, reaches-from}
use Rattle.change.proofs.SkipLaws.{put-settles, work_out-skip}

-- rows that all stand at their least settings are written with what stands there
work_out-stands : (l is c : List ℕ) → ((j : ℕ) → has is j ≡ true → Settles l c j) → work_out l is c ≡ finished c
unfolding work_out has
work_out-stands l [] c all = refl
work_out-stands l (i ∷ is) c all =
    work_out-skip l i is c (all i (rw (eq-eqb i i refl))) ∙ work_out-stands l is c (λ j o. all j (rw o (or-true (eqb j i))))

module _ (l : List ℕ) (b : Feeds l) where
  -- the rows above row x on its path stand at their least settings; if row x is the replaced one, its feeder need not
  abbrev pub Stand : Bool → ℕ → List ℕ → Type 0
  Stand feeding x c = (y : ℕ) → on_path l x y ≡ true → x < y → (feeding ≡ false → fed (view_of l) y x ≡ false) → Settles l c y

  -- a row feeds row x
  module _ (feeding : Bool) (x : ℕ) (c : List ℕ) (h : x < rows l) (n : field l x at_feeder ≡ 0 → ⊥) (s : Stand feeding x c) (k : CardRow) where
    abbrev y : ℕ
    y = field l x at_feeder - 1

    up : Climbs l x
    up = fed-climbs l b x h n

    above : (z : ℕ) → on_path l y z ≡ true → on_path l x z ≡ true
    above z o = on-fed l b x z h n ∙ rw o (or-true (eqb z x))

    -- it comes out as it was: so do those above it
    stands : feeding ≡ true → card_row_at c x ≡ k → finished (put_card_row c x k) ≡ work_out l (path_of l y) (put_card_row c x k)
    unfolding on_path
    stands f q =
        let same : put_card_row c x k ≡ c = ap (put_card_row c x) (sym q) ∙ put_card_row-stands c x in
        rw same
        (sym
        (work_out-stands l (path_of l y) c
        (λ z o. s z (above z o) (omega (arith, up.above, on-above l b y z up.within o)) (λ g. absurd (not-both f g)))))

    -- otherwise the row that feeds it is next
    next : Stand true y (put_card_row c x k)
    next z o g _ =
        let not-fed : fed (view_of l) z x ≡ false = ne_eqb (field l x at_feeder) (z + 1) (λ e. omega (arith, up.above)) in
        put-settles l z x c k not-fed (λ e. omega (arith, up.above)) (s z (above z o) (omega (arith, up.above)) (λ _. not-fed))

  ends-alike : {feeding : Bool} {x : ℕ} {c is : List ℕ} → x < rows l → Stand feeding x c → Reaches l feeding x c is → work_out l is c ≡ work_out l (path_of l x) c
  unfolding work_out on_settled
  ends-alike h s (refused-there feeding x c why e) = rw ((path-starts l b x h).1, e)
  ends-alike h s (at_source feeding x c o e z) = rw (path-source l b x h z)
  ends-alike h s (as_it_was x c o e q) =
      ⊎_elim
      (λ t. rw (path-source l b x h (eqb-true (field l x at_feeder) 0 t)))
      (λ t. let n = eqb-false (field l x at_feeder) 0 t in rw (path-fed l b x h n, e) (stands true x c h n s (shown o) refl q))
      (passes-or-fails (eqb (field l x at_feeder) 0))
  ends-alike h s (goes_on feeding x c o is e n p r) =
      rw (path-fed l b x h n, e) (ends-alike (fed-climbs l b x h n).within (next feeding x c h n s (shown o)) r)

  pub reach-whole : (i : ℕ) (c : List ℕ) → i < rows l → Stand false i c → work_out l (reach l i c) c ≡ work_out l (path_of l i) c
  reach-whole i c h s = ends-alike h s (reaches-from l b false i c h)
