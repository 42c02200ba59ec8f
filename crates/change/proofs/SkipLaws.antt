-- Where every row off a path stands at its own least settings, the calculation of all rows ends as that of the path: a row
-- off the path is written with what stands there, and the rows of the path ascend.
use Rattle.settle.specs.Outcomes.{Settled}
use Rattle.std.proofs.Common.{Ok, Err}
use mathlib.Core.Path.{◌≡◌, refl, sym, ap, ◌∙◌}
use mathlib.Core.Bool.{true, false}
use mathlib.Core.Logic.{⊎_elim}
use mathlib.Core.List.{List, ◌∷◌, ◌++◌}
use Prim.Native.Nat.{ℕ, zero, suc, ◌+◌, ◌-◌, ◌*◌, ◌≤◌, ◌<◌}
use native.Mathlib.Nat.{zero-add, eq-or-lt_of_le}
use native.Mathlib.Omega.{arith}
use lib.Dec.{eqb}
use lib.ListN.{length, take, drop, take-append-drop}
use borrow.Author.Tests.{eqb-true, eqb-false, ne_eqb}
use Rattle.fold.proofs.BoolLaws.{passes-or-fails, not-both, fails}
use Rattle.layout.specs.declared.CardRow.{CardRow}
use Rattle.layout.specs.Card.{card_row_at, put_card_row}
use Rattle.layout.specs.Counts.{column_count}
use Rattle.layout.specs.Fields.{at_feeder}
use Rattle.layout.specs.List.{rows, field}
use Rattle.layout.specs.View.{view_of}
use Rattle.layout.proofs.CardLaws.{put_card_row-other, put_card_row-stands}
use Rattle.rows.specs.InRange.{Feeds}
use Rattle.settle.specs.Conditions.{fed}
use Rattle.settle.specs.Settle.{shown, settled}
use Rattle.settle.proofs.SameLaws.{settled_same}
use Rattle.rowwise.specs.WorkOut.{Worked, finished, refused, on_settled, work_out, up_from}
use Rattle.calculate.specs.Whole.{calculation}
use Rattle.calculate.proofs.FrameLaws.{framed, calculation-frame, calculation-keeps}
use Rattle.calculate.proofs.SettledLaws.{Settles}
use Rattle.path.specs.Path.{path_of, on_path}
use Rattle.path.proofs.PathLaws.{fed-climbs, source-last, path-source, path-fed, on-fed, on-self, on-feeder, off-below}

-- a row put in that row j does not feed, and is not, leaves row j settled
module _ (l : List ℕ) (j x : ℕ) (c : List ℕ) (k : CardRow) where
  pub put-settled : fed (view_of l) j x ≡ false → settled (view_of l) (card_row_at (put_card_row c x k)) j ≡ settled (view_of l) (card_row_at c) j
  put-settled n =
      settled_same (view_of l) (view_of l) (card_row_at (put_card_row c x k)) (card_row_at c) j refl refl (λ y _. refl) (λ y _ _. refl)
      (λ y _ f. put_card_row-other c x k y (λ e. not-both f (rw e n)))

  pub put-settles : fed (view_of l) j x ≡ false → (j ≡ x → ⊥) → Settles l c j → Settles l (put_card_row c x k) j
  put-settles n o s =
      record { outcome = s.outcome; settles = put-settled n ∙ s.settles; shows = put_card_row-other c x k j o ∙ s.shows }

-- a row at its own least settings is written with what stands there
pub work_out-skip : (l : List ℕ) (j : ℕ) (is c : List ℕ) → Settles l c j → work_out l (j ∷ is) c ≡ work_out l is c
unfolding work_out on_settled
work_out-skip l j is c r = rw (r.settles, ← r.shows) (ap (work_out l is) (put_card_row-stands c j))

settled-then : (i : ℕ) (s : Settled) (f g : CardRow → Worked) → ((k : CardRow) → f k ≡ g k) → on_settled i s f ≡ on_settled i s g
unfolding on_settled
settled-then i (Ok o) f g e = e (shown o)
settled-then i (Err why) f g e = refl

module _ (l : List ℕ) (b : Feeds l) (i : ℕ) (h : i < rows l) where
  -- every row off the path of row i stands at its own least settings
  unfoldable pub Rests : List ℕ → Type 0
  Rests c = (j : ℕ) → j < rows l → on_path l i j ≡ false → Settles l c j

  -- the rows that a row off the path feeds are off it
  pub fed-off : (j k : ℕ) → on_path l i j ≡ false → fed (view_of l) j k ≡ true → on_path l i k ≡ false
  fed-off j k o g =
      let f = eqb-true (field l k at_feeder) (j + 1) g in
      let e : field l k at_feeder - 1 ≡ j = omega arith in
      fails (on_path l i k) (λ on. not-both (on-feeder l b i k h on (λ z. omega arith)) (rw e o))

  rests-next : (k : ℕ) (c : List ℕ) (o : CardRow) → on_path l i k ≡ true → Rests c → Rests (put_card_row c k o)
  unfolding Rests
  rests-next k c o on r j g off =
      put-settles l j k c o (fails (fed (view_of l) j k) (λ f. not-both on (fed-off j k off f))) (λ e. not-both on (rw (← e) off)) (r j g off)

  -- m rows from k on are left, x is the next row of the path
  along :
      (m k x : ℕ) (c : List ℕ) → k + m ≡ rows l → k ≤ x → x < rows l → ((z : ℕ) → k ≤ z → on_path l i z ≡ on_path l x z) → Rests c →
      work_out l (up_from k m) c ≡ work_out l (path_of l x) c
  unfolding up_from work_out Rests
  along zero k x c n le g left r = absurd (omega arith)
  along (suc m) k x c n le g left r =
      ⊎_elim
      (λ (e : k ≡ x).
      rw e
      (⊎_elim (at_source e)
      (at-fed e (λ y c' p q v w. along m (suc x) y c' (omega arith) p q v w))
      (passes-or-fails (eqb (field l x at_feeder) 0))))
      (λ (lt : k < x).
      work_out-skip l k (up_from (suc k) m) c (r k (omega arith) (left k (omega arith) ∙ off-below l b x k g lt)) ∙
      along m (suc k) x c (omega arith) lt g (λ z q. left z (omega arith)) r)
      (eq-or-lt_of_le le)
    where
      at_source : k ≡ x → eqb (field l x at_feeder) 0 ≡ true → work_out l (x ∷ up_from (suc x) m) c ≡ work_out l (path_of l x) c
      at_source e t =
          let z = eqb-true (field l x at_feeder) 0 t in
          let q : m ≡ 0 = omega (arith, source-last l b x g z) in
          rw (q, path-source l b x g z)

      at-fed :
          k ≡ x →
          ((y : ℕ) (c' : List ℕ) → suc x ≤ y → y < rows l → ((z : ℕ) → suc x ≤ z → on_path l i z ≡ on_path l y z) → Rests
          c' → work_out l
          (up_from (suc x) m) c' ≡ work_out l (path_of l y) c') →
          eqb (field l x at_feeder) 0 ≡ false → work_out l (x ∷ up_from (suc x) m) c ≡ work_out l (path_of l x) c
      at-fed e ih t =
          let z = eqb-false (field l x at_feeder) 0 t in
          let up = fed-climbs l b x g z in
          let on : on_path l i x ≡ true = left x le ∙ on-self l b x g in
          rw (path-fed l b x g z)
          (settled-then x (settled (view_of l) (card_row_at c) x) (λ o. work_out l (up_from (suc x) m) (put_card_row c x o))
          (λ o. work_out l (path_of l (field l x at_feeder - 1)) (put_card_row c x o))
          (λ o.
          ih (field l x at_feeder - 1) (put_card_row c x o) up.above up.within
          (λ y q. left y (omega arith) ∙ on-fed l b x y g z ∙ rw (ne_eqb y x (λ e. omega arith)))
          (rests-next x c o on r)))

  pub calculation-path : (c : List ℕ) → Rests c → calculation l c ≡ work_out l (path_of l i) c
  unfolding calculation
  calculation-path c r = along (rows l) 0 i c (zero-add (rows l)) (omega arith) h (λ z _. refl) r

-- on cards that hold the same past their rows, the calculation is the same
pub calculation-same :
    (l : List ℕ) → Feeds l → (c c' : List ℕ) → rows l * column_count ≤ length c → rows l * column_count ≤ length c' → drop
    (rows l * column_count) c ≡
    drop (rows l * column_count) c' →
    calculation l c ≡ calculation l c'
unfolding framed
calculation-same l b c c' h h' e = calculation-frame l b c' c h' h ∙ by_cases (calculation l c') refl
  where
    by_cases : (w : Worked) → calculation l c' ≡ w → framed (rows l * column_count) c w ≡ w
    by_cases (finished d) q =
        ap finished (ap (λ (t : List ℕ). take (rows l * column_count) d ++ t) (e ∙ sym (calculation-keeps l c' d q).past-rows) ∙ take-append-drop
        (rows l * column_count) d)
    by_cases (refused x) q = refl
