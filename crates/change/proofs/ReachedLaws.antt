-- One row of a climb on any card: what holds where it is next, and what it comes to there, refused, the last one or passed.
use Rattle.answers.specs.declared.Refusal.{Refusal}
use Rattle.answers.specs.declared.Refusal.TheVariants.{Unsettled}
use Rattle.std.proofs.Common.{Ok, Err}
use mathlib.Core.Path.{◌≡◌, sym, ◌∙◌}
use mathlib.Core.Bool.{true, false}
use mathlib.Core.Logic.{◌⊎◌, ⊎_elim}
use mathlib.Core.List.{List}
use Prim.Native.Nat.{ℕ, suc, ◌+◌, ◌-◌, ◌*◌, ◌≤◌, ◌<◌}
use native.Mathlib.Omega.{arith}
use lib.ListN.{length}
use borrow.Author.Tests.{ne_eqb}
use Rattle.fold.proofs.BoolLaws.{not-both, fails, lt-or-le}
use Rattle.fold.proofs.FoldLaws.{below-cases}
use Rattle.answers.specs.declared.Reason.{Reason}
use Rattle.answers.specs.declared.Reason.TheVariants.{Pickup, Curve, Delay}
use Rattle.layout.specs.Card.{card_row_at, put_card_row}
use Rattle.layout.specs.Counts.{column_count}
use Rattle.layout.specs.Fields.{at_feeder}
use Rattle.layout.specs.List.{rows, field}
use Rattle.layout.specs.View.{view_of}
use Rattle.layout.proofs.CardLaws.{put_card_row-length, put_card_row-own, put_card_row-other}
use Rattle.layout.specs.Range.{AllBounded}
use Rattle.rows.specs.InRange.{Feeds}
use Rattle.settle.specs.declared.Outcome.{Outcome}
use Rattle.settle.specs.Conditions.{fed}
use Rattle.settle.specs.Inequalities.{LeastRow}
use Rattle.settle.specs.Settle.{shown, settled}
use Rattle.settle.proofs.SameLaws.{fed-below}
use Rattle.rowwise.specs.WorkOut.{Worked, finished, refused}
use Rattle.settle.proofs.SettledTheorems.{settled-least, no-pickup-exactly, no-curve-exactly, no-delay-exactly}
use Rattle.calculate.proofs.SettledLaws.{Settles}
use Rattle.path.specs.Path.{OnPath, Nth, on_path}
use Rattle.path.proofs.OnPathLaws.{on-path-exactly, off-path-exactly}
use Rattle.path.proofs.PathLaws.{Climbs, fed-climbs, on-fed, on-self, off-below}
use Rattle.change.specs.AnyCard.{GoesOn, PathUpTo, PathRefused, NO-PICKUP, CURVE, DELAY, WorkedTo}
use Rattle.change.proofs.SkipLaws.{put-settled, put-settles}

-- row x is the next of the path, on the card c: no row below it stopped the climb, and it and those above it are as found
pub record IsNext (l : List ℕ) (i : ℕ) (c₀ c : List ℕ) (x : ℕ) : Type 0 where
  pub within : x < rows l
  pub left : (z : ℕ) → x ≤ z → on_path l i z ≡ on_path l x z
  pub found : (j : ℕ) → on_path l i j ≡ false → card_row_at c j ≡ card_row_at c₀ j
  pub below : (j : ℕ) → on_path l i j ≡ true → j < x → Settles l c j
  pub went_on : (j : ℕ) → on_path l i j ≡ true → j < x → GoesOn i c₀ (card_row_at c) j
  pub ahead : (j : ℕ) → x ≤ j → card_row_at c j ≡ card_row_at c₀ j
  pub room : rows l * column_count ≤ length c

-- how it ends, from row x on, with the rows `is` worked out
pub data Climbed (l : List ℕ) (i : ℕ) (c₀ : List ℕ) (x : ℕ) (is : List ℕ) : Worked → Type 0 where
  worked-to : (c : List ℕ) (s : ℕ) → WorkedTo l i c₀ (card_row_at c) s → Nth l x (length is) s → Climbed l i c₀ x is (finished c)
  refused-by : (a : Refusal) → PathRefused l i c₀ (Err a) → Climbed l i c₀ x is (refused a)

module _ (l : List ℕ) (a : AllBounded (view_of l)) (b : Feeds l) (i : ℕ) (h : i < rows l) (c₀ : List ℕ) where
  on : {j : ℕ} → OnPath l i j → on_path l i j ≡ true
  on {j} p = (on-path-exactly l b i j h).1 p

  off : {j : ℕ} → (OnPath l i j → ⊥) → on_path l i j ≡ false
  off {j} n = (off-path-exactly l b i j h).1 n

  module _ (c : List ℕ) (x : ℕ) (r : IsNext l i c₀ c x) where
    pub on-next : on_path l i x ≡ true
    on-next = r.left x (omega arith) ∙ on-self l b x r.within

    least : (c' : List ℕ) (j : ℕ) → j ≤ x → Settles l c' j → LeastRow (view_of l) (card_row_at c') j
    least c' j g = settled-least (view_of l) (card_row_at c') j (a j (omega (arith, r.within)))

    up_to : PathUpTo l i c₀ (card_row_at c) x
    up_to =
        record {
          on-path = (on-path-exactly l b i x h).0 on-next;
          off-path = λ j _ n. r.found j (off n);
          rows-below = λ m p g. least c m (omega arith) (r.below m (on p) g);
          went_on = λ m p g. r.went_on m (on p) g;
        }

    -- row x is not settled
    pub unsettled : (is : List ℕ) (why : Reason) → settled (view_of l) (card_row_at c) x ≡ Err why → Climbed l i c₀ x is (refused (Unsettled (x + 1) why))
    unsettled is why e = refused-by (Unsettled (x + 1) why) (by-reason why e)
      where
        by-reason : (why : Reason) → settled (view_of l) (card_row_at c) x ≡ Err why → PathRefused l i c₀ (Err (Unsettled (x + 1) why))
        by-reason (Pickup why) e =
            NO-PICKUP (card_row_at c) x why up_to
            ((no-pickup-exactly (view_of l) (card_row_at c) x (a x r.within) why).0 e)
        by-reason (Curve place) e =
            let d = (no-curve-exactly (view_of l) (card_row_at c) x (a x r.within) place).0 e in
            CURVE (card_row_at c) x d.0 place up_to d.1 d.2
        by-reason Delay e =
            let d = (no-delay-exactly (view_of l) (card_row_at c) x (a x r.within)).0 e in
            DELAY (card_row_at c) x d.0 up_to d.1 d.2 d.3

    -- row x is settled, and put in
    module _ (o : Outcome) (e : settled (view_of l) (card_row_at c) x ≡ Ok o) where
      abbrev c' : List ℕ
      c' = put_card_row c x (shown o)

      pub own : card_row_at c' x ≡ shown o
      own = put_card_row-own c x (shown o) (omega (arith, r.within, r.room))

      other : (j : ℕ) → (j ≡ x → ⊥) → card_row_at c' j ≡ card_row_at c j
      other = put_card_row-other c x (shown o)

      not-fed : (j : ℕ) → j ≤ x → fed (view_of l) j x ≡ false
      not-fed j g = fails (fed (view_of l) j x) (λ f. omega (arith, fed-below l b j x r.within f))

      now-settled : (j : ℕ) → on_path l i j ≡ true → j < suc x → Settles l c' j
      now-settled j p g =
          below-cases g
          (λ q. rw q (record { outcome = o; settles = put-settled l x x c (shown o) (not-fed x (omega arith)) ∙ e; shows = own }))
          (λ q. put-settles l j x c (shown o) (not-fed j (omega arith)) (λ e. omega arith) (r.below j p q))

      kept : (j : ℕ) → on_path l i j ≡ false → card_row_at c' j ≡ card_row_at c₀ j
      kept j f = other j (λ q. not-both on-next (rw q at f)) ∙ r.found j f

      still-on : (j : ℕ) → on_path l i j ≡ true → j < x → GoesOn i c₀ (card_row_at c') j
      still-on j p g n q = r.went_on j p g n (sym (other j (λ e. omega arith)) ∙ q)

      ahead-still : (j : ℕ) → x < j → card_row_at c' j ≡ card_row_at c₀ j
      ahead-still j g = other j (λ e. omega arith) ∙ r.ahead j (omega arith)

      -- it was the last: the source feeds it, or it is no replaced row and comes out as it was
      pub ends :
          (is : List ℕ) → length is ≡ 1 → (field l x at_feeder ≡ 0) ⊎ ((x ≡ i → ⊥) × (card_row_at c' x ≡ card_row_at c₀ x)) → Climbed l i c₀ x is (finished c')
      ends is one why =
          worked-to c' x
          (record {
            on-path = (on-path-exactly l b i x h).0 on-next;
            off-path = λ j _ n. kept j (off n);
            least = λ j p g. least c' j g (now-settled j (on p) (omega arith));
            went_on = λ j p g. still-on j (on p) g;
            stopped = why;
            past = λ j p g. ahead-still j g;
          })
          (rw one (Nth.first x))

      pub stays : (card_row_at c x ≡ shown o) → card_row_at c' x ≡ card_row_at c₀ x
      stays q = own ∙ sym q ∙ r.ahead x (omega arith)

      -- a row feeds it, and it did not stop the climb: that one is next
      pub climbs : (field l x at_feeder ≡ 0 → ⊥) → GoesOn i c₀ (card_row_at c') x → IsNext l i c₀ c' (field l x at_feeder - 1)
      climbs n goes =
          record {
            within = up.within;
            left = λ z g. above z (omega (arith, up.above));
            found = kept;
            below = λ j p g. now-settled j p (omega (arith, at_most j p g));
            went_on = λ j p g. below-cases (at_most j p g) (λ q. rw q goes) (λ q. still-on j p q);
            ahead = λ j g. ahead-still j (omega (arith, up.above));
            room = rw (put_card_row-length c x (shown o)) r.room;
          }
        where
          y : ℕ
          y = field l x at_feeder - 1

          up : Climbs l x
          up = fed-climbs l b x r.within n

          above : (z : ℕ) → x < z → on_path l i z ≡ on_path l (field l x at_feeder - 1) z
          above z g = r.left z (omega arith) ∙ on-fed l b x z r.within n ∙ rw (ne_eqb z x (λ e. omega arith))

          at_most : (j : ℕ) → on_path l i j ≡ true → j < y → j < suc x
          at_most j p g = ⊎_elim (λ q. absurd (not-both p (above j q ∙ off-below l b y j up.within g))) (λ (q : j ≤ x). omega arith) (lt-or-le x j)
