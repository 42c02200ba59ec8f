-- A card after a row is put in: that row is the one put in, the others stay, and so does what stands past them.
use mathlib.Core.Path.{◌≡◌, refl, sym, ap, ◌∙◌}
use mathlib.Core.Bool.{Bool, true, ◌&&◌}
use mathlib.Core.Logic.{◌≢◌, ◌↔◌}
use mathlib.Core.List.{List}
use Prim.Native.Nat.{ℕ, zero, suc, ◌+◌, ◌*◌, ◌≤◌, ◌<◌}
use native.Mathlib.Omega.{arith}
use lib.Dec.{eqb}
use lib.ListN.{length, get_or, take, drop}
use lib.Seq.{length-sets}
use borrow.Author.Tests.{eqb-true, eq-eqb}
use Rattle.fold.proofs.BoolLaws.{and_left, and_right, and_both}
use Rattle.blocks.proofs.BlockLaws.{sets-before, sets_behind, sets-stands, sets-is, block-own, block-other, drop-sets, blocks-agree}
use Rattle.layout.specs.declared.CardRow.{CardRow}
use Rattle.layout.specs.Counts.{column_count}
use Rattle.sides.specs.Sides.{keyed}
use Rattle.layout.specs.Card.{column, card_row_at, columns_of, put_card_row, same_card_row}

-- a card row is its columns
pub same-columns :
    {k k' : CardRow} → k.pickup.0 ≡ k'.pickup.0 → k.delay ≡ k'.delay → k.cutoff.0 ≡ k'.cutoff.0 →
    k.law ≡ k'.law → k.multiplier ≡ k'.multiplier → k ≡ k'
same-columns p d q w m = λ t. record { pickup = keyed (p t); delay = d t; cutoff = keyed (q t); law = w t; multiplier = m t }

-- the test of it: equal in all their numbers
module _ (a b : CardRow) where
  -- what is left to compare after the pickups, the delays, the cutoffs and the laws
  abbrev multipliers : Bool
  multipliers = eqb a.multiplier b.multiplier

  abbrev after-cutoffs : Bool
  after-cutoffs = eqb a.law b.law && multipliers

  abbrev after-delays : Bool
  after-delays = eqb a.cutoff.0 b.cutoff.0 && after-cutoffs

  abbrev after-pickups : Bool
  after-pickups = eqb a.delay b.delay && after-delays

  pub same-card-row-exactly : (same_card_row a b ≡ true) ↔ (a ≡ b)
  same-card-row-exactly = (
    λ e.
        let delays = and_right (eqb a.pickup.0 b.pickup.0) after-pickups e in
        let cutoffs = and_right (eqb a.delay b.delay) after-delays delays in
        let laws = and_right (eqb a.cutoff.0 b.cutoff.0) after-cutoffs cutoffs in
        same-columns
        (eqb-true a.pickup.0 b.pickup.0 (and_left (eqb a.pickup.0 b.pickup.0) after-pickups e))
        (eqb-true a.delay b.delay (and_left (eqb a.delay b.delay) after-delays delays))
        (eqb-true a.cutoff.0 b.cutoff.0 (and_left (eqb a.cutoff.0 b.cutoff.0) after-cutoffs cutoffs))
        (eqb-true a.law b.law (and_left (eqb a.law b.law) multipliers laws))
        (eqb-true a.multiplier b.multiplier (and_right (eqb a.law b.law) multipliers laws)),
    λ e.
        and_both (eq-eqb a.pickup.0 b.pickup.0 (λ t. (e t).pickup.0))
        (and_both (eq-eqb a.delay b.delay (λ t. (e t).delay))
        (and_both (eq-eqb a.cutoff.0 b.cutoff.0 (λ t. (e t).cutoff.0))
        (and_both (eq-eqb a.law b.law (λ t. (e t).law)) (eq-eqb a.multiplier b.multiplier (λ t. (e t).multiplier))))),
  )

  -- with all else equal, the multipliers decide
  pub same-but-multiplier :
      a.pickup.0 ≡ b.pickup.0 → a.delay ≡ b.delay → a.cutoff.0 ≡ b.cutoff.0 → a.law ≡ b.law →
      multipliers ≡ same_card_row a b
  same-but-multiplier p d q w =
      sym
      (λ t.
      eq-eqb a.pickup.0 b.pickup.0 p t &&
      (eq-eqb a.delay b.delay d t && (eq-eqb a.cutoff.0 b.cutoff.0 q t && (eq-eqb a.law b.law w t && multipliers))))

pub column-of : (c : List ℕ) (i k : ℕ) → k < column_count → column c i k ≡ get_or (columns_of (card_row_at c i)) k 0
column-of c i zero h = refl
column-of c i (suc zero) h = refl
column-of c i (suc (suc zero)) h = refl
column-of c i (suc (suc (suc zero))) h = refl
column-of c i (suc (suc (suc (suc zero)))) h = refl
column-of c i (suc (suc (suc (suc (suc k))))) h = absurd (omega arith)

module _ (c : List ℕ) (i : ℕ) (k : CardRow) where
  pub put_card_row-length : length (put_card_row c i k) ≡ length c
  unfolding put_card_row
  put_card_row-length = length-sets c (i * column_count) (columns_of k)

  pub put_card_row-own : i * column_count + column_count ≤ length c → card_row_at (put_card_row c i k) i ≡ k
  unfolding put_card_row
  put_card_row-own h = same-columns (own 0 (omega arith)) (own 1 (omega arith)) (own 2 (omega arith)) (own 3 (omega arith)) (own 4 (omega arith))
    where
      own : (x : ℕ) → x < column_count → column (put_card_row c i k) i x ≡ get_or (columns_of k) x 0
      own x b = block-own column_count c i (columns_of k) x b h

  pub put_card_row-other : (j : ℕ) → j ≢ i → card_row_at (put_card_row c i k) j ≡ card_row_at c j
  unfolding put_card_row
  put_card_row-other j n =
      same-columns (other 0 (omega arith)) (other 1 (omega arith)) (other 2 (omega arith)) (other 3 (omega arith)) (other 4 (omega arith))
    where
      other : (x : ℕ) → x < column_count → column (put_card_row c i k) j x ≡ column c j x
      other x b = block-other column_count c i (columns_of k) j x n b (omega arith)

  pub put_card_row-drop : (n : ℕ) → i * column_count + column_count ≤ n → drop n (put_card_row c i k) ≡ drop n c
  unfolding put_card_row
  put_card_row-drop n h = drop-sets (columns_of k) c (i * column_count) n h

-- the row that stands there put in changes nothing, and put back after another gives the old card
pub put_card_row-stands : (c : List ℕ) (i : ℕ) → put_card_row c i (card_row_at c i) ≡ c
unfolding put_card_row
put_card_row-stands c i = sets-stands (columns_of (card_row_at c i)) c (i * column_count) (λ k b. sym (column-of c i k b))

module _ (c : List ℕ) (i : ℕ) (h : i * column_count + column_count ≤ length c) where
  pub put_card_row-back : (k : CardRow) → put_card_row (put_card_row c i k) i (card_row_at c i) ≡ c
  unfolding put_card_row
  put_card_row-back k =
      sets-is (columns_of (card_row_at c i)) (put_card_row c i k) c (i * column_count) (put_card_row-length c i k)
      (rw (put_card_row-length c i k) h)
      (λ x b. sets-before (columns_of k) c (i * column_count) x b)
      (λ x b. sets_behind (columns_of k) c (i * column_count) x b)
      (λ x b. sym (column-of c i x b))

-- cards whose first n rows are equal have the same front
pub cards-agree :
    (n : ℕ) (c c' : List ℕ) → n * column_count ≤ length c → n * column_count ≤ length c' →
    ((j : ℕ) → j < n → card_row_at c j ≡ card_row_at c' j) → take (n * column_count) c ≡ take (n * column_count) c'
cards-agree n c c' h h' e =
    blocks-agree column_count n c c' (omega arith) h h'
    (λ j k b g. column-of c j k g ∙ ap (λ (r : CardRow). get_or (columns_of r) k 0) (e j b) ∙ sym (column-of c' j k g))
