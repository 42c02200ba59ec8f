-- [02 §1] "With 0 in both it stays primary": where row i of a list has 0 in both ratings, each condition on a pickup x as it is keyed is
-- section 3's line as it stood before the request, by the fields of the list. P2 names a fed row j: where that has 0 in both too it is the
-- line as it stood (`P2-stays`), and otherwise the line with that row's pickup through its ratio (`P2-own-stays`).
use mathlib.Core.Path.{◌≡◌, ap, ap₂, ◌∙◌}
use mathlib.Core.Bool.{true}
use mathlib.Core.Logic.{◌↔◌}
use mathlib.Core.List.{List}
use Prim.Native.Nat.{ℕ, ◌+◌, ◌*◌, ◌≤◌}
use native.Mathlib.Omega.{arith}
use Rattle.layout.specs.Fields.{at_kind, at_volts, at_work, at_selfstart, at_return, at_far, at_clear, at_near, at_factor, at_backed}
use Rattle.layout.specs.List.{field, row_at}
use Rattle.layout.specs.View.{view_of, Settings}
use Rattle.sides.specs.declared.Primary.{Primary}
use Rattle.sides.specs.declared.Secondary.{Secondary}
use Rattle.sides.specs.Sides.{top, bottom, Rated}
use Rattle.sides.proofs.SidesLaws.{top-none, bottom-none}
use Rattle.settle.specs.Conditions.{primary_of, returns_after_self_start, clear_of, sees_own_zone, backs_up, stays_clear, sees_near}
use Rattle.settle.specs.Inequalities.{NoRatio, others_work}
use Rattle.settle.proofs.MultipliedOut.{both, P1-multiplied, P2-multiplied, P3-multiplied, P4-multiplied}
use Rattle.settle.proofs.MultipliedOut.{clear-multiplied, line-multiplied, other-multiplied}

rated : (l : List ℕ) (i : ℕ) → NoRatio l i → Rated (row_at l i).ratio
rated l i a =
    record {
      primary-to = omega (arith, a.no-primary);
      secondary-fits = record { none = λ _. a.no-secondary; one-or-five = λ n. absurd (n a.no-primary) };
    }

same-sides : {a b a' b' : ℕ} → a ≡ a' → b ≡ b' → (a ≤ b) ↔ (a' ≤ b')
same-sides e f = (λ h. omega arith, λ h. omega arith)

module _ (l : List ℕ) (i : ℕ) (a : NoRatio l i) where
  top-1 : top (row_at l i).ratio ≡ 1
  top-1 = top-none (row_at l i).ratio a.no-primary

  bottom-1 : bottom (row_at l i).ratio ≡ 1
  bottom-1 = bottom-none (row_at l i).ratio a.no-primary

  -- times the bottom, and times the top
  down : (n : ℕ) → n * bottom (row_at l i).ratio ≡ n
  down n = ap (λ (k : ℕ). n * k) bottom-1 ∙ omega arith

  up : (n u : ℕ) → n * top (row_at l i).ratio * u ≡ n * u
  up n u = ap (λ (k : ℕ). n * k * u) top-1 ∙ omega arith

  up-1 : (n : ℕ) → n * top (row_at l i).ratio ≡ n
  up-1 n = ap (λ (k : ℕ). n * k) top-1 ∙ omega arith

  module _ (x : Secondary) where
    abbrev I : Primary
    I = primary_of (row_at l i) x

    pub P1-stays :
        (returns_after_self_start (row_at l i) I ≡ true) ↔ (11 * field l i at_selfstart * field l i at_work ≤ 10 * x.0 * field l i at_return)
    P1-stays = both (P1-multiplied l i (rated l i a) x) (same-sides (down _) (up (10 * x.0) (field l i at_return)))

    pub P3-stays : (sees_own_zone (row_at l i) I ≡ true) ↔ (15 * x.0 ≤ 10 * field l i at_far)
    P3-stays = both (P3-multiplied l i (rated l i a) x) (same-sides (up-1 (15 * x.0)) (down _))

    pub clear_stays : (stays_clear (row_at l i) I ≡ true) ↔ (field l i at_factor * field l i at_clear ≤ 1000 * x.0)
    clear_stays = both (clear-multiplied l i (rated l i a) x) (same-sides (down _) (up-1 (1000 * x.0)))

    pub line_stays : field l i at_kind ≡ 1 → (sees_near (row_at l i) I ≡ true) ↔ (12 * x.0 ≤ 10 * field l i at_near)
    line_stays e = both (line-multiplied l i (rated l i a) x e) (same-sides (up-1 (12 * x.0)) (down _))

    pub other-stays : (field l i at_kind ≡ 1 → ⊥) → (sees_near (row_at l i) I ≡ true) ↔ (20 * x.0 ≤ 10 * field l i at_near)
    other-stays n = both (other-multiplied l i (rated l i a) x n) (same-sides (up-1 (20 * x.0)) (down _))

    -- for a fed row j
    module _ (j : ℕ) where
      pub P4-stays :
          (backs_up (row_at l i) (row_at l j) I ≡ true) ↔
          (field l j at_backed ≡ 1 → 12 * x.0 * field l i at_volts ≤ 10 * field l j at_far * field l j at_volts)
      P4-stays =
          let sides = same-sides (up (12 * x.0) (field l i at_volts)) (down (10 * field l j at_far * field l j at_volts)) in
          both (P4-multiplied l i (rated l i a) x j) (λ h b. sides.0 (h b), λ h b. sides.1 (h b))

      pub P2-own-stays :
          (k : Settings) → Rated (row_at l j).ratio →
          (clear_of (view_of l) k i j I ≡ true) ↔
          (11 * ((k j).pickup.0 * top (row_at l j).ratio * field l j at_volts + others_work l i j * bottom (row_at l j).ratio) ≤
          10 * x.0 * field l i at_volts * bottom (row_at l j).ratio)
      P2-own-stays k b =
          both (P2-multiplied l i (rated l i a) x j k b)
          (same-sides (down _) (ap (λ (n : ℕ). n * bottom (row_at l j).ratio) (up (10 * x.0) (field l i at_volts))))

      pub P2-stays :
          (k : Settings) → NoRatio l j →
          (clear_of (view_of l) k i j I ≡ true) ↔
          (11 * ((k j).pickup.0 * field l j at_volts + others_work l i j) ≤ 10 * x.0 * field l i at_volts)
      P2-stays k b =
          both (P2-own-stays k (rated l j b))
          (same-sides
          (ap₂ (λ (p s : ℕ). 11 * ((k j).pickup.0 * p * field l j at_volts + others_work l i j * s)) (top-none (row_at l j).ratio b.no-primary)
          (bottom-none (row_at l j).ratio b.no-primary) ∙ omega arith)
          (ap (λ (s : ℕ). 10 * x.0 * field l i at_volts * s) (bottom-none (row_at l j).ratio b.no-primary) ∙ omega arith))
