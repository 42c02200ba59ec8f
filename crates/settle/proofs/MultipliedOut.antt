-- [02 §1] "P1 to P4 and the cutoff are judged on it exactly": the conditions on a pickup or cutoff x as it is keyed, multiplied out in whole
-- numbers, by the fields of the list and the ratio top / bottom of the row: 1 / 1 where it has none. Nothing is rounded.
use mathlib.Core.Path.{◌≡◌, refl, ap, ap₂, ◌∙◌}
use mathlib.Core.Bool.{Bool, true, false, not, cond, ◌&&◌}
use mathlib.Core.Logic.{◌↔◌, ⊎_elim}
use mathlib.Core.List.{List}
use Prim.Native.Nat.{ℕ, zero, suc, ◌+◌, ◌*◌, ◌≤◌, ◌<◌}
use native.Mathlib.Nat.{mul-le-mul_right, mul-lt-mul_of_pos_right, mul-pos}
use native.Mathlib.Omega.{arith}
use lib.Dec.{eqb}
use Rattle.fold.specs.Fold.{sum_to}
use Rattle.fold.proofs.BoolLaws.{lt-or-le}
use Rattle.layout.specs.Fields.{at_kind, at_volts, at_work, at_selfstart, at_return, at_far, at_clear, at_near, at_factor, at_backed}
use Rattle.layout.specs.List.{rows, field, row_at}
use Rattle.layout.specs.View.{view_of, Settings}
use Rattle.sides.specs.declared.Primary.{Primary}
use Rattle.sides.specs.declared.Secondary.{Secondary}
use Rattle.sides.specs.Sides.{top, bottom, Rated}
use Rattle.sides.proofs.SidesLaws.{exactly-the-fraction, bottom-from}
use Rattle.settle.specs.Conditions.{primary_of, pickup_at, fed, others_load, returns_after_self_start, clear_of, sees_own_zone, backs_up}
use Rattle.settle.specs.Conditions.{stays_clear, sees_near}
use Rattle.settle.specs.Inequalities.{others_work}
use Rattle.settle.proofs.ConditionTheorems.{P1-exactly, P2-exactly, P3-exactly, P4-exactly, clear-exactly, near-exactly}

pub both : {A B C : Type 0} → A ↔ B → B ↔ C → A ↔ C
both f g = (λ a. g.0 (f.0 a), λ c. f.1 (g.1 c))

-- fifths on both sides, both times s, are the whole numbers a and b
in-fifths : (s a b : ℕ) {x y : ℕ} → 0 < s → x * s ≡ 5 * a → y * s ≡ 5 * b → (x ≤ y) ↔ (a ≤ b)
in-fifths s a b {x} {y} p e f = (
  λ h. let m = mul-le-mul_right s h in omega arith,
  λ h.
      ⊎_elim
      (λ (g : y < x). let m = mul-lt-mul_of_pos_right g p in absurd (omega arith))
      (λ (g : x ≤ y). g)
      (lt-or-le y x),
)

sum-of-fifths : (f g : ℕ → ℕ) (n : ℕ) → ((k : ℕ) → f k ≡ 5 * g k) → sum_to n f ≡ 5 * sum_to n g
unfolding sum_to
sum-of-fifths f g zero h = refl
sum-of-fifths f g (suc n) h = let s = sum-of-fifths f g n h in omega (arith, h n)

others-work : (l : List ℕ) (i j : ℕ) → others_load (view_of l) i j ≡ 5 * others_work l i j
others-work l i j = sum-of-fifths _ _ (rows l) (λ k. by_cases (fed (view_of l) i k && not (eqb k j)) (field l k at_work) (field l k at_volts))
  where
    by_cases : (b : Bool) (w u : ℕ) → cond b (5 * w * u) 0 ≡ 5 * cond b (w * u) 0
    by_cases true w u = omega arith
    by_cases false w u = refl

module _ (l : List ℕ) (i : ℕ) (rated : Rated (row_at l i).ratio) (x : Secondary) where
  abbrev I : Primary
  I = primary_of (row_at l i) x

  abbrev p : ℕ
  p = top (row_at l i).ratio

  abbrev s : ℕ
  s = bottom (row_at l i).ratio

  s-from : 0 < s
  s-from = bottom-from (row_at l i).ratio rated

  -- n × I × u, times the bottom
  raised : (n u : ℕ) → n * I.0 * u * s ≡ 5 * (n * x.0 * p * u)
  raised n u = regroup n I.0 u s ∙ ap (λ (k : ℕ). n * k * u) (exactly-the-fraction (row_at l i).ratio rated x) ∙ regroup' n x.0 p u
    where
      regroup : (n a u s : ℕ) → n * a * u * s ≡ n * (a * s) * u
      regroup n a u s = omega arith

      regroup' : (n a p u : ℕ) → n * (5 * (a * p)) * u ≡ 5 * (n * a * p * u)
      regroup' n a p u = omega arith

  raised-1 : (n : ℕ) → n * I.0 * s ≡ 5 * (n * x.0 * p)
  raised-1 n = let e = raised n 1 in omega arith

  -- n × a current of the list × u, times the bottom
  fields : (n f u s : ℕ) → n * (5 * f) * u * s ≡ 5 * (n * f * u * s)
  fields n f u s = omega arith

  pub P1-multiplied :
      (returns_after_self_start (row_at l i) I ≡ true) ↔ (11 * field l i at_selfstart * field l i at_work * s ≤ 10 * x.0 * p * field l i at_return)
  P1-multiplied =
      both (P1-exactly (row_at l i) I)
      (in-fifths s (11 * field l i at_selfstart * field l i at_work * s) (10 * x.0 * p * field l i at_return) s-from
      (load (11 * field l i at_selfstart) (field l i at_work) s) (raised 10 (field l i at_return)))
    where
      load : (n w s : ℕ) → n * (5 * w) * s ≡ 5 * (n * w * s)
      load n w s = omega arith

  pub P3-multiplied : (sees_own_zone (row_at l i) I ≡ true) ↔ (15 * x.0 * p ≤ 10 * field l i at_far * s)
  P3-multiplied =
      both (P3-exactly (row_at l i) I)
      (in-fifths s (15 * x.0 * p) (10 * field l i at_far * s) s-from (raised-1 15) (omega (arith, fields 10 (field l i at_far) 1 s)))

  pub clear-multiplied : (stays_clear (row_at l i) I ≡ true) ↔ (field l i at_factor * field l i at_clear * s ≤ 1000 * x.0 * p)
  clear-multiplied =
      both (clear-exactly (row_at l i) I)
      (in-fifths s (field l i at_factor * field l i at_clear * s) (1000 * x.0 * p) s-from
      (omega (arith, fields (field l i at_factor) (field l i at_clear) 1 s)) (raised-1 1000))

  pub line-multiplied : field l i at_kind ≡ 1 → (sees_near (row_at l i) I ≡ true) ↔ (12 * x.0 * p ≤ 10 * field l i at_near * s)
  line-multiplied e =
      both (near-exactly (row_at l i) I)
      (both (λ n. n.line e, λ h. record { line = λ _. h; other = λ n. absurd (n e) })
      (in-fifths s (12 * x.0 * p) (10 * field l i at_near * s) s-from (raised-1 12) (omega (arith, fields 10 (field l i at_near) 1 s))))

  pub other-multiplied : (field l i at_kind ≡ 1 → ⊥) → (sees_near (row_at l i) I ≡ true) ↔ (20 * x.0 * p ≤ 10 * field l i at_near * s)
  other-multiplied n =
      both (near-exactly (row_at l i) I)
      (both (λ z. z.other n, λ h. record { line = λ e. absurd (n e); other = λ _. h })
      (in-fifths s (20 * x.0 * p) (10 * field l i at_near * s) s-from (raised-1 20) (omega (arith, fields 10 (field l i at_near) 1 s))))

  -- for a fed row j
  module _ (j : ℕ) where
    pub P4-multiplied :
        (backs_up (row_at l i) (row_at l j) I ≡ true) ↔
        (field l j at_backed ≡ 1 → 12 * x.0 * p * field l i at_volts ≤ 10 * field l j at_far * field l j at_volts * s)
    P4-multiplied = both (P4-exactly (row_at l i) (row_at l j) I) (λ h b. sides.0 (h b), λ h b. sides.1 (h b))
      where
        sides :
            (12 * I.0 * field l i at_volts ≤ 10 * (5 * field l j at_far) * field l j at_volts) ↔
            (12 * x.0 * p * field l i at_volts ≤ 10 * field l j at_far * field l j at_volts * s)
        sides =
            in-fifths s (12 * x.0 * p * field l i at_volts) (10 * field l j at_far * field l j at_volts * s) s-from (raised 12 (field l i at_volts))
            (fields 10 (field l j at_far) (field l j at_volts) s)

    -- the pickup of row j has a ratio of its own, p' / s'
    module _ (k : Settings) (rated' : Rated (row_at l j).ratio) where
      abbrev p' : ℕ
      p' = top (row_at l j).ratio

      abbrev s' : ℕ
      s' = bottom (row_at l j).ratio

      pub P2-multiplied :
          (clear_of (view_of l) k i j I ≡ true) ↔
          (11 * ((k j).pickup.0 * p' * field l j at_volts + others_work l i j * s') * s ≤ 10 * x.0 * p * field l i at_volts * s')
      P2-multiplied =
          both (P2-exactly (view_of l) k i j I)
          (in-fifths (s * s') (11 * ((k j).pickup.0 * p' * field l j at_volts + others_work l i j * s') * s)
          (10 * x.0 * p * field l i at_volts * s')
          (mul-pos s-from (bottom-from (row_at l j).ratio rated'))
          (asked (pickup_at (view_of l) k j).0 (k j).pickup.0 p' s' (field l j at_volts) (others_load (view_of l) i j) (others_work l i j) s
          (exactly-the-fraction (row_at l j).ratio rated' (k j).pickup) (others-work l i j))
          (own (10 * I.0 * field l i at_volts) (10 * x.0 * p * field l i at_volts) s s' (raised 10 (field l i at_volts))))
        where
          asked :
              (a y p' s' u b o s : ℕ) → a * s' ≡ 5 * (y * p') → b ≡ 5 * o →
              11 * (a * u + b) * (s * s') ≡ 5 * (11 * (y * p' * u + o * s') * s)
          asked a y p' s' u b o s e f = split a u b s s' ∙ ap₂ (λ (m n : ℕ). 11 * (m * u + n * s') * s) e f ∙ join y p' u o s s'
            where
              split : (a u b s s' : ℕ) → 11 * (a * u + b) * (s * s') ≡ 11 * (a * s' * u + b * s') * s
              split a u b s s' = omega arith

              join : (y p' u o s s' : ℕ) → 11 * (5 * (y * p') * u + 5 * o * s') * s ≡ 5 * (11 * (y * p' * u + o * s') * s)
              join y p' u o s s' = omega arith

          own : (a b s s' : ℕ) → a * s ≡ 5 * b → a * (s * s') ≡ 5 * (b * s')
          own a b s s' e = flat a s s' ∙ ap (λ (m : ℕ). m * s') e ∙ regroup b s'
            where
              flat : (a s s' : ℕ) → a * (s * s') ≡ a * s * s'
              flat a s s' = omega arith

              regroup : (b s' : ℕ) → 5 * b * s' ≡ 5 * (b * s')
              regroup b s' = omega arith
