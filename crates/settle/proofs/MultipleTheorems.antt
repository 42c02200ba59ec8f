-- [02 §3] M multiplied out in whole numbers, by the fields of the list: of row i, its pickup x as it is keyed, at the near end of row j. It is
-- "current over pickup": near_greatest of j × volts of j over x × top / bottom × volts of i, the ratio of row i being top / bottom, 1 / 1
-- where it has none. Nothing is rounded before M's own rounding down, which the inequalities of curve's `IsMultiple` say: fifths and the
-- bottom of the ratio stand on both sides and cancel.
--     M-multiplied    M is the greatest number of thousandths not above the quotient, 20,000 at most
--     M-unique        there is no other
--     own-multiple    at the row's own near end the voltages cancel
use mathlib.Core.Path.{◌≡◌, refl, sym, ap, ap₂, ◌∙◌, subst}
use mathlib.Core.Bool.{Bool, true, false, cond}
use mathlib.Core.List.{List}
use Prim.Native.Nat.{ℕ, ◌*◌, ◌<◌}
use native.Mathlib.Nat.{mul-pos}
use native.Mathlib.Omega.{arith}
use lib.Dec.{eqb}
use borrow.Author.Tests.{eqb-false}
use Rattle.curve.specs.Curve.{multiple}
use Rattle.curve.specs.Exact.{IsMultiple}
use Rattle.curve.proofs.CurveLaws.{multiple-same}
use Rattle.curve.proofs.CurveTheorems.{multiple-exactly, multiple-unique}
use Rattle.layout.specs.declared.Row.{Row}
use Rattle.layout.specs.Fields.{at_volts, at_greatest}
use Rattle.layout.specs.List.{field, row_at}
use Rattle.layout.specs.Range.{Bounded}
use Rattle.sides.specs.declared.Primary.{Primary}
use Rattle.sides.specs.declared.Ratio.{Ratio}
use Rattle.sides.specs.declared.Secondary.{Secondary}
use Rattle.sides.specs.Sides.{top, bottom}
use Rattle.sides.proofs.SidesLaws.{exactly-the-fraction, bottom-from}
use Rattle.settle.specs.Conditions.{primary_of, multiple_at}

pub own-multiple : (r : Row) (I : Primary) → 0 < r.volts → multiple_at r r I ≡ multiple r.greatest.0 I.0
unfolding multiple_at
own-multiple r I p = multiple-same r.greatest.0 I.0 r.volts p

top_from : (q : Ratio) → 0 < top q
unfolding top
top_from q = by_cases (eqb q.primary 0) (λ e. eqb-false q.primary 0 e)
  where
    by_cases : (b : Bool) → (b ≡ false → q.primary ≡ 0 → ⊥) → 0 < cond b 1 q.primary
    by_cases true n = omega arith
    by_cases false n = omega (arith, n refl)

-- a current of a fifths over a pickup of b: both times the bottom s are 5 × whole numbers, whose quotient it is
in_whole : (a b s n d : ℕ) → 0 < s → a * s ≡ n * 5 → b * s ≡ d * 5 → multiple a b ≡ multiple n d
in_whole a b s n d p e f =
    sym (multiple-same a b s p) ∙ ap₂ multiple e f ∙ multiple-same n d 5 (omega arith)

module _ (l : List ℕ) (i j : ℕ) (a : Bounded (row_at l i)) (x : Secondary) where
  abbrev p : ℕ
  p = top (row_at l i).ratio

  abbrev s : ℕ
  s = bottom (row_at l i).ratio

  abbrev current : ℕ
  current = field l j at_greatest * field l j at_volts * s

  abbrev pickup : ℕ
  pickup = x.0 * p * field l i at_volts

  abbrev m : ℕ
  m = multiple_at (row_at l i) (row_at l j) (primary_of (row_at l i) x)

  m-is : m ≡ multiple current pickup
  unfolding multiple_at
  m-is =
      in_whole (5 * field l j at_greatest * field l j at_volts) ((primary_of (row_at l i) x).0 * field l i at_volts) s current pickup
      (bottom-from (row_at l i).ratio a.rated) (currents (field l j at_greatest) (field l j at_volts) s)
      (pickups (primary_of (row_at l i) x).0 x.0 p s (field l i at_volts) (exactly-the-fraction (row_at l i).ratio a.rated x))
    where
      currents : (g u s : ℕ) → 5 * g * u * s ≡ g * u * s * 5
      currents g u s = omega arith

      pickups : (I x p s u : ℕ) → I * s ≡ 5 * (x * p) → I * u * s ≡ x * p * u * 5
      pickups I x p s u e = regroup I u s ∙ ap (λ (n : ℕ). n * u) e ∙ regroup' x p u
        where
          regroup : (I u s : ℕ) → I * u * s ≡ I * s * u
          regroup I u s = omega arith

          regroup' : (x p u : ℕ) → 5 * (x * p) * u ≡ x * p * u * 5
          regroup' x p u = omega arith

  module _ (some : 0 < x.0) where
    pickup-from : 0 < pickup
    pickup-from = mul-pos (mul-pos some (top_from (row_at l i).ratio)) (omega (arith, a.volts-from))

    pub M-multiplied :
        IsMultiple (field l j at_greatest * field l j at_volts * bottom (row_at l i).ratio) (x.0 * top (row_at l i).ratio * field l i at_volts)
        (multiple_at (row_at l i) (row_at l j) (primary_of (row_at l i) x))
    M-multiplied = subst (IsMultiple current pickup) (sym m-is) (multiple-exactly current pickup pickup-from)

    pub M-unique :
        (n : ℕ) →
        IsMultiple (field l j at_greatest * field l j at_volts * bottom (row_at l i).ratio) (x.0 * top (row_at l i).ratio * field l i at_volts) n →
        n ≡ multiple_at (row_at l i) (row_at l j) (primary_of (row_at l i) x)
    M-unique n h = multiple-unique current pickup n pickup-from h ∙ sym m-is
