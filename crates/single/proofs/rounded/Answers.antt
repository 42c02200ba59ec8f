-- `single::rounded` meets its contract: what is whole already is given as it is on both sides (`whole_from`), and the quotient of each direction is the
-- one over 2 ^ 149 (`divided`). No shift loses a digit.
use Prim.Native.Nat.{ℕ, ◌-◌, ◌*◌, ◌%◌, ◌^◌, ◌≤◌, ◌<◌, max}
use native.Mathlib.Nat.{one-mul}
use native.Mathlib.Omega.{arith}
use mathlib.Core.Path.{◌≡◌, sym, ap, ◌∙◌, subst}
use lib.Dec.{lit<}
use lib.Pow.{pow_pos, shl_exact}
use Rattle.grid.specs.Round.{ceil_div}
use Rattle.single.specs.declared.Rounding.{Rounding}
use Rattle.single.specs.declared.Rounding.TheVariants.{Up, Down}
use Rattle.single.specs.Exact.{whole_of}
use Rattle.single.proofs.ScaleLaws.{whole_from, divided}
use Rattle.single.proofs.rounded.Goals as goal
use Rattle.single.proofs.rounded.Goals.{After-max}

pub returns-then-product-ge149 : goal.returns-then-product-ge149
returns-then-product-ge149 c =
    let product = c.args.product in
    let shifted = shl_exact 51 (product.power - 149) 64 c.requires.mantissa-small (omega (arith, c.requires.power_small)) in
    let whole-at : 149 ≤ product.power = c.if-product-ge149.true in
    λ i. record { lower = (shifted ∙ whole_from Down _ _ whole-at) i; upper = (shifted ∙ whole_from Up _ _ whole-at) i }

-- the denominator, and a quotient by it
module _ (c : After-max) where
  abbrev den : ℕ
  den = 1 * 2 ^ (149 - c.max.result) % 2 ^ 64

  power : den ≡ 2 ^ (149 - max c.args.product.power 98)
  power =
      shl_exact 1 (149 - c.max.result) 64 (lit< tt) (omega (arith, c.max.ensures))
      ∙ one-mul (2 ^ (149 - c.max.result))
      ∙ ap (λ (i : ℕ). 2 ^ (149 - i)) c.max.ensures

  quotient : (to : Rounding)
      → whole_of to c.args.product.mantissa den ≡ whole_of to (c.args.product.mantissa * 2 ^ c.args.product.power) (2 ^ 149)
  quotient to =
      let product = c.args.product in
      ap (λ (d : ℕ). whole_of to product.mantissa d) power
      ∙ divided to product.mantissa product.power c.requires.mantissa-small c.if-product-ge149.false

pub nonzero_div-result : goal.nonzero_div-result
nonzero_div-result c = subst (λ (n : ℕ). 0 < n) (sym (power (goal.at.nonzero_div-result c).After-max)) (pow_pos _)

pub returns : goal.returns
unfolding ceil_div
returns c =
    let at_Max = (goal.at.returns c).After-max in
    λ i. record { lower = quotient at_Max Down i; upper = (c.ceil_div.ensures ∙ quotient at_Max Up) i }
