-- A single by its parts [02 §4], and what the steps of its conversion promise each other. No public contract cites this file. Definitions only.
use Rattle.std.specs.Prelude.{ℕ, zero, suc, ◌+◌, ◌*◌, ◌/◌, ◌%◌, ◌^◌, ◌≤◌, ◌<◌, ◌≡◌, Bool, eqb}
use Rattle.single.specs.declared.Parts.{Parts}
use Rattle.single.specs.declared.Product.{Product}

-- bit 31, which is 1 for a minus; bits 30 to 23; bits 22 to 0
abbrev pub parts_of : ℕ → Parts
parts_of b = record { sign = b / 2 ^ 31; exponent = b % 2 ^ 31 / 2 ^ 23; fraction = b % 2 ^ 23 }

-- the bits that parts make up
abbrev pub bits_of : Parts → ℕ
bits_of p = p.sign * 2 ^ 31 + p.exponent * 2 ^ 23 + p.fraction

-- whether there is a minus sign
abbrev pub is_minus : Parts → Bool
is_minus p = eqb p.sign 1

-- (2 ^ 23 + fraction) * 2 ^ (exponent - 1), and at exponent 0 the fraction alone: the size that an exponent below 255 and a fraction stand for,
-- counted in 2 ^ -149, the smallest positive single
abbrev pub size_by : ℕ → ℕ → ℕ
size_by zero fraction = fraction
size_by (suc e) fraction = (2 ^ 23 + fraction) * 2 ^ e

abbrev pub size_of : Parts → ℕ
size_of p = size_by p.exponent p.fraction

-- what the scaling asks, so that its mantissa fits 64 bits and its product can be rounded
pub record Scalable (p : Parts) (scale : ℕ) : Type 0 where
  pub exponent_small : p.exponent < 154
  pub fraction-small : p.fraction < 2 ^ 23
  pub scale_small : scale ≤ 100000000

-- what the rounding asks: shifted up, the mantissa fits 64 bits, and over 2 ^ 51 or more it is below 1
pub record Roundable (product : Product) : Type 0 where
  pub mantissa-small : product.mantissa < 2 ^ 51
  pub power_small : product.power ≤ 152

-- the product is the size times the scale, exactly
pub record ScaledBy (p : Parts) (scale : ℕ) (product : Product) : Type 0 where
  pub exact : product.mantissa * 2 ^ product.power ≡ size_of p * scale
  pub small : Roundable product
