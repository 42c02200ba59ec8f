-- [02 §1] The two sides of a row's current transformer, and the ratio between them. A primary current is counted in fifths of a mA: "a
-- primary pickup may now be a fraction", and with a rated secondary of 1 or 5 A it is a whole number of these. Definitions only.
use Rattle.std.specs.Prelude.{◌≡◌, cond, ◌⊎◌, ℕ, ◌*◌, ◌≤◌, eqb}
use Rattle.sides.specs.declared.Primary.{Primary}
use Rattle.sides.specs.declared.Ratio.{Ratio}
use Rattle.sides.specs.declared.Secondary.{Secondary}

-- x mA on the primary side, and x mA at the relay: the number keyed there, which is secondary where the row has a ratio and primary where not
abbrev pub milliamperes : ℕ → Primary
milliamperes x = record { 0 = 5 * x }

abbrev pub keyed : ℕ → Secondary
keyed x = record { 0 = x }

-- fifths of a primary mA for one mA at the relay: 5 × rated primary / rated secondary, which is 1 or 5; with 0 in both the relay is
-- keyed in primary mA
unfoldable pub scale : Ratio → ℕ
scale q = cond (eqb q.primary 0) 5 (cond (eqb q.secondary 1) (5 * q.primary) q.primary)

-- "the primary pickup is that number times the ratio"
abbrev pub in_primary : Ratio → Secondary → Primary
in_primary q x = record { 0 = x.0 * scale q }

-- the ratio as a fraction, top / bottom: rated primary / rated secondary; 1 / 1 with 0 in both. Theorems are stated with it
unfoldable pub top : Ratio → ℕ
top q = cond (eqb q.primary 0) 1 q.primary

unfoldable pub bottom : Ratio → ℕ
bottom q = cond (eqb q.primary 0) 1 q.secondary

-- the greatest low, high and step of a row with this rated primary: "where the primary is not 0, .. at most 500,000 mA"
unfoldable pub setting_most : ℕ → ℕ
setting_most primary = cond (eqb primary 0) 100000000 500000

-- a rated secondary beside the rated primary p: 0 with 0, otherwise 1 or 5
pub record RatingsFit (p s : ℕ) : Type 0 where
  pub none : p ≡ 0 → s ≡ 0
  pub one-or-five : (p ≡ 0 → ⊥) → (s ≡ 1) ⊎ (s ≡ 5)

-- a ratio as its two fields allow it
pub record Rated (q : Ratio) : Type 0 where
  pub primary-to : q.primary ≤ 20000
  pub secondary-fits : RatingsFit q.primary q.secondary
