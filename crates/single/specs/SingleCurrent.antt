-- A single times a scale, in whole mA [01 §5], with both sides [02 §9].
-- `cond b x y` is x where b is true and y where it is false; `leb` is ≤ and `ltb` is < as tests. Definitions only.
use Rattle.std.specs.Prelude.{ℕ, ◌*◌, ◌≤◌, ◌≡◌, Bool, true, ◌&&◌, cond, leb, ltb, Float, Option, Some, None}
use Rattle.std.specs.Float.{nan, inf, fin}
use Rattle.std.specs.Float.Ieee.{up, down}
use Rattle.single.specs.Exact.{Rounds, sides_of, used, HasSides}
use Rattle.single.specs.declared.Rounding.{Rounding}
use Rattle.single.specs.declared.Sides.{Sides}

-- a current, rated or worked out, is from 1 to 100,000,000 mA
abbrev pub allowed : ℕ → Bool
allowed k = leb 1 k && leb k 100000000

-- only the side that is used must be allowed: the other one may be 0 or 100,000,001
abbrev pub if_allowed : Rounding → Sides → Option Sides
if_allowed to s = cond (allowed (used to s)) (Some s) None

-- A single times a scale, in whole mA, by both sides. lib.Ieee has the singles of IEEE 754: `nan`, an infinity, or `fin s m e`, the number m * 2 ^ e
-- with a minus sign where s is true. 2 ^ e is the fraction up e / down e, so the exact product is m * up e * scale / down e. Refused are what is not a
-- number or infinite, what has a minus sign and is not zero, and what is not allowed once rounded.
unfoldable pub current_of : Rounding → Float → ℕ → Option Sides
current_of to nan scale = None
current_of to (inf s) scale = None
current_of to (fin s m e) scale = cond (s && ltb 0 m) None (if_allowed to (sides_of (m * up e * scale) (down e)))

-- Section 5 by inequalities, for the theorems: k is the whole mA that it gives for a single at a scale
abbrev pub Gives : Rounding → Float → ℕ → ℕ → Type 0
Gives to nan scale k = ⊥
Gives to (inf s) scale k = ⊥
Gives to (fin s m e) scale k = (s ≡ true → m ≡ 0) × Rounds to (m * up e * scale) (down e) k × (1 ≤ k) × (k ≤ 100000000)

-- [02 §9] s are the sides of a single times a scale; what is not a number, infinite or negative has none
abbrev pub SidesAt : Float → ℕ → Sides → Type 0
SidesAt nan scale s = ⊥
SidesAt (inf minus) scale s = ⊥
SidesAt (fin minus m e) scale s = (minus ≡ true → m ≡ 0) × HasSides (m * up e * scale) (down e) s
