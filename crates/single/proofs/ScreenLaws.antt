-- The sides of a single by its parts: refused from exponent 154 on and with a minus sign, and otherwise those of its size.
use Prim.Native.Nat.{ℕ, zero, suc, ◌+◌, ◌*◌, ◌^◌, ◌≤◌, ◌<◌}
use native.Mathlib.Nat.{le_of_eq, le_trans, zero-lt-suc, le-add_right, le-mul_of_pos_right, mul-le-mul, mul-one}
use native.Mathlib.Omega.{arith}
use mathlib.Core.Path.{◌≡◌, refl, sym, ap, ◌∙◌, subst}
use mathlib.Core.Bool.{Bool, true, false, ◌&&◌, cond}
use lib.IntN.{ℤ}
use lib.Dec.{T, eqb}
use lib.Pow.{pow_pos, pow_mono}
use lib.Ieee.{Float, nan, inf, fin, binary32, up, down, odd, fits, of_fields, to_bits}
use lib.Ieee.Exact.{HasValue, odd_sign}
use lib.Ieee.Fits.{down_pos}
use borrow.Author.Tests.{le-leb, lt-leb}
use Rattle.single.specs.declared.Rounding.{Rounding}
use Rattle.std.proofs.Common.{Some, None}
use Rattle.single.specs.declared.Parts.{Parts}
use Rattle.single.specs.Exact.{whole_of, sides_of, used}
use Rattle.single.specs.Parts.{parts_of, is_minus, size_of}
use Rattle.single.specs.SingleCurrent.{if_allowed, current_of}
use Rattle.single.proofs.RoundLaws.{whole-of-one, whole-mono}
use Rattle.single.proofs.SideLaws.{used-of-sides, sides-same}
use Rattle.single.proofs.CurrentLaws.{product-by-value, negative-refused, zero-refused}
use Rattle.single.proofs.PartsLaws.{parts-read-single, fields_value}

-- ---- a finite single by its sign and its size: with a minus sign it is refused, whether zero or negative

by_sign : (to : Rounding) (s : Bool) (m : ℕ) (e : ℤ) (scale : ℕ)
    → current_of to (fin s m e) scale ≡ cond s None (if_allowed to (sides_of (m * up e * scale) (down e)))
unfolding current_of
by_sign to false m e scale = refl
by_sign to true zero e scale = zero-refused to true e scale
by_sign to true (suc m) e scale = negative-refused to (suc m) e scale (zero-lt-suc m)

by_value : (to : Rounding) (x : Float) (s : Bool) (n scale : ℕ) → HasValue x s n (2 ^ 149)
    → current_of to x scale ≡ cond s None (if_allowed to (sides_of (n * scale) (2 ^ 149)))
by_value to nan s n scale h = absurd h
by_value to (inf t) s n scale h = absurd h
by_value to (fin t m e) s n scale h =
    let same : sides_of (m * up e * scale) (down e) ≡ sides_of (n * scale) (2 ^ 149) =
    sides-same _ (down e) _ (2 ^ 149) (down_pos e) (pow_pos 149) (product-by-value t s m e n (2 ^ 149) scale h) in
    by_sign to t m e scale ∙ (λ i. cond (h.0 i) None (if_allowed to (same i)))

-- ---- from exponent 154 on

large-refused : (to : Rounding) (n scale : ℕ) → 1 ≤ scale → 2 ^ 27 * 2 ^ 149 ≤ n → if_allowed to (sides_of (n * scale) (2 ^ 149)) ≡ None
large-refused to n scale S h =
    let s = sides_of (n * scale) (2 ^ 149) in
    let k = used to s in
    let reaches : 2 ^ 27 * 2 ^ 149 ≤ n * scale * 1 = le_trans h (le_trans (le-mul_of_pos_right n S) (le_of_eq (sym (mul-one (n * scale))))) in
    let more : whole_of to (2 ^ 27) 1 ≤ whole_of to (n * scale) (2 ^ 149) = whole-mono to (2 ^ 27) 1 _ (2 ^ 149) (pow_pos 0) (pow_pos 149) reaches in
    let over : 2 ^ 27 ≤ k = le_trans (le_of_eq (sym (whole-of-one to (2 ^ 27)))) (le_trans more (le_of_eq (sym (used-of-sides to _ (2 ^ 149))))) in
    λ i. cond (le-leb 1 k (omega arith) i && lt-leb k 100000000 (omega arith) i) (Some s) None

fields-refused : (to : Rounding) (s : Bool) (e t scale : ℕ) → 1 ≤ scale → 154 ≤ e → current_of to (of_fields binary32 s e t) scale ≡ None
unfolding of_fields current_of
fields-refused to s zero t scale S h = absurd (omega arith)
fields-refused to s (suc e) t scale S h = go s (eqb (suc e) 255) (eqb t 0)
  where
    go : (s ones none : Bool) → current_of to (cond ones (cond none (inf s) nan) (odd 24 s (2 ^ 23 + t) e 149)) scale ≡ None
    go s true true = refl
    go s true false = refl
    go true false none = by_value to (odd 24 true (2 ^ 23 + t) e 149) true ((2 ^ 23 + t) * 2 ^ e) scale (odd_sign 24 true (2 ^ 23 + t) e 149)
    go false false none =
        let more : 153 ≤ e = omega arith in
        by_value to (odd 24 false (2 ^ 23 + t) e 149) false ((2 ^ 23 + t) * 2 ^ e) scale (odd_sign 24 false (2 ^ 23 + t) e 149)
        ∙ large-refused to ((2 ^ 23 + t) * 2 ^ e) scale S (mul-le-mul (le-add_right (2 ^ 23) t) (pow_mono more))

-- ---- a single by its parts

module _ (to : Rounding) (x : Float) (scale : ℕ) (p : Parts) (f : T (fits binary32 x)) (is : p ≡ parts_of (to_bits binary32 x)) where
  pub exponent-refused : 1 ≤ scale → 154 ≤ p.exponent → current_of to x scale ≡ None
  exponent-refused S h =
      ap (λ (v : Float). current_of to v scale) (sym (parts-read-single x p f is)) ∙ fields-refused to (is_minus p) p.exponent p.fraction scale S h

  pub by_parts : (s : Bool) → p.exponent < 154 → is_minus p ≡ s
      → current_of to x scale ≡ cond s None (if_allowed to (sides_of (size_of p * scale) (2 ^ 149)))
  by_parts s h e =
      let fields = of_fields binary32 (is_minus p) p.exponent p.fraction in
      ap (λ (v : Float). current_of to v scale) (sym (parts-read-single x p f is))
      ∙ by_value to fields s (size_of p) scale
      (subst (λ (b : Bool). HasValue fields b (size_of p) (2 ^ 149)) e (fields_value (is_minus p) p.exponent p.fraction (omega arith)))
