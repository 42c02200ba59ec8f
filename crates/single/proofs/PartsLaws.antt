-- The parts of a single's bits [02 §4] make them up again, and are read as the single: below exponent 255 by its exact value, from there on as an
-- infinity or a NaN.
use Prim.Native.Nat.{ℕ, zero, suc, ◌+◌, ◌/◌, ◌%◌, ◌^◌, ◌≤◌, ◌<◌}
use native.Mathlib.Nat.{le_antisymm, mul-one}
use native.Mathlib.Omega.{arith}
use mathlib.Core.Path.{◌≡◌, sym, ap, ◌∙◌, subst}
use mathlib.Core.Bool.{Bool, cond}
use lib.Dec.{T, leb, eqb}
use lib.Ieee.{Float, nan, inf, binary32, odd, fits, of_fields, of_bits, to_bits}
use lib.Ieee.Bits.{of_bits-to_bits, to_bits-lt}
use lib.Ieee.Exact.{HasValue, odd_sign}
use borrow.Author.Tests.{le-leb, leb-true, eq-eqb, eqb-true, ne_eqb}
use Rattle.fold.proofs.BoolLaws.{same_test}
use Rattle.single.specs.declared.Parts.{Parts}
use Rattle.single.specs.Parts.{parts_of, bits_of, is_minus, size_by, size_of}

pub parts-make-bits : (b : ℕ) → b < 2 ^ 32 → bits_of (parts_of b) ≡ b
parts-make-bits b h = omega arith

-- ---- what they are read as

sign_bit : (b : ℕ) → b < 2 ^ 32 → leb (2 ^ 31) b ≡ is_minus (parts_of b)
sign_bit b h =
    same_test (leb (2 ^ 31) b) (is_minus (parts_of b))
    (λ t. eq-eqb (b / 2 ^ 31) 1 (omega (arith, leb-true (2 ^ 31) b t)))
    (λ t. le-leb (2 ^ 31) b (omega (arith, eqb-true (b / 2 ^ 31) 1 t)))

parts-read : (b : ℕ) → b < 2 ^ 32 → of_fields binary32 (is_minus (parts_of b)) (parts_of b).exponent (parts_of b).fraction ≡ of_bits binary32 b
unfolding of_bits
parts-read b h = ap (λ (s : Bool). of_fields binary32 s (b % 2 ^ 31 / 2 ^ 23) (b % 2 ^ 23)) (sym (sign_bit b h))

pub parts-read-single :
    (x : Float) (p : Parts) → T (fits binary32 x) → p ≡ parts_of (to_bits binary32 x) → of_fields binary32 (is_minus p) p.exponent p.fraction ≡ x
parts-read-single x p f is =
    ap (λ (q : Parts). of_fields binary32 (is_minus q) q.exponent q.fraction) is
    ∙ parts-read (to_bits binary32 x) (to_bits-lt binary32 x f)
    ∙ of_bits-to_bits binary32 x f

pub fields_value : (s : Bool) (e t : ℕ) → e < 255 → HasValue (of_fields binary32 s e t) s (size_by e t) (2 ^ 149)
unfolding of_fields
fields_value s zero t h = subst (λ (n : ℕ). HasValue (odd 24 s t 0 149) s n (2 ^ 149)) (mul-one t) (odd_sign 24 s t 0 149)
fields_value s (suc e) t h =
    subst (λ (ones : Bool). HasValue (cond ones (cond (eqb t 0) (inf s) nan) (odd 24 s (2 ^ 23 + t) e 149)) s (size_by (suc e) t) (2 ^ 149))
    (sym (ne_eqb (suc e) 255 (λ g. omega arith))) (odd_sign 24 s (2 ^ 23 + t) e 149)

pub parts-make-value :
    (b : ℕ) → b < 2 ^ 32 → (parts_of b).exponent < 255 → HasValue (of_bits binary32 b) (is_minus (parts_of b)) (size_of (parts_of b)) (2 ^ 149)
parts-make-value b h e =
    let p = parts_of b in
    subst (λ (x : Float). HasValue x (is_minus p) (size_of p) (2 ^ 149)) (parts-read b h) (fields_value (is_minus p) p.exponent p.fraction e)

pub parts-not-finite :
    (b : ℕ) → b < 2 ^ 32 → 255 ≤ (parts_of b).exponent → of_bits binary32 b ≡ cond (eqb (parts_of b).fraction 0) (inf (is_minus (parts_of b))) nan
unfolding of_fields
parts-not-finite b h e =
    let p = parts_of b in
    sym (parts-read b h) ∙ ap (λ (k : ℕ). of_fields binary32 (is_minus p) k p.fraction) (le_antisymm (omega arith) e)
