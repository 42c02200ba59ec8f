-- The scaling is exact and its mantissa m fits. Over 2 ^ 149, m * 2 ^ i is whole from i = 149 on; below that it is m over 2 ^ (149 - i); and
-- below i = 98, where this denominator is over 2 ^ 51, which m is below, 2 ^ 51 does as well.
use Prim.Native.Nat.{ℕ, zero, suc, ◌+◌, ◌-◌, ◌*◌, ◌^◌, ◌≤◌, ◌<◌, max}
use native.Mathlib.Nat.{mul-one, mul_assoc, mul_right_comm, mul-le-mul_left, le_of_lt, max-eq_left, max-eq_right}
use native.Mathlib.Omega.{arith}
use mathlib.Core.Path.{◌≡◌, refl, sym, ap, ◌∙◌}
use mathlib.Core.Logic.{⊎_elim}
use lib.Pow.{pow-add, pow_pos, pow_mono}
use Rattle.fold.proofs.BoolLaws.{lt-or-le}
use Rattle.single.specs.declared.Rounding.{Rounding}
use Rattle.single.specs.Exact.{whole_of}
use Rattle.single.specs.Parts.{size_by}
use Rattle.single.proofs.RoundLaws.{whole-of-one, whole_same, whole-tiny}

-- ---- the size times a scale

pub mantissa-small : (m scale : ℕ) → m < 2 ^ 24 → scale ≤ 100000000 → m * scale < 2 ^ 51
mantissa-small m scale h s = omega (arith, mul-le-mul_left m s)

pub scaled-at-0 : (e t scale : ℕ) → e ≡ 0 → t * scale * 2 ^ 0 ≡ size_by e t * scale
scaled-at-0 zero t scale h = mul-one (t * scale)
scaled-at-0 (suc e) t scale h = absurd (omega arith)

pub scaled-above-0 : (e t scale : ℕ) → (e ≡ 0 → ⊥) → (2 ^ 23 + t) * scale * 2 ^ (e - 1) ≡ size_by e t * scale
scaled-above-0 zero t scale h = absurd (h refl)
scaled-above-0 (suc e) t scale h = let one_less : suc e - 1 ≡ e = omega arith in rw one_less (mul_right_comm (2 ^ 23 + t) scale (2 ^ e))

-- ---- m * 2 ^ i over 2 ^ 149, rounded

cancelled : (to : Rounding) (m i j k : ℕ) → j + 149 ≡ i + k → whole_of to (m * 2 ^ j) (2 ^ k) ≡ whole_of to (m * 2 ^ i) (2 ^ 149)
cancelled to m i j k e =
    let same : 2 ^ j * 2 ^ 149 ≡ 2 ^ i * 2 ^ k = sym (pow-add 2 j 149) ∙ ap (λ (n : ℕ). 2 ^ n) e ∙ pow-add 2 i k in
    whole_same to (m * 2 ^ j) (2 ^ k) (m * 2 ^ i) (2 ^ 149) (pow_pos k) (pow_pos 149)
    (mul_assoc m (2 ^ j) (2 ^ 149) ∙ ap (λ (n : ℕ). m * n) same ∙ sym (mul_assoc m (2 ^ i) (2 ^ k)))

pub whole_from : (to : Rounding) (m i : ℕ) → 149 ≤ i → m * 2 ^ (i - 149) ≡ whole_of to (m * 2 ^ i) (2 ^ 149)
whole_from to m i h = sym (whole-of-one to (m * 2 ^ (i - 149))) ∙ cancelled to m i (i - 149) 0 (omega arith)

fewer-places : (to : Rounding) (m i : ℕ) → i < 149 → whole_of to m (2 ^ (149 - i)) ≡ whole_of to (m * 2 ^ i) (2 ^ 149)
fewer-places to m i h = ap (λ (n : ℕ). whole_of to n (2 ^ (149 - i))) (sym (mul-one m)) ∙ cancelled to m i 0 (149 - i) (omega arith)

pub divided : (to : Rounding) (m i : ℕ) → m < 2 ^ 51 → i < 149 → whole_of to m (2 ^ (149 - max i 98)) ≡ whole_of to (m * 2 ^ i) (2 ^ 149)
divided to m i small h =
    ⊎_elim
    (λ (l : i < 98).
    let reach : 51 ≤ 149 - i = omega arith in
    let under : m < 2 ^ (149 - i) = omega (arith, pow_mono reach) in
    ap (λ (q : ℕ). whole_of to m (2 ^ (149 - q))) (max-eq_right (le_of_lt l))
    ∙ whole-tiny to m (2 ^ 51) (2 ^ (149 - i)) (pow_pos 51) (pow_pos (149 - i)) small under
    ∙ fewer-places to m i h)
    (λ (l : 98 ≤ i). ap (λ (q : ℕ). whole_of to m (2 ^ (149 - q))) (max-eq_left l) ∙ fewer-places to m i h)
    (lt-or-le i 98)
