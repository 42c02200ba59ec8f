-- Laws of M and of a row's time, for callers: the time rises with the setting and falls with M, since it is a fraction rounded up whose
-- numerator rises with the one and whose denominator rises with the other; and where a law gives a time.
use mathlib.Core.Path.{◌≡◌, refl, sym, ap, ◌∙◌}
use mathlib.Core.Bool.{true, false, not}
use mathlib.Core.Logic.{◌↔◌, ⊎_elim}
use Prim.Native.Nat.{ℕ, zero, suc, ◌+◌, ◌-◌, ◌*◌, ◌/◌, ◌≤◌, ◌<◌, min}
use native.Mathlib.Nat.{le_trans, mul-le-mul_left, min-le_left, mul-div-mul_right, mul_assoc}
use native.Mathlib.Omega.{arith}
use lib.Dec.{leb, eqb}
use borrow.Author.Tests.{ne_eqb, eqb-false, leb-true, le-leb, not-true}
use Rattle.fold.proofs.BoolLaws.{not-both, lt-or-le, fails, and_left, and_right, and_both}
use Rattle.grid.specs.Round.{ceil_div}
use Rattle.grid.proofs.RoundLaws.{ceil_div-enough, ceil_div-least, ceil_div-by-zero}
use Rattle.curve.specs.Curve.{multiple, stalls, setting_from, setting_to, numerator, denominator, time_of}
use Rattle.curve.proofs.FractionLaws.{numerator-from, denominator-from, denominator-rises, fraction-to, turned-over}

-- ---- M

pub multiple-to : (x y : ℕ) → multiple x y ≤ 20000
unfolding multiple
multiple-to x y = min-le_left 20000 _

-- voltages cancel: current and pickup in another unit give the same M
pub multiple-same : (x y u : ℕ) → 0 < u → multiple (x * u) (y * u) ≡ multiple x y
unfolding multiple
multiple-same x y u p = ap (min 20000) (ap (λ (n : ℕ). n / (y * u)) (sym (mul_assoc 1000 x u)) ∙ mul-div-mul_right (1000 * x) y p)

-- ---- where a law gives a time

pub definite-runs : (m : ℕ) → stalls 0 m ≡ false
unfolding stalls
definite-runs m = refl

pub stalls-exactly : (law m : ℕ) → (stalls law m ≡ true) ↔ ((law ≡ 0 → ⊥) × (m ≤ 1000))
unfolding stalls
stalls-exactly law m =
    let curve = not (eqb law 0) in
    let low = leb m 1000 in (
      λ h. (eqb-false law 0 (not-true (eqb law 0) (and_left curve low h)), leb-true m 1000 (and_right curve low h)),
      λ h. and_both (ap not (ne_eqb law 0 h.0)) (le-leb m 1000 h.1),
    )

-- it does exactly where a curve's M is above 1.000
pub runs-exactly : (law m : ℕ) → (stalls law m ≡ false) ↔ ((law ≡ 0 → ⊥) → 1000 < m)
runs-exactly law m = (
  λ h n. ⊎_elim (λ (g : 1000 < m). g) (λ (g : m ≤ 1000). absurd (not-both ((stalls-exactly law m).1 (n, g)) h)) (lt-or-le 1000 m),
  λ h. fails (stalls law m) (λ s. let e = (stalls-exactly law m).0 s in let g = h e.0 in omega (arith, e.1)),
)

-- ---- what is set

pub definite-setting : (setting_from 0 ≡ 0) × (setting_to 0 ≡ 100000)
unfolding setting_from setting_to
definite-setting = (refl, refl)

pub curve-setting : (law : ℕ) → (law ≡ 0 → ⊥) → (setting_from law ≡ 10) × (setting_to law ≡ 1500)
unfolding setting_from setting_to
curve-setting law n = let e = ne_eqb law 0 n in (rw e, rw e)

pub setting-to : (law : ℕ) → setting_to law ≤ 100000
setting-to zero = omega (arith, definite-setting.1)
setting-to (suc k) = omega (arith, (curve-setting (suc k) (λ e. omega arith)).1)

-- ---- the time

pub definite-time : (m x : ℕ) → time_of 0 m x ≡ x
unfolding time_of numerator denominator ceil_div
definite-time m x = omega arith

pub time-rises : (law m x y : ℕ) → x ≤ y → time_of law m x ≤ time_of law m y
unfolding time_of
time-rises law m x y h =
    let a = numerator law in
    let d = denominator law m in
    ⊎_elim
    (λ (p : 0 < d). ceil_div-least (a * x) d (ceil_div (a * y) d) p (le_trans (mul-le-mul_left a h) (ceil_div-enough (a * y) d p)))
    (λ (z : d ≤ 0). let e = ceil_div-by-zero (a * x) d (omega arith) in omega arith)
    (lt-or-le 0 d)

pub time-falls : (law m n x : ℕ) → m ≤ n → stalls law m ≡ false → time_of law n x ≤ time_of law m x
unfolding time_of
time-falls law m n x h s =
    let a = numerator law in
    let p = denominator-from law m ((runs-exactly law m).0 s) in
    let r = denominator-rises law m n h in
    ceil_div-least (a * x) (denominator law n) (time_of law m x) (le_trans p r)
    (le_trans (ceil_div-enough (a * x) (denominator law m) p) (mul-le-mul_left (time_of law m x) r))

pub time-to : (law m x : ℕ) → x ≤ setting_to law → time_of law m x ≤ 60000000
unfolding time_of
time-to law m x h =
    let a = numerator law in
    let d = denominator law m in
    ⊎_elim
    (λ (p : 0 < d). ceil_div-least (a * x) d 60000000 p (fraction-to law m x h p))
    (λ (z : d ≤ 0). let e = ceil_div-by-zero (a * x) d (omega arith) in omega arith)
    (lt-or-le 0 d)

-- the least setting, offered or not, with which the time is at least the wanted one
pub setting-exactly :
    (law m want : ℕ) → stalls law m ≡ false → 0 < want → (x : ℕ) →
    leb ((want - 1) * denominator law m / numerator law + 1) x ≡ leb want (time_of law m x)
unfolding time_of
setting-exactly law m want s w x =
    turned-over (numerator law) (denominator law m) want x (numerator-from law) (denominator-from law m ((runs-exactly law m).0 s)) w
