-- [02 §3] Worked cases of M, of where a curve gives no time, of the settings that are offered and of the times, each worked out by hand
-- from 13.5 / (M − 1) and 80 / (M² − 1). M and multipliers are in thousandths, times in ms. Definitions only.
use Rattle.std.specs.Prelude.{Bool, true, false, cond, ◌&&◌, List, [], ◌∷◌, ℕ, leb}
use Rattle.curve.specs.Curve.{multiple, stalls, setting_from, setting_to, time_of}

-- what the definitions give, and what the papers say; of a test, 1 for yes and 0 for no
pub record Case : Type 0 where
  pub comes : ℕ
  pub is : ℕ

abbrev case : ℕ → ℕ → Case
case n k = record { comes = n; is = k }

abbrev test : Bool → Bool → Case
test a b = case (cond a 1 0) (cond b 1 0)

-- M of a current and a pickup
abbrev ratio : ℕ → ℕ → ℕ → Case
ratio x y m = case (multiple x y) m

-- whether the law gives no time at M
abbrev none : ℕ → ℕ → Bool → Case
none law m b = test (stalls law m) b

-- whether the setting is between the least and the greatest of the law
abbrev offered : ℕ → ℕ → Bool → Case
offered law x b = test (leb (setting_from law) x && leb x (setting_to law)) b

-- the time of the law at M with the setting
abbrev time : ℕ → ℕ → ℕ → ℕ → Case
time law m x t = case (time_of law m x) t

unfoldable pub table : List Case
table =
    -- on both sides of 1.000 and of 20.000
    ratio 999 1000 999
    ∷ ratio 1000 1000 1000
    ∷ ratio 1001 1000 1001
    ∷ ratio 19999 1000 19999
    ∷ ratio 20000 1000 20000
    ∷ ratio 20001 1000 20000
    ∷ ratio 100000000 1 20000
    ∷ ratio 0 1000 0
    -- rounded down: 2 / 3, 1.000999, 19.9999
    ∷ ratio 2 3 666
    ∷ ratio 1000999 1000000 1000
    ∷ ratio 199999 10000 19999
    -- pickups that are a fraction, in fifths of a mA: 150 / 100.2, 250 / 166.6, 20,000 / 1,000.2 and 20,000 / 999.8
    ∷ ratio 750 501 1497
    ∷ ratio 1250 833 1500
    ∷ ratio 100000 5001 19996
    ∷ ratio 100000 4999 20000
    -- a definite delay always gives a time, a curve above 1.000
    ∷ none 0 0 false
    ∷ none 0 1000 false
    ∷ none 1 999 true
    ∷ none 1 1000 true
    ∷ none 1 1001 false
    ∷ none 2 999 true
    ∷ none 2 1000 true
    ∷ none 2 1001 false
    ∷ none 2 20000 false
    -- delays from 0 to 100,000, multipliers from 0.010 to 1.500
    ∷ offered 0 0 true
    ∷ offered 0 100000 true
    ∷ offered 0 100001 false
    ∷ offered 1 9 false
    ∷ offered 1 10 true
    ∷ offered 1 1500 true
    ∷ offered 1 1501 false
    ∷ offered 2 9 false
    ∷ offered 2 10 true
    ∷ offered 2 1500 true
    ∷ offered 2 1501 false
    -- definite: the delay, whatever M is
    ∷ time 0 999 300 300
    ∷ time 0 1001 0 0
    ∷ time 0 20000 100000 100000
    -- B with 0.010, 1.000 and 1.500 at 1.001, 2, 5, 10 and 20: 13,500, 13.5, 3.375, 1.5 and 0.710526.. s at 1.000
    ∷ time 1 1001 10 135000
    ∷ time 1 1001 1000 13500000
    ∷ time 1 1001 1500 20250000
    ∷ time 1 2000 10 135
    ∷ time 1 2000 1000 13500
    ∷ time 1 2000 1500 20250
    ∷ time 1 5000 10 34
    ∷ time 1 5000 1000 3375
    ∷ time 1 5000 1500 5063
    ∷ time 1 10000 10 15
    ∷ time 1 10000 1000 1500
    ∷ time 1 10000 1500 2250
    ∷ time 1 20000 10 8
    ∷ time 1 20000 1000 711
    ∷ time 1 20000 1500 1066
    -- C at the same: 39,980.0099.., 26.666.., 3.333.., 0.808080.. and 0.200501.. s at 1.000
    ∷ time 2 1001 10 399801
    ∷ time 2 1001 1000 39980010
    ∷ time 2 1001 1500 59970015
    ∷ time 2 2000 10 267
    ∷ time 2 2000 1000 26667
    ∷ time 2 2000 1500 40000
    ∷ time 2 5000 10 34
    ∷ time 2 5000 1000 3334
    ∷ time 2 5000 1500 5000
    ∷ time 2 10000 10 9
    ∷ time 2 10000 1000 809
    ∷ time 2 10000 1500 1213
    ∷ time 2 20000 10 3
    ∷ time 2 20000 1000 201
    ∷ time 2 20000 1500 301
    -- rounded up once, at an exact value and on both sides of it: 13.5 / 13.5 is 1 s; 80 / 3 × 0.003 is 80 ms; 13.5 × 1.001 is 13.5135 s
    ∷ time 1 14499 1000 1001
    ∷ time 1 14500 1000 1000
    ∷ time 1 14501 1000 1000
    ∷ time 2 1999 3 81
    ∷ time 2 2000 3 80
    ∷ time 2 2001 3 80
    ∷ time 1 2000 1001 13514
    -- 0 where there is none
    ∷ time 1 1000 1000 0
    ∷ time 2 1000 1000 0
    ∷ time 2 999 1000 0
    ∷ []
