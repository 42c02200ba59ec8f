-- Numbers written one after the other over the zeros of a buffer.
use Rattle.cursor.specs.declared.Place.{Place}
use Rattle.text.specs.Line.{listed, first_place}
use Rattle.std.proofs.Common.{Option, Some, None}
use mathlib.Core.Path.{◌≡◌, refl, sym, ap, ◌∙◌}
use mathlib.Core.List.{List, [], ◌∷◌, ◌++◌, append-nil}
use Prim.Native.Nat.{ℕ, suc, ◌+◌, ◌-◌, ◌≤◌, ◌<◌}
use native.Mathlib.Nat.{sub-zero}
use native.Mathlib.Omega.{arith}
use lib.ListN.{length, set, replicate, length-append}
use lib.Seq.{set_at, append_snoc}
use Rattle.text.specs.Line.{padded}

-- n numbers are written, and with those left they make up all
pub record Filled (most : ℕ) (a left all : List ℕ) (n : ℕ) : Type 0 where
  pub written : List ℕ
  pub count : length written ≡ n
  pub is : a ≡ written ++ replicate (most - n) 0
  pub sum : written ++ left ≡ all

pub filled_none : (most : ℕ) (all : List ℕ) → Filled most (replicate most 0) all all 0
filled_none most all = record { written = []; count = refl; is = rw sub-zero; sum = refl }

pub filled-done : (most : ℕ) (a all : List ℕ) (n : ℕ) → Filled most a [] all n → a ≡ padded most all
unfolding padded
filled-done most a all n f =
    let e : f.written ≡ all = sym (append-nil f.written) ∙ f.sum in
    f.is ∙ rw (← e, f.count)

module _ (most : ℕ) (a left all : List ℕ) (n v : ℕ) (f : Filled most a (v ∷ left) all n) (fits : length all ≤ most) where
  pub filled-room : n < most
  filled-room = omega (arith, f.count, length-append f.written (v ∷ left), ap length f.sum)

  pub filled_more : Filled most (set a n v) left all (n + 1)
  filled_more =
      let m : most - n ≡ suc (most - (n + 1)) = omega (arith, filled-room) in
      let is : a ≡ f.written ++ 0 ∷ replicate (most - (n + 1)) 0 = rw m at f.is in
      record {
        written = f.written ++ (v ∷ []);
        count = length-append f.written (v ∷ []) ∙ ap (λ (k : ℕ). k + 1) f.count;
        is =
            rw is
            (set_at f.written 0 (replicate (most - (n + 1)) 0) v n f.count ∙
            sym (append_snoc f.written v (replicate (most - (n + 1)) 0)));
        sum = append_snoc f.written v left ∙ f.sum;
      }

-- a name's place that was read, if any, makes up all places with those left
abbrev pub Named : Option Place → List Place → List Place → Type 0
Named name left all = listed name ++ left ≡ all

pub named-done : (name : Option Place) (all : List Place) → Named name [] all → name ≡ first_place all
named-done None [] e = refl
named-done (Some p) (q ∷ ps) e = cc
named-done None (q ∷ ps) e = absurd (omega (arith, ap length e))
named-done (Some p) [] e = absurd (omega (arith, ap length e))

-- a place that is all there is room for
pub named-one : (name : Option Place) (p : Place) (left all : List Place) → Named name (p ∷ left) all → length all ≤ 1 → Named (Some p) left all
named-one None p left all e fits = e
named-one (Some q) p left all e fits = absurd (omega (arith, ap length e))
