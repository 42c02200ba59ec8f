-- Bytes written one behind the other are bytes written at once.
use mathlib.Core.Path.{◌≡◌, refl, sym, ap, ◌∙◌}
use mathlib.Core.List.{List, [], ◌∷◌, ◌++◌, append_assoc, append-nil}
use Prim.Native.Nat.{ℕ, suc, ◌+◌, ◌≤◌, ◌<◌}
use native.Mathlib.Nat.{add-zero}
use native.Mathlib.Numerals.{add-one}
use native.Mathlib.Omega.{arith}
use lib.ListN.{length, take, drop, set, length-append, length-drop, take-append-drop}
use lib.Seq.{paste, take-length, length-take-le, take_at, drop_at, drop-drop, set_split, append_snoc}
use Rattle.print.specs.Write.{written, Wrote}

pub written_none : (out : List ℕ) (at : ℕ) → out ≡ written out at []
unfolding written
written_none out at = rw (append-nil (take at out), add-zero at) (sym (take-append-drop at out))

pub written_one : (out : List ℕ) (at v : ℕ) → at < length out → set out at v ≡ written out at (v ∷ [])
unfolding written
written_one out at v h = rw (add-one at) (set_split out at v h ∙ sym (append_snoc (take at out) v (drop (suc at) out)))

pub pasted-written : (out : List ℕ) (at : ℕ) (xs : List ℕ) → paste out at xs (length xs) ≡ written out at xs
unfolding written
pasted-written out at xs = rw (take-length xs)

pub written-long : (out : List ℕ) (at : ℕ) (xs : List ℕ) → at + length xs ≤ length out → length (written out at xs) ≡ length out
unfolding written
written-long out at xs h =
    let a = length-take-le at out (omega arith) in
    omega (arith, length-append (take at out ++ xs) (drop (at + length xs) out), length-append (take at out) xs, length-drop (at + length xs) out)

module _ (out : List ℕ) (at : ℕ) (xs ys : List ℕ) (h : at + length xs + length ys ≤ length out) where
  front_long : length (take at out ++ xs) ≡ at + length xs
  front_long =
      let a = length-take-le at out (omega arith) in
      omega (arith, length-append (take at out) xs)

  pub written-more : written (written out at xs) (at + length xs) ys ≡ written out at (xs ++ ys)
  unfolding written
  written-more =
      let front = take at out ++ xs in
      let rest = drop (at + length xs) out in
      let a : take (at + length xs) (front ++ rest) ≡ front = take_at front rest (at + length xs) front_long in
      let b : drop (at + length xs + length ys) (front ++ rest) ≡ drop (at + length xs + length ys) out =
      sym (drop-drop (length ys) (at + length xs) (front ++ rest)) ∙
      rw (drop_at front rest (at + length xs) front_long) (drop-drop (length ys) (at + length xs) out) in
      let k : at + length xs + length ys ≡ at + length (xs ++ ys) = omega (arith, length-append xs ys) in
      rw (a, b, k, append_assoc (take at out) xs ys)

-- a writer after a writer
pub wrote_then :
    (out : List ℕ) (at : ℕ) (xs out₁ : List ℕ) (b : ℕ) (ys out₂ : List ℕ) (r : ℕ) → at + length xs + length ys ≤ length out →
    Wrote out at xs out₁ b → Wrote out₁ b ys out₂ r → Wrote out at (xs ++ ys) out₂ r
wrote_then out at xs out₁ b ys out₂ r h w v =
    record {
      bytes = v.bytes ∙ rw (w.bytes, w.end) (written-more out at xs ys h);
      end = omega (arith, w.end, v.end, length-append xs ys);
    }

pub wrote_one : (out : List ℕ) (at v : ℕ) → at < length out → Wrote out at (v ∷ []) (set out at v) (at + 1)
wrote_one out at v h = record { bytes = written_one out at v h; end = refl }

-- the same behind a first byte
pub wrote-two : (out : List ℕ) (at v : ℕ) → at + 1 < length out → Wrote out (at + 1) (v ∷ []) (set out (at + 1) v) (at + 2)
wrote-two out at v h = record { bytes = written_one out (at + 1) v h; end = omega arith }

pub wrote-long :
    (out : List ℕ) (at : ℕ) (xs out' : List ℕ) (r : ℕ) → at + length xs ≤ length out → Wrote out at xs out' r → length out' ≡ length out
wrote-long out at xs out' r h w = ap length w.bytes ∙ written-long out at xs h
