-- Pieces of at most `most` bytes written one after the other, m of them: what is written and what is left make up all. `left k`
-- is what is left behind k pieces.
use mathlib.Core.Path.{◌≡◌, refl, ◌∙◌}
use mathlib.Core.List.{List, [], ◌++◌, append_assoc, append-nil}
use Prim.Native.Nat.{ℕ, ◌+◌, ◌*◌, ◌≤◌, ◌<◌}
use native.Mathlib.Nat.{add-mul, one-mul, mul-le-mul_right}
use native.Mathlib.Omega.{arith}
use lib.ListN.{length, length-append}
use Rattle.print.specs.Write.{Wrote}
use Rattle.print.proofs.WriteLaws.{written_none, wrote_then}

module _ (m most : ℕ) (left : ℕ → List ℕ) (out : List ℕ) (at : ℕ) where
  -- k pieces are written
  pub record Partly (out' : List ℕ) (next k : ℕ) : Type 0 where
    pub done : List ℕ
    pub few : k ≤ m
    pub short : length done ≤ k * most
    pub wrote : Wrote out at done out' next
    pub rest : done ++ left k ≡ left 0
    pub long : length out' ≡ length out

  pub partly_none : Partly out at 0
  partly_none =
      record {
        done = [];
        few = omega arith;
        short = omega arith;
        wrote = record { bytes = written_none out at; end = omega arith };
        rest = refl;
        long = refl;
      }

  pub partly_more :
      (out' : List ℕ) (next k : ℕ) → Partly out' next k → (piece out'' : List ℕ) (r : ℕ) → k < m → left k ≡ piece ++ left (k + 1) →
      length piece ≤ most → at + m * most ≤ length out → Wrote out' next piece out'' r → length out'' ≡ length out' → Partly
      out'' r (k + 1)
  partly_more out' next k h piece out'' r l e small room w same =
      let a = length-append h.done piece in
      let n : (k + 1) * most ≡ k * most + most = add-mul k 1 most ∙ rw (one-mul most) in
      let u : (k + 1) * most ≤ m * most = mul-le-mul_right most (let g : k + 1 ≤ m = omega arith in g) in
      record {
        done = h.done ++ piece;
        few = omega arith;
        short = omega (arith, h.short, a, n);
        wrote = wrote_then out at h.done out' next piece out'' r (omega (arith, h.short, n, u)) h.wrote w;
        rest = append_assoc h.done piece (left (k + 1)) ∙ (rw e at h.rest);
        long = same ∙ h.long;
      }

  pub partly-all : (out' : List ℕ) (next k : ℕ) → Partly out' next k → left k ≡ [] → Wrote out at (left 0) out' next
  partly-all out' next k h e =
      let q = rw (e, append-nil h.done) at h.rest in
      rw (← q) h.wrote
