-- A quoted name closes exactly behind plain bytes and doubled quotes by turns.
use Rattle.std.proofs.Common.{Some, None}
use mathlib.Core.Path.{◌≡◌, refl, sym, ap, ap₂, ◌∙◌}
use mathlib.Core.Bool.{true, false, cond, not, ◌&&◌}
use mathlib.Core.Logic.{◌⊎◌, inl, inr, ⊎_elim}
use mathlib.Core.List.{List, [], ◌∷◌, ◌++◌}
use Prim.Native.Nat.{ℕ, suc, ◌+◌}
use native.Mathlib.Nat.{add-zero}
use native.Mathlib.Omega.{arith}
use lib.Dec.{leb, eqb}
use lib.ListN.{length, get_or}
use borrow.Author.Tests.{ne_eqb, eqb-true, eqb-false, not-true}
use Rattle.fold.proofs.BoolLaws.{and_right, passes-or-fails, zero-not-one}
use Rattle.cursor.specs.Bytes.{plain_byte, bare_byte}
use Rattle.cursor.specs.Pieces.{plain_part, quote_part}
use Rattle.text.specs.Grammar.{Body, empty, plain, doubled}

pub impossible : {P : Type 0} {n : ℕ} → None ≡ Some n → P
impossible e = absurd (zero-not-one cc)

pub same_place : {m n : ℕ} → Some m ≡ Some n → m ≡ n
same_place e = cc

-- plain bytes no quote, and what follows a closing quote
pub plain-no-quote : (b : ℕ) → plain_byte b ≡ true → b ≡ 34 → ⊥
unfolding plain_byte
plain-no-quote b h = eqb-false b 34 (not-true (eqb b 34) (and_right (leb 32 b && leb b 126) (not (eqb b 34)) h))

pub bare-plain : (b : ℕ) → bare_byte b ≡ true → plain_byte b ≡ true
unfolding bare_byte
bare-plain b h = and_right (not (eqb b 44)) (plain_byte b) h

-- a quoted name that closes: its body, and what stands behind it
pub record Closed (i e : ℕ) (l : List ℕ) : Type 0 where
  pub body : List ℕ
  pub rest : List ℕ
  pub is_body : Body body
  pub split : l ≡ body ++ 34 ∷ rest
  pub place : e ≡ i + length body + 1

pub record Doubled (i e : ℕ) (l : List ℕ) : Type 0 where
  pub rest : List ℕ
  pub split : l ≡ 34 ∷ rest
  pub closed : Closed (i + 1) e rest

pub record PartsSound (i e : ℕ) (l : List ℕ) : Type 0 where
  pub plain-part : plain_part i l ≡ Some e → Closed i e l
  pub quote-part : quote_part i l ≡ Some e → (i ≡ e) ⊎ Doubled i e l

pub parts-sound : (l : List ℕ) (i e : ℕ) → PartsSound i e l
unfolding plain_part
parts-sound [] i e = record { plain-part = impossible; quote-part = λ q. inl (same_place q) }
parts-sound (b ∷ l) i e =
    record { plain-part = of_plain (parts-sound l (i + 1) e); quote-part = of-quote (parts-sound l (i + 1) e) }
  where
    after-quote : b ≡ 34 → (i + 1 ≡ e) ⊎ Doubled (i + 1) e l → Closed i e (b ∷ l)
    after-quote p =
        ⊎_elim
        (λ (q : i + 1 ≡ e).
        record { body = []; rest = l; is_body = empty; split = ap (λ (x : ℕ). x ∷ l) p; place = omega arith })
        (λ (d : Doubled (i + 1) e l).
        record {
          body = 34 ∷ 34 ∷ d.closed.body;
          rest = d.closed.rest;
          is_body = doubled d.closed.is_body;
          split = ap₂ ◌∷◌ p (d.split ∙ ap (λ (x : List ℕ). 34 ∷ x) d.closed.split);
          place = omega (arith, d.closed.place);
        })

    more : plain_byte b ≡ true → Closed (i + 1) e l → Closed i e (b ∷ l)
    more p d =
        record {
          body = b ∷ d.body;
          rest = d.rest;
          is_body = plain p d.is_body;
          split = ap (λ (x : List ℕ). b ∷ x) d.split;
          place = omega (arith, d.place);
        }

    of_plain :
        PartsSound (i + 1) e l → cond (eqb b 34) (quote_part (i + 1) l) (cond (plain_byte b) (plain_part (i + 1) l) None) ≡ Some e → Closed i e (b ∷ l)
    of_plain h =
        ⊎_elim
        (λ (p : eqb b 34 ≡ true). rw p (λ q. after-quote (eqb-true b 34 p) (h.quote-part q)))
        (λ (p : eqb b 34 ≡ false).
        ⊎_elim
        (λ (r : plain_byte b ≡ true). rw (p, r) (λ q. more r (h.plain-part q)))
        (λ (r : plain_byte b ≡ false). rw (p, r) impossible)
        (passes-or-fails (plain_byte b)))
        (passes-or-fails (eqb b 34))

    of-quote : PartsSound (i + 1) e l → cond (eqb b 34) (plain_part (i + 1) l) (Some i) ≡ Some e → (i ≡ e) ⊎ Doubled i e (b ∷ l)
    of-quote h =
        ⊎_elim
        (λ (p : eqb b 34 ≡ true).
        rw p (λ q. inr (record { rest = l; split = ap (λ (x : ℕ). x ∷ l) (eqb-true b 34 p); closed = h.plain-part q })))
        (λ (p : eqb b 34 ≡ false). rw p (λ q. inl (same_place q)))
        (passes-or-fails (eqb b 34))

-- a quote that no other follows closes the name
quote-ends : (u : List ℕ) (i : ℕ) → (get_or u 0 0 ≡ 34 → ⊥) → quote_part i u ≡ Some i
unfolding quote_part
quote-ends [] i h = refl
quote-ends (b ∷ u) i h = rw (ne_eqb b 34 h)

pub body-complete :
    {w : List ℕ} → Body w → (u : List ℕ) → (get_or u 0 0 ≡ 34 → ⊥) → (i : ℕ) → plain_part i (w ++ 34 ∷ u) ≡ Some (i + length w + 1)
unfolding plain_part
body-complete empty u h i = quote-ends u (i + 1) h ∙ ap (λ (k : ℕ). Some (k + 1)) (sym (add-zero i))
body-complete (plain {b} {l} p r) u h i =
    let e : i + 1 + length l + 1 ≡ i + suc (length l) + 1 = omega arith in
    rw (ne_eqb b 34 (plain-no-quote b p), p) (body-complete r u h (i + 1) ∙ ap Some e)
body-complete (doubled {l} r) u h i =
    let e : i + 1 + 1 + length l + 1 ≡ i + suc (suc (length l)) + 1 = omega arith in
    body-complete r u h (i + 1 + 1) ∙ ap Some e
