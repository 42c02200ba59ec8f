-- Numbers written one after the other, each behind a comma: what is written and what is left make up the whole.
use Rattle.std.proofs.Common.{◌∙◌, length-drop}
use Rattle.std.proofs.lemmas.List.{take_rest}
use Rattle.print.specs.Write.{Wrote}
use mathlib.Core.Path.{refl, ap, ◌≡◌, ap, subst}
use mathlib.Core.List.{List, [], ◌∷◌, ◌++◌}
use Prim.Native.Nat.{ℕ, zero, suc, ◌+◌, ◌-◌, ◌*◌, ◌≤◌, ◌<◌}
use native.Mathlib.Nat.{add-zero}
use native.Mathlib.Omega.{arith}
use lib.ListN.{length, drop, get_or, length-append, take}
use lib.Seq.{drop-drop, get_or-drop}
use Rattle.print.specs.Write.{number_text}
use Rattle.print.specs.Card.{field_most, numbers_line_most, fields_text, numbers_text, line_end}
use Rattle.print.proofs.DigitLaws.{number-few}

pub fields-short : (k : ℕ) (values : List ℕ) → length (fields_text k values) ≤ k * field_most
unfolding fields_text
fields-short zero values = omega arith
fields-short (suc k) values =
    omega (
      arith,
      fields-short k (drop 1 values),
      number-few (get_or values 0 0),
      length-append (44 ∷ number_text (get_or values 0 0)) (fields_text k (drop 1 values)),
    )

-- a line of k numbers
pub numbers-short : (k : ℕ) (values : List ℕ) → length (numbers_text k values) ≤ numbers_line_most k
unfolding numbers_text
numbers-short k values =
    let first = number_text (get_or values 0 0) in
    let more = fields_text (k - 1) (drop 1 values) in
    omega (
      arith,
      number-few (get_or values 0 0),
      fields-short (k - 1) (drop 1 values),
      length-append first more,
      length-append (first ++ more) line_end,
    )

-- the first k numbers alone
pub fields-front : (k : ℕ) (values : List ℕ) → k ≤ length values → fields_text k (take k values) ≡ fields_text k values
unfolding fields_text
fields-front zero values h = refl
fields-front (suc k) [] h = absurd (omega arith)
fields-front (suc k) (v ∷ values) h = ap (λ (x : List ℕ). (44 ∷ number_text v) ++ x) (fields-front k values (omega arith))

-- what is left of m numbers behind k of them
abbrev pub fields_left : ℕ → List ℕ → ℕ → List ℕ
fields_left m values k = fields_text (m - k) (drop k values)

module _ (m : ℕ) (values : List ℕ) (k : ℕ) where
  pub fields-next : k < m → fields_left m values k ≡ (44 ∷ number_text (get_or values k 0)) ++ fields_left m values (k + 1)
  unfolding fields_text
  fields-next l =
      let e : m - k ≡ suc (m - (k + 1)) = omega arith in
      rw (e, get_or-drop k values 0 0, add-zero k, drop-drop 1 k values)

  pub fields-end : m ≤ k → fields_left m values k ≡ []
  unfolding fields_text
  fields-end l = let e : m - k ≡ 0 = omega arith in rw e

pub fields-all : (m : ℕ) (values : List ℕ) → fields_left m values 0 ≡ fields_text m values
fields-all m values = let e : m - 0 ≡ m = omega arith in rw e

pub field-few : (v : ℕ) → length (44 ∷ number_text v) ≤ field_most
field-few v = omega (arith, number-few v)

-- fields that were written, by how many they are: all of them, or those behind the first
pub fields-counted :
    (n k : ℕ) (values out : List ℕ) (at : ℕ) (out' : List ℕ) (r : ℕ) → n ≡ k → Wrote out at (fields_text n values) out' r →
    Wrote out at (fields_text k values) out' r
fields-counted n k values out at out' r e w = subst (λ (j : ℕ). Wrote out at (fields_text j values) out' r) e w

abbrev pub behind_first : List ℕ → List ℕ
behind_first values = take (length values - 1) (drop 1 values)

pub behind-first : (values : List ℕ) → behind_first values ≡ drop 1 values
behind-first values = take_rest values 1

pub behind-long : (values : List ℕ) → length (behind_first values) ≡ length values - 1
behind-long values = ap length (behind-first values) ∙ length-drop 1 values

pub fields-behind :
    (values out : List ℕ) (at : ℕ) (out' : List ℕ) (r : ℕ) → Wrote out at (fields_text (length (behind_first values)) (behind_first values)) out' r →
    Wrote out at (fields_text (length values - 1) (drop 1 values)) out' r
fields-behind values out at out' r w =
    subst (λ (l : List ℕ). Wrote out at (fields_text (length values - 1) l) out' r) (behind-first values)
    (fields-counted _ _ _ _ _ _ _ (behind-long values) w)
