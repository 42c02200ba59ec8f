-- A name comes next exactly where the bytes up to the next comma, or to the end, are a name.
use Rattle.std.proofs.Common.{Option, Some, None}
use mathlib.Core.Path.{◌≡◌, refl, ap, ◌∙◌}
use mathlib.Core.Bool.{true, false, cond, false≢true}
use mathlib.Core.Logic.{⊎_elim}
use mathlib.Core.List.{List, [], ◌∷◌, ◌++◌, append_assoc}
use Prim.Native.Nat.{ℕ, zero, suc, ◌+◌, ◌-◌, ◌≤◌}
use native.Mathlib.Nat.{add-zero, zero-add}
use native.Mathlib.Omega.{arith}
use lib.Dec.{eqb}
use lib.ListN.{length, take, drop, get_or, length-append, length-take}
use lib.Seq.{length-take-le, take-append-add, take-take}
use borrow.Author.Tests.{ne_eqb, eqb-true, eqb-false}
use Rattle.fold.proofs.BoolLaws.{passes-or-fails}
use Rattle.cursor.specs.declared.Class.TheVariants.{Bare}
use Rattle.cursor.specs.Bytes.{bare_byte, passes, run}
use Rattle.cursor.specs.Pieces.{plain_part, name_most, bare_end, name_end, is_found, place_found, is_name, name_length}
use Rattle.cursor.proofs.RunLaws.{run_length}
use Rattle.text.specs.Grammar.{All, Form, bare, quoted, IsNameText}
use Rattle.text.proofs.GrammarRuns.{run-all, run-append}
use Rattle.text.proofs.GrammarQuotes.{impossible, same_place, plain-no-quote, bare-plain, Closed, parts-sound, body-complete}

bare-first : (b : ℕ) (l : List ℕ) → passes Bare (b ∷ l) ≡ true → bare_byte b ≡ true
unfolding passes
bare-first b l h = h

bare-passes : (b : ℕ) (l : List ℕ) → bare_byte b ≡ true → passes Bare (b ∷ l) ≡ true
unfolding passes
bare-passes b l h = h

-- what a name that was found within w is
record NameSound (w : List ℕ) (n : ℕ) : Type 0 where
  inside : n ≤ length w
  some : 1 ≤ n
  form : Form (take n w)

bare-found : (k n : ℕ) → bare_end 0 k ≡ Some n → (1 ≤ k) × (k ≡ n)
unfolding bare_end
bare-found k n =
    ⊎_elim
    (λ (p : eqb k 0 ≡ true). rw p impossible)
    (λ (p : eqb k 0 ≡ false).
    rw (p, zero-add k) (λ q. (native.Mathlib.Nat.pos_of_ne-zero (eqb-false k 0 p), same_place q)))
    (passes-or-fails (eqb k 0))

quoted-sound : (b : ℕ) (t : List ℕ) (n : ℕ) → b ≡ 34 → Closed 1 n t → NameSound (b ∷ t) n
quoted-sound b t n p d =
    let k : n ≡ suc (length d.body + 1) = omega (arith, d.place) in
    let f : Form (34 ∷ d.body ++ 34 ∷ []) = quoted d.is_body in
    let e : take n (b ∷ t) ≡ 34 ∷ d.body ++ 34 ∷ [] =
    rw (k, d.split, p) (ap (λ (x : List ℕ). 34 ∷ x) (take-append-add d.body (34 ∷ d.rest) 1)) in
    record {
      inside = omega (arith, ap length d.split, length-append d.body (34 ∷ d.rest));
      some = omega arith;
      form = rw e f;
    }

name-end-sound : (w : List ℕ) (n : ℕ) → name_end 0 w ≡ Some n → NameSound w n
unfolding name_end
name-end-sound w n =
    ⊎_elim
    (λ (p : eqb (get_or w 0 0) 34 ≡ true). rw p (of-quoted w p))
    (λ (p : eqb (get_or w 0 0) 34 ≡ false). rw p of_bare)
    (passes-or-fails (eqb (get_or w 0 0) 34))
  where
    of-quoted : (w : List ℕ) → eqb (get_or w 0 0) 34 ≡ true → plain_part 1 (drop 1 w) ≡ Some n → NameSound w n
    of-quoted [] p q = absurd (false≢true p)
    of-quoted (b ∷ t) p q = quoted-sound b t n (eqb-true b 34 p) ((parts-sound t 1 n).plain-part q)

    of_bare : bare_end 0 (run (passes Bare) w) ≡ Some n → NameSound w n
    of_bare q =
        let r = bare-found (run (passes Bare) w) n q in
        record {
          inside = omega (arith, r.1, run_length (passes Bare) 0 w);
          some = omega (arith, r.0, r.1);
          form = rw (← r.1) (bare (run-all bare_byte (passes Bare) bare-first w));
        }

-- a name that comes next is a name as the grammar has it
pub record NameNext (l : List ℕ) (n : ℕ) : Type 0 where
  pub inside : n ≤ length l
  pub name : IsNameText (take n l)

pub name-sound : (l : List ℕ) → is_name l ≡ true → NameNext l (name_length l)
unfolding is_name name_length is_found place_found
name-sound l = by_cases (name_end 0 (take name_most l)) refl
  where
    by_cases : (f : Option ℕ) → name_end 0 (take name_most l) ≡ f → is_found f ≡ true → NameNext l (place_found f)
    by_cases None e h = absurd (false≢true h)
    by_cases (Some n) e h =
        let s = name-end-sound (take name_most l) n e in
        let m = length-take name_most l in
        let i : n ≤ length l = omega (arith, s.inside) in
        let k : n ≤ name_most = omega (arith, s.inside) in
        let t : length (take n l) ≡ n = length-take-le n l i in
        record {
          inside = i;
          name = record { some = omega (arith, s.some); most = omega arith; form = rw (take-take n name_most l k) at s.form };
        }

bare-end-suc : (n : ℕ) → bare_end 0 (suc n) ≡ Some (suc n)
unfolding bare_end
bare-end-suc n = rw (ne_eqb (suc n) 0 (λ z. omega arith), zero-add (suc n))

form-complete :
    {w : List ℕ} → Form w → (u : List ℕ) → 1 ≤ length w → (get_or u 0 0 ≡ 34 → ⊥) → run (passes Bare) u ≡ 0 → name_end 0
    (w ++ u) ≡ Some (length w)
unfolding name_end
form-complete (bare {w} h) u s q z = of_bare w h s
  where
    of_bare :
        (w : List ℕ) → All bare_byte w → 1 ≤ length w →
        cond (eqb (get_or (w ++ u) 0 0) 34) (plain_part 1 (drop 1 (w ++ u))) (bare_end 0 (run (passes Bare) (w ++ u))) ≡ Some (length w)
    of_bare [] h s = absurd (omega arith)
    of_bare (b ∷ w) h s =
        let k : run (passes Bare) (b ∷ w ++ u) ≡ suc (length w) =
        run-append bare_byte (passes Bare) bare-passes (b ∷ w) u h ∙ rw z (add-zero (suc (length w))) in
        rw (ne_eqb b 34 (plain-no-quote b (bare-plain b h.0)), k) (bare-end-suc (length w))
form-complete (quoted {w} h) u s q z =
    let e : (w ++ 34 ∷ []) ++ u ≡ w ++ 34 ∷ u = append_assoc w (34 ∷ []) u in
    let k : 1 + length w + 1 ≡ suc (length (w ++ 34 ∷ [])) = omega (arith, length-append w (34 ∷ [])) in
    rw e (body-complete h u q 1 ∙ ap Some k)

-- a cell ends at the line's end or before a comma
pub data CellEnd : List ℕ → Type 0 where
  over : CellEnd []
  comma : {x : List ℕ} → CellEnd (44 ∷ x)

-- what stands in the window behind a name that ends there
window-rest : (m : ℕ) (u : List ℕ) → CellEnd u → (get_or (take m u) 0 0 ≡ 34 → ⊥) × (run (passes Bare) (take m u) ≡ 0)
unfolding run passes bare_byte
window-rest zero u e = ((λ e. omega arith), refl)
window-rest (suc m) u over = ((λ e. omega arith), refl)
window-rest (suc m) u comma = ((λ e. omega arith), refl)

pub record NameThere (w u : List ℕ) : Type 0 where
  pub name : is_name (w ++ u) ≡ true
  pub long : name_length (w ++ u) ≡ length w

pub name-complete : (w u : List ℕ) → IsNameText w → CellEnd u → NameThere w u
unfolding is_name name_length is_found place_found
name-complete w u h end =
    let m : name_most ≡ length w + (name_most - length w) = omega (arith, h.most) in
    let v = take (name_most - length w) u in
    let r = window-rest (name_most - length w) u end in
    let e : take name_most (w ++ u) ≡ w ++ v = ap (λ (k : ℕ). take k (w ++ u)) m ∙ take-append-add w u (name_most - length w) in
    let f : name_end 0 (take name_most (w ++ u)) ≡ Some (length w) = rw e (form-complete h.form v h.some r.0 r.1) in
    record { name = rw f; long = rw f }
