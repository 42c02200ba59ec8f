-- DEMAND 1 of a study [01 §4, §5]: what `convert_of` gives is exactly what the sections say. 0 with both currents, and with the sides of both readings
-- [02 §9], exactly where the rated currents that are needed fit and both readings give a current; STUDY at place 0, 1 and 2 exactly so, the earlier
-- first; nothing else is given. By cases on the test of the rated currents and on the two currents. More on the sides: BothSides.antt.
use Prim.Native.Nat.{ℕ}
use native.Mathlib.Omega.{arith}
use mathlib.Core.Path.{◌≡◌, refl, sym, ap, ◌∙◌, subst}
use mathlib.Core.Logic.{◌↔◌}
use mathlib.Core.Bool.{Bool, true, false, not, ◌&&◌, cond}
use lib.Dec.{T, eqb}
use borrow.Author.Tests.{eq-eqb}
use Rattle.fold.proofs.BoolLaws.{and_left, and_right, and_both, fails, not-both}
use Rattle.single.specs.declared.Sides.{Sides}
use Rattle.std.proofs.Common.{Option, Some, None}
use Rattle.single.specs.declared.Rounding.TheVariants.{Up, Down}
use Rattle.study.specs.declared.Study.{Study}
use Rattle.study.specs.declared.Converted.{Converted}
use Rattle.study.specs.Currents.{reading_of, rated_fits, refused_at, answer_of, convert_of}
use Rattle.study.specs.Gets.{ReadingGives, ReadingGivesNone, ReadingSides, RatedRight, done_with, study_at, StudyGets}
use Rattle.study.specs.Gets.StudyGets.{both, rated-outside, no-greatest, no-least}
use Rattle.study.proofs.ReadingLaws.{rated-exactly, reading-gives, gives-reading, reading-used, reading-sides, none-refused, refused_none}

-- done is no STUDY, and no place of it is another
not_done : {g l place : ℕ} {gs ls : Sides} → done_with g l gs ls ≡ study_at place → ⊥
not_done e = let d : ◌≡◌ {A = ℕ} 0 8 = ap (λ (r : Converted). r.number) e in omega arith

distinct : (p q : ℕ) → T (not (eqb p q)) → study_at p ≡ study_at q → ⊥
distinct p q t e = subst (λ (b : Bool). T (not b)) (eq-eqb p q (ap (λ (r : Converted). r.place) e)) t

-- ---- the whole answer

module _ (s : Study) where
  fits : Bool
  fits = rated_fits s.greatest && rated_fits s.least

  rated-right : (fits ≡ true) ↔ RatedRight s
  unfolding fits
  rated-right = (
    λ t.
        record {
          greatest = (rated-exactly s.greatest.quantity s.greatest.rated).0 (and_left (rated_fits s.greatest) (rated_fits s.least) t);
          least = (rated-exactly s.least.quantity s.least.rated).0 (and_right (rated_fits s.greatest) (rated_fits s.least) t);
        },
    λ h.
        and_both ((rated-exactly s.greatest.quantity s.greatest.rated).1 h.greatest)
        ((rated-exactly s.least.quantity s.least.rated).1 h.least),
  )

  gets_by :
      (b : Bool) (g l : Option Sides) → fits ≡ b → reading_of Up s.greatest ≡ g → reading_of Down s.least ≡ l →
      StudyGets s (cond b (answer_of g l) (refused_at 0))
  gets_by false g l e eg el =
      let z : StudyGets s (study_at 0) = rated-outside (λ h. not-both (rated-right.1 h) e) in
      z
  gets_by true None l e eg el =
      let z : StudyGets s (study_at 1) = no-greatest (rated-right.0 e) (refused_none Up s.greatest eg) in
      z
  gets_by true (Some g) None e eg el =
      let z : StudyGets s (study_at 2) = no-least g.upper (rated-right.0 e) (reading-gives Up s.greatest g eg).0 (refused_none Down s.least el) in
      z
  gets_by true (Some g) (Some l) e eg el =
      let of-greatest = reading-gives Up s.greatest g eg in
      let of-least = reading-gives Down s.least l el in
      let z : StudyGets s (done_with g.upper l.lower g l) = both g.upper l.lower g l (rated-right.0 e)
      of-greatest.0 of-least.0 of-greatest.1 of-least.1 in
      z

  gets : StudyGets s (convert_of s)
  unfolding convert_of fits
  gets = gets_by fits (reading_of Up s.greatest) (reading_of Down s.least) refl refl refl

  answer-by :
      (b : Bool) (g l : Option Sides) → fits ≡ b → reading_of Up s.greatest ≡ g → reading_of Down s.least ≡ l →
      convert_of s ≡ cond b (answer_of g l) (refused_at 0)
  unfolding convert_of fits
  answer-by b g l e eg el = λ t. cond (e t) (answer_of (eg t) (el t)) (refused_at 0)

  got : {r : Converted} → StudyGets s r → convert_of s ≡ r
  got (both g l gs ls w hg hl hgs hls) =
      answer-by true (Some gs) (Some ls) (rated-right.1 w) (gives-reading Up s.greatest g gs hg hgs)
      (gives-reading Down s.least l ls hl hls)
      ∙ sym (λ i. done_with (reading-used Up s.greatest g gs hg hgs i) (reading-used Down s.least l ls hl hls i) gs ls)
  got (rated-outside n) = answer-by false _ _ (fails fits (λ t. n (rated-right.0 t))) refl refl
  got (no-greatest w n) = answer-by true None _ (rated-right.1 w) (none-refused Up s.greatest n) refl
  got (no-least g w hg n) =
      let sided = reading-sides Up s.greatest g hg in
      answer-by true (Some sided.0) None (rated-right.1 w) (gives-reading Up s.greatest g sided.0 hg sided.1)
      (none-refused Down s.least n)

  pub study-exactly : (r : Converted) → (convert_of s ≡ r) ↔ StudyGets s r
  study-exactly r = (λ e. subst (StudyGets s) e gets, λ h. got h)

  -- ---- the same, answer by answer

  pub done-exactly :
      (g l : ℕ) (gs ls : Sides) →
      (convert_of s ≡ done_with g l gs ls)
      ↔ (RatedRight s × ReadingGives Up s.greatest g × ReadingGives Down s.least l × ReadingSides s.greatest gs × ReadingSides s.least ls)
  done-exactly g l gs ls = (
    λ e. of ((study-exactly (done_with g l gs ls)).0 e) refl,
    λ h. got (both g l gs ls h.0 h.1 h.2 h.3 h.4),
  )
    where
      of :
          {r : Converted} → StudyGets s r → r ≡ done_with g l gs ls →
          RatedRight s × ReadingGives Up s.greatest g × ReadingGives Down s.least l × ReadingSides s.greatest gs × ReadingSides s.least ls
      of (both g' l' gs' ls' w hg hl hgs hls) e = (
        w,
        subst (ReadingGives Up s.greatest) (ap (λ (r : Converted). r.greatest) e) hg,
        subst (ReadingGives Down s.least) (ap (λ (r : Converted). r.least) e) hl,
        subst (ReadingSides s.greatest) (ap (λ (r : Converted). r.sides.greatest) e) hgs,
        subst (ReadingSides s.least) (ap (λ (r : Converted). r.sides.least) e) hls,
      )
      of (rated-outside n) e = absurd (not_done (sym e))
      of (no-greatest w n) e = absurd (not_done (sym e))
      of (no-least g' w hg n) e = absurd (not_done (sym e))

  pub place-0-exactly : (convert_of s ≡ study_at 0) ↔ (RatedRight s → ⊥)
  place-0-exactly = (λ e. of ((study-exactly (study_at 0)).0 e) refl, λ n. got (rated-outside n))
    where
      of : {r : Converted} → StudyGets s r → r ≡ study_at 0 → RatedRight s → ⊥
      of (both g l gs ls w hg hl hgs hls) e = absurd (not_done e)
      of (rated-outside n) e = n
      of (no-greatest w n) e = absurd (distinct 1 0 tt e)
      of (no-least g w hg n) e = absurd (distinct 2 0 tt e)

  pub place-1-exactly : (convert_of s ≡ study_at 1) ↔ (RatedRight s × ReadingGivesNone Up s.greatest)
  place-1-exactly = (λ e. of ((study-exactly (study_at 1)).0 e) refl, λ h. got (no-greatest h.0 h.1))
    where
      of : {r : Converted} → StudyGets s r → r ≡ study_at 1 → RatedRight s × ReadingGivesNone Up s.greatest
      of (both g l gs ls w hg hl hgs hls) e = absurd (not_done e)
      of (rated-outside n) e = absurd (distinct 0 1 tt e)
      of (no-greatest w n) e = (w, n)
      of (no-least g w hg n) e = absurd (distinct 2 1 tt e)

  pub place-2-exactly :
      (convert_of s ≡ study_at 2) ↔ (RatedRight s × ((g : ℕ) × ReadingGives Up s.greatest g) × ReadingGivesNone Down s.least)
  place-2-exactly = (λ e. of ((study-exactly (study_at 2)).0 e) refl, λ h. got (no-least h.1.0 h.0 h.1.1 h.2))
    where
      of :
          {r : Converted} → StudyGets s r → r ≡ study_at 2 →
          RatedRight s × ((g : ℕ) × ReadingGives Up s.greatest g) × ReadingGivesNone Down s.least
      of (both g l gs ls w hg hl hgs hls) e = absurd (not_done e)
      of (rated-outside n) e = absurd (distinct 0 2 tt e)
      of (no-greatest w n) e = absurd (distinct 1 2 tt e)
      of (no-least g w hg n) e = (w, (g, hg), n)
