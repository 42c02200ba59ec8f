-- The pass from the last row down: with row k put first among the rows that its feeder feeds, every row's first fed row is the first from
-- k on, and what follows a row from k on is the next that is fed as it is. A row that the source feeds changes nothing.
use Rattle.std.proofs.Common.{Option, Some, None}
use mathlib.Core.Path.{◌≡◌, refl, sym, ap, ◌∙◌}
use mathlib.Core.Bool.{true, false}
use mathlib.Core.Logic.{◌≢◌, ⊎_elim}
use mathlib.Core.List.{List}
use Prim.Native.Nat.{ℕ, ◌+◌, ◌-◌, ◌≤◌, ◌<◌}
use native.Mathlib.Nat.{eq-or-lt_of_le}
use native.Mathlib.Omega.{arith}
use lib.Dec.{eqb}
use lib.ListN.{length, set, length-set}
use lib.Seq.{get_or-set_same, get_or-set_other}
use borrow.Author.Tests.{eqb-true, eqb-false, eq-eqb, ne_eqb, lt-ltb, le-ltb}
use Rattle.fold.proofs.BoolLaws.{passes-or-fails, lt-or-le}
use Rattle.layout.specs.List.{rows}
use Rattle.feeding.specs.declared.Links.{Links}
use Rattle.feeding.specs.Fed.{feeder_of, feeds, next_fed, found_or, fed_from, unlinked, link_at, row_among, link_to, Linked, LinkReady}
use Rattle.feeding.specs.Linking.{Linking, RowReady}
use Rattle.fold.proofs.FirstLaws.{first-at, first-step-true, first-step-false, first-end}

-- the byte that is kept for a row, and for none
pub link-to-row : (x : ℕ) → link_to (Some x) ≡ x + 1
link-to-row x = refl

pub link-to-none : link_to None ≡ 0
link-to-none = refl

-- what is kept for row x of n rows, or for none where it is none of them: a byte other than 0 is the number of that row, and 0 says that it is none
pub link-some : (n x y : ℕ) → y ≡ link_to (row_among n x) → y ≢ 0 → (x < n) × (y ≡ x + 1)
unfolding row_among
link-some n x y e some =
    ⊎_elim (λ (h : x < n). (h, e ∙ simp (lt-ltb x n h))) (λ (h : n ≤ x). absurd (some (e ∙ simp (le-ltb x n h)))) (lt-or-le x n)

pub link-none : (n x y : ℕ) → y ≡ link_to (row_among n x) → y ≡ 0 → n ≤ x
unfolding row_among
link-none n x y e none =
    ⊎_elim
    (λ (h : x < n).
    let k : link_to (row_among n x) ≡ x + 1 = simp (lt-ltb x n h) in
    absurd (omega arith))
    (λ (h : n ≤ x). h)
    (lt-or-le x n)

-- of n rows, all that may be kept
pub link-found :
    (n : ℕ) (o : Option ℕ) (y : ℕ) → ((x : ℕ) → o ≡ Some x → x < n) → y ≡ link_to o → y ≢ 0 → (found_or n o < n) × (y ≡ found_or n o + 1)
unfolding found_or
link-found n (Some x) y below e some = (below x refl, e)
link-found n None y below e some = absurd (some e)

pub link-not-found : (n : ℕ) (o : Option ℕ) (y : ℕ) → y ≡ link_to o → y ≡ 0 → n ≤ found_or n o
unfolding found_or
link-not-found n (Some x) y e none = absurd (omega arith)
link-not-found n None y e none = omega arith

-- what was found among n rows is a row of them, or none
found-row : (n : ℕ) (o : Option ℕ) → ((x : ℕ) → o ≡ Some x → x < n) → o ≡ row_among n (found_or n o)
unfolding row_among found_or
found-row n (Some x) below = simp (lt-ltb x n (below x refl))
found-row n None below = simp (le-ltb n n (omega arith))

next-row : (l : List ℕ) (i j : ℕ) → next_fed l i j ≡ row_among (rows l) (fed_from l i j)
unfolding fed_from
next-row l i j =
    found-row (rows l) (next_fed l i j)
    (λ x h.
    let r = first-at (feeds l i) (rows l - j) j x h in
    omega (arith, r.from, r.below))

-- so of what is kept for the next fed row
module _ (l : List ℕ) (i j y : ℕ) (e : y ≡ link_to (next_fed l i j)) where
  pub next-linked : y ≢ 0 → (fed_from l i j < rows l) × (y ≡ fed_from l i j + 1)
  next-linked some = link-some (rows l) (fed_from l i j) y (e ∙ ap link_to (next-row l i j)) some

  pub no-next-linked : y ≡ 0 → rows l ≤ fed_from l i j
  no-next-linked none = link-none (rows l) (fed_from l i j) y (e ∙ ap link_to (next-row l i j)) none

-- the loop: before the first turn, at a turn, and after the last
pub linking-none : (l : List ℕ) (links : List Links) → LinkReady l links → Linking l links (rows l)
linking-none l links a =
    record {
      within = omega arith;
      links-room = a.links-room;
      firsts =
          λ i b. ap (λ (x : Links). x.first) (a.links-clear i) ∙ sym (ap link_to (first-end (feeds l i) (rows l) (rows l) (omega arith)));
      nexts = λ i j a b. absurd (omega arith);
    }

pub linking-ready : (l : List ℕ) (links₀ links : List Links) (k : ℕ) → LinkReady l links₀ → Linking l links k → 0 < k → RowReady l links (k - 1)
linking-ready l links₀ links k a above h =
    let e : k - 1 + 1 ≡ k = omega arith in
    let is_row : k - 1 < rows l = omega (arith, above.within) in
    record { rows-to = a.rows-to; is_row = is_row; feeder = a.feeders (k - 1) is_row; above = rw e above }

pub linking-all : (l : List ℕ) (links : List Links) (k : ℕ) → Linking l links k → k ≡ 0 → Linked l links
linking-all l links k h e =
    let all : Linking l links 0 = rw e at h in
    record { room = all.links-room; firsts = all.firsts; nexts = λ i j b. all.nexts i j (omega arith) b }

module _ (l : List ℕ) (links : List Links) (k : ℕ) (h : RowReady l links k) where
  -- a row's feeder has its place among the links; then the row is not the last, and a byte holds its number
  module _ (feeder : ℕ) (e : feeder ≡ feeder_of l k) (some : feeder ≢ 0) where
    behind-it : (k + 1 < feeder_of l k) × (feeder_of l k ≤ rows l)
    behind-it = h.feeder (λ q. some (e ∙ q))

    pub feeder-place : feeder - 1 < length links
    feeder-place = omega (arith, behind-it.0, behind-it.1, h.above.links-room)

    pub number-byte : k + 1 ≤ 255
    number-byte = omega (arith, behind-it.0, behind-it.1, h.rows-to)

  -- what another row than its feeder feeds is found behind row k
  past : (i : ℕ) → feeder_of l k ≢ i + 1 → next_fed l i (k + 1) ≡ next_fed l i k
  past i n = sym (first-step-false (feeds l i) k (rows l) h.is_row (ne_eqb (feeder_of l k) (i + 1) n))

  pub linking-source : feeder_of l k ≡ 0 → Linking l links k
  linking-source e =
      record {
        within = omega (arith, h.is_row);
        links-room = h.above.links-room;
        firsts = λ i b. h.above.firsts i b ∙ ap link_to (past i (λ q. omega arith));
        nexts =
            λ i j a b p.
            ⊎_elim
            (λ (s : k ≡ j). absurd (let q : feeder_of l k ≡ i + 1 = rw s (eqb-true (feeder_of l j) (i + 1) p) in omega arith))
            (λ (s : k < j). h.above.nexts i j (omega arith) b p)
            (eq-or-lt_of_le a);
      }

  module _ (at : ℕ) (e : feeder_of l k ≡ at + 1) where
    abbrev behind : List Links
    behind = set links k (record { first = (link_at links k).first; next = (link_at links at).first })

    abbrev before : List Links
    before = set behind at (record { first = k + 1; next = (link_at behind at).next })

    row-in : k < length links
    row-in = omega (arith, h.is_row, h.above.links-room)

    feeder-to : feeder_of l k ≤ rows l
    feeder-to = (h.feeder (λ q. omega arith)).1

    behind-length : length behind ≡ length links
    behind-length = length-set links k _

    feeder-in : at < length behind
    feeder-in = omega (arith, feeder-to, h.above.links-room, behind-length)

    kept-length : length before ≡ length links
    kept-length = length-set behind at _ ∙ behind-length

    -- only the feeder's first and row k's next are other than they were
    first-behind : (i : ℕ) → (link_at behind i).first ≡ (link_at links i).first
    first-behind i =
        ⊎_elim
        (λ (s : eqb i k ≡ true).
        rw (eqb-true i k s) (ap (λ (x : Links). x.first) (get_or-set_same links k (record { first = (link_at links k).first; next = (link_at links at).first }) unlinked row-in)))
        (λ (s : eqb i k ≡ false).
        ap (λ (x : Links). x.first)
        (get_or-set_other links k i (record { first = (link_at links k).first; next = (link_at links at).first }) unlinked (eqb-false i k s)))
        (passes-or-fails (eqb i k))

    firsts-kept : (i : ℕ) → i ≢ at → (link_at before i).first ≡ (link_at links i).first
    firsts-kept i n =
        ap (λ (x : Links). x.first) (get_or-set_other behind at i (record { first = k + 1; next = (link_at behind at).next }) unlinked n) ∙ first-behind i

    nexts-kept : (j : ℕ) → (link_at before j).next ≡ (link_at behind j).next
    nexts-kept j =
        ⊎_elim
        (λ (s : eqb j at ≡ true).
        rw (eqb-true j at s)
        (ap (λ (x : Links). x.next) (get_or-set_same behind at (record { first = k + 1; next = (link_at behind at).next }) unlinked feeder-in)))
        (λ (s : eqb j at ≡ false).
        ap (λ (x : Links). x.next)
        (get_or-set_other behind at j (record { first = k + 1; next = (link_at behind at).next }) unlinked (eqb-false j at s)))
        (passes-or-fails (eqb j at))

    own_first : (link_at before at).first ≡ link_to (next_fed l at k)
    own_first =
        ap (λ (x : Links). x.first) (get_or-set_same behind at (record { first = k + 1; next = (link_at behind at).next }) unlinked feeder-in) ∙
        sym (ap link_to (first-step-true (feeds l at) k (rows l) h.is_row (eq-eqb (feeder_of l k) (at + 1) e)))

    own-next : (link_at behind k).next ≡ link_to (next_fed l at (k + 1))
    own-next =
        ap (λ (x : Links). x.next)
        (get_or-set_same links k (record { first = (link_at links k).first; next = (link_at links at).first }) unlinked row-in) ∙
        h.above.firsts at (omega (arith, feeder-to))

    pub linking-fed : Linking l before k
    linking-fed =
        record {
          within = omega (arith, h.is_row);
          links-room = omega (arith, kept-length, h.above.links-room);
          firsts =
              λ i b.
              ⊎_elim
              (λ (s : eqb i at ≡ true). rw (eqb-true i at s) own_first)
              (λ (s : eqb i at ≡ false).
              let n = eqb-false i at s in
              firsts-kept i n ∙ h.above.firsts i b ∙ ap link_to (past i (λ q. n (omega arith))))
              (passes-or-fails (eqb i at));
          nexts =
              λ i j a b p.
              nexts-kept j ∙
              ⊎_elim
              (λ (s : k ≡ j).
              let f : feeder_of l k ≡ i + 1 = rw s (eqb-true (feeder_of l j) (i + 1) p) in
              let q : i ≡ at = omega arith in
              rw (← s, q) own-next)
              (λ (s : k < j).
              ap (λ (x : Links). x.next)
              (get_or-set_other links k j (record { first = (link_at links k).first; next = (link_at links at).first }) unlinked (λ q. omega arith)) ∙
              h.above.nexts i j (omega arith) b p)
              (eq-or-lt_of_le a);
        }
