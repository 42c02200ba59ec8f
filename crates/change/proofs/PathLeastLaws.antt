-- Along a path, with the numbers found off it: settings that are least in the rows of the path below one have no higher pickups there than any
-- that meet P1 to P4, and no greater settings than any that meet every condition; and where such exist some pickup and some setting
-- fit the next row.
use mathlib.Core.Path.{◌≡◌, sym, ap, ◌∙◌}
use mathlib.Core.Bool.{true, false}
use mathlib.Core.List.{List}
use Prim.Native.Nat.{ℕ, suc, ◌≤◌, ◌<◌}
use native.Mathlib.Nat.{le_antisymm, le_of_eq}
use native.Mathlib.Omega.{arith}
use Rattle.layout.specs.declared.CardRow.{CardRow}
use Rattle.layout.specs.List.{rows, row_at}
use Rattle.sides.specs.declared.Primary.{Primary}
use Rattle.sides.specs.declared.Secondary.{Secondary}
use Rattle.sides.proofs.SidesLaws.{lower-in-primary}
use Rattle.layout.proofs.CardLaws.{same-columns}
use Rattle.layout.specs.View.{View, view_of, Settings}
use Rattle.rows.specs.InRange.{Feeds}
use Rattle.settle.proofs.SameLaws.{fed-below}
use Rattle.settle.specs.Conditions.{primary_of, pickup_at, setting_of}
use Rattle.settle.specs.Inequalities.{NoPickup, LeastPickup, TimeMet, LeastRow}
use Rattle.settle.proofs.TimeLaws.{by-law, setting-definite, setting-curve}
use Rattle.calculate.proofs.LeastLaws.{same-primary, least-pickup-same, pickups-under-on, pickup-fits-on, time-fits-on, times-under-on}
use Rattle.calculate.proofs.MeetsLaws.{Under, under_same}
use Rattle.path.specs.Path.{OnPath, on_path}
use Rattle.path.proofs.OnPathLaws.{on-path-exactly, off-path-exactly}
use Rattle.path.proofs.PathLaws.{on-within}
use Rattle.change.specs.AnyCard.{AsFound, PickupsBelow, MeetsBelow, PathUpTo, WorkedTo}

-- the rows of the path below n are at their least settings
pub record LeastBelow (l : List ℕ) (i : ℕ) (c : List ℕ) (k : Settings) (n : ℕ) : Type 0 where
  pub off-path : AsFound l i c k
  pub least : (j : ℕ) → OnPath l i j → j < n → LeastRow (view_of l) k j

module _ {l : List ℕ} {i : ℕ} {c : List ℕ} {k : Settings} where
  pub up_to : {j : ℕ} → PathUpTo l i c k j → LeastBelow l i c k j
  up_to u = record { off-path = u.off-path; least = u.rows-below }

  pub worked : {s : ℕ} → WorkedTo l i c k s → LeastBelow l i c k (suc s)
  worked w = record { off-path = w.off-path; least = λ j p g. w.least j p (omega arith) }

  pub fewer : (n m : ℕ) → n ≤ m → LeastBelow l i c k m → LeastBelow l i c k n
  fewer n m le u = record { off-path = u.off-path; least = λ j p g. u.least j p (omega arith) }

  pub met-least : {n : ℕ} → LeastBelow l i c k n → MeetsBelow l i c k n
  met-least u =
      record {
        off-path = u.off-path;
        pickups = λ j p g. (u.least j p g).pickup;
        law = λ j p g. (u.least j p g).law;
        times = λ j p g. (u.least j p g).time;
      }

  pub met-pickups : {n : ℕ} → MeetsBelow l i c k n → PickupsBelow l i c k n
  met-pickups m =
      record { off-path = m.off-path; available = λ j p g. (m.pickups j p g).available; met = λ j p g. (m.pickups j p g).met }

-- a row at its least settings has one card row only, by its pickup and its setting
least-same :
    (v : View) (k k' : Settings) (x : ℕ) → LeastRow v k x → LeastRow v k' x → (k x).pickup.0 ≡ (k' x).pickup.0 → setting_of (k x) ≡ setting_of (k' x) → k x ≡ k' x
least-same v k k' x a a' p s =
    let laws = a.law ∙ sym a'.law in
    let cutoffs = ap (λ (C : Secondary). C.0) (a.cutoff ∙ sym a'.cutoff) in
    by-law (k x).law
    (λ e.
    let e' = sym laws ∙ e in
    same-columns p (sym (setting-definite (k x) e) ∙ s ∙ setting-definite (k' x) e') cutoffs laws
    (a.definite-multiplier e ∙ sym (a'.definite-multiplier e')))
    (λ n.
    let n' : (k' x).law ≡ 0 → ⊥ = λ e. n (laws ∙ e) in
    same-columns p (a.curve-delay n ∙ sym (a'.curve-delay n')) cutoffs laws (sym (setting-curve (k x) n) ∙ s ∙ setting-curve (k' x) n'))

module _ (l : List ℕ) (b : Feeds l) (i : ℕ) (h : i < rows l) (c : List ℕ) where
  pub on : {j : ℕ} → OnPath l i j → on_path l i j ≡ true
  on {j} p = (on-path-exactly l b i j h).1 p

  path : {j : ℕ} → on_path l i j ≡ true → OnPath l i j
  path {j} o = (on-path-exactly l b i j h).0 o

  -- two settings as found are alike off the path
  pub alike : (k k' : Settings) → AsFound l i c k → AsFound l i c k' → (j : ℕ) → j < rows l → on_path l i j ≡ false → k j ≡ k' j
  alike k k' f f' j g o = let n = (off-path-exactly l b i j h).0 o in f j g n ∙ sym (f' j g n)

  -- in k the rows below j are at their least settings; in k' the pickups of those below n meet P1 to P4
  module _ (k : Settings) (j : ℕ) (u : LeastBelow l i c k j) (k' : Settings) (n : ℕ) (few : n ≤ rows l) (m : PickupsBelow l i c k' n) where
    off-pickup : (x : ℕ) → x < n → on_path l i x ≡ false → (pickup_at (view_of l) k x).0 ≤ (pickup_at (view_of l) k' x).0
    off-pickup x g o =
        le_of_eq (ap (λ (s : CardRow). (primary_of (row_at l x) s.pickup).0) (alike k k' u.off-path m.off-path x (omega arith) o))

    pub no-higher : j ≤ n → (x : ℕ) → x < j → (pickup_at (view_of l) k x).0 ≤ (pickup_at (view_of l) k' x).0
    no-higher le =
        pickups-under-on (view_of l) (fed-below l b) (on_path l i) n k k' off-pickup (λ x g o. m.available x (path o) g)
        (λ x g o. m.met x (path o) g) j le (λ x g o. (u.least x (path o) g).pickup)

    pub some-pickup : OnPath l i j → j < n → NoPickup (view_of l) k j → ⊥
    some-pickup p le =
        pickup-fits-on (view_of l) (fed-below l b) (on_path l i) n k k' off-pickup (λ x g o. m.available x (path o) g)
        (λ x g o. m.met x (path o) g) j le (on p) (λ x g o. (u.least x (path o) g).pickup)

  -- in k' those below n meet every condition
  module _ (k : Settings) (j : ℕ) (u : LeastBelow l i c k j) (k' : Settings) (n : ℕ) (few : n ≤ rows l) (m : MeetsBelow l i c k' n) where
    off-under : (x : ℕ) → x < n → on_path l i x ≡ false → Under (view_of l) k k' x
    off-under x g o = under_same (view_of l) k k' x (alike k k' u.off-path m.off-path x (omega arith) o)

    -- the pickups are the same
    same-pickups : j ≤ n → (x : ℕ) → x < j → pickup_at (view_of l) k x ≡ pickup_at (view_of l) k' x
    same-pickups le x g =
        same-primary
        (no-higher k j u k' n few (met-pickups m) le x g)
        (pickups-under-on (view_of l) (fed-below l b) (on_path l i) j k' k
        (λ y q o. le_of_eq (sym (ap (λ (I : Primary). I.0) (off-under y (omega arith) o).same-pickup))) (λ y q o. (u.least y (path o) q).pickup.available)
        (λ y q o. (u.least y (path o) q).pickup.met) j (omega arith) (λ y q o. m.pickups y (path o) (omega arith)) x g)

    pub no-greater : j ≤ n → (x : ℕ) → x < j → Under (view_of l) k k' x
    no-greater le =
        times-under-on (view_of l) (fed-below l b) (on_path l i) n k k' off-under (λ x g o. m.law x (path o) g) (λ x g o. m.times x (path o) g) j le
        (λ x g o. u.least x (path o) g) (λ x g o. same-pickups le x g)

    pub some-time :
        OnPath l i j → j < n → (x : Secondary) → LeastPickup (view_of l) k j x → TimeMet (view_of l) k j (primary_of (row_at l j) x) (setting_of (k' j))
    some-time p le x a =
        time-fits-on (view_of l) (fed-below l b) (on_path l i) n k k' off-under (λ x g o. m.law x (path o) g) (λ x g o. m.times x (path o) g) j le (on p)
        (no-greater (omega arith)) (primary_of (row_at l j) x)
        (least-pickup-same (view_of l) (fed-below l b) k k' j (same-pickups (omega arith)) x (k' j).pickup a (m.pickups j p le))

  -- settings that meet every condition up to the last row worked out are no lower there
  pub under :
      (k k' : Settings) (s : ℕ) → WorkedTo l i c k s → MeetsBelow l i c k' (suc s) → (j : ℕ) → j ≤ s →
      ((pickup_at (view_of l) k j).0 ≤ (pickup_at (view_of l) k' j).0) × (setting_of (k j) ≤ setting_of (k' j))
  under k k' s w m j le =
      let few = on-within l b i s h (on w.on-path) in (
        no-higher k (suc s) (worked w) k' (suc s) few (met-pickups m) (omega arith) j (omega arith),
        (no-greater k (suc s) (worked w) k' (suc s) few m (omega arith) j (omega arith)).setting-to,
      )

  -- nor are pickups that meet P1 to P4
  pub under-pickups :
      (k k' : Settings) (s : ℕ) → WorkedTo l i c k s → PickupsBelow l i c k' (suc s) → (j : ℕ) → j ≤ s →
      (pickup_at (view_of l) k j).0 ≤ (pickup_at (view_of l) k' j).0
  under-pickups k k' s w m j le =
      no-higher k (suc s) (worked w) k' (suc s) (on-within l b i s h (on w.on-path)) m (omega arith) j (omega arith)

  -- two settings that are least below n are the same there
  pub same-below : (k k' : Settings) (n : ℕ) → n ≤ rows l → LeastBelow l i c k n → LeastBelow l i c k' n → (x : ℕ) → OnPath l i x → x < n → k x ≡ k' x
  same-below k k' n few u u' x p g =
      least-same (view_of l) k k' x (u.least x p g) (u'.least x p g)
      (le_antisymm
      ((lower-in-primary (row_at l x).ratio (k x).pickup (k' x).pickup).1 (no-higher k n u k' n few (met-pickups (met-least u')) (omega arith) x g))
      ((lower-in-primary (row_at l x).ratio (k' x).pickup (k x).pickup).1 (no-higher k' n u' k n few (met-pickups (met-least u)) (omega arith) x g)))
      (le_antisymm
      (no-greater k n u k' n few (met-least u') (omega arith) x g).setting-to (no-greater k' n u' k n few (met-least u) (omega arith) x g).setting-to)
