-- Along a path, with the numbers found off it: where some settings meet every condition no row is refused, the row at which the climb
-- ends is one only, and so are the row and the reason of a refusal.
use Rattle.settle.specs.Outcomes.{Settled}
use Rattle.answers.specs.declared.Refusal.TheVariants.{Unsettled}
use Rattle.answers.specs.Answer.{Answer}
use Rattle.std.proofs.Common.{Ok, Err}
use mathlib.Core.Path.{◌≡◌, refl, sym, ◌∙◌}
use mathlib.Core.Bool.{true, false}
use mathlib.Core.Logic.{⊎_elim}
use mathlib.Core.List.{List}
use Prim.Native.Nat.{ℕ, suc, ◌+◌, ◌≤◌, ◌<◌}
use native.Mathlib.Nat.{eq-or-lt_of_le}
use native.Mathlib.Omega.{arith}
use Rattle.fold.proofs.BoolLaws.{passes-or-fails, lt-or-le, zero-not-one}
use Rattle.answers.specs.declared.Reason.{Reason}
use Rattle.answers.specs.declared.Reason.TheVariants.{Pickup, Curve, Delay}
use Rattle.layout.specs.Fields.{at_feeder}
use Rattle.layout.specs.List.{rows, field}
use Rattle.layout.specs.Range.{AllBounded}
use Rattle.layout.specs.View.{view_of, Settings}
use Rattle.rows.specs.InRange.{Feeds}
use Rattle.settle.specs.declared.Outcome.{Outcome}
use Rattle.settle.specs.Settle.{settled}
use Rattle.settle.proofs.CauseTheorems.{cause-no-pickup}
use Rattle.settle.proofs.SameLaws.{settled_same, fed-below}
use Rattle.settle.proofs.SettledTheorems.{least-settled, no-pickup-exactly, no-curve-exactly, no-delay-exactly}
use Rattle.calculate.proofs.MeetsLaws.{curve-not-runs}
use Rattle.path.specs.Path.{on_path}
use Rattle.path.proofs.OnPathLaws.{on-path-exactly, off-path-exactly}
use Rattle.path.proofs.PathLaws.{source-last, on-within}
use Rattle.change.specs.AnyCard.{MeetsBelow, GoesOn, PathUpTo, PathRefused, NO-PICKUP, CURVE, DELAY, WorkedTo}
use Rattle.change.proofs.PathLeastLaws.{LeastBelow, up_to, worked, fewer, met-pickups, on, alike, some-pickup, some-time, same-below}

in_order : {P : Type 0} (a b : ℕ) → (a < b → P) → (a ≡ b → P) → (b < a → P) → P
in_order a b f g h = ⊎_elim f (λ (q : b ≤ a). ⊎_elim (λ (e : b ≡ a). g (sym e)) h (eq-or-lt_of_le q)) (lt-or-le a b)

-- no outcome is two things at once
never-set : {why : Reason} {o : Outcome} → ◌≡◌ {A = Settled} (Err why) (Ok o) → ⊥
never-set e = zero-not-one cc

same-reason : {why why' : Reason} → ◌≡◌ {A = Settled} (Err why) (Err why') → why ≡ why'
same-reason e = cc

module _ (l : List ℕ) (b : Feeds l) (i : ℕ) (h : i < rows l) (c : List ℕ) where
  row_within : {k : Settings} {j : ℕ} → PathUpTo l i c k j → j < rows l
  row_within {k} {j} u = on-within l b i j h (on l b i h c u.on-path)

  -- a climb that ends at row s goes no further in any settings: in k' the rows up to s are at their least settings too
  ends_there : (k k' : Settings) (s j : ℕ) → WorkedTo l i c k s → LeastBelow l i c k' j → s < j → j ≤ rows l → GoesOn i c k' s → field l s at_feeder ≡ 0
  ends_there k k' s j w u lt few goes =
      ⊎_elim (λ z. z)
      (λ q.
      absurd
      (goes q.0
      (sym (same-below l b i h c k k' (suc s) (omega arith) (worked w) (fewer (suc s) j lt u) s w.on-path (omega arith)) ∙ q.1)))
      w.stopped

  no-further : (k k' : Settings) (s j : ℕ) → WorkedTo l i c k s → LeastBelow l i c k' j → s < j → j < rows l → GoesOn i c k' s → ⊥
  no-further k k' s j w u lt within goes =
      omega (arith, source-last l b s (on-within l b i s h (on l b i h c w.on-path)) (ends_there k k' s j w u lt (omega arith) goes))

  -- the row that is next is no row of a climb that ended
  module _ (k k' : Settings) (s j : ℕ) (w : WorkedTo l i c k s) (u : PathUpTo l i c k' j) where
    within_end : j ≤ s
    within_end =
        ⊎_elim (λ lt. absurd (no-further k k' s j w (up_to u) lt (row_within u) (u.went_on s w.on-path lt))) (λ (le : j ≤ s). le) (lt-or-le s j)

  -- settings that meet every condition are never refused
  pub never-refused : (k' : Settings) → MeetsBelow l i c k' (rows l) → {x : Answer} → PathRefused l i c x → ⊥
  never-refused k' m (NO-PICKUP k j why u n) =
      some-pickup l b i h c k j (up_to u) k' (rows l) (omega arith) (met-pickups m) u.on-path (row_within u) (cause-no-pickup (view_of l) k j n)
  never-refused k' m (CURVE k j y place u p n) =
      curve-not-runs (view_of l) k j _ n (some-time l b i h c k j (up_to u) k' (rows l) (omega arith) m u.on-path (row_within u) y p).runs
  never-refused k' m (DELAY k j y u p r n) = n _ (some-time l b i h c k j (up_to u) k' (rows l) (omega arith) m u.on-path (row_within u) y p)

  -- a refusal says that the row that is next is not settled, and why
  record Unsettles (x : Answer) : Type 0 where
    settings : Settings
    row : ℕ
    why : Reason
    next : PathUpTo l i c settings row
    unset : settled (view_of l) settings row ≡ Err why
    answer : x ≡ Err (Unsettled (row + 1) why)

  unsettles : AllBounded (view_of l) → {x : Answer} → PathRefused l i c x → Unsettles x
  unsettles a (NO-PICKUP k j why u n) =
      record {
        settings = k;
        row = j;
        why = Pickup why;
        next = u;
        unset = (no-pickup-exactly (view_of l) k j (a j (row_within u)) why).1 n;
        answer = refl;
      }
  unsettles a (CURVE k j y place u p n) =
      record {
        settings = k;
        row = j;
        why = Curve place;
        next = u;
        unset = (no-curve-exactly (view_of l) k j (a j (row_within u)) place).1 (y, p, n);
        answer = refl;
      }
  unsettles a (DELAY k j y u p r n) =
      record {
        settings = k;
        row = j;
        why = Delay;
        next = u;
        unset = (no-delay-exactly (view_of l) k j (a j (row_within u))).1 (y, p, r, n);
        answer = refl;
      }

  -- two settings that are least below row j settle it alike: its fed rows stand alike in both
  settles-alike : (k k' : Settings) (j : ℕ) → j < rows l → LeastBelow l i c k j → LeastBelow l i c k' j → settled (view_of l) k j ≡ settled (view_of l) k' j
  settles-alike k k' j within u u' =
      settled_same (view_of l) (view_of l) k k' j refl refl (λ x g. refl) (λ x g f. refl)
      (λ x g f.
      ⊎_elim
      (λ (o : on_path l i x ≡ true).
      same-below l b i h c k k' j (omega arith) u u' x ((on-path-exactly l b i x h).0 o) (fed-below l b j x g f))
      (λ (o : on_path l i x ≡ false). alike l b i h c k k' u.off-path u'.off-path x g o)
      (passes-or-fails (on_path l i x)))

  -- where a row is not settled in k, it is not at its least settings in k'
  not_least :
      AllBounded (view_of l) → (k k' : Settings) (j : ℕ) {why : Reason} → PathUpTo l i c k j → settled (view_of l) k j ≡ Err why →
      LeastBelow l i c k' (suc j) → ⊥
  not_least a k k' j u e u' =
      let s = least-settled (view_of l) k' j (a j (row_within u)) (u'.least j u.on-path (omega arith)) in
      never-set (sym e ∙ settles-alike k k' j (row_within u) (up_to u) (fewer j (suc j) (omega arith) u') ∙ s.settles)

  -- nor is a climb that ended ever refused
  pub ended-not-refused : AllBounded (view_of l) → (k : Settings) (s : ℕ) → WorkedTo l i c k s → {x : Answer} → PathRefused l i c x → ⊥
  ended-not-refused a k s w z =
      let r = unsettles a z in
      not_least a r.settings k r.row r.next r.unset
      (fewer (suc r.row) (suc s) (omega (arith, within_end k r.settings s r.row w r.next)) (worked w))

  -- it ends at one row only
  pub one_end : (k k' : Settings) (s s' : ℕ) → WorkedTo l i c k s → WorkedTo l i c k' s' → s ≡ s'
  one_end k k' s s' w w' =
      in_order s s' (λ lt. absurd (further k k' s s' w w' lt)) (λ e. e) (λ lt. absurd (further k' k s' s w' w lt))
    where
      further : (k k' : Settings) (s s' : ℕ) → WorkedTo l i c k s → WorkedTo l i c k' s' → s < s' → ⊥
      further k k' s s' w w' lt =
          let in_List = on-within l b i s' h (on l b i h c w'.on-path) in
          no-further k k' s s' w (fewer s' (suc s') (omega arith) (worked w')) lt in_List (w'.went_on s w.on-path lt)

  -- and with one set of settings only
  pub one-settings : (k k' : Settings) (s s' : ℕ) → WorkedTo l i c k s → WorkedTo l i c k' s' → (j : ℕ) → j < rows l → k j ≡ k' j
  one-settings k k' s s' w w' j g =
      let e = one_end k k' s s' w w' in
      ⊎_elim
      (λ (o : on_path l i j ≡ true).
      let p = (on-path-exactly l b i j h).0 o in
      ⊎_elim
      (λ (past : s < j). w.past j p past ∙ sym (w'.past j p (omega arith)))
      (λ (le : j ≤ s).
      let few = on-within l b i s h (on l b i h c w.on-path) in
      same-below l b i h c k k' (suc s) few (worked w) (fewer (suc s) (suc s') (omega arith) (worked w')) j p (omega arith))
      (lt-or-le s j))
      (λ (o : on_path l i j ≡ false). let n = (off-path-exactly l b i j h).0 o in w.off-path j g n ∙ sym (w'.off-path j g n))
      (passes-or-fails (on_path l i j))

  -- there is one refusal only: of two, the one at a lower row would be at its least settings in the other
  pub same-refusal : AllBounded (view_of l) → {x x' : Answer} → PathRefused l i c x → PathRefused l i c x' → x ≡ x'
  same-refusal a z z' =
      let r = unsettles a z in
      let r' = unsettles a z' in
      r.answer ∙
      in_order r.row r'.row
      (λ g. absurd (not_least a r.settings r'.settings r.row r.next r.unset (fewer (suc r.row) r'.row g (up_to r'.next))))
      (λ e.
      let next' : PathUpTo l i c r'.settings r.row = rw e r'.next in
      let unset' : settled (view_of l) r'.settings r.row ≡ Err r'.why = rw e r'.unset in
      let same = same-reason
      (sym r.unset ∙ settles-alike r.settings r'.settings r.row (row_within r.next) (up_to r.next) (up_to next') ∙ unset') in
      λ t. Err (Unsettled (e t + 1) (same t)))
      (λ g. absurd (not_least a r'.settings r.settings r'.row r'.next r'.unset (fewer (suc r'.row) r.row g (up_to r.next)))) ∙
      sym r'.answer
