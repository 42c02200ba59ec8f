-- The climb past a row that is settled: it ends there, being fed by the source or a feeding row that comes out as it was, or the path of
-- its feeding row is worked out on the card with the row put in; on a refusal there the old numbers go back.
use Rattle.settle.specs.declared.Fed.{Fed}
use Rattle.answers.specs.declared.Refusal.{Refusal}
use Rattle.answers.specs.Answer.{Answer}
use Rattle.std.proofs.Common.{Ok, Err}
use mathlib.Core.Path.{◌≡◌, refl, sym, ap, ap₂, ◌∙◌, subst}
use mathlib.Core.Bool.{Bool, true, false, ◌&&◌, ◌||◌, or-true, or-false}
use mathlib.Core.Logic.{⊎_elim}
use mathlib.Core.List.{List, [], ◌∷◌}
use Prim.Native.Nat.{ℕ, ◌+◌, ◌-◌, ◌≤◌, ◌<◌}
use native.Mathlib.Omega.{arith}
use lib.Dec.{eqb}
use lib.ListN.{length}
use borrow.Author.Tests.{eqb-true}
use Rattle.fold.proofs.BoolLaws.{passes-or-fails, not-both}
use Rattle.layout.specs.declared.CardRow.{CardRow}
use Rattle.layout.specs.Card.{card_row_at, put_card_row, same_card_row}
use Rattle.layout.specs.Counts.{rows_most}
use Rattle.layout.specs.Fields.{at_feeder}
use Rattle.layout.specs.List.{rows, field, row_at}
use Rattle.layout.proofs.CardLaws.{put_card_row-own, put_card_row-back}
use Rattle.settle.specs.Settle.{shown}
use Rattle.rowwise.specs.Ready.{Stepped}
use Rattle.rowwise.specs.Sums.{pushed, steps}
use Rattle.rowwise.specs.WorkOut.{on_settled, work_out}
use Rattle.rowwise.proofs.WorkingLaws.{work-next}
use Rattle.path.specs.Path.{path_of, on_path}
use Rattle.path.specs.Reach.{reach_from, Reaches, at_source, as_it_was, goes_on}
use Rattle.path.specs.Ready.{ClimbReady, far_of, card_of, WorkedOut, HowFar}
use Rattle.path.proofs.ReachRowsLaws.{reach-length}
use Rattle.path.proofs.PathLaws.{path-length, fed-climbs, on-fed, on-self, off-below}
use Rattle.path.proofs.EndLaws.{reworked-done, reworked-refused}
use Rattle.rows.specs.InRange.{Feeds}
use Rattle.path.proofs.ReachLaws.{stops-exactly, get-reached, reaches-from}
use Rattle.path.proofs.ClimbLaws.{off, climb-works, Comes}

module _ {l : List ℕ} {i : ℕ} {c : List ℕ} {s : List Fed} {r : ClimbReady l i c s} {t : Answer} {c' : List ℕ} {s' : List Fed}
    {z : Stepped (steps l i (i + 1 - i) c s) t c' s'} (p : Comes l i c s r t c' s' z) (feeding : Bool) where
  abbrev feeds : Feeds l
  feeds = r.working.feeds

  -- no row follows it
  ends : Reaches l feeding i c (i ∷ []) → WorkedOut l (reach_from l feeding (path_of l i) c) c (Ok 1) c'
  unfolding work_out on_settled far_of card_of
  ends x = rw (get-reached l feeds r.is_row x, p.comes-to) (record { far = refl; card = p.card })

  module _ (old : CardRow) (eo : old ≡ card_row_at c i) (b : Bool) (eb : b ≡ (feeding && same_card_row old (card_row_at c' i))) where
    -- whether it is a feeding row that comes out as it was
    stops : b ≡ (feeding && same_card_row (card_row_at c i) (shown p.outcome))
    stops =
        let own = put_card_row-own c i (shown p.outcome) (climb-works l i c s r).in-card in
        eb ∙ ap₂ (λ (x y : CardRow). feeding && same_card_row x y) eo (ap (λ (x : List ℕ). card_row_at x i) p.card ∙ own)

    pub climb-stops : b ≡ true → WorkedOut l (reach_from l feeding (path_of l i) c) c (Ok 1) c'
    climb-stops q =
        let w = (stops-exactly feeding (card_row_at c i) (shown p.outcome)).0 (sym stops ∙ q) in
        ends (subst (λ (f : Bool). Reaches l f i c (i ∷ [])) (sym w.0) (as_it_was i c p.outcome p.comes-to w.1))

    module _ (go : b ≡ false) (f : ℕ) (ef : f ≡ field l i at_feeder) where
      -- the source feeds it: the path ends
      pub climb-source : f ≡ 0 → WorkedOut l (reach_from l feeding (path_of l i) c) c (Ok 1) c'
      climb-source q = ends (at_source feeding i c p.outcome p.comes-to (sym ef ∙ q))

      module _ (n : f ≡ 0 → ⊥) where
        fed : field l i at_feeder ≡ 0 → ⊥
        fed q = n (ef ∙ q)

        off_next : (j : ℕ) → off l (f - 1) j ≡ (off l i j || eqb j i)
        off_next j =
            let k = fed-climbs l feeds i r.is_row fed in
            ⊎_elim
            (λ (q : eqb j i ≡ true).
            let x = eqb-true j i q in
            rw (q, or-true (off l i j), x, ef, off-below l feeds (field l i at_feeder - 1) i k.within k.above))
            (λ (q : eqb j i ≡ false). rw (ef, on-fed l feeds i j r.is_row fed, q, or-false (off l (field l i at_feeder - 1) j)))
            (passes-or-fails (eqb j i))

        -- what is on the path of the feeder is on the row's own
        on-next : (j : ℕ) → on_path l (f - 1) j ≡ true → on_path l i j ≡ true
        on-next j o =
            on-fed l feeds i j r.is_row fed ∙
            rw (← ef, o) (or-true (eqb j i))

        pub climb-on : ClimbReady l (f - 1) c' s'
        climb-on =
            let k = fed-climbs l feeds i r.is_row fed in
            subst (λ (x : List Fed). ClimbReady l (f - 1) c' x) (sym p.sums)
            (subst (λ (x : List ℕ). ClimbReady l (f - 1) x (pushed (row_at l i) (shown p.outcome) s)) (sym p.card)
            (record {
              is_row = rw ef k.within;
              working =
                  work-next l (off l i) (on_path l i) c s r.working i r.is_row (rw (on-self l feeds i r.is_row))
                  (off l (f - 1)) off_next (on_path l (f - 1)) on-next (shown p.outcome) p.bounded;
            }))

        -- fewer rows are left above
        pub climb-less : rows l - (f - 1) < rows l - i
        climb-less =
            let k = fed-climbs l feeds i r.is_row fed in
            omega (arith, k.above, k.within)

        -- the rows worked out above it
        abbrev higher : List ℕ
        higher = reach_from l true (path_of l (f - 1)) c'

        climb-rows : reach_from l feeding (path_of l i) c ≡ i ∷ higher
        climb-rows =
            get-reached l feeds r.is_row
            (goes_on feeding i c p.outcome higher p.comes-to fed
            (λ x y. not-both ((stops-exactly feeding (card_row_at c i) (shown p.outcome)).1 (x, y)) (sym stops ∙ go))
            (subst (λ (x : ℕ). Reaches l true (x - 1) (put_card_row c i (shown p.outcome)) higher) ef
            (subst (λ (x : List ℕ). Reaches l true (f - 1) x higher) p.card (reaches-from l feeds true (f - 1) c' climb-on.is_row))))

        climb-above : work_out l (reach_from l feeding (path_of l i) c) c ≡ work_out l higher c'
        unfolding work_out on_settled
        climb-above = rw (climb-rows, p.comes-to) (ap (work_out l higher) (sym p.card))

        -- a refusal above: the row's old numbers go back
        pub climb-back :
            (x : HowFar) (a : Refusal) (c'' c''' : List ℕ) → WorkedOut l (reach_from l true (path_of l (f - 1)) c') c' x c'' →
            x ≡ Err a → c''' ≡ put_card_row c'' i old →
            WorkedOut l (reach_from l feeding (path_of l i) c) c (Err a) c'''
        unfolding far_of card_of
        climb-back x a c'' c''' w g b''' =
            let b = reworked-refused _ _ c' x c'' w a g in
            rw (climb-above ∙ b.0)
            (record {
              far = refl;
              card = b''' ∙ ap₂ (λ (x : List ℕ) (o : CardRow). put_card_row x i o) (b.1 ∙ p.card) eo ∙ put_card_row-back c i
                  (climb-works l i c s r).in-card (shown p.outcome);
            })

        pub climb-done :
            (x : HowFar) (m : ℕ) (c'' : List ℕ) → WorkedOut l (reach_from l true (path_of l (f - 1)) c') c' x c'' → x ≡ Ok m →
            WorkedOut l (reach_from l feeding (path_of l i) c) c (Ok (m + 1)) c''
        unfolding far_of card_of
        climb-done x m c'' w g =
            let b = reworked-done _ _ c' x c'' w m g in
            let count : m + 1 ≡ length (i ∷ higher) = omega (arith, b.1) in
            rw (climb-above ∙ b.0, climb-rows) (record { far = ap Ok count; card = refl })

        -- a path has no more rows than the list
        pub climb-counts :
            (x : HowFar) (m : ℕ) (c'' : List ℕ) → WorkedOut l (reach_from l true (path_of l (f - 1)) c') c' x c'' → x ≡ Ok m →
            m ≤ rows_most
        climb-counts x m c'' w g =
            let b = reworked-done _ _ c' x c'' w m g in
            omega (arith, b.1, reach-length l true (path_of l (f - 1)) c', path-length l (f - 1), r.working.rows-to)
