-- [01 §3], [02 §1, §3] The conditions, each against its line of the section. They are judged on primary currents, which stand in fifths of a mA
-- on both sides of each line. Source document 000 departs from P2: it names only the fed row of greatest pickup; section 3 asks it of every
-- fed row. D2 is read with [02 §5], and D1 and D2 over times with [02 §3]. Definitions only.
-- v is a view of the list, i and j are rows counted from 0, r and f are rows by their fields: r the row itself, f one that it
-- feeds; d and e are their devices. I is a primary pickup, C a primary cutoff pickup, x a delay or a multiplier and t a time of the row
-- itself; k gives the settings of each row as they are keyed, and s those of the fed row f.
use Rattle.std.specs.Prelude.{Bool, not, cond, ◌&&◌, ◌||◌, ℕ, ◌+◌, ◌*◌, max, leb, eqb}
use Rattle.curve.specs.Curve.{is_curve, multiple, stalls, time_of}
use Rattle.fold.specs.Fold.{sum_to, every}
use Rattle.layout.specs.declared.CardRow.{CardRow}
use Rattle.layout.specs.declared.Row.{Row}
use Rattle.layout.specs.View.{View, Settings}
use Rattle.sides.specs.declared.Primary.{Primary}
use Rattle.sides.specs.declared.Secondary.{Secondary}
use Rattle.sides.specs.Sides.{in_primary}

-- a ≥ b
abbrev pub at_least : ℕ → ℕ → Bool
at_least a b = leb b a

-- row i feeds row j
abbrev pub fed : View → ℕ → ℕ → Bool
fed v i j = eqb (v.row j).feeder (i + 1)

-- for each row that row i feeds
abbrev pub each_fed : View → ℕ → (ℕ → Bool) → Bool
each_fed v i ok = every v.count (λ j. not (fed v i j) || ok j)

-- a number keyed at row r's relay, in primary; the primary pickup of row j
abbrev pub primary_of : Row → Secondary → Primary
primary_of r x = in_primary r.ratio x

abbrev pub pickup_at : View → Settings → ℕ → Primary
pickup_at v k j = primary_of (v.row j) (k j).pickup

-- a row's greatest load: work × volts
abbrev pub load_of : View → ℕ → ℕ
load_of v j = (v.row j).work.0 * (v.row j).volts

-- the sum of the loads of the rows that row i feeds, other than j
abbrev pub others_load : View → ℕ → ℕ → ℕ
others_load v i j = sum_to v.count (λ k. cond (fed v i k && not (eqb k j)) (load_of v k) 0)

-- P1, return after self-start: 10 × I × return ≥ 11 × selfstart × work
unfoldable pub returns_after_self_start : Row → Primary → Bool
returns_after_self_start r I = at_least (10 * I.0 * r.returnfactor) (11 * r.selfstart * r.work.0)

-- P2, for a fed row j: 10 × I × U ≥ 11 × (pickup of j × volts of j + the sum, over the other fed rows, of work × volts)
unfoldable pub clear_of : View → Settings → ℕ → ℕ → Primary → Bool
clear_of v k i j I = at_least (10 * I.0 * (v.row i).volts) (11 * ((pickup_at v k j).0 * (v.row j).volts + others_load v i j))

-- P3, own zone: 10 × far ≥ 15 × I
unfoldable pub sees_own_zone : Row → Primary → Bool
sees_own_zone r I = at_least (10 * r.far.0) (15 * I.0)

-- P4, for a fed row f with backed 1: 10 × its far × its volts ≥ 12 × I × U
unfoldable pub backs_up : Row → Row → Primary → Bool
backs_up r f I = not (eqb f.backed 1) || at_least (10 * f.far.0 * f.volts) (12 * I.0 * r.volts)

-- [02 §3] M of row r with the primary pickup I at "the greatest current at its near end" of row f, "referred by voltage", in thousandths:
-- at its own where f is r itself
unfoldable pub multiple_at : Row → Row → Primary → ℕ
multiple_at r f I = multiple (f.greatest.0 * f.volts) (I.0 * r.volts)

-- the time of row r there, in ms, with the setting x: its delay, or what its curve gives with the multiplier x
abbrev pub time_at : Row → Row → Primary → ℕ → ℕ
time_at r f I x = time_of r.law (multiple_at r f I) x

-- what a card row sets: a curve's multiplier, or a delay
unfoldable pub setting_of : CardRow → ℕ
setting_of s = cond (is_curve s.law) s.multiplier s.delay

-- M and the time of a fed row f at its own near end: by the pickup, the law and the setting of its card row s
abbrev pub fed_multiple : Row → CardRow → ℕ
fed_multiple f s = multiple_at f f (primary_of f s.pickup)

abbrev pub fed_time : Row → CardRow → ℕ
fed_time f s = time_of s.law (fed_multiple f s) (setting_of s)

-- 14 CURVE: M is needed, and at most 1.000: the fed row's at its own near end; row r's there
abbrev pub fed_stalls : Row → CardRow → Bool
fed_stalls f s = stalls s.law (fed_multiple f s)

abbrev pub stalls_at : Row → Row → Primary → Bool
stalls_at r f I = stalls r.law (multiple_at r f I)

-- D1: the time, at the row's own near end, is between floor and ceiling, and at least 100 for a motor
unfoldable pub within_delays : Row → ℕ → Bool
within_delays r t = at_least t r.floor && (at_least r.ceiling t && (not (eqb r.kind 3) || at_least t 100))

-- a row's step in D2, the grading margin that its device asks: 300, 500 or 200 for device 1, 2 or 3
unfoldable pub margin : ℕ → ℕ
margin device = cond (eqb device 1) 300 (cond (eqb device 2) 500 200)

-- [02 §5] the step between a row and one that it feeds: the larger of the two rows' steps
unfoldable pub margin_between : ℕ → ℕ → ℕ
margin_between d e = max (margin d) (margin e)

-- D2, for a fed row f with settings s: at its near end the time is at least its time there plus the larger of the two rows' steps
unfoldable pub graded_above : Row → Row → CardRow → Primary → ℕ → Bool
graded_above r f s I x = at_least (time_at r f I x) (fed_time f s + margin_between r.device f.device)

-- cutoff, the bound on its pickup C: 1,000 × C ≥ factor × clear
unfoldable pub stays_clear : Row → Primary → Bool
stays_clear r C = at_least (1000 * C.0) (r.factor * r.clear.0)

-- cutoff, its sensitivity: 10 × near ≥ 12 × C for a line, 10 × near ≥ 20 × C for a transformer or motor
unfoldable pub sees_near : Row → Primary → Bool
sees_near r C = at_least (10 * r.near.0) (cond (eqb r.kind 1) 12 20 * C.0)
