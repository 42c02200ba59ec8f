-- `Cursor::skip` meets its contract: the loop ends where the run does, at a byte that fails or at the end of the bytes.
use Rattle.std.proofs.Common.{ℕ, ◌∙◌, sym, ap, arith}
use Rattle.std.proofs.lemmas.List.{take_rest}
use Rattle.cursor.specs.Bytes.{passes}
use Rattle.cursor.proofs.RunLaws.{run_more, run-stops, run-over}
use Rattle.cursor.proofs.Cursor.skip.Goals as goal

pub loop-i-preserved : goal.loop-i-preserved
loop-i-preserved c =
    let a = c.args in
    let e = run_more (passes a.class) 0 a.s.now c.loop-i.i c.loop-i-test.true (sym (rw take_rest at c.passes.ensures) ∙ c.if-not-passes.false) in
    (rw (c.ahead-past.ensures, c.loop-i.invariant.0), omega (arith, c.loop-i.invariant.1, e))

pub returns-after-loop-i : goal.returns-after-loop-i
returns-after-loop-i c =
    let a = c.args in
    let e = run-over (passes a.class) 0 a.s.now c.loop-i.i c.loop-i-test.false in
    c.loop-i.invariant.0 ∙ ap (λ (k : ℕ). record { at = k; line = a.self.line }) (omega (arith, c.loop-i.invariant.1, e))

pub returns-then-not-passes : goal.returns-then-not-passes
returns-then-not-passes c =
    let a = c.args in
    let e = run-stops (passes a.class) 0 a.s.now c.loop-i.i c.loop-i-test.true (sym (rw take_rest at c.passes.ensures) ∙ c.if-not-passes.true) in
    c.loop-i.invariant.0 ∙ ap (λ (k : ℕ). record { at = k; line = a.self.line }) (omega (arith, c.loop-i.invariant.1, e))
