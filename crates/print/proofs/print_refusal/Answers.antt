-- `print_refusal` meets its contract: nothing where there is too little room, and else the header and the line one behind the other.
use Rattle.std.proofs.Common.{rules, ◌≡◌, length}
use Rattle.answers.specs.Answer.{number_count}
use mathlib.Core.Path.{◌∙◌}
use Rattle.print.proofs.PrintLaws.{refusal-none, refusal-all}
use Rattle.print.proofs.print_refusal.Goals as goal

pub returns-then-out-lt-REFUSAL_MOST : goal.returns-then-out-lt-REFUSAL_MOST
returns-then-out-lt-REFUSAL_MOST c = refusal-none _ c.args.out.now c.if-out-lt-REFUSAL_MOST.true

pub returns : goal.returns
returns c =
    let a = c.args in
    let n : length a.numbers ≡ number_count = search rules in
    refusal-all a.numbers a.out.now _ _ c.put_block-named.result _ c.if-out-lt-REFUSAL_MOST.false
    (c.put_numbers.auto.out ∙ c.put_block-named.auto.out) c.put_block-named.ensures (rw n at c.put_numbers.ensures)
