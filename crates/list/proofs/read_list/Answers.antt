-- `read_list` meets its contract: the byte string is the specification's header, and the columns are the list's.
use Rattle.std.proofs.Common.{◌≡◌, ◌/◌, length, arith}
use Rattle.list.specs.Header.{header}
use Rattle.list.proofs.read_list.Goals as goal

pub returns : goal.returns
unfolding header
returns c =
    let t = c.read_text.ensures in
    let room : length c.args.names.now / 1 ≡ length c.args.names.now = omega arith in
    record { answer = t.answer; numbers = t.taken.numbers-are; places = rw room at t.taken.names-are }
