-- `sheet::print_text` meets its contract: a bad line gives its refusal, and the rows read what `print_rows` prints.
use mathlib.Core.Path.{sym, ◌∙◌}
use Rattle.sheet.proofs.SheetLaws.{bad-filled}
use Rattle.sheet.proofs.print_text.Goals as goal

pub print_rows-requires : goal.print_rows-requires
print_rows-requires c = let t = c.read_list.ensures in
    record {
      read = sym t.answer ∙ c.in-Ok.is;
      list-room = c.read_list.auto.list;
      names-room = c.read_list.auto.names;
      before-list = _;
      before-names = _;
      numbers = t.numbers;
      places = t.places;
      out-room = c.requires;
    }

pub returns-in-Err : goal.returns-in-Err
returns-in-Err c = bad-filled _ _ _ _ _ _ _ (sym c.read_list.ensures.answer ∙ c.in-Err.is) c.numbers.ensures
    c.refuse.ensures
