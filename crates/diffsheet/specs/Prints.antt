-- [02 §11, 01 §6] What is printed for a text, said by its bytes and the grammar, without the reader: the refusal of its first bad line, or of its
-- size, or a line for each row. Definitions only.
use Rattle.std.specs.Prelude.{List, [], ◌∷◌, ◌++◌, ℕ, ◌≤◌, length}
use Rattle.text.specs.Gets.{TextGets}
use Rattle.text.specs.Grammar.{Row}
use Rattle.text.specs.Text.{bad_line, text_most}
use Rattle.print.specs.Card.{refusal_text}
use Rattle.diffsheet.specs.Lines.{input_header, input_columns, InputText}
use Rattle.diffsheet.specs.Sheet.{output_header, lines_of}

pub data Prints (s : List ℕ) : List ℕ → Type 0 where
  refused : {line : ℕ} → TextGets input_header input_columns 1 s (bad_line line) → Prints s (refusal_text (1 ∷ line ∷ 0 ∷ []))
  a-line-each : {rs : List Row} → length s ≤ text_most → InputText s rs → Prints s (output_header ++ lines_of rs)
