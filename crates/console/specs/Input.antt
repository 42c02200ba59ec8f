-- How reading ended, what the buffer holds then, and what was taken from the input. Definitions only.
use Rattle.std.specs.Prelude.{List, ℕ, ◌<◌, ◌≤◌, length, take, Option, Result, Ok, Err}
use Rattle.std.specs.Io.KnownBytes.{Consumes, IsAtEnd}

-- so many bytes were read, no more than the buffer has
abbrev pub Held : {E : Type 0} → Result ℕ E → List ℕ → Type 0
Held (Ok n) text = n ≤ length text
Held (Err e) text = Unit

-- what was read stood at the front of the input's bytes, where they are known; none is left if the buffer has room for more
abbrev pub Taken : {E : Type 0} → Option (List ℕ) → Option (List ℕ) → Result ℕ E → List ℕ → Type 0
Taken before after (Ok n) text = Consumes before after (take n text) × (n < length text → IsAtEnd after)
Taken before after (Err e) text = Unit
