-- The boundary's version: it grows with every change of what is lent or given. Definitions only.
use Rattle.std.specs.Prelude.{ℕ}

abbrev pub version : ℕ
version = 7
