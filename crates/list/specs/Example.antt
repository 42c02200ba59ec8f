-- The text of section 6 [01 §6] with no rating in either row [02 §1], both with a definite delay and their own near as the greatest current
-- there [02 §3]; and its two lines behind the header. Definitions only.
use Rattle.std.specs.Prelude.{List, [], ◌∷◌, ◌++◌, ℕ}
use Rattle.cursor.specs.Spelt.{spelt}
use Rattle.list.specs.Header.{header}

unfoldable pub first : List ℕ
first = spelt "1,F1,2,1,35000,180000,1500,935,900000,1000000,1800000,1300,50000,5000000,1000,1,1900,5000,1,0,0,0,1800000"

unfoldable pub second : List ℕ
second = spelt "2,IN,0,1,35000,200000,1500,935,1500000,3300000,5200000,1300,50000,10000000,10000,1,0,3000,0,0,0,0,5200000"

abbrev pub crlf_bytes : List ℕ
crlf_bytes = 13 ∷ 10 ∷ []

unfoldable pub example : List ℕ
example = header ++ crlf_bytes ++ first ++ crlf_bytes ++ second ++ crlf_bytes
