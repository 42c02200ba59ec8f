-- The bytes of section 6 and the runs that they form [01 §6]. Definitions only.
use Rattle.std.specs.Prelude.{Bool, cond, not, ◌&&◌, List, [], ◌∷◌, ℕ, suc, leb, eqb, get_or}
use Rattle.cursor.specs.declared.Class.{Class}
use Rattle.cursor.specs.declared.Class.TheVariants.{Digit, Bare, InLine}

-- 0 to 9
unfoldable pub digit_byte : ℕ → Bool
digit_byte b = leb 48 b && leb b 57

-- in a quoted name: 32 to 126 but no quote
unfoldable pub plain_byte : ℕ → Bool
plain_byte b = leb 32 b && leb b 126 && not (eqb b 34)

-- in a name without quotes: no comma either
unfoldable pub bare_byte : ℕ → Bool
bare_byte b = not (eqb b 44) && plain_byte b

-- CR and LF come next
unfoldable pub crlf : List ℕ → Bool
crlf l = eqb (get_or l 0 0) 13 && eqb (get_or l 1 0) 10

-- a byte with what follows it passes as one of a class
unfoldable pub passes : Class → List ℕ → Bool
passes Digit l = digit_byte (get_or l 0 0)
passes Bare l = bare_byte (get_or l 0 0)
passes InLine l = not (crlf l)

-- how many places from the start on pass a test, which sees all that is left at a place
unfoldable pub run : {A : Type 0} → (List A → Bool) → List A → ℕ
run ok [] = 0
run ok (a ∷ l) =
    let more = suc (run ok l) in
    cond (ok (a ∷ l)) more 0
