-- Section 6's card, a card of a row with curve C [02 §3], and refusals, letter by letter as they are printed [01 §6]: FIELD, and BACKUP with its
-- fed row [02 §2].
use mathlib.Core.Path.{◌≡◌, refl}
use mathlib.Core.List.{[], ◌∷◌}
use Rattle.cursor.specs.Spelt.{spelt}
use Rattle.print.specs.Write.{last_digit, last_digits, number_text}
use Rattle.print.specs.Card.{fields_text, numbers_text, line_text, rows_text, card_text, refusal_text}

pub card-printed :
    card_text (spelt "F1" ∷ spelt "IN" ∷ []) (318000 ∷ 1900 ∷ 1300000 ∷ 0 ∷ 0 ∷ 360000 ∷ 2200 ∷ 4290000 ∷ 0 ∷ 0 ∷ []) ≡
    spelt "name,pickup,delay,cutoff,law,multiplier\r\nF1,318000,1900,1300000,0,0\r\nIN,360000,2200,4290000,0,0\r\n"
unfolding last_digit last_digits number_text fields_text line_text rows_text card_text spelt
card-printed = refl

pub curve-printed :
    card_text (spelt "M1" ∷ []) (5500 ∷ 0 ∷ 24500 ∷ 2 ∷ 137 ∷ []) ≡
    spelt "name,pickup,delay,cutoff,law,multiplier\r\nM1,5500,0,24500,2,137\r\n"
unfolding last_digit last_digits number_text fields_text line_text rows_text card_text spelt
curve-printed = refl

pub refusal-printed : refusal_text (4 ∷ 2 ∷ 12 ∷ []) ≡ spelt "refused,place,field\r\n4,2,12\r\n"
unfolding last_digit last_digits number_text fields_text numbers_text refusal_text spelt
refusal-printed = refl

pub backup-printed : refusal_text (13 ∷ 6 ∷ 5 ∷ []) ≡ spelt "refused,place,field\r\n13,6,5\r\n"
unfolding last_digit last_digits number_text fields_text numbers_text refusal_text spelt
backup-printed = refl

-- 0 is a digit, and the longest number has 20
pub numbers-printed : (number_text 0 ≡ spelt "0") × (number_text 18446744073709551615 ≡ spelt "18446744073709551615")
unfolding last_digit last_digits number_text spelt
numbers-printed = (refl, refl)
