-- The header line, exactly [01 §6], with the columns that were added [02 §1, §3]. Definitions only.
use Rattle.std.specs.Prelude.{List, [], ◌∷◌, ◌++◌, ℕ}

-- the columns' names, in their order
abbrev pub columns : List (List ℕ)
columns =
    (114 ∷ 111 ∷ 119 ∷ []) ∷  -- row
    (110 ∷ 97 ∷ 109 ∷ 101 ∷ []) ∷  -- name
    (102 ∷ 101 ∷ 101 ∷ 100 ∷ 115 ∷ 95 ∷ 102 ∷ 114 ∷ 111 ∷ 109 ∷ []) ∷  -- feeds_from
    (107 ∷ 105 ∷ 110 ∷ 100 ∷ []) ∷  -- kind
    (118 ∷ 111 ∷ 108 ∷ 116 ∷ 115 ∷ []) ∷  -- volts
    (119 ∷ 111 ∷ 114 ∷ 107 ∷ []) ∷  -- work
    (115 ∷ 101 ∷ 108 ∷ 102 ∷ 115 ∷ 116 ∷ 97 ∷ 114 ∷ 116 ∷ []) ∷  -- selfstart
    (114 ∷ 101 ∷ 116 ∷ 117 ∷ 114 ∷ 110 ∷ []) ∷  -- return
    (102 ∷ 97 ∷ 114 ∷ []) ∷  -- far
    (99 ∷ 108 ∷ 101 ∷ 97 ∷ 114 ∷ []) ∷  -- clear
    (110 ∷ 101 ∷ 97 ∷ 114 ∷ []) ∷  -- near
    (102 ∷ 97 ∷ 99 ∷ 116 ∷ 111 ∷ 114 ∷ []) ∷  -- factor
    (108 ∷ 111 ∷ 119 ∷ []) ∷  -- low
    (104 ∷ 105 ∷ 103 ∷ 104 ∷ []) ∷  -- high
    (115 ∷ 116 ∷ 101 ∷ 112 ∷ []) ∷  -- step
    (100 ∷ 101 ∷ 118 ∷ 105 ∷ 99 ∷ 101 ∷ []) ∷  -- device
    (102 ∷ 108 ∷ 111 ∷ 111 ∷ 114 ∷ []) ∷  -- floor
    (99 ∷ 101 ∷ 105 ∷ 108 ∷ 105 ∷ 110 ∷ 103 ∷ []) ∷  -- ceiling
    (98 ∷ 97 ∷ 99 ∷ 107 ∷ 101 ∷ 100 ∷ []) ∷  -- backed
    (114 ∷ 97 ∷ 116 ∷ 101 ∷ 100 ∷ 95 ∷ 112 ∷ 114 ∷ 105 ∷ 109 ∷ 97 ∷ 114 ∷ 121 ∷ []) ∷  -- rated_primary
    (114 ∷ 97 ∷ 116 ∷ 101 ∷ 100 ∷ 95 ∷ 115 ∷ 101 ∷ 99 ∷ 111 ∷ 110 ∷ 100 ∷ 97 ∷ 114 ∷ 121 ∷ []) ∷  -- rated_secondary
    (108 ∷ 97 ∷ 119 ∷ []) ∷  -- law
    (110 ∷ 101 ∷ 97 ∷ 114 ∷ 95 ∷ 103 ∷ 114 ∷ 101 ∷ 97 ∷ 116 ∷ 101 ∷ 115 ∷ 116 ∷ []) ∷  -- near_greatest
    []

-- names with commas between
abbrev pub joined : List (List ℕ) → List ℕ
joined [] = []
joined (n ∷ []) = n
joined (n ∷ m ∷ ns) = n ++ 44 ∷ joined (m ∷ ns)

unfoldable pub header : List ℕ
header = joined columns
