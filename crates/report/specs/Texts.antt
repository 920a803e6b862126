-- The texts between the numbers of a line, as lists of ASCII codes.
-- Assumes nothing.
use Rattle.std.specs.Prelude.{ℕ, List, [], ◌∷◌}

-- "stop "
abbrev pub stop : List ℕ
stop = 115 ∷ 116 ∷ 111 ∷ 112 ∷ 32 ∷ []

-- " steps "
abbrev pub steps : List ℕ
steps = 32 ∷ 115 ∷ 116 ∷ 101 ∷ 112 ∷ 115 ∷ 32 ∷ []

-- " pc "
abbrev pub pc : List ℕ
pc = 32 ∷ 112 ∷ 99 ∷ 32 ∷ []

-- "ctl "
abbrev pub ctl : List ℕ
ctl = 99 ∷ 116 ∷ 108 ∷ 32 ∷ []

-- "r"
abbrev pub r : List ℕ
r = 114 ∷ []

-- "read "
abbrev pub read : List ℕ
read = 114 ∷ 101 ∷ 97 ∷ 100 ∷ 32 ∷ []

-- " written "
abbrev pub written : List ℕ
written = 32 ∷ 119 ∷ 114 ∷ 105 ∷ 116 ∷ 116 ∷ 101 ∷ 110 ∷ 32 ∷ []

-- "refused "
abbrev pub refused : List ℕ
refused = 114 ∷ 101 ∷ 102 ∷ 117 ∷ 115 ∷ 101 ∷ 100 ∷ 32 ∷ []

-- " "
abbrev pub space : List ℕ
space = 32 ∷ []

-- a line feed
abbrev pub end : List ℕ
end = 10 ∷ []
