-- Byte addresses read and stored, in order, and what memory holds there. No map is named here.
-- Assumes nothing.
use Rattle.std.specs.Prelude.{◌≡◌, ◌⊎◌, ◌≢◌, List, [], ◌∷◌, ℕ, zero, suc, ◌+◌, ◌*◌, ◌/◌, ◌%◌, get_or, set}

pub data Access : Type 0 where
  reads : ℕ → Access
  stores : ℕ → Access

-- the w bytes from address a on: each reads a w, each stores a w
abbrev pub each : (ℕ → Access) → ℕ → ℕ → List Access
each f a zero = []
each f a (suc w) = f a ∷ each f (suc a) w

-- byte k is stored to
abbrev pub Stored : ℕ → List Access → Type 0
Stored k [] = ⊥
Stored k (a ∷ l) = (a ≡ stores k) ⊎ Stored k l

-- byte k is read with no store to it before
abbrev pub ReadFirst : ℕ → List Access → Type 0
ReadFirst k [] = ⊥
ReadFirst k (a ∷ l) = (a ≡ reads k) ⊎ ((a ≢ stores k) × ReadFirst k l)

-- ---- memory: a list of bytes, address 0 first, little-endian

-- the number in the w bytes from address a on
abbrev pub number : List ℕ → ℕ → ℕ → ℕ
number m a zero = 0
number m a (suc w) = get_or m a 0 + 256 * number m (suc a) w

-- memory with the number v in the w bytes from address a on
abbrev pub put : List ℕ → ℕ → ℕ → ℕ → List ℕ
put m a zero v = m
put m a (suc w) v = put (set m a (v % 256)) (suc a) w (v / 256)
