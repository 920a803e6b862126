-- The two maps, one bit for each byte of memory, and how accesses mark them.
-- Assumes nothing.
use Rattle.std.specs.Prelude.{List, [], ◌∷◌, ℕ, zero, suc, ◌/◌, ◌%◌, ◌^◌, get_or, set, replicate}
use Rattle.std.specs.Int.Bits.{bit_or}
use Rattle.trace.specs.Access.{Access, reads, stores}

-- address k is bit k mod 8 of map byte k div 8
abbrev pub bit : List ℕ → ℕ → ℕ
bit l k = get_or l (k / 8) 0 / 2 ^ (k % 8) % 2

abbrev pub set_bit : List ℕ → ℕ → List ℕ
set_bit l k = set l (k / 8) (bit_or (get_or l (k / 8) 0) (2 ^ (k % 8)))

-- x, but y where the bit b is set
abbrev pub unless : ℕ → List ℕ → List ℕ → List ℕ
unless zero x y = x
unless (suc b) x y = y

pub record Maps : Type 0 where
  pub read_first : List ℕ
  pub written : List ℕ

-- a byte read sets its read-first bit unless its written bit is set; a byte stored sets its written bit
abbrev pub mark1 : Access → Maps → Maps
mark1 (reads k) p = record { read_first = unless (bit p.written k) (set_bit p.read_first k) p.read_first; written = p.written }
mark1 (stores k) p = record { read_first = p.read_first; written = set_bit p.written k }

abbrev pub mark : List Access → Maps → Maps
mark [] p = p
mark (a ∷ l) p = mark l (mark1 a p)

-- cleared maps of n bytes each
abbrev pub cleared : ℕ → Maps
cleared n = record { read_first = replicate n 0; written = replicate n 0 }
