-- The two lent maps as a `Marks` holds them.
-- Assumes nothing.
use Rattle.std.specs.Prelude.{List, ℕ}
use Rattle.trace.specs.Access.{Access}
use Rattle.trace.specs.Maps.{Maps, mark}
use Rattle.maps.specs.Pair.{pair, Room}
use Rattle.maps.specs.declared.Marks.{Marks}

abbrev pub maps_of : Marks → Maps
maps_of m = pair m.first.now m.written.now

-- both maps have bits for the addresses below n, and n is no more than an address can be
abbrev pub HasRoom : Marks → ℕ → Type 0
HasRoom m n = Room m.first.now m.written.now n

-- the same two slices, after the accesses of a list are marked in them
abbrev pub marked : List Access → Marks → Marks
marked l m = record {
  first = record m.first { now = (mark l (maps_of m)).read_first };
  written = record m.written { now = (mark l (maps_of m)).written };
}
