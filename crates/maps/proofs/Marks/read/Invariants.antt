-- The invariant of the loop of `maps::Marks::read`: the bytes below i are marked.
-- Assumes nothing.
use mathlib.Core.Path.{◌≡◌}
use Prim.Native.Nat.{◌-◌}
use Rattle.trace.specs.Access.{reads, each}
use Rattle.maps.specs.Both.{marked}
use Rattle.maps.proofs.Marks.read.Given as goal

abbrev pub invariant-loop-i : goal.invariant-loop-i
invariant-loop-i g l = l.self ≡ marked (each reads l.k (l.i - l.k)) l.initial.self
