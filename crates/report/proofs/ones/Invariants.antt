-- The invariant of the loop of `report::ones`: the bytes so far are counted.
-- Assumes nothing.
use Rattle.std.proofs.Common.{◌≡◌, ◌%◌, ◌^◌, take}
use Rattle.report.specs.Lines.{ones_of}
use Rattle.report.proofs.ones.Given as goal

abbrev pub invariant-loop-b : goal.invariant-loop-b
invariant-loop-b l = l.n ≡ ones_of (take l.b-index l.map) % 2 ^ 64
