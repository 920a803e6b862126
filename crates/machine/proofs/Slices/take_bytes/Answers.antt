-- `machine::Slices::take_bytes` meets its contract: maps that fit memory have room, and marks change no length.
-- Assumes nothing.
use Rattle.std.proofs.Common.{arith}
use Rattle.trace.specs.Access.{reads, each}
use Rattle.machine.proofs.Rules.{room, still_lent}
use Rattle.machine.proofs.Slices.take_bytes.Goals as goal

pub read-requires : goal.read-requires
read-requires g c = room c.args.self.now.mem.now c.args.self.now.marks.now.first.now c.args.self.now.marks.now.written.now _ c.args.self.now.fits (omega (arith, c.requires.within))

pub invariant_of-self : goal.invariant_of-self
invariant_of-self g c = record { fits = still_lent c.args.self.now.mem.now c.args.self.now.marks.now c.read.new.self (each (λ x. reads x) c.args.a g.row.N) c.read.ensures c.args.self.now.fits }
