-- `machine::Slices::give_bytes` meets its contract: maps that fit memory have room, and marks change no length.
-- Assumes nothing.
use Rattle.std.proofs.Common.{arith}
use Rattle.trace.specs.Access.{stores, each}
use Rattle.machine.proofs.Rules.{room, still_lent}
use Rattle.machine.proofs.Slices.give_bytes.Goals as goal

pub store-requires : goal.store-requires
store-requires g c = room c.args.self.now.mem.now c.args.self.now.marks.now.first.now c.args.self.now.marks.now.written.now _ c.args.self.now.fits (omega (arith, c.requires.within))

pub invariant_of-self : goal.invariant_of-self
invariant_of-self g c = record { fits = still_lent c.args.self.now.mem.now c.args.self.now.marks.now c.store.new.self (each (λ x. stores x) c.args.a g.row.N) c.store.ensures c.args.self.now.fits }
