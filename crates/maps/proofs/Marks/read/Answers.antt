-- `maps::Marks::read` meets its contract: the marks made so far leave the room that there was.
-- Assumes nothing.
use Rattle.std.proofs.Common.{◌+◌, ◌-◌, arith}
use Rattle.trace.specs.Access.{reads, each}
use Rattle.maps.proofs.Both.{room_kept}
use Rattle.maps.proofs.Marks.read.Goals as goal

pub read_byte-requires : goal.read_byte-requires
read_byte-requires g c = room_kept (each (λ x. reads x) c.args.k (c.loop-i.i - c.args.k)) c.args.self.now c.loop-i.self (c.loop-i.i + 1) (c.args.k + g.row.N) c.loop-i.invariant c.requires (omega (arith, c.loop-i-test.true))
