-- The measure of the loop of `nios2::write_full`: each turn writes some of what is left.
-- Assumes nothing.
use Rattle.std.proofs.Common.{length}
use Rattle.nios2.proofs.write_full.Given as goal

abbrev pub decreases-loop-rest : goal.decreases-loop-rest
decreases-loop-rest g l = length l.rest
