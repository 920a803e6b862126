-- `Slices::finish` meets its contract. The search finds this arm too, as it does the others, but of a wrong rule it only says that it gave up.
-- Assumes nothing.
use Rattle.machine.specs.Ends.{after_end}
use Rattle.machine.proofs.Slices.finish.Goals as goal

pub returns-in-Load : goal.returns-in-Load
unfolding after_end
returns-in-Load c = rw c.in-Load.is c.load.ensures
