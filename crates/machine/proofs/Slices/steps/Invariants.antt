-- The invariant of the loop of `machine::Slices::steps`: the steps made so far are those of the definition, by `Running`.
-- Assumes nothing.
use Rattle.machine.proofs.Running.{Running}
use Rattle.machine.proofs.Slices.steps.Given as goal

abbrev pub invariant-loop-n : goal.invariant-loop-n
invariant-loop-n l = Running l.s l.lines l.budget l.initial.self l.initial.state l.self l.state l.n
