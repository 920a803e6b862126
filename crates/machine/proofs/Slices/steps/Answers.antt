-- `machine::Slices::steps` meets its contract: the loop's invariant is `Running`.
-- Assumes nothing.
use Rattle.std.proofs.Common.{◌≡◌, ◌<◌, arith, rules}
use Rattle.state.specs.State.{changed}
use Rattle.machine.proofs.Running.{stops, held_on, turns}
use Rattle.machine.proofs.Slices.steps.Goals as goal

pub returns-in-Err : goal.returns-in-Err
returns-in-Err c =
    let more : c.loop-n.n < c.args.budget = omega arith in
    record {
      ran = stops c.args.s c.args.lines c.args.budget c.args.self.now c.args.state.now c.loop-n.invariant _ c.step.new.self more c.step.ensures _ c.in-Err.is;
      held = held_on c.args.s c.args.lines c.args.budget c.args.self.now c.args.state.now c.loop-n.invariant _ c.step.new.self more c.step.ensures;
    }

pub loop-n-preserved : goal.loop-n-preserved
loop-n-preserved c =
    let more : c.loop-n.n < c.args.budget = omega arith in
    let made : c.apply.new.self ≡ changed c.loop-n.state c.in-Ok.change = search rules in
    turns c.args.s c.args.lines c.args.budget c.args.self.now c.args.state.now c.loop-n.invariant _ c.step.new.self more c.step.ensures _ _ c.in-Ok.is made
