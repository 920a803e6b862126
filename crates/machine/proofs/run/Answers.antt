-- `machine::run` meets its contract. The search finds this too, but of a wrong budget it only says that it gave up.
-- Assumes nothing.
use Rattle.std.proofs.Common.{rules, sym, ap, ◌∙◌}
use Rattle.machine.specs.Calls.{refused}
use Rattle.machine.proofs.Accepted.{run_accepted}
use Rattle.machine.proofs.run.Goals as goal

pub returns : goal.returns
returns c =
    let e = c.steps.ensures.ran ∙ run_accepted c.args.mem.now c.args.read.now c.args.written.now c.args.state.now c.args.s c.args.lines c.args.budget _ (sym (ap refused c.in_ok-run_refusal.was) ∙ c.run_refusal.ensures) (λ i. 0) in
    search (rules, e, c.steps.ensures.held)
