-- `image::lines` meets its contract: a refusal's line, or the lines of the run.
-- Assumes nothing.
use Rattle.std.proofs.Common.{ap, ◌∙◌}
use Rattle.machine.specs.Calls.{refused}
use Rattle.image.proofs.Printing.{prints_refusal, prints_run}
use Rattle.image.proofs.lines.Goals as goal

pub returns-in-Err : goal.returns-in-Err
returns-in-Err c = rw (c.refusal.ensures, c.number.ensures) (prints_refusal c.args.mem.now c.args.read.now c.args.written.now _ _ c.fresh.result _ (rw (c.fresh-held.ensures, c.settings-s.ensures) at c.fresh.ensures) _ c.in-Err.is)

pub returns : goal.returns
returns c = rw (c.report.ensures, c.ones.ensures, c.ones-2.ensures, c.numbers-number.ensures) (prints_run c.args.mem.now c.args.read.now c.args.written.now _ _ c.fresh.result _ (rw (c.fresh-held.ensures, c.settings-s.ensures) at c.fresh.ensures) (ap refused c.in_default.is) _ _ _ _ _ _ (rw c.settings-s.ensures at c.run-end.ensures) (c.run-end.auto.read ∙ c.fresh.auto.read) (c.run-end.auto.written ∙ c.fresh.auto.written))
