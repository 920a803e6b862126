-- `machine::Slices::step` meets its contract: by the first rule that holds.
-- Assumes nothing.
use Rattle.std.proofs.Common.{◌≡◌, ℕ, sym, ap, ◌∙◌, length, true, false, rules}
use Rattle.std.proofs.lemmas.Result.{err_from_is_err_and}
use Rattle.machine.specs.Step.{does}
use Rattle.rules.specs.Rules.{interrupted, exception}
use Rattle.machine.specs.Ends.{after_end}
use Rattle.machine.specs.Ends.{Parts}
use Rattle.machine.proofs.Rules.{not_past, ends_above, ends_interrupted, ends_barred, ends_fetched}
use Rattle.machine.proofs.Slices.step.Goals as goal

pub returns-then-above : goal.returns-then-above
returns-then-above c = ends_above c.args.s c.args.lines c.args.state.now.regs.r c.args.state.now.core c.args.self.now (sym c.above.ensures ∙ c.if-above.true)

pub returns-then-interrupted : goal.returns-then-interrupted
returns-then-interrupted c =
    let now : interrupted c.args.lines c.args.state.now.core ≡ true = search rules in
    let made : c.exception.result ≡ exception c.args.s c.args.state.now.core = search rules in
    ends_interrupted c.args.s c.args.lines c.args.state.now.regs.r c.args.state.now.core c.args.self.now (sym c.above.ensures ∙ c.if-above.false) now _ made

pub returns-in_err-within : goal.returns-in_err-within
returns-in_err-within c =
    let p = err_from_is_err_and c.from_residual.result c.from_residual.ensures.1 in
    let not_now : interrupted c.args.lines c.args.state.now.core ≡ false = search rules in
    rw (p.1, p.2) (ends_barred c.args.s c.args.lines c.args.state.now.regs.r c.args.state.now.core c.args.self.now (sym c.above.ensures ∙ c.if-above.false) not_now _ (sym c.in_err-within.was ∙ c.within.ensures))

pub take-w-requires : goal.take-w-requires
take-w-requires c = not_past (length c.args.self.now.mem.now) c.args.state.now.core.pc 4 _ _ _ (sym c.in_ok-within.was ∙ c.within.ensures)

pub returns : goal.returns
returns c =
    let not_now : interrupted c.args.lines c.args.state.now.core ≡ false = search rules in
    ends_fetched c.args.s c.args.lines c.args.state.now.regs.r c.args.state.now.core c.args.self.now (sym c.above.ensures ∙ c.if-above.false) not_now _ (sym c.in_ok-within.was ∙ c.within.ensures) _ _ c.take-w.new.self _ c.take-w.ensures.1 c.take-w.ensures.0 c.executes-e.ensures (c.finish.ensures ∙ ap (λ (n : ℕ). after_end (does c.args.s c.args.lines n c.args.state.now.regs.r c.args.state.now.core c.executes-e.result) c.take-w.new.self) (ap (λ (h : Parts). length h.mem.now) c.take-w.ensures.1))
