-- `machine::run_refusal` meets its contract: the tests of a fresh start, and then two more.
-- Assumes nothing.
use Rattle.std.proofs.Common.{true, false, refl, sym, ap, ◌∙◌}
use Rattle.std.proofs.lemmas.Result.{err_from_is_err_and}
use Rattle.machine.specs.Calls.{refused}
use Rattle.machine.proofs.Accepted.{some, run_first, run_rest}
use Rattle.machine.proofs.run_refusal.Goals as goal

pub returns-in_err-fresh_refusal : goal.returns-in_err-fresh_refusal
returns-in_err-fresh_refusal c =
    let p = err_from_is_err_and c.from_residual.result c.from_residual.ensures.1 in
    let e = sym (ap refused c.in_err-fresh_refusal.was) ∙ c.fresh_refusal.ensures in
    rw (p.1, p.2) (e ∙ run_first c.args.len c.args.read c.args.written c.args.s c.args.state.now c.args.budget (λ z. some _ (e ∙ z)))

pub returns-then-bad_state : goal.returns-then-bad_state
returns-then-bad_state c = run_rest c.args.len c.args.read c.args.written c.args.s c.args.state.now c.args.budget (sym c.fresh_refusal.ensures ∙ ap refused c.in_ok-fresh_refusal.was) true _ (sym c.if-bad_state.true ∙ c.bad_state.ensures) refl

pub returns-then-bad_budget : goal.returns-then-bad_budget
returns-then-bad_budget c = run_rest c.args.len c.args.read c.args.written c.args.s c.args.state.now c.args.budget (sym c.fresh_refusal.ensures ∙ ap refused c.in_ok-fresh_refusal.was) false true (sym c.if-bad_state.false ∙ c.bad_state.ensures) (sym c.if-bad_budget.true ∙ c.bad_budget.ensures)

pub returns : goal.returns
returns c = run_rest c.args.len c.args.read c.args.written c.args.s c.args.state.now c.args.budget (sym c.fresh_refusal.ensures ∙ ap refused c.in_ok-fresh_refusal.was) false false (sym c.if-bad_state.false ∙ c.bad_state.ensures) (sym c.if-bad_budget.false ∙ c.bad_budget.ensures)
