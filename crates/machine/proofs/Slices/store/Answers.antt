-- `machine::Slices::store` meets its contract: by the laws of a store that stops and of one that is made.
-- Assumes nothing.
use Rattle.std.proofs.Common.{sym, ◌∙◌, arith}
use Rattle.std.proofs.lemmas.Result.{err_from_is_err_and}
use Rattle.machine.proofs.Rules.{bytes_range, inside, store_stops, store_makes}
use Rattle.machine.proofs.Slices.store.Goals as goal

pub within-requires : goal.within-requires
within-requires c = (omega (arith, c.size.ensures, (bytes_range c.args.w).0), omega (arith, c.size.ensures, (bytes_range c.args.w).1))

pub returns-in_err-within : goal.returns-in_err-within
returns-in_err-within c =
    let p = err_from_is_err_and c.from_residual.result c.from_residual.ensures.1 in
    rw (p.1, p.2) (store_stops c.args.self.now c.args.c c.args.at c.args.w c.size.result c.size.ensures _ (sym c.in_err-within.was ∙ c.within.ensures) c.args.v)

pub give-requires : goal.give-requires
give-requires c = let h = inside c.args.self.now.mem.now c.args.at c.args.w c.size.result c.size.ensures _ (sym c.in_ok-within.was ∙ c.within.ensures) in h

pub returns : goal.returns
returns c = store_makes c.args.self.now c.args.c c.args.at c.args.w c.size.result c.size.ensures _ (sym c.in_ok-within.was ∙ c.within.ensures) c.args.v _ _ c.give.new.self c.give.ensures c.next.ensures c.only.ensures
