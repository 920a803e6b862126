-- The words of a state: the registers are all before word 32, and the rest fills what is left.
-- Assumes nothing.
use Rattle.std.proofs.lemmas.List.{take_at, drop_at}
use Rattle.state.proofs.StateWordsFromState.from.Goals as goal

pub returns : goal.returns
returns c =
    let regs = c.copy_from_slice.ensures in
    rw (take_at _ _ 32 regs.len, drop_at _ _ 32 regs.len, regs.after, c.copy_from_slice-2.ensures.after)
