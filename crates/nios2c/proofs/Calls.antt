-- The number of a refusal is small, so the number that answers an edit question fits a word.
-- Assumes nothing.
use Rattle.std.proofs.Common.{◌≤◌, arith}
use Rattle.machine.specs.declared.Refusal.{Refusal}
use Rattle.machine.specs.declared.Refusal.TheVariants.{BadMemory, BadMap, BadSettings, BadState, BadBudget, BadRange}
use Rattle.machine.specs.Calls.{refusal_number}

pub small : (r : Refusal) → refusal_number r ≤ 6
small BadMemory = omega arith
small BadMap = omega arith
small BadSettings = omega arith
small BadState = omega arith
small BadBudget = omega arith
small BadRange = omega arith
