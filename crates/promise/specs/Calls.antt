-- The words that the promises use of a call.
-- Assumes nothing.
use Rattle.std.specs.Prelude.{◌≡◌, ◌⊎◌, true, false, List, [], ◌∷◌, ℕ, ◌≤◌, ◌<◌, length, get_or, replicate}
use Rattle.state.specs.declared.State.{State}
use Rattle.state.specs.declared.Settings.{Settings}
use Rattle.trace.specs.Machine.{Answer}
use Rattle.machine.specs.Calls.{Test, test, run_of}

-- a run from cleared maps of n bytes each
abbrev pub cleared_run : ℕ → State → Settings → ℕ → ℕ → List ℕ → Answer ℕ State
cleared_run n s S lines budget m = run_of m (replicate n 0) (replicate n 0) s S lines budget

-- the second memory differs from the first inside the range only
pub record Differs (start end : ℕ) (m m' : List ℕ) : Type 0 where
  pub lengths : length m ≡ length m'
  pub outside : (k : ℕ) → (k < start) ⊎ (end ≤ k) → get_or m k 0 ≡ get_or m' k 0

-- r0 is 0, and status, estatus and bstatus are 0 or 1
pub record Sound (s : State) : Type 0 where
  pub zero : get_or s.regs.r 0 0 ≡ 0
  pub status : s.core.status ≤ 1
  pub estatus : s.core.estatus ≤ 1
  pub bstatus : s.core.bstatus ≤ 1

-- checked in order: n is the number of the first test that holds, and no earlier one does; 0 where none holds
abbrev pub Given : List Test → ℕ → Type 0
Given [] n = n ≡ 0
Given (test k b ∷ rest) n = ((b ≡ true) × (n ≡ k)) ⊎ ((b ≡ false) × Given rest n)
