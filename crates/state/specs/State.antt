-- The state: its words one at a time, reading and writing a register, a fresh state, and what a change makes of it.
-- Assumes nothing.
use Rattle.std.specs.Prelude.{cond, List, ℕ, ◌%◌, eqb, get_or, set, replicate}
use Rattle.state.specs.declared.Regs.{Regs}
use Rattle.state.specs.declared.Core.{Core}
use Rattle.state.specs.declared.State.{State}
use Rattle.state.specs.declared.Change.{Change}
use Rattle.state.specs.declared.Reason.{Reason}
use Rattle.state.specs.declared.Reason.TheVariants.{Spent, Misaligned, Past, Outside, Custom, Quotient, DataMisaligned, DataPast, Unsound}

-- why a run ended, as a number
abbrev pub reason_number : Reason → ℕ
reason_number Spent = 0
reason_number Misaligned = 10
reason_number Past = 11
reason_number Outside = 12
reason_number Custom = 13
reason_number Quotient = 14
reason_number DataMisaligned = 15
reason_number DataPast = 16
reason_number Unsound = 17

-- ---- the rest of the state with one of its words changed

abbrev pub with_pc : Core → ℕ → Core
with_pc c v = record { pc = v; status = c.status; estatus = c.estatus; bstatus = c.bstatus; ienable = c.ienable }

abbrev pub with_status : Core → ℕ → Core
with_status c v = record { pc = c.pc; status = v; estatus = c.estatus; bstatus = c.bstatus; ienable = c.ienable }

abbrev pub with_estatus : Core → ℕ → Core
with_estatus c v = record { pc = c.pc; status = c.status; estatus = v; bstatus = c.bstatus; ienable = c.ienable }

abbrev pub with_bstatus : Core → ℕ → Core
with_bstatus c v = record { pc = c.pc; status = c.status; estatus = c.estatus; bstatus = v; ienable = c.ienable }

abbrev pub with_ienable : Core → ℕ → Core
with_ienable c v = record { pc = c.pc; status = c.status; estatus = c.estatus; bstatus = c.bstatus; ienable = v }

-- ---- registers

-- r0 is 0; a write to it is dropped. Registers are numbered modulo 32
unfoldable pub write : List ℕ → ℕ → ℕ → List ℕ
write r i v = cond (eqb (i % 32) 0) r (set r (i % 32) v)

abbrev pub write_regs : Regs → ℕ → ℕ → Regs
write_regs f i v = record { r = write f.r i v }

abbrev pub read_reg : List ℕ → ℕ → ℕ
read_reg r i = get_or r (i % 32) 0

-- ---- states

-- "zero in all registers, pc = reset address"
abbrev pub fresh_state : ℕ → State
fresh_state reset =
    record { regs = record { r = replicate 32 0 }; core = record { pc = reset; status = 0; estatus = 0; bstatus = 0; ienable = 0 } }

abbrev pub changed : State → Change → State
changed s c = record { regs = write_regs s.regs c.dest c.value; core = c.core }
