-- The starred rows of document 01's "Settled by example", as one table: a case, and what is to be seen after one step of it.
-- Assumes nothing.
use Rattle.std.specs.Prelude.{Bool, true, false, List, [], ◌∷◌, map, ℕ, set, replicate}
use Rattle.state.specs.declared.State.{State}
use Rattle.state.specs.declared.Settings.{Settings}
use Rattle.state.specs.State.{read_reg}
use Rattle.trace.specs.Access.{put}
use Rattle.trace.specs.Machine.{Answer}
use Rattle.machine.specs.Calls.{run_of}

-- a word at pc, r2 and r3, whether the divider is present, status, and the lines, each of them enabled
pub record Case : Type 0 where
  pub word : ℕ
  pub pc : ℕ
  pub r2 : ℕ
  pub r3 : ℕ
  pub divider : Bool
  pub status : ℕ
  pub lines : ℕ

-- most cases: at pc 0, with a divider and no interrupt
abbrev pub plain : ℕ → ℕ → ℕ → Case
plain w a b = record { word = w; pc = 0; r2 = a; r3 = b; divider = true; status = 0; lines = 0 }

abbrev pub state_of : Case → State
state_of x =
    record {
      regs = record { r = set (set (replicate 32 0) 2 x.r2) 3 x.r3 };
      core = record { pc = x.pc; status = x.status; estatus = 0; bstatus = 0; ienable = x.lines };
    }

abbrev pub settings_of : Case → Settings
settings_of x = record { reset = 0; exception = 32; breaks = 32; cpuid = 1; multiplier = true; divider = x.divider }

-- one step, in a memory of 40 bytes that holds the word alone
abbrev pub after : Case → Answer ℕ State
after x = run_of (put (replicate 40 0) x.pc 4 x.word) (replicate 5 0) (replicate 5 0) (state_of x) (settings_of x) x.lines 1

pub data Look : Type 0 where
  reason : Look
  reg : ℕ → Look
  pc : Look
  status : Look
  estatus : Look

abbrev pub seen : Answer ℕ State → Look → ℕ
seen a reason = a.reason
seen a (reg i) = read_reg a.config.regs.r i
seen a pc = a.config.core.pc
seen a status = a.config.core.status
seen a estatus = a.config.core.estatus

pub data Sight : Type 0 where
  shows : Look → ℕ → Sight

pub data Example : Type 0 where
  example : Case → List Sight → Example

abbrev pub examples : List Example
examples =
    example (plain 0x00BF_FFC4 0 0) (shows (reg 2) 0xFFFF_FFFF ∷ []) ∷
    example (plain 0x1006_913A 0xFFFF_FFFF 0) (shows (reg 3) 0xFFFF_FFF0 ∷ []) ∷
    example (plain 0x0000_0144 0 0) (shows (reg 0) 0 ∷ []) ∷
    example (record { word = 0; pc = 8; r2 = 0; r3 = 0; divider = true; status = 0; lines = 0 }) (shows (reg 31) 12 ∷ shows pc 0 ∷ []) ∷
    example (plain 0x0000_0001 0 0) (shows reason 12 ∷ []) ∷
    example (plain 0x10C9_283A 0xFFFF_FFF9 2) (shows (reg 4) 0xFFFF_FFFD ∷ []) ∷
    example (plain 0x10C9_283A 0x8000_0000 0xFFFF_FFFF) (shows reason 14 ∷ []) ∷
    example (record { word = 0x10C9_283A; pc = 8; r2 = 0; r3 = 0; divider = false; status = 0; lines = 0 }) (shows (reg 29) 12 ∷ shows reason 0 ∷ []) ∷
    -- mulxss, mulxsu and ror of r2 and r3 into r4
    example (plain 0x10C8_F83A 0x8000_0000 0x8000_0000) (shows (reg 4) 0x4000_0000 ∷ []) ∷
    example (plain 0x10C8_B83A 0xFFFF_FFFF 2) (shows (reg 4) 0xFFFF_FFFF ∷ []) ∷
    example (plain 0x10C8_583A 0x8000_0001 1) (shows (reg 4) 0xC000_0000 ∷ []) ∷
    example (record { word = 0; pc = 0; r2 = 0; r3 = 0; divider = true; status = 1; lines = 1 })
    (shows (reg 29) 4 ∷ shows estatus 1 ∷ shows status 0 ∷ shows pc 32 ∷ []) ∷
    example (plain 0x1001_703A 0xFFFF_FFFF 0) (shows status 1 ∷ []) ∷
    []

-- what is seen in place of what is to be seen
abbrev pub sight : Answer ℕ State → Sight → Sight
sight a (shows l v) = shows l (seen a l)

abbrev pub actual : Example → Example
actual (example x l) = example x (map (sight (after x)) l)
