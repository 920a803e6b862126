-- The order of a state's words and of the settings' words.
-- Assumes nothing.
use Rattle.std.specs.Prelude.{not, List, [], ◌∷◌, ◌++◌, ℕ, eqb, get_or, take}
use Rattle.state.specs.declared.Core.{Core}
use Rattle.state.specs.declared.State.{State}
use Rattle.state.specs.declared.Settings.{Settings}

-- ---- a state

abbrev pub state_length : ℕ
state_length = 37

-- pc, status, estatus, bstatus, ienable: words 32 to 36
abbrev pub core_of : List ℕ → Core
core_of l =
    record { pc = get_or l 32 0; status = get_or l 33 0; estatus = get_or l 34 0; bstatus = get_or l 35 0; ienable = get_or l 36 0 }

abbrev pub core_words : Core → List ℕ
core_words c = c.pc ∷ c.status ∷ c.estatus ∷ c.bstatus ∷ c.ienable ∷ []

-- r0 to r31, and then the rest
abbrev pub state_of : List ℕ → State
state_of l = record { regs = record { r = take 32 l }; core = core_of l }

abbrev pub words_of : State → List ℕ
words_of s = s.regs.r ++ core_words s.core

-- ---- settings

abbrev pub settings_length : ℕ
settings_length = 6

-- any word but 0 counts as a unit that is present
abbrev pub settings_of : List ℕ → Settings
settings_of l =
    record {
      reset = get_or l 0 0;
      exception = get_or l 1 0;
      breaks = get_or l 2 0;
      cpuid = get_or l 3 0;
      multiplier = not (eqb (get_or l 4 0) 0);
      divider = not (eqb (get_or l 5 0) 0);
    }
