-- What the program prints of an image, and what that leaves in the lent slices.
-- Assumes nothing.
use Rattle.std.specs.Prelude.{true, List, ℕ, zero, suc, length}
use Rattle.maps.specs.Pair.{pair}
use Rattle.state.specs.State.{fresh_state}
use Rattle.state.specs.declared.State.{State}
use Rattle.state.specs.declared.Settings.{Settings}
use Rattle.trace.specs.Maps.{Maps}
use Rattle.trace.specs.Machine.{Answer}
use Rattle.machine.specs.Calls.{fresh_of, run_of}
use Rattle.report.specs.Lines.{lines_of, refused_of, ones_of}

-- reset 0, exception and break 32, cpuid 1, multiplier and divider present
abbrev pub settings_of : Settings
settings_of = record { reset = 0; exception = 32; breaks = 32; cpuid = 1; multiplier = true; divider = true }

pub record Print : Type 0 where
  pub text : List ℕ
  pub memory : List ℕ
  pub maps : Maps

abbrev pub printed : List ℕ → List ℕ → List ℕ → List ℕ → Print
printed t m read written = record { text = t; memory = m; maps = pair read written }

-- the lines of an accepted run
abbrev pub ran : Answer ℕ State → Print
ran a = record {
  text = lines_of a.reason a.steps a.config (ones_of a.maps.read_first) (ones_of a.maps.written);
  memory = a.memory;
  maps = a.maps;
}

-- by the number of the fresh start: lines 0, budget 1,000
abbrev pub by_number : ℕ → List ℕ → State → Maps → Print
by_number zero m s p = ran (run_of m p.read_first p.written s settings_of 0 1000)
by_number (suc n) m s p = record { text = refused_of (suc n); memory = m; maps = p }

-- the old state that a fresh start is handed is that of pc 0
unfoldable pub print_of : List ℕ → List ℕ → List ℕ → Print
print_of m read written =
    let f = fresh_of (length m) read written (fresh_state 0) settings_of in
    by_number f.number m f.state f.maps
