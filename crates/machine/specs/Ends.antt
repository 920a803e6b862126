-- How a step in code tells its outcome: a change or a reason, and what it leaves in the lent slices.
-- Assumes nothing.
use Rattle.std.specs.Prelude.{◌≡◌, List, ℕ, Result, Ok, Err}
use Rattle.trace.specs.Access.{Access}
use Rattle.std.specs.Borrow.{MutBor}
use Rattle.maps.specs.declared.Marks.{Marks}
use Rattle.maps.specs.Both.{marked}
use Rattle.machine.specs.declared.Slices.{Slices}
use Rattle.state.specs.declared.Change.{Change}
use Rattle.state.specs.declared.Reason.{Reason}
use Rattle.state.specs.State.{reason_number}
use Rattle.trace.specs.Machine.{After, Attempt, Outcome, stopped, stepped, finish, perform, data_of, touched}

-- a change, or the paper's number of a reason
abbrev pub numbered : Result Change Reason → Result Change ℕ
numbered (Ok c) = Ok c
numbered (Err r) = Err (reason_number r)

abbrev pub turn_of : Outcome ℕ Change → Result Change ℕ
turn_of (stopped n) = Err n
turn_of (stepped c m) = Ok c

abbrev pub memory_of : List ℕ → Outcome ℕ Change → List ℕ
memory_of m (stopped n) = m
memory_of m (stepped c n) = n

-- the slices without what is known of them
pub record Parts : Type 0 where
  pub mem : MutBor (List ℕ)
  pub marks : MutBor Marks

abbrev pub parts : Slices → Parts
parts h = record { mem = h.mem; marks = h.marks }

-- the same slices, with the bytes m in memory and the accesses of a list marked in the maps
abbrev pub left : Slices → List ℕ → List Access → Parts
left h m l = record { mem = record h.mem { now = m }; marks = record h.marks { now = marked l h.marks.now } }

pub record End : Type 0 where
  pub turn : Result Change ℕ
  pub slices : Parts

abbrev pub ended : Result Change Reason → Slices → End
ended t h = record { turn = numbered t; slices = parts h }

-- what follows the fetch, and a whole attempt
unfoldable pub after_end : After ℕ Change → Slices → End
after_end F h = record { turn = turn_of (finish F h.mem.now); slices = left h (memory_of h.mem.now (finish F h.mem.now)) (data_of F) }

unfoldable pub attempt_end : Attempt ℕ Change → Slices → End
attempt_end A h = record { turn = turn_of (perform A h.mem.now); slices = left h (memory_of h.mem.now (perform A h.mem.now)) (touched A h.mem.now) }

-- h holds the slices that h₀ holds
pub record Held (h₀ h : Slices) : Type 0 where
  pub memory : h.mem.ghost_name ≡ h₀.mem.ghost_name
  pub maps : h.marks.ghost_name ≡ h₀.marks.ghost_name
  pub first : h.marks.now.first.ghost_name ≡ h₀.marks.now.first.ghost_name
  pub written : h.marks.now.written.ghost_name ≡ h₀.marks.now.written.ghost_name
