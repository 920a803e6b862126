-- What a step may do to the state, in the words of the paper. It names no memory and no map.
-- Assumes nothing.
use Rattle.std.specs.Prelude.{Bool, not, ◌&&◌, ◌||◌, cond, List, ℕ, ◌%◌, eqb, ltb}
use Rattle.std.specs.Int.Bits.{bit_and}
use Rattle.word.specs.Word.{add_of}
use Rattle.state.specs.declared.Core.{Core}
use Rattle.state.specs.declared.Settings.{Settings}
use Rattle.state.specs.declared.Change.{Change}
use Rattle.state.specs.State.{with_pc, with_status, with_estatus, with_bstatus, with_ienable, read_reg}

-- ---- rules 1 and 2

-- status, estatus or bstatus is above 1
abbrev pub above : Core → Bool
above c = ltb 1 c.status || ltb 1 c.estatus || ltb 1 c.bstatus

-- ipending = lines AND ienable
abbrev pub ipending : ℕ → Core → ℕ
ipending lines c = bit_and lines c.ienable

-- PIE is 1 and ipending is not 0
abbrev pub interrupted : ℕ → Core → Bool
interrupted lines c = eqb c.status 1 && not (eqb (ipending lines c) 0)

-- ---- where a step goes on

-- the address of the instruction + 4
abbrev pub next_pc : Core → ℕ
next_pc c = add_of c.pc 4

abbrev pub next : Core → Core
next c = with_pc c (next_pc c)

abbrev pub writes : ℕ → ℕ → Core → Change
writes d v c = record { dest = d; value = v; core = c }

-- a change that writes no register
abbrev pub only : Core → Change
only c = writes 0 0 c

-- ---- exceptions, and the ways back

-- estatus takes status, PIE becomes 0, ea = address of the instruction + 4, pc = exception address
abbrev pub exception : Settings → Core → Change
exception S c = writes 29 (next_pc c) (with_pc (with_status (with_estatus c c.status) 0) S.exception)

-- the same with ba, bstatus and the break address
abbrev pub breaks : Settings → Core → Change
breaks S c = writes 30 (next_pc c) (with_pc (with_status (with_bstatus c c.status) 0) S.breaks)

-- status takes estatus, pc = ea
abbrev pub erets : List ℕ → Core → Change
erets r c = only (with_pc (with_status c c.estatus) (read_reg r 29))

-- status takes bstatus, pc = ba
abbrev pub brets : List ℕ → Core → Change
brets r c = only (with_pc (with_status c c.bstatus) (read_reg r 30))

-- ---- control registers: 0 status, 1 estatus, 2 bstatus, 3 ienable, 4 ipending, 5 cpuid

abbrev pub control : Settings → ℕ → Core → ℕ → ℕ
control S lines c n =
    cond (eqb n 0) c.status
    (cond (eqb n 1) c.estatus
    (cond (eqb n 2) c.bstatus
    (cond (eqb n 3) c.ienable
    (cond (eqb n 4) (ipending lines c)
    S.cpuid))))

-- status, estatus and bstatus keep bit 0 only; writes to 4 and 5 do nothing
abbrev pub set_control : Core → ℕ → ℕ → Core
set_control c n v =
    cond (eqb n 0) (with_status c (v % 2))
    (cond (eqb n 1) (with_estatus c (v % 2))
    (cond (eqb n 2) (with_bstatus c (v % 2))
    (cond (eqb n 3) (with_ienable c v)
    c)))
