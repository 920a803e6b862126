-- One step, rule by rule in the order of document 01. It names no memory and no map.
-- Assumes nothing.
use Rattle.std.specs.Prelude.{Bool, cond, Result, Ok, Err, List, ℕ, ◌+◌, ◌%◌, eqb, leb}
use Rattle.word.specs.Word.{extend_of}
use Rattle.isa.specs.Words.{fields_of, kind_of}
use Rattle.exec.specs.Exec.{exec_of}
use Rattle.exec.specs.declared.Width.{Width}
use Rattle.exec.specs.declared.Width.TheVariants.{Byte, Half, Word}
use Rattle.exec.specs.declared.Effect.{Effect}
use Rattle.exec.specs.declared.Effect.TheVariants.{Stop, Next, Put, Go, Link, Load, Store, Read, Write, Raise, Break, Eret, Bret, Ret}
use Rattle.state.specs.declared.Core.{Core}
use Rattle.state.specs.declared.State.{State}
use Rattle.state.specs.declared.Settings.{Settings}
use Rattle.state.specs.declared.Change.{Change}
use Rattle.state.specs.declared.Reason.{Reason}
use Rattle.state.specs.State.{reason_number, with_pc, read_reg, changed}
use Rattle.rules.specs.Rules.{above, interrupted, next_pc, next, only, writes, exception, breaks, erets, brets, control, set_control}
use Rattle.trace.specs.Machine.{After, stop, go, load, store, Attempt, halt, quiet, fetch, Machine}
use Rattle.trace.specs.Via.{via}

-- the n bytes at a: the first reason where a is no multiple of n, then the second where they pass the end
abbrev pub within_of : ℕ → ℕ → ℕ → Reason → Reason → Result (Unit {0}) Reason
within_of len a n crooked past = cond (eqb (a % n) 0) (cond (leb (a + n) len) (Ok tt) (Err past)) (Err crooked)

-- ---- rule 7: loads and stores

abbrev pub bytes : Width → ℕ
bytes Byte = 1
bytes Half = 2
bytes Word = 4

-- a byte or half that is loaded comes with its sign or with zeros
abbrev pub loaded : Width → Bool → ℕ → ℕ
loaded Byte sign v = cond sign (extend_of 8 v) v
loaded Half sign v = cond sign (extend_of 16 v) v
loaded Word sign v = v

-- reason 15 if the address is no multiple of the width, then 16 if address + width is above memory length
abbrev pub within : ℕ → ℕ → Width → After ℕ Change → After ℕ Change
within len a w x = cond (eqb (a % bytes w) 0) (cond (leb (a + bytes w) len) x (stop 16)) (stop 15)

abbrev pub loads : ℕ → Core → ℕ → ℕ → Width → Bool → After ℕ Change
loads len c d a w sign = within len a w (load a (bytes w) (λ v. writes d (loaded w sign v) (next c)))

abbrev pub stores : ℕ → Core → ℕ → Width → ℕ → After ℕ Change
stores len c a w v = within len a w (store a (bytes w) v (only (next c)))

-- ---- rule 8: the instruction takes effect

abbrev pub does : Settings → ℕ → ℕ → List ℕ → Core → Effect → After ℕ Change
does S lines len r c (Stop n) = stop (reason_number n)
does S lines len r c Next = go (only (next c))
does S lines len r c (Put d v) = go (writes d v (next c))
does S lines len r c (Go t) = go (only (with_pc c t))
does S lines len r c (Link t) = go (writes 31 (next_pc c) (with_pc c t))
does S lines len r c (Load d a w sign) = loads len c d a w sign
does S lines len r c (Store a v w) = stores len c a w v
does S lines len r c (Read d n) = go (writes d (control S lines c n) (next c))
does S lines len r c (Write n v) = go (only (next (set_control c n v)))
does S lines len r c Raise = go (exception S c)
does S lines len r c Break = go (breaks S c)
does S lines len r c Eret = go (erets r c)
does S lines len r c Bret = go (brets r c)
does S lines len r c Ret = go (only (with_pc c (read_reg r 31)))

-- the word w as an instruction: rules 4 to 6
abbrev pub executes : Settings → List ℕ → Core → ℕ → Effect
executes S r c w = exec_of (kind_of w) (fields_of w) (read_reg r (fields_of w).a) (read_reg r (fields_of w).b) c.pc S.multiplier S.divider

-- ---- the rules in order

unfoldable pub attempt : Settings → ℕ → ℕ → List ℕ → Core → Attempt ℕ Change
attempt S lines len r c =
    cond (above c) (halt 17)
    (cond (interrupted lines c) (quiet (exception S c))
    (cond (eqb (c.pc % 4) 0)
    (cond (leb (c.pc + 4) len) (fetch c.pc (λ w. does S lines len r c (executes S r c w))) (halt 11))
    (halt 10)))

-- the machine: each step made changes the state; reason 0 is "budget spent"
abbrev pub machine : Settings → ℕ → ℕ → Machine ℕ State
machine S lines len = record { attempt = λ s. via (changed s) (attempt S lines len s.regs.r s.core); spent = 0 }
