-- The three calls: what is not accepted, in order, and what an accepted call gives.
-- Assumes nothing.
use Rattle.std.specs.Prelude.{◌≡◌, Bool, true, false, not, ◌||◌, cond, List, [], ◌∷◌, ℕ, zero, suc, ◌+◌, ◌-◌, ◌*◌, ◌/◌, ◌%◌, ◌^◌, ◌≤◌, eqb, ltb, length, get_or, replicate, Result, Ok, Err}
use Rattle.maps.specs.Pair.{pair, none_set}
use Rattle.state.specs.declared.State.{State}
use Rattle.state.specs.declared.Settings.{Settings}
use Rattle.trace.specs.Maps.{Maps}
use Rattle.trace.specs.Machine.{Answer, answer}
use Rattle.state.specs.State.{reason_number, fresh_state as fresh_at}
use Rattle.rules.specs.Rules.{above}
use Rattle.machine.specs.declared.Refusal.{Refusal}
use Rattle.machine.specs.declared.Refusal.TheVariants.{BadMemory, BadMap, BadSettings, BadState, BadBudget, BadRange}
use Rattle.machine.specs.declared.Ran.{Ran}
use Rattle.machine.specs.Step.{machine}

-- ---- what is not accepted

-- 1: memory length not 8 to 1,048,576 and a multiple of 8
abbrev pub bad_memory : ℕ → Bool
bad_memory len = ltb len 8 || ltb 1048576 len || not (eqb (len % 8) 0)

-- 2: a map's length is not memory length / 8
abbrev pub bad_map : ℕ → ℕ → Bool
bad_map len map = not (eqb map (len / 8))

-- 3: reset, exception or break address no multiple of 4, or address + 4 above memory length
abbrev pub bad_address : ℕ → ℕ → Bool
bad_address len a = not (eqb (a % 4) 0) || ltb len (a + 4)

abbrev pub bad_settings : ℕ → Settings → Bool
bad_settings len S = bad_address len S.reset || bad_address len S.exception || bad_address len S.breaks

-- 4: r0 not 0, or status, estatus or bstatus above 1
abbrev pub bad_state : State → Bool
bad_state s = not (eqb (get_or s.regs.r 0 0) 0) || above s.core

-- 5: budget above 1,000,000
abbrev pub bad_budget : ℕ → Bool
bad_budget n = ltb 1000000 n

-- 6: start above end, or end above memory length
abbrev pub bad_range : ℕ → ℕ → ℕ → Bool
bad_range len start end = ltb end start || ltb len end

-- checked in order: the number of the first that holds, 0 where none does
pub data Test : Type 0 where
  test : ℕ → Bool → Test

abbrev pub first : List Test → ℕ
first [] = 0
first (test n b ∷ rest) = cond b n (first rest)

-- a fresh start uses 1 to 3, a run 1 to 5, the edit question 1, 2 and 6
abbrev pub fresh_tests : ℕ → ℕ → ℕ → Settings → List Test
fresh_tests len read written S = test 1 (bad_memory len) ∷ test 2 (bad_map len read || bad_map len written) ∷ test 3 (bad_settings len S) ∷ []

abbrev pub run_tests : ℕ → ℕ → ℕ → Settings → State → ℕ → List Test
run_tests len read written S s budget =
    test 1 (bad_memory len) ∷ test 2 (bad_map len read || bad_map len written) ∷ test 3 (bad_settings len S) ∷ test 4 (bad_state s) ∷ test 5 (bad_budget budget) ∷ []

abbrev pub edit_tests : ℕ → ℕ → ℕ → ℕ → List Test
edit_tests len read start end = test 1 (bad_memory len) ∷ test 2 (bad_map len read) ∷ test 6 (bad_range len start end) ∷ []

unfoldable pub fresh_refusal : ℕ → ℕ → ℕ → Settings → ℕ
fresh_refusal len read written S = first (fresh_tests len read written S)

unfoldable pub run_refusal : ℕ → ℕ → ℕ → Settings → State → ℕ → ℕ
run_refusal len read written S s budget = first (run_tests len read written S s budget)

unfoldable pub edit_refusal : ℕ → ℕ → ℕ → ℕ → ℕ
edit_refusal len read start end = first (edit_tests len read start end)

-- the number of a refusal as the code names it, and of what the code's tests hand back: 0 where none refuses
abbrev pub refusal_number : Refusal → ℕ
refusal_number BadMemory = 1
refusal_number BadMap = 2
refusal_number BadSettings = 3
refusal_number BadState = 4
refusal_number BadBudget = 5
refusal_number BadRange = 6

abbrev pub refused : Result (Unit {0}) Refusal → ℕ
refused (Ok x) = 0
refused (Err r) = refusal_number r

-- ---- a run

-- what the lent slices of an accepted call have in common
pub record Lent (m read written : List ℕ) : Type 0 where
  pub size : length m ≤ 2 ^ 20
  pub of_read : length m ≡ 8 * length read
  pub of_written : length m ≡ 8 * length written

-- x where n is 0; with another number all is left unchanged, steps 0
abbrev pub unless_refused : ℕ → State → List ℕ → Maps → Answer ℕ State → Answer ℕ State
unless_refused zero s m p x = x
unless_refused (suc n) s m p x = record { reason = suc n; steps = 0; config = s; memory = m; maps = p }

unfoldable pub run_of : List ℕ → List ℕ → List ℕ → State → Settings → ℕ → ℕ → Answer ℕ State
run_of m read written s S lines budget =
    unless_refused (run_refusal (length m) (length read) (length written) S s budget) s m (pair read written)
    (answer (machine S lines (length m)) budget s m (pair read written))

-- what the steps hand back and leave, as an answer
abbrev pub ran : Ran → State → List ℕ → Maps → Answer ℕ State
ran r s m p = record { reason = reason_number r.reason; steps = r.steps; config = s; memory = m; maps = p }

-- what a call hands back, by its number and its steps, and with what it leaves as an answer
abbrev pub numbers : Result Ran Refusal → ℕ × ℕ
numbers (Ok r) = (reason_number r.reason, r.steps)
numbers (Err f) = (refusal_number f, 0)

abbrev pub answered : Result Ran Refusal → State → List ℕ → List ℕ → List ℕ → Answer ℕ State
answered r s m read written = record { reason = (numbers r).0; steps = (numbers r).1; config = s; memory = m; maps = pair read written }

-- ---- a fresh start

-- zero in all registers, pc = reset address
abbrev pub fresh_state : Settings → State
fresh_state S = fresh_at S.reset

-- a refusal's number or 0, the state and the maps
pub record Started : Type 0 where
  pub number : ℕ
  pub state : State
  pub maps : Maps

-- what the code hands back and leaves
abbrev pub started : Result (Unit {0}) Refusal → State → List ℕ → List ℕ → Started
started r s read written = record { number = refused r; state = s; maps = pair read written }

-- it clears both maps; with a number the old state stays, and nothing is changed
abbrev pub unless_started : ℕ → List ℕ → List ℕ → State → Settings → Started
unless_started zero read written s S =
    record { number = 0; state = fresh_state S; maps = pair (replicate (length read) 0) (replicate (length written) 0) }
unless_started (suc n) read written s S = record { number = suc n; state = s; maps = pair read written }

unfoldable pub fresh_of : ℕ → List ℕ → List ℕ → State → Settings → Started
fresh_of len read written s S = unless_started (fresh_refusal len (length read) (length written) S) read written s S

-- ---- the edit question

pub data Verdict : Type 0 where
  Refused : ℕ → Verdict
  Yes : Verdict
  No : Verdict

-- yes exactly when no bit in the range is set
abbrev pub asked : Bool → Verdict
asked true = Yes
asked false = No

abbrev pub unless_bad : ℕ → Verdict → Verdict
unless_bad zero x = x
unless_bad (suc n) x = Refused (suc n)

unfoldable pub edit_of : ℕ → List ℕ → ℕ → ℕ → Verdict
edit_of len map start end = unless_bad (edit_refusal len (length map) start end) (asked (none_set map start (end - start)))

-- what the code hands back
abbrev pub told : Result Bool Refusal → Verdict
told (Ok b) = asked b
told (Err r) = Refused (refusal_number r)
