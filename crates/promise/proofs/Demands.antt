-- The demands, in their order, about what the calls give: `run_of`, `fresh_of` and `edit_of` are what their contracts equal. Each `pub` is a promise.
-- Assumes nothing.
use mathlib.Core.Path.{◌≡◌, refl, sym, ◌∙◌, subst}
use mathlib.Core.Logic.{◌⊎◌, inl, inr, ◌≢◌, ◌↔◌}
use mathlib.Core.Bool.{true, false}
use mathlib.Core.List.{List}
use Prim.Native.Nat.{ℕ, suc, ◌+◌, ◌%◌, ◌≤◌, ◌<◌, ◌-◌, ◌*◌}
use borrow.Author.Tests.{eq-eqb, le-leb}
use lib.ListN.{length, get_or, replicate, length-replicate}
use Rattle.isa.specs.Words.{kind_of}
use Rattle.maps.specs.Pair.{pair}
use Rattle.state.specs.declared.State.{State}
use Rattle.state.specs.declared.Settings.{Settings}
use Rattle.trace.specs.Access.{number, Stored}
use Rattle.trace.specs.Maps.{mark, bit, cleared}
use Rattle.trace.specs.Machine.{fetched, go, quiet, answer, run, Answer}
use Rattle.rules.specs.Rules.{above, interrupted, exception, breaks}
use Rattle.machine.specs.Step.{attempt, does, machine}
use Rattle.machine.specs.Calls.{answered, fresh_tests, run_tests, edit_tests, run_refusal, fresh_refusal, edit_refusal, run_of, fresh_of, edit_of, Refused, Yes, unless_refused, fresh_state}
use Rattle.machine.proofs.Accepted.{run_refused, run_accepted, fresh_refused, edit_refused, lent, fresh_accepted}
use native.Mathlib.Decide.{dec_lt, dec_le}
use native.Mathlib.Omega.{arith}
use Rattle.exec.specs.declared.Effect.TheVariants.{Raise}
use Rattle.state.specs.declared.Core.{Core}
use Rattle.state.specs.State.{read_reg, changed}
use Rattle.trace.proofs.Marks.{mark-lengths}
use Rattle.trace.specs.Demand.{Exactly, Edit, Survives}
use Rattle.trace.proofs.Theorems as theory
use Rattle.machine.specs.declared.Ran.{Ran}
use Rattle.machine.specs.declared.Refusal.{Refusal}
use Rattle.promise.specs.Calls.{cleared_run, Differs, Sound, Given}
use Rattle.std.proofs.Common.{None, Result}
use Rattle.promise.proofs.Numbers.{in_order}
use Rattle.promise.proofs.Fair.{other, kept, accepted_sound}
use Rattle.promise.proofs.Edits.{unless_survives, none_in, yes_none}

-- ==== DEMAND 1

-- ---- the numbers: each is given exactly when its condition holds and no earlier one does

pub run_number : (len read written : ℕ) (S : Settings) (s : State) (budget n : ℕ) → (n ≡ run_refusal len read written S s budget) ↔ Given (run_tests len read written S s budget) n
unfolding run_refusal
run_number len read written S s budget n = in_order (run_tests len read written S s budget) n

pub fresh_number : (len read written : ℕ) (S : Settings) (n : ℕ) → (n ≡ fresh_refusal len read written S) ↔ Given (fresh_tests len read written S) n
unfolding fresh_refusal
fresh_number len read written S n = in_order (fresh_tests len read written S) n

pub edit_number : (len read start end n : ℕ) → (n ≡ edit_refusal len read start end) ↔ Given (edit_tests len read start end) n
unfolding edit_refusal
edit_number len read start end n = in_order (edit_tests len read start end) n

-- ---- a call that is not accepted changes nothing

pub run_unchanged : (m read written : List ℕ) (s : State) (S : Settings) (lines budget : ℕ) → run_refusal (length m) (length read) (length written) S s budget ≢ 0
    → run_of m read written s S lines budget
    ≡ record { reason = run_refusal (length m) (length read) (length written) S s budget; steps = 0; config = s; memory = m; maps = pair read written }
run_unchanged m read written s S lines budget f = sym (run_refused m read written s S lines budget (run_refusal (length m) (length read) (length written) S s budget) refl f)

pub fresh_unchanged : (len : ℕ) (read written : List ℕ) (s : State) (S : Settings) → fresh_refusal len (length read) (length written) S ≢ 0
    → fresh_of len read written s S ≡ record { number = fresh_refusal len (length read) (length written) S; state = s; maps = pair read written }
fresh_unchanged len read written s S f = sym (fresh_refused len read written s S (fresh_refusal len (length read) (length written) S) refl f)

pub edit_refuses : (len : ℕ) (map : List ℕ) (start end : ℕ) → edit_refusal len (length map) start end ≢ 0
    → edit_of len map start end ≡ Refused (edit_refusal len (length map) start end)
edit_refuses len map start end f = sym (edit_refused len map start end (edit_refusal len (length map) start end) refl f)

-- ---- a word outside the list

module _ (m read written : List ℕ) (s : State) (S : Settings) (lines budget : ℕ) where
  -- the rules before the fetch let the word through, and the list does not name it: the run stops with 12 before any effect
  pub outside_stops : run_refusal (length m) (length read) (length written) S s (suc budget) ≡ 0
      → above s.core ≡ false → interrupted lines s.core ≡ false → s.core.pc % 4 ≡ 0 → s.core.pc + 4 ≤ length m
      → kind_of (number m s.core.pc 4) ≡ None
      → run_of m read written s S lines (suc budget)
      ≡ record { reason = 12; steps = 0; config = s; memory = m; maps = mark (fetched s.core.pc) (pair read written) }
  unfolding attempt
  outside_stops z a i p l k =
      sym (run_accepted m read written s S lines (suc budget) 0 (sym z) refl)
      ∙ rw (a, i, eq-eqb (s.core.pc % 4) 0 p, le-leb (s.core.pc + 4) (length m) l, k)

-- ==== DEMAND 2

-- ---- an interrupt, a trap and an unimplemented instruction are the exception

module _ (S : Settings) (lines len : ℕ) (r : List ℕ) (c : Core) where
  pub interrupt_enters : above c ≡ false → interrupted lines c ≡ true → attempt S lines len r c ≡ quiet (exception S c)
  unfolding attempt
  interrupt_enters a i = rw (a, i)

  -- the effect of trap, and of an instruction whose unit is missing
  pub raise_enters : does S lines len r c Raise ≡ go (exception S c)
  raise_enters = refl

-- ---- of the state, an exception changes only ea, estatus, status and pc

module _ (S : Settings) (s : State) where
  pub exception_registers : (i : ℕ) → i < 32 → i ≢ 29 → read_reg (changed s (exception S s.core)).regs.r i ≡ read_reg s.regs.r i
  exception_registers i h f = other s.regs.r 29 _ i (λ e. f (omega arith))

  pub exception_rest : ((changed s (exception S s.core)).core.bstatus ≡ s.core.bstatus) × ((changed s (exception S s.core)).core.ienable ≡ s.core.ienable)
  exception_rest = (refl, refl)

  -- break changes only ba, bstatus, status and pc
  pub break_registers : (i : ℕ) → i < 32 → i ≢ 30 → read_reg (changed s (breaks S s.core)).regs.r i ≡ read_reg s.regs.r i
  break_registers i h f = other s.regs.r 30 _ i (λ e. f (omega arith))

  pub break_rest : ((changed s (breaks S s.core)).core.estatus ≡ s.core.estatus) × ((changed s (breaks S s.core)).core.ienable ≡ s.core.ienable)
  break_rest = (refl, refl)

-- ---- the promises about an accepted run

module _ (m read written : List ℕ) (s : State) (S : Settings) (lines budget : ℕ) (z : run_refusal (length m) (length read) (length written) S s budget ≡ 0) where
  -- the run is the definition's run
  pub run_is : run_of m read written s S lines budget ≡ answer (machine S lines (length m)) budget s m (pair read written)
  run_is = sym (run_accepted m read written s S lines budget 0 (sym z) refl)

  -- all steps are made and the reason is 0, or fewer and it is another
  pub steps_or_stop : (((run_of m read written s S lines budget).reason ≡ 0) × ((run_of m read written s S lines budget).steps ≡ budget))
      ⊎ (((run_of m read written s S lines budget).reason ≢ 0) × ((run_of m read written s S lines budget).steps < budget))
  steps_or_stop = rw (run_is) (kept S lines budget s m (accepted_sound (length m) (length read) (length written) S s budget z)).reason

  -- r0 stays 0, and status, estatus and bstatus stay 0 or 1
  pub stays_sound : Sound (run_of m read written s S lines budget).config
  stays_sound = rw (run_is) (kept S lines budget s m (accepted_sound (length m) (length read) (length written) S s budget z)).config

  -- a byte that no store addressed keeps its value
  pub byte_stays : (k : ℕ) → ¬ Stored k (run (machine S lines (length m)) budget s m).accesses → get_or (run_of m read written s S lines budget).memory k 0 ≡ get_or m k 0
  byte_stays k f = rw (run_is) (theory.keeps (machine S lines (length m)) budget s m k f)

  -- memory and maps keep their lengths
  pub lengths_stay : (length (run_of m read written s S lines budget).memory ≡ length m)
      × (length (run_of m read written s S lines budget).maps.read_first ≡ length read) × (length (run_of m read written s S lines budget).maps.written ≡ length written)
  lengths_stay =
      rw (run_is)
      (let l = mark-lengths (run (machine S lines (length m)) budget s m).accesses (pair read written) in
      (theory.keeps_length (machine S lines (length m)) budget s m, l.read_first, l.written))

-- ==== DEMAND 3

module _ (n : ℕ) (s : State) (S : Settings) (lines budget : ℕ) (m : List ℕ) where
  refusal : ℕ → ℕ
  refusal len = run_refusal len (length (replicate {A = ℕ} n 0)) (length (replicate {A = ℕ} n 0)) S s budget

  fits : refusal (length m) ≡ 0 → length m ≡ 8 * n
  unfolding refusal
  fits e = let l = lent m (replicate n 0) (replicate n 0) S s budget e in omega (arith, l.of_read, length-replicate {A = ℕ} n 0)

  -- EXACTLY: an accepted run from cleared maps marks its first reads and its stores, and nothing else
  pub exactly : run_refusal (length m) (length (replicate {A = ℕ} n 0)) (length (replicate {A = ℕ} n 0)) S s budget ≡ 0
      → Exactly (run (machine S lines (length m)) budget s m).accesses (length m) (cleared_run n s S lines budget m).maps
  unfolding run_of refusal
  exactly e = rw (e) (theory.exact (machine S lines (length m)) budget s m n (fits e))

  -- SURVIVES: whatever the state, settings, lines and budget, an edit of unmarked bytes gives the same run
  pub survives : (m' : List ℕ) → Edit (cleared_run n s S lines budget m).maps m m'
      → Survives m m' (cleared_run n s S lines budget m) (cleared_run n s S lines budget m')
  unfolding run_of refusal
  survives m' e =
      let len = e.lengths in
      subst (λ (k : ℕ). Survives m m' (cleared_run n s S lines budget m) (unless_refused (refusal k) s m' (cleared n) (answer (machine S lines k) budget s m' (cleared n)))) len
      (unless_survives n s (refusal (length m)) m m' _ _ e
      (λ z x. theory.survives (machine S lines (length m)) budget s m n (fits z) m' x))

  -- the same of any two outcomes that meet the contract of a run
  pub survives_call : (r r' : Result Ran Refusal) (s₁ s₂ : State) (m' m₁ m₂ read₁ read₂ written₁ written₂ : List ℕ)
      → answered r s₁ m₁ read₁ written₁ ≡ cleared_run n s S lines budget m → answered r' s₂ m₂ read₂ written₂ ≡ cleared_run n s S lines budget m'
      → Edit (pair read₁ written₁) m m' → Survives m m' (answered r s₁ m₁ read₁ written₁) (answered r' s₂ m₂ read₂ written₂)
  survives_call r r' s₁ s₂ m' m₁ m₂ read₁ read₂ written₁ written₂ p q e =
      rw (p, q) (survives m' (subst (λ (x : Answer ℕ State). Edit x.maps m m') p e))

  -- where the edit question says yes, a memory that differs inside the range only gives the same run
  pub yes_survives : (start end : ℕ) (m' : List ℕ) → edit_of (length m) (cleared_run n s S lines budget m).maps.read_first start end ≡ Yes
      → Differs start end m m' → Survives m m' (cleared_run n s S lines budget m) (cleared_run n s S lines budget m')
  yes_survives start end m' y d = survives m' (record { lengths = d.lengths; marks = λ k h b. same k b (dec_le start k) (dec_lt k end) })
    where
      same : (k : ℕ) → bit (cleared_run n s S lines budget m).maps.read_first k ≡ 1 → Dec (start ≤ k) → Dec (k < end) → get_or m k 0 ≡ get_or m' k 0
      same k b (no f) x = d.outside k (inl (omega arith))
      same k b (yes h) (no f) = d.outside k (inr (omega arith))
      same k b (yes h) (yes g) =
          let z = none_in (cleared_run n s S lines budget m).maps.read_first start (end - start) k (yes_none (length m) (cleared_run n s S lines budget m).maps.read_first start end y) h (omega arith) in
          absurd (omega arith)

-- an accepted fresh start leaves cleared maps, so the promises hold of the run that follows it
pub fresh_clears : (len : ℕ) (read written : List ℕ) (s : State) (S : Settings) → fresh_refusal len (length read) (length written) S ≡ 0
    → fresh_of len read written s S ≡ record { number = 0; state = fresh_state S; maps = pair (replicate (length read) 0) (replicate (length written) 0) }
fresh_clears len read written s S z = sym (fresh_accepted len read written s S 0 (sym z) refl (replicate (length read) 0) (replicate (length written) 0) refl refl)
