-- Registers that are not written, and what every step keeps to: r0 is 0, status, estatus and bstatus are 0 or 1, no stop has reason 0.
-- Assumes nothing.
use mathlib.Core.Path.{◌≡◌, sym, ◌∙◌}
use mathlib.Core.Logic.{◌⊎◌, inl, inr, ◌≢◌, by_cases}
use mathlib.Core.Bool.{Bool, true, false, not, ◌||◌, cond}
use mathlib.Core.List.{List}
use Prim.Native.Nat.{ℕ, suc, ◌+◌, ◌%◌, ◌≤◌}
use native.Mathlib.Decide.{ℕ_discrete}
use native.Mathlib.Omega.{arith}
use borrow.Author.Tests.{ltb-false, eqb-true, not-false}
use lib.Dec.{eqb, ltb, leb}
use lib.ListN.{length, get_or}
use lib.Seq.{get_or-set_other}
use Rattle.exec.specs.declared.Width.{Width}
use Rattle.exec.specs.declared.Effect.{Effect}
use Rattle.exec.specs.declared.Effect.TheVariants.{Stop, Next, Put, Go, Link, Load, Store, Read, Write, Raise, Break, Eret, Bret, Ret}
use Rattle.state.specs.declared.Core.{Core}
use Rattle.state.specs.declared.State.{State}
use Rattle.state.specs.declared.Settings.{Settings}
use Rattle.state.specs.declared.Change.{Change}
use Rattle.state.specs.State.{with_pc, write, read_reg, changed}
use Rattle.state.proofs.Writes.{write_none, write_one}
use Rattle.trace.specs.Machine.{After, stop, go, load, store, Attempt, halt, quiet, fetch, run}
use Rattle.trace.specs.Via.{via, via_after}
use Rattle.trace.proofs.Always.{AlwaysAfter, Always, Kept, run_kept}
use Rattle.rules.specs.Rules.{above, interrupted, set_control}
use Rattle.machine.specs.Step.{bytes, within, does, executes, attempt, machine}
use Rattle.isa.specs.Words.{kind_of, fields_of}
use Rattle.promise.proofs.Reasons.{Named, exec_named}
use Rattle.machine.specs.Calls.{bad_state, run_tests, run_refusal}
use Rattle.machine.proofs.Accepted.{neither}
use Rattle.promise.specs.Calls.{Sound}
use Rattle.promise.proofs.Numbers.{in_order}

-- ---- a register that is not written keeps its value

pub other : (r : List ℕ) (d v i : ℕ) → i % 32 ≢ d % 32 → read_reg (write r d v) i ≡ read_reg r i
other r d v i f = by_cases (ℕ_discrete (d % 32) 0)
    (λ e. rw (write_none r d v e))
    (λ g. rw (write_one r d v g) (get_or-set_other r (d % 32) (i % 32) v 0 f))

zero_kept : (r : List ℕ) (d v : ℕ) → get_or (write r d v) 0 0 ≡ get_or r 0 0
zero_kept r d v = by_cases (ℕ_discrete (d % 32) 0)
    (λ e. rw (write_none r d v e))
    (λ g. rw (write_one r d v g) (get_or-set_other r (d % 32) 0 v 0 (λ e. g (sym e))))

-- ---- r0 stays 0, and status, estatus and bstatus stay 0 or 1; no stop has the reason of a spent budget

record Flags (c : Core) : Type 0 where
  status : c.status ≤ 1
  estatus : c.estatus ≤ 1
  bstatus : c.bstatus ≤ 1

abbrev Fair : Change → Type 0
Fair x = Flags x.core

abbrev Stopping : ℕ → Type 0
Stopping n = n ≢ 0

either : {X : Type 0} (P : X → Type 0) (b : Bool) (x y : X) → P x → P y → P (cond b x y)
either P true x y p q = p
either P false x y p q = q

set_flags : (c : Core) (n v : ℕ) → Flags c → Flags (set_control c n v)
set_flags c n v f =
    either Flags (eqb n 0) _ _ (record { status = omega arith; estatus = f.estatus; bstatus = f.bstatus })
    (either Flags (eqb n 1) _ _ (record { status = f.status; estatus = omega arith; bstatus = f.bstatus })
    (either Flags (eqb n 2) _ _ (record { status = f.status; estatus = f.estatus; bstatus = omega arith })
    (either Flags (eqb n 3) _ _ (record { status = f.status; estatus = f.estatus; bstatus = f.bstatus }) f)))

sixteen : Stopping 16
sixteen e = omega arith

fifteen : Stopping 15
fifteen e = omega arith

within_fair : (len a : ℕ) (w : Width) (x : After ℕ Change) → AlwaysAfter Stopping Fair x → AlwaysAfter Stopping Fair (within len a w x)
within_fair len a w x f =
    either (AlwaysAfter Stopping Fair) (eqb (a % bytes w) 0) (cond (leb (a + bytes w) len) x (stop 16)) (stop 15)
    (either (AlwaysAfter Stopping Fair) (leb (a + bytes w) len) x (stop 16) f sixteen)
    fifteen

module _ (S : Settings) (lines len : ℕ) (r : List ℕ) (c : Core) (f : Flags c) where
  keep : (t : ℕ) → Flags (with_pc c t)
  keep t = record { status = f.status; estatus = f.estatus; bstatus = f.bstatus }

  does_fair : (e : Effect) → Named e → AlwaysAfter Stopping Fair (does S lines len r c e)
  does_fair (Stop n) x = x
  does_fair Next x = keep _
  does_fair (Put d v) x = keep _
  does_fair (Go t) x = keep _
  does_fair (Link t) x = keep _
  does_fair (Load d a w g) x = within_fair len a w _ (λ v. keep _)
  does_fair (Store a v w) x = within_fair len a w _ (keep _)
  does_fair (Read d n) x = keep _
  does_fair (Write n v) x = let y = set_flags c n v f in record { status = y.status; estatus = y.estatus; bstatus = y.bstatus }
  does_fair Raise x = record { status = omega arith; estatus = f.status; bstatus = f.bstatus }
  does_fair Break x = record { status = omega arith; estatus = f.estatus; bstatus = f.status }
  does_fair Eret x = record { status = f.estatus; estatus = f.estatus; bstatus = f.bstatus }
  does_fair Bret x = record { status = f.bstatus; estatus = f.estatus; bstatus = f.bstatus }
  does_fair Ret x = keep _

  attempt_fair : Always Stopping Fair (attempt S lines len r c)
  unfolding attempt
  attempt_fair =
      either (Always Stopping Fair) (above c) _ _ (λ e. omega arith)
      (either (Always Stopping Fair) (interrupted lines c) _ _ (record { status = omega arith; estatus = f.status; bstatus = f.bstatus })
      (either (Always Stopping Fair) (eqb (c.pc % 4) 0) _ _
      (either (Always Stopping Fair) (leb (c.pc + 4) len) _ _ (λ w. does_fair (executes S r c w) (exec_named (kind_of w) (fields_of w) _ _ _ _ _)) (λ e. omega arith))
      (λ e. omega arith)))

-- the change made, the state is sound again
sound_again : (s : State) (x : Change) → Sound s → Fair x → Sound (changed s x)
sound_again s x h f = record {
  zero = zero_kept s.regs.r x.dest x.value ∙ h.zero;
  status = f.status;
  estatus = f.estatus;
  bstatus = f.bstatus;
}

via_after_lem : (s : State) → Sound s → (F : After ℕ Change) → AlwaysAfter Stopping Fair F → AlwaysAfter Stopping Sound (via_after (changed s) F)
via_after_lem s h (stop r) x = x
via_after_lem s h (go c) x = sound_again s c h x
via_after_lem s h (load a w k) x = λ v. sound_again s (k v) h (x v)
via_after_lem s h (store a w v c) x = sound_again s c h x

via_always : (s : State) → Sound s → (A : Attempt ℕ Change) → Always Stopping Fair A → Always Stopping Sound (via (changed s) A)
via_always s h (halt r) x = x
via_always s h (quiet c) x = sound_again s c h x
via_always s h (fetch a g) x = λ w. via_after_lem s h (g w) (x w)

pub kept : (S : Settings) (lines budget : ℕ) (s : State) (m : List ℕ) → Sound s → Kept Stopping Sound 0 budget (run (machine S lines (length m)) budget s m)
kept S lines budget s m h =
    run_kept Stopping Sound (machine S lines (length m))
    (λ t g. via_always t g (attempt S lines (length m) t.regs.r t.core)
    (attempt_fair S lines (length m) t.regs.r t.core (record { status = g.status; estatus = g.estatus; bstatus = g.bstatus })))
    budget s m h

-- ---- an accepted state is sound

-- what the number 0 says of the first test, and of the rest
none_given : {rest : Type 0} {b : Bool} (k : ℕ) → ((b ≡ true) × (0 ≡ suc k)) ⊎ ((b ≡ false) × rest) → (b ≡ false) × rest
none_given k (inl x) = absurd (omega (arith, x.1))
none_given k (inr x) = x

good_state : (s : State) → bad_state s ≡ false → Sound s
good_state s e =
    let x = neither (not (eqb (get_or s.regs.r 0 0) 0)) (above s.core) e in
    let y = neither (ltb 1 s.core.status || ltb 1 s.core.estatus) (ltb 1 s.core.bstatus) x.1 in
    let w = neither (ltb 1 s.core.status) (ltb 1 s.core.estatus) y.0 in
    record {
      zero = eqb-true (get_or s.regs.r 0 0) 0 (not-false (eqb (get_or s.regs.r 0 0) 0) x.0);
      status = ltb-false 1 s.core.status w.0;
      estatus = ltb-false 1 s.core.estatus w.1;
      bstatus = ltb-false 1 s.core.bstatus y.1;
    }

-- ---- an accepted call has a sound state

pub accepted_sound : (len read written : ℕ) (S : Settings) (s : State) (budget : ℕ) → run_refusal len read written S s budget ≡ 0 → Sound s
unfolding run_refusal
accepted_sound len read written S s budget z =
    let g = (in_order (run_tests len read written S s budget) 0).0 (sym z) in
    good_state s (none_given 3 (none_given 2 (none_given 1 (none_given 0 g).1).1).1).0
