-- The invariant of the run's loop, over the theory's own, with a lemma for its start, its turn, its stop and its end.
-- Assumes nothing.
use Rattle.std.proofs.Common.{◌≡◌, refl, sym, ap, ◌∙◌, subst, List, ℕ, ◌+◌, ◌≤◌, ◌<◌, length, arith, Result, Ok, Err}
use Rattle.trace.specs.Access.{number}
use Rattle.trace.specs.Maps.{Maps, mark}
use Rattle.trace.specs.Machine.{Machine, After, stop, go, load, store, Attempt, halt, quiet, fetch, Outcome, stopped, stepped, finish, perform, touched, Answer, answer}
use Rattle.trace.specs.Via.{via, via_outcome}
use Rattle.trace.proofs.Bytes.{put-length}
use Rattle.trace.proofs.Via.{perform_via, touched_via}
use Rattle.trace.proofs.Loop.{Going, going_start, going_turn, going_stop, going_end}
use Rattle.maps.specs.Both.{maps_of}
use Rattle.maps.proofs.Both.{Kept, kept_marked}
use Rattle.state.specs.declared.State.{State}
use Rattle.state.specs.declared.Settings.{Settings}
use Rattle.state.specs.declared.Change.{Change}
use Rattle.state.specs.declared.Reason.{Reason}
use Rattle.state.specs.declared.Reason.TheVariants.{Spent}
use Rattle.state.specs.State.{reason_number, changed}
use Rattle.machine.specs.Step.{attempt, machine}
use Rattle.machine.specs.declared.Slices.{Slices}
use Rattle.machine.specs.Ends.{Parts, parts, Held, left, numbered, turn_of, memory_of, End, ended, attempt_end}
use Rattle.machine.specs.Calls.{ran}

-- and the slices' lengths stay
pub record Lengths (h₀ h : Slices) : Type 0 where
  pub names : Held h₀ h
  pub memory : length h.mem.now ≡ length h₀.mem.now
  pub first : length h.marks.now.first.now ≡ length h₀.marks.now.first.now
  pub written : length h.marks.now.written.now ≡ length h₀.marks.now.written.now

-- from h₀ and s₀, i steps of the budget are made
pub record Running (S : Settings) (lines budget : ℕ) (h₀ : Slices) (s₀ : State) (h : Slices) (s : State) (i : ℕ) : Type 0 where
  pub held : Lengths h₀ h
  pub going : Going (machine S lines (length h₀.mem.now)) budget (answer (machine S lines (length h₀.mem.now)) budget s₀ h₀.mem.now (maps_of h₀.marks.now)) i s h.mem.now (maps_of h.marks.now)

-- what an end says of its attempt's outcome
stop_is : (o : Outcome ℕ Change) (n : ℕ) → Err n ≡ turn_of o → o ≡ stopped n
stop_is (stopped k) n e = cc
stop_is (stepped c m) n e = cc

make_is : (o : Outcome ℕ Change) (h : Change) (m n : List ℕ) → Ok h ≡ turn_of o → n ≡ memory_of m o → o ≡ stepped h n
make_is (stopped k) h m n e f = cc
make_is (stepped c k) h m n e f = cc

after_length : (F : After ℕ Change) (m : List ℕ) → length (memory_of m (finish F m)) ≡ length m
after_length (stop r) m = refl
after_length (go c) m = refl
after_length (load a w k) m = refl
after_length (store a w v c) m = put-length m a w v

attempt_length : (A : Attempt ℕ Change) (m : List ℕ) → length (memory_of m (perform A m)) ≡ length m
attempt_length (halt r) m = refl
attempt_length (quiet c) m = refl
attempt_length (fetch a f) m = after_length (f (number m a 4)) m

module _ (S : Settings) (lines budget : ℕ) (h₀ : Slices) (s₀ : State) where
  abbrev M : Machine ℕ State
  M = machine S lines (length h₀.mem.now)

  abbrev Whole : Answer ℕ State → Type 0
  Whole x = x ≡ answer M budget s₀ h₀.mem.now (maps_of h₀.marks.now)

  pub start : Running S lines budget h₀ s₀ h₀ s₀ 0
  start = record {
    held = record { names = record { memory = refl; maps = refl; first = refl; written = refl }; memory = refl; first = refl; written = refl };
    going = going_start M budget s₀ h₀.mem.now (maps_of h₀.marks.now);
  }

  module _ {h : Slices} {s : State} {i : ℕ} (g : Running S lines budget h₀ s₀ h s i) where
    pub spent : budget ≤ i → Whole (ran (record { reason = Spent; steps = budget }) s h.mem.now (maps_of h.marks.now))
    spent b =
        let e : budget ≡ i = omega (arith, g.going.within) in
        (λ j. record { reason = 0; steps = e j; config = s; memory = h.mem.now; maps = maps_of h.marks.now }) ∙ sym (going_end M budget g.going b)

    module _ (t : Result Change Reason) (h' : Slices) (b : i < budget)
        (e : ended t h' ≡ attempt_end (attempt S lines (length h.mem.now) s.regs.r s.core) h) where
      -- the attempt, by the length that the run began with
      A : Attempt ℕ Change
      A = attempt S lines (length h₀.mem.now) s.regs.r s.core

      end : ended t h' ≡ attempt_end A h
      unfolding A
      end = e ∙ ap (λ (n : ℕ). attempt_end (attempt S lines n s.regs.r s.core) h) g.held.memory

      turn_is : numbered t ≡ turn_of (perform A h.mem.now)
      unfolding attempt_end
      turn_is = ap (λ (x : End). x.turn) end

      slices_are : parts h' ≡ left h (memory_of h.mem.now (perform A h.mem.now)) (touched (via (changed s) A) h.mem.now)
      unfolding attempt_end
      slices_are = ap (λ (x : End). x.slices) end ∙ ap (left h (memory_of h.mem.now (perform A h.mem.now))) (sym (touched_via (changed s) h.mem.now A))

      memory_is : h'.mem.now ≡ memory_of h.mem.now (perform A h.mem.now)
      memory_is = ap (λ (x : Parts). x.mem.now) slices_are

      maps_are : maps_of h'.marks.now ≡ mark (touched (via (changed s) A) h.mem.now) (maps_of h.marks.now)
      maps_are = ap (λ (x : Parts). maps_of x.marks.now) slices_are

      kept : Kept h.marks.now h'.marks.now
      kept = kept_marked (touched (via (changed s) A) h.mem.now) h.marks.now h'.marks.now (ap (λ (x : Parts). x.marks.now) slices_are)

      lengths_on : Lengths h₀ h'
      lengths_on = record {
        names = record {
          memory = ap (λ (x : Parts). x.mem.ghost_name) slices_are ∙ g.held.names.memory;
          maps = ap (λ (x : Parts). x.marks.ghost_name) slices_are ∙ g.held.names.maps;
          first = kept.first ∙ g.held.names.first;
          written = kept.written ∙ g.held.names.written;
        };
        memory = ap length memory_is ∙ attempt_length A h.mem.now ∙ g.held.memory;
        first = kept.first_length ∙ g.held.first;
        written = kept.written_length ∙ g.held.written;
      }

      pub held_on : Held h₀ h'
      held_on = lengths_on.names

      pub stops : (r : Reason) → t ≡ Err r → Whole (ran (record { reason = r; steps = i }) s h'.mem.now (maps_of h'.marks.now))
      unfolding A
      stops r q =
          let o : perform A h.mem.now ≡ stopped (reason_number r) = stop_is (perform A h.mem.now) (reason_number r) (sym (ap numbered q) ∙ turn_is) in
          let k : h'.mem.now ≡ h.mem.now = memory_is ∙ ap (memory_of h.mem.now) o in
          (λ j. record { reason = reason_number r; steps = i; config = s; memory = k j; maps = maps_are j })
          ∙ sym (going_stop M budget g.going b (reason_number r) (perform_via (changed s) h.mem.now A ∙ ap (via_outcome (changed s)) o))

      made : (x : Change) → t ≡ Ok x → Running S lines budget h₀ s₀ h' (changed s x) (i + 1)
      unfolding A
      made x q =
          let o : perform A h.mem.now ≡ stepped x h'.mem.now = make_is (perform A h.mem.now) x h.mem.now h'.mem.now (sym (ap numbered q) ∙ turn_is) memory_is in
          record {
            held = lengths_on;
            going = subst (λ (q : Maps). Going M budget (answer M budget s₀ h₀.mem.now (maps_of h₀.marks.now)) (i + 1) (changed s x) h'.mem.now q) (sym maps_are)
                (going_turn M budget g.going b (changed s x) h'.mem.now (perform_via (changed s) h.mem.now A ∙ ap (via_outcome (changed s)) o));
          }

      -- the state as it is stored back
      pub turns : (x : Change) (s' : State) → t ≡ Ok x → s' ≡ changed s x → Running S lines budget h₀ s₀ h' s' (i + 1)
      turns x s' q f = rw (f) (made x q)
