-- The invariant of a loop that makes a run and counts its steps up: `Going`, with a lemma for its start, its turn, its stop and its end.
-- Assumes nothing.
use mathlib.Core.Path.{◌≡◌, sym, ◌∙◌}
use mathlib.Core.List.{List, ◌++◌}
use Prim.Native.Nat.{ℕ, suc, ◌+◌, ◌-◌, ◌≤◌, ◌<◌}
use native.Mathlib.Nat.{zero-add, add-zero, sub-zero}
use native.Mathlib.Omega.{arith}
use Rattle.trace.specs.Maps.{Maps, mark}
use Rattle.trace.specs.Machine.{Outcome, stopped, stepped, Machine, Run, perform, touched, continue, run, Answer, marked, answer}
use Rattle.trace.proofs.Marks.{mark-append}

-- an answer that comes after i steps
abbrev pub after : {R C : Type 0} → ℕ → Answer R C → Answer R C
after i a = record { reason = a.reason; steps = i + a.steps; config = a.config; memory = a.memory; maps = a.maps }

-- of a run with the answer `whole`, i steps are made; what is left goes on from c, m and p
pub record Going {R C : Type 0} (M : Machine R C) (budget : ℕ) (whole : Answer R C) (i : ℕ) (c : C) (m : List ℕ) (p : Maps) : Type 0 where
  pub within : i ≤ budget
  pub rest : whole ≡ after i (answer M (budget - i) c m p)

module _ {R C : Type 0} (M : Machine R C) (budget : ℕ) where
  pub going_start : (c : C) (m : List ℕ) (p : Maps) → Going M budget (answer M budget c m p) 0 c m p
  going_start c m p = record { within = omega arith; rest = rw (sub-zero budget) (none (answer M budget c m p)) }
    where
      none : (a : Answer R C) → a ≡ after 0 a
      none a = λ j. record { reason = a.reason; steps = sym (zero-add a.steps) j; config = a.config; memory = a.memory; maps = a.maps }

  module _ {whole : Answer R C} {i : ℕ} {c : C} {m : List ℕ} {p : Maps} (g : Going M budget whole i c m p) where
    -- the next attempt, by its outcome
    next : i < budget → (o : Outcome R C) → perform (M.attempt c) m ≡ o
        → whole ≡ after i (marked (continue c m (touched (M.attempt c) m) o (run M (budget - (i + 1)))) p)
    next h o e =
        let one : budget - i ≡ suc (budget - (i + 1)) = omega arith in
        g.rest ∙ rw (one, e)

    pub going_turn : i < budget → (d : C) (n : List ℕ) → perform (M.attempt c) m ≡ stepped d n
        → Going M budget whole (i + 1) d n (mark (touched (M.attempt c) m) p)
    going_turn h d n e = record { within = omega arith; rest = next h (stepped d n) e ∙ one_more (run M (budget - (i + 1)) d n) }
      where
        counted : (s : ℕ) → i + suc s ≡ i + 1 + s
        counted s = omega arith

        one_more : (r : Run R C) → record {
          reason = r.reason;
          steps = i + suc r.steps;
          config = r.config;
          memory = r.memory;
          maps = mark (touched (M.attempt c) m ++ r.accesses) p;
        } ≡ after (i + 1) (marked r (mark (touched (M.attempt c) m) p))
        one_more r = λ j. record {
          reason = r.reason;
          steps = counted r.steps j;
          config = r.config;
          memory = r.memory;
          maps = mark-append (touched (M.attempt c) m) r.accesses p j;
        }

    pub going_stop : i < budget → (r : R) → perform (M.attempt c) m ≡ stopped r
        → whole ≡ record { reason = r; steps = i; config = c; memory = m; maps = mark (touched (M.attempt c) m) p }
    going_stop h r e =
        next h (stopped r) e ∙ (λ j. record { reason = r; steps = add-zero i j; config = c; memory = m; maps = mark (touched (M.attempt c) m) p })

    pub going_end : budget ≤ i → whole ≡ record { reason = M.spent; steps = i; config = c; memory = m; maps = p }
    going_end h =
        let none : budget - i ≡ 0 = omega arith in
        g.rest ∙ rw (none) (λ j. record { reason = M.spent; steps = add-zero i j; config = c; memory = m; maps = p })
