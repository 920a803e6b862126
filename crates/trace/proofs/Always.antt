-- What every run keeps to, where its attempts do: reasons, steps within the budget, and an invariant of the configuration.
-- Assumes nothing.
use mathlib.Core.Path.{◌≡◌, refl, ap}
use mathlib.Core.Logic.{◌⊎◌, inl, inr}
use mathlib.Core.List.{List}
use Prim.Native.Nat.{ℕ, zero, suc, ◌<◌}
use native.Mathlib.Omega.{arith}
use Rattle.trace.specs.Access.{Access, number}
use Rattle.trace.specs.Machine.{After, stop, go, load, store, Attempt, halt, quiet, fetch, Machine, Outcome, stopped, stepped}
use Rattle.trace.specs.Machine.{Run, finish, perform, touched, continue, run}

module _ {R C : Type 0} (P : R → Type 0) (I : C → Type 0) where
  -- each stop has a reason of P, and each step that is made a configuration of I
  abbrev pub AlwaysAfter : After R C → Type 0
  AlwaysAfter (stop r) = P r
  AlwaysAfter (go c) = I c
  AlwaysAfter (load a w k) = (v : ℕ) → I (k v)
  AlwaysAfter (store a w v c) = I c

  abbrev pub Always : Attempt R C → Type 0
  Always (halt r) = P r
  Always (quiet c) = I c
  Always (fetch a f) = (w : ℕ) → AlwaysAfter (f w)

  abbrev Ends : Outcome R C → Type 0
  Ends (stopped r) = P r
  Ends (stepped c m) = I c

  finish_ends : (F : After R C) (m : List ℕ) → AlwaysAfter F → Ends (finish F m)
  finish_ends (stop r) m x = x
  finish_ends (go c) m x = x
  finish_ends (load a w k) m x = x (number m a w)
  finish_ends (store a w v c) m x = x

  perform_ends : (A : Attempt R C) (m : List ℕ) → Always A → Ends (perform A m)
  perform_ends (halt r) m x = x
  perform_ends (quiet c) m x = x
  perform_ends (fetch a f) m x = finish_ends (f (number m a 4)) m (x (number m a 4))

  -- a run either makes all its steps and is spent, or stops before that
  pub record Kept (spent : R) (budget : ℕ) (r : Run R C) : Type 0 where
    pub config : I r.config
    pub reason : ((r.reason ≡ spent) × (r.steps ≡ budget)) ⊎ (P r.reason × (r.steps < budget))

  continue_kept : (spent : R) (b : ℕ) (c : C) (m : List ℕ) (t : List Access) (o : Outcome R C) (K : C → List ℕ → Run R C)
      → I c → Ends o → ((d : C) (n : List ℕ) → I d → Kept spent b (K d n)) → Kept spent (suc b) (continue c m t o K)
  continue_kept spent b c m t (stopped r) K i x f = record { config = i; reason = inr (x, omega arith) }
  continue_kept spent b c m t (stepped d n) K i x f = record {
    config = (f d n x).config;
    reason = elim (f d n x).reason [ inl y ↦ inl (y.0, ap suc y.1) | inr y ↦ inr (y.0, omega (arith, y.1)) ];
  }

  pub run_kept : (M : Machine R C) → ((c : C) → I c → Always (M.attempt c)) → (budget : ℕ) (c : C) (m : List ℕ) → I c → Kept M.spent budget (run M budget c m)
  run_kept M x zero c m i = record { config = i; reason = inl (refl, refl) }
  run_kept M x (suc b) c m i =
      continue_kept M.spent b c m (touched (M.attempt c) m) (perform (M.attempt c) m) (run M b) i (perform_ends (M.attempt c) m (x c i)) (run_kept M x b)
