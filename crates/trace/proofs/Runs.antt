-- What every run keeps: the memory's length, and each byte that it does not store to.
-- Assumes nothing.
use mathlib.Core.Path.{◌≡◌, refl, ◌∙◌}
use mathlib.Core.List.{List, ◌++◌}
use Prim.Native.Nat.{ℕ, zero, suc}
use lib.ListN.{length}
use Rattle.trace.specs.Access.{Access, Stored, number}
use Rattle.trace.specs.Machine.{After, stop, go, load, store, Attempt, halt, quiet, fetch, Machine, Outcome, stopped, stepped}
use Rattle.trace.specs.Machine.{Run, finish, perform, fetched, data_of, touched, continue, run}
use Rattle.trace.proofs.Accesses.{stored_left, stored_right}
use Rattle.trace.proofs.Bytes.{Same, put-length, put_keeps}

-- the memory m becomes n by the accesses l
pub record Keeps (m : List ℕ) (l : List Access) (n : List ℕ) : Type 0 where
  pub size : length n ≡ length m
  pub bytes : (k : ℕ) → ¬ Stored k l → Same n m k

unchanged : (m : List ℕ) (l : List Access) → Keeps m l m
unchanged m l = record { size = refl; bytes = λ k f. refl }

joined : {m n o : List ℕ} {s t : List Access} → Keeps m s n → Keeps n t o → Keeps m (s ++ t) o
joined {m} {n} {o} {s} {t} x y = record {
  size = y.size ∙ x.size;
  bytes = λ k f. y.bytes k (λ h. f (stored_right k s t h)) ∙ x.bytes k (λ h. f (stored_left k s t h));
}

module _ {R C : Type 0} where
  abbrev Leaves : List ℕ → List Access → Outcome R C → Type 0
  Leaves m t (stopped r) = Unit {0}
  Leaves m t (stepped c n) = Keeps m t n

  finish_leaves : (s : List Access) (F : After R C) (m : List ℕ) → Leaves m (s ++ data_of F) (finish F m)
  finish_leaves s (stop r) m = tt
  finish_leaves s (go c) m = unchanged m _
  finish_leaves s (load a w q) m = unchanged m _
  finish_leaves s (store a w v c) m = joined (unchanged m s) (record { size = put-length m a w v; bytes = put_keeps m a w v })

  perform_leaves : (A : Attempt R C) (m : List ℕ) → Leaves m (touched A m) (perform A m)
  perform_leaves (halt r) m = tt
  perform_leaves (quiet c) m = unchanged m _
  perform_leaves (fetch a f) m = finish_leaves (fetched a) (f (number m a 4)) m

  continue_keeps : (c : C) (m : List ℕ) (t : List Access) (o : Outcome R C) (K : C → List ℕ → Run R C)
      → Leaves m t o → ((d : C) (n : List ℕ) → Keeps n (K d n).accesses (K d n).memory) → Keeps m (continue c m t o K).accesses (continue c m t o K).memory
  continue_keeps c m t (stopped r) K x y = unchanged m _
  continue_keeps c m t (stepped d n) K x y = joined x (y d n)

  pub run_keeps : (M : Machine R C) (budget : ℕ) (c : C) (m : List ℕ) → Keeps m (run M budget c m).accesses (run M budget c m).memory
  run_keeps M zero c m = unchanged m _
  run_keeps M (suc b) c m = continue_keeps c m (touched (M.attempt c) m) (perform (M.attempt c) m) (run M b) (perform_leaves (M.attempt c) m) (run_keeps M b)
