-- What is handed on through a function touches the same bytes, and has the same outcome, handed on.
-- Assumes nothing.
use mathlib.Core.Path.{◌≡◌, refl, ap}
use mathlib.Core.List.{List, ◌++◌}
use Prim.Native.Nat.{ℕ}
use Rattle.trace.specs.Access.{Access, number}
use Rattle.trace.specs.Machine.{After, stop, go, load, store, Attempt, halt, quiet, fetch, finish, perform, fetched, data_of, touched}
use Rattle.trace.specs.Via.{via_after, via, via_outcome}

module _ {R C D : Type 0} (f : C → D) (m : List ℕ) where
  finish_via : (F : After R C) → finish (via_after f F) m ≡ via_outcome f (finish F m)
  finish_via (stop r) = refl
  finish_via (go c) = refl
  finish_via (load a w k) = refl
  finish_via (store a w v c) = refl

  data_via : (F : After R C) → data_of (via_after f F) ≡ data_of F
  data_via (stop r) = refl
  data_via (go c) = refl
  data_via (load a w k) = refl
  data_via (store a w v c) = refl

  pub perform_via : (A : Attempt R C) → perform (via f A) m ≡ via_outcome f (perform A m)
  perform_via (halt r) = refl
  perform_via (quiet c) = refl
  perform_via (fetch a g) = finish_via (g (number m a 4))

  pub touched_via : (A : Attempt R C) → touched (via f A) m ≡ touched A m
  touched_via (halt r) = refl
  touched_via (quiet c) = refl
  touched_via (fetch a g) = ap (λ (l : List Access). fetched a ++ l) (data_via (g (number m a 4)))
