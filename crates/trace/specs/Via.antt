-- An attempt whose configuration is handed on through a function: each step that is made gives f of what it gave.
-- Assumes nothing.
use Rattle.trace.specs.Machine.{After, stop, go, load, store, Attempt, halt, quiet, fetch, Outcome, stopped, stepped}

module _ {R C D : Type 0} (f : C → D) where
  abbrev pub via_after : After R C → After R D
  via_after (stop r) = stop r
  via_after (go c) = go (f c)
  via_after (load a w k) = load a w (λ v. f (k v))
  via_after (store a w v c) = store a w v (f c)

  abbrev pub via : Attempt R C → Attempt R D
  via (halt r) = halt r
  via (quiet c) = quiet (f c)
  via (fetch a g) = fetch a (λ w. via_after (g w))

  abbrev pub via_outcome : Outcome R C → Outcome R D
  via_outcome (stopped r) = stopped r
  via_outcome (stepped c m) = stepped (f c) m
