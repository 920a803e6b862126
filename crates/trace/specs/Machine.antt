-- A machine over memory, for any reasons R, any configuration C (all that is not memory and no map) and any rule of a step.
-- The rule names no memory and no map: it says which bytes it wants, and goes on by their number.
-- Assumes nothing.
use Rattle.std.specs.Prelude.{List, [], ◌++◌, ℕ, zero, suc}
use Rattle.trace.specs.Access.{Access, reads, stores, each, number, put}
use Rattle.trace.specs.Maps.{Maps, mark}

-- after the fetch: a stop, a step without data, or one load or store: its address, its width, then what is loaded or stored
pub data After (R C : Type 0) : Type 0 where
  stop : R → After R C
  go : C → After R C
  load : ℕ → ℕ → (ℕ → C) → After R C
  store : ℕ → ℕ → ℕ → C → After R C

-- an attempted step: a stop or a step that reads nothing, or the fetch of the four bytes at an address
pub data Attempt (R C : Type 0) : Type 0 where
  halt : R → Attempt R C
  quiet : C → Attempt R C
  fetch : ℕ → (ℕ → After R C) → Attempt R C

-- the rule of a step, and the reason of a run whose budget is spent
pub record Machine (R C : Type 0) : Type 0 where
  pub attempt : C → Attempt R C
  pub spent : R

-- a stop is no step
pub data Outcome (R C : Type 0) : Type 0 where
  stopped : R → Outcome R C
  stepped : C → List ℕ → Outcome R C

pub record Run (R C : Type 0) : Type 0 where
  pub reason : R
  pub steps : ℕ
  pub config : C
  pub memory : List ℕ
  pub accesses : List Access

-- the four bytes of a fetch
abbrev pub fetched : ℕ → List Access
fetched a = each reads a 4

module _ {R C : Type 0} where
  -- ---- what an attempt does

  abbrev pub finish : After R C → List ℕ → Outcome R C
  finish (stop r) m = stopped r
  finish (go c) m = stepped c m
  finish (load a w k) m = stepped (k (number m a w)) m
  finish (store a w v c) m = stepped c (put m a w v)

  abbrev pub perform : Attempt R C → List ℕ → Outcome R C
  perform (halt r) m = stopped r
  perform (quiet c) m = stepped c m
  perform (fetch a f) m = finish (f (number m a 4)) m

  -- ---- what an attempt reads and stores: the fetch's four bytes, then the width of a load or store that takes effect

  abbrev pub data_of : After R C → List Access
  data_of (stop r) = []
  data_of (go c) = []
  data_of (load a w k) = each reads a w
  data_of (store a w v c) = each stores a w

  abbrev pub touched : Attempt R C → List ℕ → List Access
  touched (halt r) m = []
  touched (quiet c) m = []
  touched (fetch a f) m = fetched a ++ data_of (f (number m a 4))

  -- ---- a run: steps until the budget is spent or a step stops

  -- from c and m, an attempt that touches t, by its outcome; K is the rest of the run
  abbrev pub continue : C → List ℕ → List Access → Outcome R C → (C → List ℕ → Run R C) → Run R C
  continue c m t (stopped r) K = record { reason = r; steps = 0; config = c; memory = m; accesses = t }
  continue c m t (stepped d n) K =
      record {
        reason = (K d n).reason;
        steps = suc (K d n).steps;
        config = (K d n).config;
        memory = (K d n).memory;
        accesses = t ++ (K d n).accesses;
      }

  abbrev pub run : Machine R C → ℕ → C → List ℕ → Run R C
  run M zero c m = record { reason = M.spent; steps = 0; config = c; memory = m; accesses = [] }
  run M (suc budget) c m = continue c m (touched (M.attempt c) m) (perform (M.attempt c) m) (run M budget)

-- what the caller of a run gets: its accesses are marked in the maps that it lent
pub record Answer (R C : Type 0) : Type 0 where
  pub reason : R
  pub steps : ℕ
  pub config : C
  pub memory : List ℕ
  pub maps : Maps

abbrev pub marked : {R C : Type 0} → Run R C → Maps → Answer R C
marked r p = record { reason = r.reason; steps = r.steps; config = r.config; memory = r.memory; maps = mark r.accesses p }

abbrev pub answer : {R C : Type 0} → Machine R C → ℕ → C → List ℕ → Maps → Answer R C
answer M budget c m p = marked (run M budget c m) p
