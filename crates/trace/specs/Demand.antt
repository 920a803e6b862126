-- Demand 3, sentence by sentence, over the answers of runs.
-- Assumes nothing.
use Rattle.std.specs.Prelude.{◌≡◌, ◌⊎◌, ◌↔◌, List, ℕ, ◌<◌, length, get_or}
use Rattle.trace.specs.Access.{Access, Stored, ReadFirst}
use Rattle.trace.specs.Maps.{bit, Maps}
use Rattle.trace.specs.Machine.{Answer}

-- "marks exactly the bytes that it read, fetches included, before storing to them": for each of the memory's n bytes
pub record Exactly (l : List Access) (n : ℕ) (p : Maps) : Type 0 where
  pub read_first : (k : ℕ) → k < n → (bit p.read_first k ≡ 1) ↔ ReadFirst k l
  pub written : (k : ℕ) → k < n → (bit p.written k ≡ 1) ↔ Stored k l

-- "a second memory of the same length that differs only in unmarked bytes"
pub record Edit (p : Maps) (m m' : List ℕ) : Type 0 where
  pub lengths : length m ≡ length m'
  pub marks : (k : ℕ) → k < length m → bit p.read_first k ≡ 1 → get_or m k 0 ≡ get_or m' k 0

-- "gives the same answer, steps, state and maps. Memory is then equal too, save edited bytes that nothing stored to, which each keep
-- their own starting value": of a run from m and a run from m'
pub record Survives {R C : Type 0} (m m' : List ℕ) (a a' : Answer R C) : Type 0 where
  pub reason : a.reason ≡ a'.reason
  pub steps : a.steps ≡ a'.steps
  pub config : a.config ≡ a'.config
  pub maps : a.maps ≡ a'.maps
  pub lengths : length a.memory ≡ length a'.memory
  -- a byte that was not edited, or was stored to
  pub same : (k : ℕ) → k < length m → (get_or m k 0 ≡ get_or m' k 0) ⊎ (bit a.maps.written k ≡ 1) → get_or a.memory k 0 ≡ get_or a'.memory k 0
  -- a byte that nothing stored to
  pub own : (k : ℕ) → k < length m → bit a.maps.written k ≡ 0 → (get_or a.memory k 0 ≡ get_or m k 0) × (get_or a'.memory k 0 ≡ get_or m' k 0)
