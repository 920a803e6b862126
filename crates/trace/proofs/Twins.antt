-- Two runs from memories that agree on what the first of them reads first: the same run.
-- Assumes nothing.
use mathlib.Core.Path.{◌≡◌, refl, sym, ap, ap₂, ◌∙◌, subst}
use mathlib.Core.Logic.{◌⊎◌, inl, inr, by_cases}
use mathlib.Core.List.{List, [], ◌++◌}
use Prim.Native.Nat.{ℕ, zero, suc}
use lib.ListN.{length}
use Rattle.trace.specs.Access.{Access, reads, stores, each, Stored, number, put}
use Rattle.trace.specs.Machine.{After, stop, go, load, store, Attempt, halt, quiet, fetch, Machine, Outcome, stopped, stepped}
use Rattle.trace.specs.Machine.{Run, finish, perform, fetched, data_of, touched, continue, run}
use Rattle.trace.proofs.Accesses.{stored?, stored_cases, first_left, first_right, reads_only}
use Rattle.trace.proofs.Bytes.{Same, Agree, same_number, put-length, put_same}

-- the memories m and m' become n and n' by the accesses l: what was the same, or was stored to, is the same
pub record Together (m m' : List ℕ) (l : List Access) (n n' : List ℕ) : Type 0 where
  pub lengths : length n ≡ length n'
  pub same : (k : ℕ) → Same m m' k ⊎ Stored k l → Same n n' k

-- two runs, from m and from m'
pub record Twins {R C : Type 0} (m m' : List ℕ) (r r' : Run R C) : Type 0 where
  pub reason : r.reason ≡ r'.reason
  pub steps : r.steps ≡ r'.steps
  pub config : r.config ≡ r'.config
  pub accesses : r.accesses ≡ r'.accesses
  pub memory : Together m m' r.accesses r.memory r'.memory

-- two outcomes of one attempt
data Alike {R C : Type 0} (m m' : List ℕ) (t : List Access) : Outcome R C → Outcome R C → Type 0 where
  both_stopped : (r : R) → Together m m' t m m' → Alike m m' t (stopped r) (stopped r)
  both_stepped : (c : C) (n n' : List ℕ) → Together m m' t n n' → Alike m m' t (stepped c n) (stepped c n')

module _ (m m' : List ℕ) where
  still : length m ≡ length m' → (t : List Access) → ((k : ℕ) → ¬ Stored k t) → Together m m' t m m'
  still len t f = record { lengths = len; same = λ k s. elim s [ inl e ↦ e | inr h ↦ absurd (f k h) ] }

  -- accesses s that store nothing come before
  later : {n n' : List ℕ} (s t : List Access) → ((k : ℕ) → ¬ Stored k s) → Together m m' t n n' → Together m m' (s ++ t) n n'
  later s t f x = record {
    lengths = x.lengths;
    same = λ k z. x.same k (elim z [ inl e ↦ inl e | inr h ↦ elim (stored_cases k s t h) [ inl y ↦ absurd (f k y) | inr y ↦ inr y ] ]);
  }

module _ {R C : Type 0} (m m' : List ℕ) (len : length m ≡ length m') where
  finish_alike : (s : List Access) → ((k : ℕ) → ¬ Stored k s) → (F : After R C) → Agree m m' (data_of F) → Alike m m' (s ++ data_of F) (finish F m) (finish F m')
  finish_alike s f (stop r) g = both_stopped r (later m m' s [] f (still m m' len [] (λ k h. h)))
  finish_alike s f (go c) g = both_stepped c m m' (later m m' s [] f (still m m' len [] (λ k h. h)))
  finish_alike s f (load a w q) g =
      rw (← same_number m m' a w g) (both_stepped (q (number m a w)) m m' (later m m' s (each reads a w) f (still m m' len (each reads a w) (λ k. reads_only k a w))))
  finish_alike s f (store a w v c) g =
      both_stepped c (put m a w v) (put m' a w v)
      (later m m' s (each stores a w) f
      (record { lengths = put-length m a w v ∙ len ∙ sym (put-length m' a w v); same = λ k x. put_same m m' a w v k len x }))

  attempt_alike : (A : Attempt R C) → Agree m m' (touched A m) → (touched A m ≡ touched A m') × Alike m m' (touched A m) (perform A m) (perform A m')
  attempt_alike (halt r) g = (refl, both_stopped r (still m m' len [] (λ k h. h)))
  attempt_alike (quiet c) g = (refl, both_stepped c m m' (still m m' len [] (λ k h. h)))
  attempt_alike (fetch a f) g =
      let F = f (number m a 4) in
      let word : number m a 4 ≡ number m' a 4 = same_number m m' a 4 (λ k h. g k (first_left k (fetched a) (data_of F) h)) in (
        ap (λ (x : ℕ). fetched a ++ data_of (f x)) word,
        subst (λ (x : ℕ). Alike m m' (fetched a ++ data_of F) (finish F m) (finish (f x) m')) word
            (finish_alike (fetched a) (λ k. reads_only k a 4) F (λ k h. g k (first_right k (fetched a) (data_of F) (reads_only k a 4) h))),
      )

  attempt_agree : (c : C) (t : List Access) (o : Outcome R C) (K : C → List ℕ → Run R C) → Agree m m' (continue c m t o K).accesses → Agree m m' t
  attempt_agree c t (stopped r) K g = g
  attempt_agree c t (stepped d n) K g = λ k h. g k (first_left k t (K d n).accesses h)

  -- one attempt, and the rest K of the run
  continue_twins : (K : C → List ℕ → Run R C)
      → ((d : C) (n n' : List ℕ) → length n ≡ length n' → Agree n n' (K d n).accesses → Twins n n' (K d n) (K d n'))
      → (c : C) (t t' : List Access) (o o' : Outcome R C) → t ≡ t' → Alike m m' t o o'
      → Agree m m' (continue c m t o K).accesses → Twins m m' (continue c m t o K) (continue c m' t' o' K)
  continue_twins K rest c t t' o o' p (both_stopped r x) g = record { reason = refl; steps = refl; config = refl; accesses = p; memory = x }
  continue_twins K rest c t t' o o' p (both_stepped d n n' x) g = record {
    reason = T.reason;
    steps = ap suc T.steps;
    config = T.config;
    accesses = ap₂ ◌++◌ p T.accesses;
    memory = record {
      lengths = T.memory.lengths;
      same = λ k z. T.memory.same k (elim z [ inl e ↦ inl (x.same k (inl e)) | inr h ↦ after k (stored_cases k t (K d n).accesses h) ]);
    };
  }
    where
      -- what the rest reads first was stored by this attempt, or is read first in all
      T : Twins n n' (K d n) (K d n')
      T = rest d n n' x.lengths
          (λ k h. x.same k (by_cases (stored? k t) (λ s. inr s) (λ f. inl (g k (first_right k t (K d n).accesses f h)))))

      after : (k : ℕ) → Stored k t ⊎ Stored k (K d n).accesses → Same n n' k ⊎ Stored k (K d n).accesses
      after k (inl s) = inl (x.same k (inr s))
      after k (inr h) = inr h

pub run_twins : {R C : Type 0} (M : Machine R C) (budget : ℕ) (c : C) (m m' : List ℕ) → length m ≡ length m'
    → Agree m m' (run M budget c m).accesses → Twins m m' (run M budget c m) (run M budget c m')
run_twins M zero c m m' len g = record { reason = refl; steps = refl; config = refl; accesses = refl; memory = still m m' len [] (λ k h. h) }
run_twins M (suc b) c m m' len g =
    let A = M.attempt c in
    let x = attempt_alike m m' len A (attempt_agree m m' len c (touched A m) (perform A m) (run M b) g) in
    continue_twins m m' len (run M b) (run_twins M b) c (touched A m) (touched A m') (perform A m) (perform A m') x.0 x.1 g
