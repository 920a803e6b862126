-- The theorems, for any reasons, any configuration and any rule of a step. specs/Demand.antt says what each promises.
-- Assumes nothing.
use mathlib.Core.Path.{◌≡◌, sym, ap, ◌∙◌, subst}
use mathlib.Core.Logic.{inl, inr, by_cases}
use mathlib.Core.List.{List}
use Prim.Native.Nat.{ℕ, ◌*◌}
use native.Mathlib.Omega.{arith}
use native.Mathlib.Decide.{dec_lt}
use lib.ListN.{length, get_or, get_or-eq_default}
use Rattle.trace.specs.Access.{Access, Stored}
use Rattle.trace.specs.Maps.{mark, cleared}
use Rattle.trace.specs.Machine.{Machine, run, answer}
use Rattle.trace.specs.Demand.{Exactly, Edit, Survives}
use Rattle.trace.proofs.Marks.{exact_first, exact_written, not_written}
use Rattle.trace.proofs.Bytes.{Agree}
use Rattle.trace.proofs.Runs.{run_keeps}
use Rattle.trace.proofs.Twins.{Twins, run_twins}

module _ {R C : Type 0} (M : Machine R C) (budget : ℕ) (c : C) (m : List ℕ) where
  -- a byte that no access stores keeps its value
  pub keeps : (k : ℕ) → ¬ Stored k (run M budget c m).accesses → get_or (run M budget c m).memory k 0 ≡ get_or m k 0
  keeps k f = (run_keeps M budget c m).bytes k f

  pub keeps_length : length (run M budget c m).memory ≡ length m
  keeps_length = (run_keeps M budget c m).size

  module _ (size : ℕ) (fits : length m ≡ 8 * size) where
    -- EXACT: from cleared maps, the bits that are set are the run's first reads and its stores
    pub exact : Exactly (run M budget c m).accesses (length m) (answer M budget c m (cleared size)).maps
    exact = record {
      read_first = λ k h. exact_first (run M budget c m).accesses size k (omega arith);
      written = λ k h. exact_written (run M budget c m).accesses size k (omega arith);
    }

    -- SURVIVES: from cleared maps, a memory that is edited in unmarked bytes alone gives the same run
    pub survives : (m' : List ℕ) → Edit (answer M budget c m (cleared size)).maps m m' → Survives m m' (answer M budget c m (cleared size)) (answer M budget c m' (cleared size))
    survives m' edit = record {
      reason = T.reason;
      steps = T.steps;
      config = T.config;
      maps = ap (λ (l : List Access). mark l (cleared size)) T.accesses;
      lengths = T.memory.lengths;
      same = λ k h x. T.memory.same k (elim x [ inl e ↦ inl e | inr w ↦ inr ((exact.written k h).0 w) ]);
      own = λ k h w. let f = (not_written (run M budget c m).accesses size k (omega arith)).0 w in
          (keeps k f, (run_keeps M budget c m').bytes k (subst (λ (l : List Access). ¬ Stored k l) T.accesses f));
    }
      where
        -- a byte past the end reads as 0 in both
        agree : Agree m m' (run M budget c m).accesses
        agree k r = by_cases (dec_lt k (length m))
            (λ h. edit.marks k h ((exact.read_first k h).1 r))
            (λ f. get_or-eq_default m 0 (omega arith) ∙ sym (get_or-eq_default m' 0 (omega (arith, edit.lengths))))

        T : Twins m m' (run M budget c m) (run M budget c m')
        T = run_twins M budget c m m' edit.lengths agree
