-- The test of an address, and how a load, a store and a whole attempt end by it.
-- Assumes nothing.
use Rattle.std.proofs.Common.{◌≡◌, refl, sym, ap, ap₂, ◌∙◌, Bool, true, false, cond, List, ℕ, ◌+◌, ◌%◌, ◌≤◌, ◌<◌, length, arith, Result, Ok, Err}
use borrow.Author.Tests.{leb-true}
use lib.Dec.{eqb, leb}
use Rattle.trace.specs.Access.{Access, reads, stores, each, number, put}
use Rattle.trace.specs.Machine.{After, stop, finish, data_of, Attempt, halt, fetch}
use Rattle.maps.specs.declared.Marks.{Marks}
use Rattle.maps.specs.Both.{marked}
use Rattle.maps.specs.Pair.{Room}
use Rattle.maps.proofs.Both.{kept_marked}
use Rattle.machine.specs.Calls.{Lent}
use Rattle.exec.specs.declared.Width.{Width}
use Rattle.exec.specs.declared.Width.TheVariants.{Byte, Half, Word}
use Rattle.exec.specs.declared.Effect.{Effect}
use Rattle.state.specs.declared.Core.{Core}
use Rattle.state.specs.declared.Settings.{Settings}
use Rattle.state.specs.declared.Change.{Change}
use Rattle.state.specs.declared.Reason.{Reason}
use Rattle.state.specs.declared.Reason.TheVariants.{Misaligned, Past, DataMisaligned, DataPast, Unsound}
use Rattle.state.specs.State.{reason_number}
use Rattle.rules.specs.Rules.{above, interrupted, exception, next, only, writes}
use Rattle.machine.specs.Step as step
use Rattle.machine.specs.Step.{bytes, loaded, within, within_of}
use Rattle.machine.specs.declared.Slices.{Slices}
use Rattle.machine.specs.Ends.{Parts, parts, turn_of, memory_of, left, End, ended, after_end, attempt_end}

-- ---- the two tests in order, by what the code's test hands back

-- the paper's number of what it hands back
number_in : Result (Unit {0}) Reason → ℕ
number_in (Ok x) = 0
number_in (Err r) = reason_number r

module _ {X : Type 0} (len a n : ℕ) (u v : Reason) (x : X) (f : ℕ → X) where
  abbrev Tests : X → Type 0
  Tests y = cond (eqb (a % n) 0) (cond (leb (a + n) len) x (f (reason_number v))) (f (reason_number u)) ≡ y

  pub barred : (r : Reason) → Err r ≡ within_of len a n u v → Tests (f (reason_number r))
  unfolding number_in
  barred r e = by (eqb (a % n) 0) (leb (a + n) len) e
    where
      by : (t s : Bool) → Err r ≡ cond t (cond s (Ok (tt {0})) (Err v)) (Err u) → cond t (cond s x (f (reason_number v))) (f (reason_number u)) ≡ f (reason_number r)
      by true true q = cc
      by true false q = ap f (sym (ap number_in q))
      by false s q = ap f (sym (ap number_in q))

  pub open_to : (y : Unit {0}) → Ok y ≡ within_of len a n u v → Tests x
  open_to y e = by (eqb (a % n) 0) (leb (a + n) len) e
    where
      by : (t s : Bool) → Ok y ≡ cond t (cond s (Ok (tt {0})) (Err v)) (Err u) → cond t (cond s x (f (reason_number v))) (f (reason_number u)) ≡ x
      by true true q = refl
      by true false q = cc
      by false s q = cc

pub not_past : (len a n : ℕ) (u v : Reason) (y : Unit {0}) → Ok y ≡ within_of len a n u v → a + n ≤ len
not_past len a n u v y e = leb-true (a + n) len (by (eqb (a % n) 0) (leb (a + n) len) e)
  where
    by : (t s : Bool) → Ok y ≡ cond t (cond s (Ok (tt {0})) (Err v)) (Err u) → s ≡ true
    by true true q = refl
    by true false q = cc
    by false s q = cc

pub bytes_range : (w : Width) → (0 < bytes w) × (bytes w ≤ 4)
bytes_range Byte = (omega arith, omega arith)
bytes_range Half = (omega arith, omega arith)
bytes_range Word = (omega arith, omega arith)

pub room : (m read written : List ℕ) (n : ℕ) → Lent m read written → n ≤ length m → Room read written n
room m read written n l h = record { of_first = omega (arith, l.of_read, h); of_written = omega (arith, l.of_written, h); small = omega (arith, l.size, h) }

-- and after marks
pub still_lent : (m : List ℕ) (p p' : Marks) (l : List Access) → p' ≡ marked l p → Lent m p.first.now p.written.now → Lent m p'.first.now p'.written.now
still_lent m p p' l e h =
    let k = kept_marked l p p' e in
    record { size = h.size; of_read = omega (arith, h.of_read, k.first_length); of_written = omega (arith, h.of_written, k.written_length) }

-- ---- loads and stores

-- the code's test of the n bytes at a in the memory m, where n is a width
module _ (m : List ℕ) (a : ℕ) (w : Width) (n : ℕ) (size : n ≡ bytes w) where
  abbrev Test : Result (Unit {0}) Reason → Type 0
  Test t = t ≡ within_of (length m) a n DataMisaligned DataPast

  of_width : (t : Result (Unit {0}) Reason) → Test t → t ≡ within_of (length m) a (bytes w) DataMisaligned DataPast
  of_width t e = e ∙ ap (λ (k : ℕ). within_of (length m) a k DataMisaligned DataPast) size

  pub inside : (y : Unit {0}) → Test (Ok y) → a + bytes w ≤ length m
  inside y e = not_past (length m) a (bytes w) DataMisaligned DataPast y (of_width (Ok y) e)

  within_stops : (r : Reason) → Test (Err r) → (x : After ℕ Change) → within (length m) a w x ≡ stop (reason_number r)
  within_stops r e x = barred (length m) a (bytes w) DataMisaligned DataPast x stop r (of_width (Err r) e)

  within_goes : (y : Unit {0}) → Test (Ok y) → (x : After ℕ Change) → within (length m) a w x ≡ x
  within_goes y e x = open_to (length m) a (bytes w) DataMisaligned DataPast x stop y (of_width (Ok y) e)

module _ (u : Slices) (c : Core) (a : ℕ) (w : Width) (n : ℕ) (size : n ≡ bytes w) where
  abbrev Tested : Result (Unit {0}) Reason → Type 0
  Tested = Test u.mem.now a w n size

  pub load_stops : (r : Reason) → Tested (Err r) → (d : ℕ) (s : Bool)
      → ended (Err r) u ≡ after_end (step.loads (length u.mem.now) c d a w s) u
  unfolding after_end
  load_stops r e d s = rw (within_stops u.mem.now a w n size r e _)

  pub store_stops : (r : Reason) → Tested (Err r) → (v : ℕ)
      → ended (Err r) u ≡ after_end (step.stores (length u.mem.now) c a w v) u
  unfolding after_end
  store_stops r e v = rw (within_stops u.mem.now a w n size r e _)

  pub load_makes : (y : Unit {0}) → Tested (Ok y) → (d : ℕ) (s : Bool) (v x : ℕ) (core : Core) (h : Change) (u' : Slices)
      → v ≡ number u.mem.now a (bytes w) → parts u' ≡ left u u.mem.now (each reads a (bytes w))
      → x ≡ loaded w s v → core ≡ next c → h ≡ writes d x core
      → ended (Ok h) u' ≡ after_end (step.loads (length u.mem.now) c d a w s) u
  unfolding after_end
  load_makes y e d s v x core h u' ev em ex ec eh =
      rw (within_goes u.mem.now a w n size y e _, eh, ec, ex, ev) (ap (λ q. record { turn = Ok (writes d (loaded w s (number u.mem.now a (bytes w))) (next c)); slices = q }) em)

  pub store_makes : (y : Unit {0}) → Tested (Ok y) → (v : ℕ) (core : Core) (h : Change) (u' : Slices)
      → parts u' ≡ left u (put u.mem.now a (bytes w) v) (each stores a (bytes w))
      → core ≡ next c → h ≡ only core
      → ended (Ok h) u' ≡ after_end (step.stores (length u.mem.now) c a w v) u
  unfolding after_end
  store_makes y e v core h u' em ec eh =
      rw (within_goes u.mem.now a w n size y e _, eh, ec) (ap (λ q. record { turn = Ok (only (next c)); slices = q }) em)

-- `after_end` by the parts alone
abbrev on_parts : After ℕ Change → Parts → End
on_parts F q = record {
  turn = turn_of (finish F q.mem.now);
  slices = record { mem = record q.mem { now = memory_of q.mem.now (finish F q.mem.now) }; marks = record q.marks { now = marked (data_of F) q.marks.now } };
}

-- ---- a whole attempt, by the first rule that holds

module _ (S : Settings) (lines : ℕ) (r : List ℕ) (c : Core) (u : Slices) where
  abbrev Goal : End → Type 0
  Goal x = x ≡ attempt_end (step.attempt S lines (length u.mem.now) r c) u

  pub ends_above : above c ≡ true → Goal (ended (Err Unsound) u)
  unfolding attempt_end step.attempt
  ends_above t = rw (t)

  module _ (f : above c ≡ false) where
    pub ends_interrupted : interrupted lines c ≡ true → (h : Change) → h ≡ exception S c → Goal (ended (Ok h) u)
    unfolding attempt_end step.attempt
    ends_interrupted t h e = rw (f, t, e)

    module _ (g : interrupted lines c ≡ false) where
      fetches : Attempt ℕ Change
      fetches = fetch c.pc (λ w. step.does S lines (length u.mem.now) r c (step.executes S r c w))

      -- the attempt, once the test of the address is known
      by_address : (A : Attempt ℕ Change) → cond (eqb (c.pc % 4) 0) (cond (leb (c.pc + 4) (length u.mem.now)) fetches (halt 11)) (halt 10) ≡ A
          → step.attempt S lines (length u.mem.now) r c ≡ A
      unfolding step.attempt fetches
      by_address A e = rw (f, g) e

      known : (A : Attempt ℕ Change) → step.attempt S lines (length u.mem.now) r c ≡ A → attempt_end (step.attempt S lines (length u.mem.now) r c) u ≡ attempt_end A u
      known A q = ap (λ (B : Attempt ℕ Change). attempt_end B u) q

      pub ends_barred : (k : Reason) → Err k ≡ within_of (length u.mem.now) c.pc 4 Misaligned Past → Goal (ended (Err k) u)
      unfolding attempt_end
      ends_barred k e = sym (known (halt (reason_number k)) (by_address _ (barred (length u.mem.now) c.pc 4 Misaligned Past fetches halt k e)))

      pub ends_fetched : (y : Unit {0}) → Ok y ≡ within_of (length u.mem.now) c.pc 4 Misaligned Past → (w : ℕ) (x : Effect) (u' : Slices) (z : End)
          → parts u' ≡ left u u.mem.now (each reads c.pc 4) → w ≡ number u.mem.now c.pc 4 → x ≡ step.executes S r c w
          → z ≡ after_end (step.does S lines (length u.mem.now) r c x) u' → Goal z
      unfolding attempt_end after_end fetches
      ends_fetched y e w x u' z em ew ex ez =
          ez
          ∙ ap (λ (y : Effect). after_end (step.does S lines (length u.mem.now) r c y) u') ex
          ∙ ap₂ (λ (y : ℕ) (q : Parts). on_parts (step.does S lines (length u.mem.now) r c (step.executes S r c y)) q) ew em
          ∙ sym (known fetches (by_address _ (open_to (length u.mem.now) c.pc 4 Misaligned Past fetches halt y e)))
