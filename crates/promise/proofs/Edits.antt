-- Two calls with the same number, and what a yes of the edit question says of the bits.
-- Assumes nothing.
use mathlib.Core.Path.{◌≡◌, refl}
use mathlib.Core.Logic.{inl, inr, by_cases}
use mathlib.Core.Bool.{Bool, true, false}
use mathlib.Core.List.{List}
use Prim.Native.Nat.{ℕ, zero, suc, ◌+◌, ◌-◌, ◌/◌, ◌≤◌, ◌<◌}
use native.Mathlib.Nat.{zero-div}
use native.Mathlib.Decide.{ℕ_discrete, dec_lt}
use native.Mathlib.Omega.{arith}
use borrow.Author.Tests.{eqb-true}
use lib.Dec.{eqb}
use lib.ListN.{length, get_or, replicate, length-replicate, get_or-eq_default}
use Rattle.maps.specs.Pair.{none_set}
use Rattle.state.specs.declared.State.{State}
use Rattle.trace.specs.Maps.{bit, cleared}
use Rattle.trace.specs.Machine.{Answer}
use Rattle.trace.specs.Demand.{Edit, Survives}
use Rattle.trace.proofs.Bits.{clear_bit}
use Rattle.machine.specs.Calls.{Verdict, Yes, unless_refused, edit_refusal, unless_bad, asked, edit_of}

-- no bit of a cleared map is set
none_set_lem : (n k : ℕ) → bit (replicate n 0) k ≡ 1 → ⊥
none_set_lem n k e = by_cases (dec_lt (k / 8) n)
    (λ h. let z = clear_bit n k h in omega arith)
    (λ f. let z : get_or (replicate n 0) (k / 8) 0 ≡ 0 = get_or-eq_default (replicate {A = ℕ} n 0) 0 (omega (arith, length-replicate {A = ℕ} n 0)) in
    let y : bit (replicate n 0) k ≡ 0 = rw (z, zero-div) in omega arith)

-- what holds of two accepted runs holds of two calls with the same number
module _ (n : ℕ) (s : State) where
  pub unless_survives : (k : ℕ) (m m' : List ℕ) (x x' : Answer ℕ State) → Edit (unless_refused k s m (cleared n) x).maps m m'
      → (k ≡ 0 → Edit x.maps m m' → Survives m m' x x') → Survives m m' (unless_refused k s m (cleared n) x) (unless_refused k s m' (cleared n) x')
  unless_survives zero m m' x x' e f = f refl e
  unless_survives (suc k) m m' x x' e f = record {
    reason = refl;
    steps = refl;
    config = refl;
    maps = refl;
    lengths = e.lengths;
    same = λ i h z. elim z [ inl q ↦ q | inr b ↦ absurd (none_set_lem n i b) ];
    own = λ i h b. (refl, refl);
  }

-- ---- a yes of the edit question

pub none_in : (map : List ℕ) (start w k : ℕ) → none_set map start w ≡ true → start ≤ k → k < start + w → bit map k ≡ 0
none_in map start zero k e h g = absurd (omega arith)
none_in map start (suc w) k e h g = first (eqb (bit map start) 0) refl (λ r i. none_in map (suc start) w k r i (omega arith))
  where
    first : (t : Bool) → eqb (bit map start) 0 ≡ t → (none_set map (suc start) w ≡ true → suc start ≤ k → bit map k ≡ 0) → bit map k ≡ 0
    first false q rest = absurd (let x : false ≡ true = rw (q) at e in let z : ◌≡◌ {A = ℕ} 0 1 = cc in omega arith)
    first true q rest = by_cases (ℕ_discrete k start)
        (λ i. rw (i) (eqb-true (bit map start) 0 q))
        (λ f. rest (rw (q) at e) (omega (arith, f)))

asked_yes : (b : Bool) → asked b ≡ Yes → b ≡ true
asked_yes true e = refl
asked_yes false e = absurd (let z : ◌≡◌ {A = ℕ} 0 1 = cc in omega arith)

unless_yes : (n : ℕ) (x : Verdict) → unless_bad n x ≡ Yes → x ≡ Yes
unless_yes zero x e = e
unless_yes (suc n) x e = absurd (let z : ◌≡◌ {A = ℕ} 0 1 = cc in omega arith)

pub yes_none : (len : ℕ) (map : List ℕ) (start end : ℕ) → edit_of len map start end ≡ Yes → none_set map start (end - start) ≡ true
unfolding edit_of
yes_none len map start end e = asked_yes (none_set map start (end - start)) (unless_yes (edit_refusal len (length map) start end) (asked (none_set map start (end - start))) e)
