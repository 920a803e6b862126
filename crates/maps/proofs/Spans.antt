-- Marks of several bytes: part by part, and of one.
-- Assumes nothing.
use mathlib.Core.Path.{◌≡◌, sym, ap, ◌∙◌}
use mathlib.Core.Logic.{◌≢◌, inl, inr}
use mathlib.Core.List.{List, ◌∷◌, ◌++◌}
use Prim.Native.Nat.{ℕ, zero, suc, ◌+◌, ◌-◌, ◌*◌, ◌/◌, ◌%◌, ◌^◌, ◌<◌, ◌≤◌}
use native.Mathlib.Nat.{zero-add, add-zero, suc-add, add-suc, one-mul, mod-eq_of_lt}
use native.Mathlib.Omega.{arith}
use lib.Bits.{bit_or, bit_and, and_high, or_add_and}
use lib.ListN.{get_or, set}
use lib.Pow.{pow-lt, pow-add}
use lib.Seq.{set-get_or}
use Rattle.trace.specs.Access.{Access, reads, each}
use Rattle.trace.specs.Maps.{bit, set_bit, Maps, mark}
use Rattle.trace.proofs.Marks.{mark-append}
use Rattle.trace.proofs.Bits.{bit_cases, unless_clear, unless_set}
use Rattle.maps.specs.Pair.{pair}

-- a bit of a byte
pub power_fits : (i : ℕ) → i < 8 → 1 * 2 ^ i % 256 ≡ 2 ^ i
power_fits i h = rw (one-mul) (mod-eq_of_lt (pow-lt h))

-- a bit that is set already: the byte stays as it is
or_again : (b i : ℕ) → b / 2 ^ i % 2 ≢ 0 → bit_or b (2 ^ i) ≡ b
or_again b i f =
    let one : b / 2 ^ i % 2 ≡ 1 = omega (arith, f) in
    let p : 2 ^ (1 + i) - 2 ^ i ≡ 2 ^ i = rw (pow-add 2 1 i) (omega arith) in
    let a : bit_and b (2 ^ i) ≡ 2 ^ i = rw (p, one, one-mul) at (and_high b 1 i) in
    omega (arith, or_add_and b (2 ^ i), a)

pub set_again : (l : List ℕ) (k : ℕ) → bit l k ≢ 0 → l ≡ set_bit l k
set_again l k f = sym (ap (set l (k / 8)) (or_again (get_or l (k / 8) 0) (k % 8) f) ∙ set-get_or l (k / 8) 0)

each_parts : (f : ℕ → Access) (i w k : ℕ) → each f k (i + w) ≡ each f k i ++ each f (k + i) w
each_parts f zero w k = rw (zero-add, add-zero)
each_parts f (suc i) w k = rw (suc-add i w, add-suc k i) (ap (λ l. f k ∷ l) (each_parts f i w (suc k) ∙ ap (λ (x : ℕ). each f (suc k) i ++ each f x w) (suc-add k i)))

-- to mark i + w bytes is to mark i of them, then w
pub mark_parts : (f : ℕ → Access) (i w k : ℕ) (p : Maps) → mark (each f k (i + w)) p ≡ mark (each f (k + i) w) (mark (each f k i) p)
mark_parts f i w k p = ap (λ l. mark l p) (each_parts f i w k) ∙ mark-append (each f k i) (each f (k + i) w) p

-- and a loop over the bytes marks one more
pub mark_more : (f : ℕ → Access) (k i : ℕ) (p q r : Maps) → q ≡ mark (each f k (i - k)) p → r ≡ mark (each f i 1) q → k ≤ i → r ≡ mark (each f k (i + 1 - k)) p
mark_more f k i p q r e s h =
    let n : i + 1 - k ≡ (i - k) + 1 = omega arith in
    let j : k + (i - k) ≡ i = omega arith in
    rw (n, mark_parts f (i - k) 1 k p, j, ← e) s

-- one byte that is read, by its written bit
module _ (first written : List ℕ) (k : ℕ) where
  pub read_written : bit written k ≡ 1 → pair first written ≡ mark (each reads k 1) (pair first written)
  read_written e = rw (unless_set (set_bit first k) first e)

  pub read_new : bit written k ≢ 1 → pair (set_bit first k) written ≡ mark (each reads k 1) (pair first written)
  read_new f = elim (bit_cases written k) [ inl e ↦ rw (unless_clear (set_bit first k) first e) | inr e ↦ absurd (f e) ]
