-- A map's bits after one of them is set: that one is 1, every other stays, and so does the length.
-- Assumes nothing.
use mathlib.Core.Path.{◌≡◌, refl}
use mathlib.Core.Logic.{◌⊎◌, inl, inr, ◌≢◌, by_cases}
use mathlib.Core.List.{List}
use Prim.Native.Nat.{ℕ, zero, suc, ◌+◌, ◌-◌, ◌/◌, ◌%◌, ◌^◌, ◌<◌, max}
use native.Mathlib.Omega.{arith}
use native.Mathlib.Decide.{ℕ_discrete, dec_lt}
use native.Mathlib.Nat.{div_self, div-eq_of_lt, mul-mod_left, max-zero, pow-suc, zero-div}
use lib.Bits.{bit_or, or_shr, or_step}
use lib.Pow.{pow_pos, pow-lt, pow-add, shl-shr}
use lib.ListN.{length, length-set, replicate, get_or-replicate}
use lib.Seq.{get_or-set_same, get_or-set_other, set_out}
use Rattle.trace.specs.Maps.{bit, set_bit, unless}

pub bit_cases : (l : List ℕ) (k : ℕ) → (bit l k ≡ 0) ⊎ (bit l k ≡ 1)
bit_cases l k = by_cases (ℕ_discrete (bit l k) 0) (λ e. inl e) (λ f. inr (omega (arith, f)))

-- ---- one byte

or_bit : (x y j : ℕ) → bit_or x y / 2 ^ j % 2 ≡ max (x / 2 ^ j % 2) (y / 2 ^ j % 2)
or_bit x y j = rw (or_shr, or_step) (omega arith)

power_same : (i : ℕ) → 2 ^ i / 2 ^ i % 2 ≡ 1
power_same i = rw (div_self (pow_pos i))

power_other : (i j : ℕ) → j ≢ i → 2 ^ i / 2 ^ j % 2 ≡ 0
power_other i j f = by_cases (dec_lt i j)
    (λ h. rw (div-eq_of_lt (pow-lt h)))
    (λ h. let e : i ≡ suc (i - suc j) + j = omega (arith, f) in rw (e, pow-add, shl-shr, pow-suc, mul-mod_left))

-- ---- the map

module _ (l : List ℕ) (k : ℕ) where
  pub set_bit-length : length (set_bit l k) ≡ length l
  set_bit-length = length-set l (k / 8) _

  pub set_bit-same : k / 8 < length l → bit (set_bit l k) k ≡ 1
  set_bit-same h = rw (get_or-set_same l (k / 8) _ 0 h, or_bit, power_same) (omega arith)

  pub set_bit-other : (j : ℕ) → j ≢ k → bit (set_bit l k) j ≡ bit l j
  set_bit-other j f = by_cases (ℕ_discrete (j / 8) (k / 8))
      (λ e. by_cases (dec_lt (k / 8) (length l))
      (λ h. rw (e, get_or-set_same l (k / 8) _ 0 h, or_bit, power_other (k % 8) (j % 8) (λ q. f (omega arith)), max-zero))
      (λ h. rw (set_out l (k / 8) _ (omega (arith, h)))))
      (λ e. rw (get_or-set_other l (k / 8) (j / 8) _ 0 e))

-- ---- a choice by a bit

pub unless_clear : {b : ℕ} (x y : List ℕ) → b ≡ 0 → unless b x y ≡ x
unless_clear x y e = rw e

pub unless_set : {b : ℕ} (x y : List ℕ) → b ≡ 1 → unless b x y ≡ y
unless_set x y e = rw e

pub unless-length : (b : ℕ) (l : List ℕ) (k : ℕ) → length (unless b (set_bit l k) l) ≡ length l
unless-length zero l k = set_bit-length l k
unless-length (suc b) l k = refl

pub unless_other : (b : ℕ) (l : List ℕ) (k j : ℕ) → j ≢ k → bit (unless b (set_bit l k) l) j ≡ bit l j
unless_other zero l k j f = set_bit-other l k j f
unless_other (suc b) l k j f = refl

-- ---- cleared

pub clear_bit : (n k : ℕ) → k / 8 < n → bit (replicate n 0) k ≡ 0
clear_bit n k h = rw (get_or-replicate {A = ℕ} n (k / 8) 0 0 h, zero-div)
