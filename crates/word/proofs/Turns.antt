-- Rotations: what a shift drops at one end comes in at the other.
-- Assumes nothing.
use Rattle.std.proofs.Common.{◌≡◌, ℕ, ◌+◌, ◌-◌, ◌*◌, ◌/◌, ◌%◌, ◌^◌, ◌<◌, subst, add_comm, arith, shr_lt, w32}
use mathlib.Core.Logic.{by_cases}
use native.Mathlib.Decide.{ℕ_discrete}
use lib.Bits.{bit_or, or_comm, or_shifted, or_self}
use Rattle.std.specs.Int.{rotate_left, rotate_right}
use Rattle.word.specs.Word.{rol_of, ror_of}
use Rattle.word.proofs.Signs.{kept}

-- two shifts that fill all 32 places fill places that are apart, so to join them is to add them
apart : (j k a : ℕ) → a < 2 ^ (j + k) → bit_or (a * 2 ^ k % 2 ^ (j + k)) (a / 2 ^ j) ≡ a * 2 ^ k % 2 ^ (j + k) + a / 2 ^ j
apart j k a h = rw (kept a j k) (or_shifted (a % 2 ^ j) k (a / 2 ^ j) (shr_lt k j (subst (λ (w : ℕ). a < 2 ^ w) (add_comm j k) h)))

abbrev Joined : ℕ → ℕ → ℕ → ℕ → Type 0
Joined w j k a = a < 2 ^ w → bit_or (a * 2 ^ k % 2 ^ w) (a / 2 ^ j) ≡ a * 2 ^ k % 2 ^ w + a / 2 ^ j

joined : (j k a : ℕ) → j + k ≡ 32 → Joined 32 j k a
joined j k a e = subst (λ (w : ℕ). Joined w j k a) e (apart j k a)

module _ (a n : ℕ) (fits : a < 2 ^ 32) where
  pub left : rotate_left w32 a n ≡ rol_of a n
  unfolding rol_of
  left = by_cases (ℕ_discrete (n % 32) 0)
      (λ e. let s : a * 1 % 2 ^ 32 ≡ a / 1 = omega arith in rw (e, s, or_self) (omega arith))
      (λ f. let s : (32 - n % 32) % 32 ≡ 32 - n % 32 = omega (arith, f) in rw (s) (joined (32 - n % 32) (n % 32) a (omega arith) fits))

  pub right : rotate_right w32 a n ≡ ror_of a n
  unfolding ror_of
  right = by_cases (ℕ_discrete (n % 32) 0)
      (λ e. let s : a * 1 % 2 ^ 32 ≡ a / 1 = omega arith in rw (e, s, or_self) (omega arith))
      (λ f. let s : (32 - n % 32) % 32 ≡ 32 - n % 32 = omega (arith, f) in
      rw (s, or_comm, add_comm) (joined (n % 32) (32 - n % 32) a (omega arith) fits))

-- to the right by n is to the left by what is left of 32
pub right_by_left : (a n : ℕ) → a < 2 ^ 32 → rol_of a (32 - n % 32) ≡ ror_of a n
unfolding rol_of ror_of
right_by_left a n fits = by_cases (ℕ_discrete (n % 32) 0)
    (λ e. rw (e) (omega arith))
    (λ f. let s : (32 - n % 32) % 32 ≡ 32 - n % 32 = omega (arith, f) in
    let t : 32 - (32 - n % 32) ≡ n % 32 = omega arith in
    rw (s, t) (add_comm (a * 2 ^ (32 - n % 32) % 2 ^ 32) (a / 2 ^ (n % 32))))
