-- Words read as signed integers: by the sign bit, and as the number types' casts read and write them.
-- Assumes nothing.
use Rattle.std.proofs.Common.{◌≡◌, ℕ, suc, ◌+◌, ◌-◌, ◌*◌, ◌%◌, ◌^◌, ◌<◌, ◌≤◌, ℤ, pos, negsuc, to_z, of_z, w32, ap, subst, ◌∙◌, arith, le-ltb, lt-ltb}
use mathlib.Core.Logic.{by_cases}
use native.Mathlib.Decide.{dec_lt}
use lib.Signed.{shr_z}
use mir.Val.{SFits}
use native.Mathlib.Nat.{mod-lt, mul-mod_left, mul-le-mul_right, mul-lt-mul_of_pos_right, pow-suc, add-zero}
use lib.Pow.{mod-pow-add, shl-shr, pow_pos, pow-add}
use Rattle.std.proofs.lemmas.Int.{to_z-of_z}
use Rattle.std.proofs.lemmas.Nat.{shr_high}
use Rattle.word.specs.Integer.{signed_bits, signed, word_of}

-- ---- the sign bit

module _ (w n : ℕ) where
  pub signed_low : n < 2 ^ (w - 1) → signed_bits w n ≡ pos n
  signed_low h = rw (lt-ltb n (2 ^ (w - 1)) h)

  pub signed_high : 2 ^ (w - 1) ≤ n → n < 2 ^ w → signed_bits w n ≡ negsuc (2 ^ w - suc n)
  signed_high h f = rw (le-ltb n (2 ^ (w - 1)) h, lt-ltb n (2 ^ w) f)

-- ---- casts

pub signed_read : (a : ℕ) → a < 2 ^ 32 → to_z w32 a ≡ signed a
signed_read a f = by_cases (dec_lt a (2 ^ 31))
    (λ h. rw (lt-ltb a (2 ^ 31) h))
    (λ h. rw (signed_high 32 a (omega arith) f, le-ltb a (2 ^ 31) (omega arith)))

pub word_read : (z : ℤ) → SFits w32 z → of_z w32 z ≡ word_of z
word_read (pos n) f = let h = f.sfits in omega arith
word_read (negsuc n) f = let h = f.sfits in omega arith

pub ruleset casts = (to_z-of_z, signed_read, word_read)

-- ---- sign extension: the lowest w bits, moved to the top of w + k places and back

-- a shift to the left by k, in j + k places, keeps the lowest j bits
pub kept : (n j k : ℕ) → n * 2 ^ k % 2 ^ (j + k) ≡ n % 2 ^ j * 2 ^ k
kept n j k = rw (mod-pow-add (n * 2 ^ k) j k, shl-shr, mul-mod_left, add-zero)

below : (x y m : ℕ) → 0 < m → (suc x + y) * m - suc (x * m) ≡ y * m + (m - 1)
below x y m h = omega arith

back : (w k x : ℕ) → 0 < w → x < 2 ^ w → shr_z (signed_bits (w + k) (x * 2 ^ k)) (2 ^ k) ≡ signed_bits w x
back w k x some fits =
    let twice : 2 ^ w ≡ 2 ^ (w - 1) * 2 = ap (λ (i : ℕ). 2 ^ i) (omega arith) ∙ pow-suc 2 (w - 1) in
    let half : 2 ^ (w + k - 1) ≡ 2 ^ (w - 1) * 2 ^ k = ap (λ (i : ℕ). 2 ^ i) (omega arith) ∙ pow-add 2 (w - 1) k in
    let whole : 2 ^ (w + k) ≡ 2 ^ w * 2 ^ k = pow-add 2 w k in
    by_cases (dec_lt x (2 ^ (w - 1)))
    (λ h. let low : x * 2 ^ k < 2 ^ (w - 1) * 2 ^ k = mul-lt-mul_of_pos_right h (pow_pos k) in
    rw (signed_low (w + k) (x * 2 ^ k) (omega arith), signed_low w x h) (ap pos (shl-shr x k)))
    (λ h. let high : 2 ^ (w - 1) * 2 ^ k ≤ x * 2 ^ k = mul-le-mul_right (2 ^ k) (omega arith) in
    let room : suc x * 2 ^ k ≤ 2 ^ w * 2 ^ k = mul-le-mul_right (2 ^ k) fits in
    let some : 0 < 2 ^ k = pow_pos k in
    let y = 2 ^ w - suc x in
    let parts : 2 ^ w ≡ suc x + y = omega arith in
    let rest : 2 ^ (w + k) - suc (x * 2 ^ k) ≡ y * 2 ^ k + (2 ^ k - 1) = ap (λ (i : ℕ). i - suc (x * 2 ^ k)) (whole ∙ ap (λ (i : ℕ). i * 2 ^ k) parts) ∙ below x y (2 ^ k) some in
    rw (signed_high (w + k) (x * 2 ^ k) (omega arith) (omega arith), signed_high w x (omega arith) fits, rest) (ap negsuc (shr_high y k (2 ^ k - 1) (omega arith))))

pub extended : (w n : ℕ) → 0 < w → w ≤ 32 → shr_z (signed (n * 2 ^ (32 - w) % 2 ^ 32)) (2 ^ (32 - w)) ≡ signed_bits w (n % 2 ^ w)
extended w n some most =
    let whole : w + (32 - w) ≡ 32 = omega arith in
    subst (λ (i : ℕ). shr_z (signed_bits i (n * 2 ^ (32 - w) % 2 ^ i)) (2 ^ (32 - w)) ≡ signed_bits w (n % 2 ^ w)) whole
    (rw (kept n w (32 - w)) (back w (32 - w) (n % 2 ^ w) some (mod-lt n (pow_pos w))))
