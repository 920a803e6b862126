-- What the signed results stand for: no integer is lost when a register keeps only its lowest 32 bits.
-- Assumes nothing.
use Rattle.std.proofs.Common.{◌≡◌, ℕ, zero, suc, ◌-◌, ◌*◌, ◌/◌, ◌%◌, ◌^◌, ◌<◌, ◌≤◌, Bool, true, false, ◌&&◌, eqb, ℤ, pos, negsuc, neg_ℤ, sym, refl, ap, ◌∙◌, lt_of_le_of_lt, div-le_self, div-one, arith, eq-eqb, ne_eqb, Ok}
use mathlib.Core.Logic.{by_cases}
use native.Mathlib.Nat.{div-lt_self}
use native.Mathlib.Decide.{ℕ_discrete, dec_lt}
use lib.IntN.{pos-ne-negsuc}
use lib.Signed.{mag, mag_shr, quot_z, shr_z}
use Rattle.word.specs.Integer.{signed_bits, signed, word_of}
use Rattle.word.specs.Word.{extend_of, sra_of, div_of}
use Rattle.word.proofs.Signs.{signed_low, signed_high}

-- z is from −2 ^ 31 to 2 ^ 31 − 1: `mag z` is z, or −(z + 1) where z is negative
pub word_stands_for : (z : ℤ) → mag z < 2 ^ 31 → signed (word_of z) ≡ z
word_stands_for (pos n) h = let e : n % 2 ^ 32 ≡ n = omega arith in rw (e) (signed_low 32 n h)
word_stands_for (negsuc n) h =
    let e : 2 ^ 32 - suc (n % 2 ^ 32) ≡ 2 ^ 32 - suc n = omega arith in
    let f : 2 ^ 32 - suc (2 ^ 32 - suc n) ≡ n = omega arith in
    rw (e) (signed_high 32 (2 ^ 32 - suc n) (omega arith) (omega arith) ∙ ap negsuc f)

-- w bits stand for an integer from −2 ^ (w − 1) to 2 ^ (w − 1) − 1
signed_range : (w n : ℕ) → 2 ^ w ≡ 2 * 2 ^ (w - 1) → n < 2 ^ w → mag (signed_bits w n) < 2 ^ (w - 1)
signed_range w n twice fits = by_cases (dec_lt n (2 ^ (w - 1)))
    (λ h. rw (signed_low w n h) h)
    (λ h. rw (signed_high w n (omega arith) fits) (omega arith))

pub extend_stands_for : (w n : ℕ) → 2 ^ w ≡ 2 * 2 ^ (w - 1) → 2 ^ w ≤ 2 ^ 32 → n % 2 ^ w < 2 ^ w → signed (extend_of w n) ≡ signed_bits w (n % 2 ^ w)
unfolding extend_of
extend_stands_for w n twice most fits = word_stands_for (signed_bits w (n % 2 ^ w)) (omega (arith, signed_range w (n % 2 ^ w) twice fits))

module _ (a : ℕ) (fa : a < 2 ^ 32) where
  pub sra_stands_for : (n : ℕ) → signed (sra_of a n) ≡ shr_z (signed a) (2 ^ (n % 32))
  unfolding sra_of
  sra_stands_for n = word_stands_for (shr_z (signed a) (2 ^ (n % 32))) (lt_of_le_of_lt (mag_shr (signed a) (2 ^ (n % 32))) (signed_range 32 a refl fa))

-- ---- quotients

negated_range : (n m : ℕ) → n ≤ m → mag (neg_ℤ (pos n)) ≤ m - 1
negated_range zero m h = omega arith
negated_range (suc n) m h = omega arith

-- the quotient of two words is one, but for −2 ^ 31 by −1
quotient_range : (u v : ℤ) → mag u < 2 ^ 31 → (u ≡ negsuc (2 ^ 31 - 1) → v ≡ negsuc 0 → ⊥) → mag (quot_z u v) < 2 ^ 31
quotient_range (pos x) (pos y) h f = lt_of_le_of_lt (div-le_self x y) h
quotient_range (pos x) (negsuc y) h f = omega (arith, negated_range (x / suc y) x (div-le_self x (suc y)))
quotient_range (negsuc x) (pos y) h f = omega (arith, negated_range (suc x / y) (suc x) (div-le_self (suc x) y))
quotient_range (negsuc x) (negsuc zero) h f =
    by_cases (ℕ_discrete x (2 ^ 31 - 1)) (λ e. absurd (f (ap negsuc e) refl)) (λ g. rw div-one (omega (arith, g)))
quotient_range (negsuc x) (negsuc (suc y)) h f = let l : suc x / suc (suc y) < suc x = div-lt_self (omega arith) (omega arith) in omega arith

-- the word of a negative integer
signed_word : (a n : ℕ) → a < 2 ^ 32 → signed a ≡ negsuc n → suc n ≤ 2 ^ 32 → a ≡ 2 ^ 32 - suc n
signed_word a n fits e h = by_cases (dec_lt a (2 ^ 31))
    (λ l. absurd (pos-ne-negsuc a n (sym (signed_low 32 a l) ∙ e)))
    (λ g. let q : negsuc (2 ^ 32 - suc a) ≡ negsuc n = sym (signed_high 32 a (omega arith) fits) ∙ e in
    let r : 2 ^ 32 - suc a ≡ n = cc in omega arith)

module _ (a b q : ℕ) (fa : a < 2 ^ 32) (fb : b < 2 ^ 32) where
  -- a quotient that is given is the integers' own, rounded toward zero
  pub div_stands_for : div_of a b ≡ Ok q → signed q ≡ quot_z (signed a) (signed b)
  unfolding div_of
  div_stands_for e = by_cases (ℕ_discrete b 0) by_zero (λ f. divided f (eqb a 0x8000_0000 && eqb b 0xffff_ffff) refl)
    where
      by_zero : b ≡ 0 → signed q ≡ quot_z (signed a) (signed b)
      by_zero z = let h = rw (eq-eqb b 0 z) at e in absurd (cc)

      apart : (eqb a 0x8000_0000 && eqb b 0xffff_ffff) ≡ false → signed a ≡ negsuc (2 ^ 31 - 1) → signed b ≡ negsuc 0 → ⊥
      apart t x y = let h = rw (eq-eqb a 0x8000_0000 (signed_word a (2 ^ 31 - 1) fa x (omega arith)), eq-eqb b 0xffff_ffff (signed_word b 0 fb y (omega arith))) at t in cc

      divided : (b ≡ 0 → ⊥) → (t : Bool) → (eqb a 0x8000_0000 && eqb b 0xffff_ffff) ≡ t → signed q ≡ quot_z (signed a) (signed b)
      divided f true t = let h = rw (ne_eqb b 0 f, t) at e in absurd (cc)
      divided f false t =
          let h = rw (ne_eqb b 0 f, t) at e in
          let r : word_of (quot_z (signed a) (signed b)) ≡ q = cc in
          ap signed (sym r) ∙ word_stands_for (quot_z (signed a) (signed b)) (quotient_range (signed a) (signed b) (signed_range 32 a refl fa) (apart t))
