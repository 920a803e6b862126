-- What each operation gives, on words: natural numbers below 2 ^ 32. One definition for an Operation line of the handbook's chapter 20.
-- Assumes nothing.
use Rattle.std.specs.Prelude.{ℕ, ◌+◌, ◌-◌, ◌*◌, ◌/◌, ◌%◌, ◌^◌, Bool, cond, Result, Ok, Err, ◌&&◌, ◌*ℤ◌, ◌==◌, bit_and, bit_or, bit_xor, int_div, int_lt, nat_lt}
use Rattle.std.proofs.Math.IntN.{sub_ℕ}
use Rattle.std.specs.Int.Signed.{shr_z}
use Rattle.word.specs.Integer.{signed_bits, signed, unsigned, word_of, upper_of}
use Rattle.word.specs.declared.Undefined.{Undefined}
use Rattle.word.specs.declared.Undefined.TheVariants.{ByZero, TooLarge}

-- ---- sums and differences

-- rA + rB
abbrev pub add_of : ℕ → ℕ → ℕ
add_of a b = (a + b) % 2 ^ 32

-- rA − rB
unfoldable pub sub_of : ℕ → ℕ → ℕ
sub_of a b = word_of (sub_ℕ a b)

-- ---- immediates and loaded values

-- σ (X) of a value of w bits, the lowest w of n
unfoldable pub extend_of : ℕ → ℕ → ℕ
extend_of w n = word_of (signed_bits w (n % 2 ^ w))

-- (IMM16 : 0x0000), of the lowest 16 bits of n
abbrev pub high_of : ℕ → ℕ
high_of n = n % 2 ^ 16 * 2 ^ 16

-- ---- comparisons

abbrev pub choose_of : {A : Type 0} → Bool → A → A → A
choose_of c x y = cond c x y

-- (signed) rA < (signed) rB
unfoldable pub less_signed_of : ℕ → ℕ → Bool
less_signed_of a b = int_lt (signed a) (signed b)

-- (unsigned) rA < (unsigned) rB
abbrev pub less_of : ℕ → ℕ → Bool
less_of a b = nat_lt a b

-- what a comparison writes: 1 where it holds, else 0
abbrev pub flag_of : Bool → ℕ
flag_of c = cond c 1 0

-- ---- products

-- (rA × rB) 31..0
abbrev pub mul_of : ℕ → ℕ → ℕ
mul_of a b = a * b % 2 ^ 32

-- ((unsigned) rA × (unsigned) rB) 63..32
unfoldable pub mulxuu_of : ℕ → ℕ → ℕ
mulxuu_of a b = upper_of (unsigned a *ℤ unsigned b)

-- ((signed) rA × (signed) rB) 63..32
unfoldable pub mulxss_of : ℕ → ℕ → ℕ
mulxss_of a b = upper_of (signed a *ℤ signed b)

-- ((signed) rA × (unsigned) rB) 63..32
unfoldable pub mulxsu_of : ℕ → ℕ → ℕ
mulxsu_of a b = upper_of (signed a *ℤ unsigned b)

-- ---- quotients

-- rA ÷ rB as unsigned integers
unfoldable pub divu_of : ℕ → ℕ → Result ℕ Undefined
divu_of a b = cond (b == 0) (Err ByZero) (Ok (a / b))

-- rA ÷ rB as signed integers, toward zero. By zero there is none, and 2 ^ 31, of −2 ^ 31 ÷ −1, is no word
unfoldable pub div_of : ℕ → ℕ → Result ℕ Undefined
div_of a b =
    cond (b == 0) (Err ByZero) (cond (a == 0x8000_0000 && b == 0xffff_ffff) (Err TooLarge) (Ok (word_of (int_div (signed a) (signed b)))))

-- ---- shifts and rotations: by the lowest five bits of n

-- rA << n
abbrev pub sll_of : ℕ → ℕ → ℕ
sll_of a n = a * 2 ^ (n % 32) % 2 ^ 32

-- (unsigned) rA >> n
abbrev pub srl_of : ℕ → ℕ → ℕ
srl_of a n = a / 2 ^ (n % 32)

-- (signed) rA >> n
unfoldable pub sra_of : ℕ → ℕ → ℕ
sra_of a n = word_of (shr_z (signed a) (2 ^ (n % 32)))

-- rA rotated left: what leaves at the top comes in at the bottom
unfoldable pub rol_of : ℕ → ℕ → ℕ
rol_of a n = a * 2 ^ (n % 32) % 2 ^ 32 + a / 2 ^ (32 - n % 32)

-- rA rotated right: what leaves at the bottom comes in at the top
unfoldable pub ror_of : ℕ → ℕ → ℕ
ror_of a n = a / 2 ^ (n % 32) + a * 2 ^ (32 - n % 32) % 2 ^ 32

-- ---- bit by bit

-- rA & rB
abbrev pub and_of : ℕ → ℕ → ℕ
and_of a b = bit_and a b

-- rA | rB
abbrev pub or_of : ℕ → ℕ → ℕ
or_of a b = bit_or a b

-- rA ^ rB
abbrev pub xor_of : ℕ → ℕ → ℕ
xor_of a b = bit_xor a b

-- ~ (rA | rB)
abbrev pub nor_of : ℕ → ℕ → ℕ
nor_of a b = (2 ^ 32 - 1) - bit_or a b
