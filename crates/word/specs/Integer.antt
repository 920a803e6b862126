-- Words of 32 bits and the integers: what bits stand for, and the bits of an integer. Table 20-5 of the handbook has the notation.
-- Assumes nothing.
use Rattle.std.specs.Prelude.{ℕ, suc, ◌-◌, ◌/◌, ◌%◌, ◌^◌, cond, ℤ, pos, negsuc, nat_lt}
use Rattle.std.proofs.Math.IntN.{sub_ℕ}

-- (signed) X: the integer that w bits stand for in two's complement, n itself or n − 2 ^ w
abbrev pub signed_bits : ℕ → ℕ → ℤ
signed_bits w n = cond (nat_lt n (2 ^ (w - 1))) (pos n) (sub_ℕ n (2 ^ w))

abbrev pub signed : ℕ → ℤ
signed a = signed_bits 32 a

-- (unsigned) X
abbrev pub unsigned : ℕ → ℤ
unsigned a = pos a

-- an integer modulo m: the one number of 0 .. m − 1 that differs from it by a multiple of m
abbrev pub modulo : ℤ → ℕ → ℕ
modulo (pos n) m = n % m
modulo (negsuc n) m = m - suc (n % m)

-- what a register keeps of an integer: its bits 31..0
abbrev pub word_of : ℤ → ℕ
word_of z = modulo z (2 ^ 32)

-- bits 63..32 of an integer
abbrev pub upper_of : ℤ → ℕ
upper_of z = modulo z (2 ^ 64) / 2 ^ 32
