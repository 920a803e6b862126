-- Set bits: those of a byte among its eight, those of a list byte by byte, and that their count fits.
-- Assumes nothing.
use Rattle.std.proofs.Common.{◌≡◌, ℕ, zero, suc, ◌+◌, ◌*◌, ◌/◌, ◌%◌, ◌^◌, ◌<◌, ◌≤◌, List, [], ◌∷◌, ◌++◌, length, get_or, take, add_assoc, add-one, take-suc, mod-eq_of_lt, pow-suc, arith}
use native.Mathlib.Nat.{mod-add-mod}
use lib.Count.{ones, ones_step}
use Rattle.report.specs.Lines.{bits_in, ones_of}

-- a number of k bits has its set bits among its lowest k
bits_ones : (k n : ℕ) → n < 2 ^ k → ones n ≡ bits_in k n
unfolding bits_in ones
bits_ones zero n h = let e : n ≡ 0 = omega arith in rw e
bits_ones (suc k) n h = rw (ones_step n, bits_ones k (n / 2) (omega (arith, pow-suc 2 k)))

-- a byte more
ones_last : (s : List ℕ) (b : ℕ) → ones_of (s ++ b ∷ []) ≡ ones_of s + bits_in 8 b
unfolding ones_of
ones_last [] b = omega arith
ones_last (a ∷ s) b = rw (ones_last s b, add_assoc)

-- a byte more in a count that wraps
pub ones_more : (s : List ℕ) (i n : ℕ) → i < length s → get_or s i 0 < 2 ^ 8 → n ≡ ones_of (take i s) % 2 ^ 64 → (n + ones (get_or s i 0)) % 2 ^ 64 ≡ ones_of (take (i + 1) s) % 2 ^ 64
ones_more s i n t f e = rw (e, mod-add-mod, bits_ones 8 (get_or s i 0) f, add-one, take-suc s i 0 t, ones_last)

bits_few : (k n : ℕ) → bits_in k n ≤ k
unfolding bits_in
bits_few zero n = omega arith
bits_few (suc k) n = omega (arith, bits_few k (n / 2))

ones_few : (s : List ℕ) → ones_of s ≤ 8 * length s
unfolding ones_of
ones_few [] = omega arith
ones_few (b ∷ s) = omega (arith, bits_few 8 b, ones_few s)

-- the count of a map of less than 2 ^ 61 bytes is exact
pub ones_exact : (s : List ℕ) → length s < 2 ^ 61 → ones_of s % 2 ^ 64 ≡ ones_of s
ones_exact s h = mod-eq_of_lt (omega (arith, ones_few s))
