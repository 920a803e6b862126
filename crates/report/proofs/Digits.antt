-- Digits: decimal as std prints it, and hexadecimal byte by byte.
-- Assumes nothing.
use Rattle.std.proofs.Common.{◌≡◌, ℕ, zero, suc, ◌+◌, ◌/◌, ◌%◌, ◌^◌, ◌<◌, ◌≤◌, List, [], ◌∷◌, ◌++◌, length, refl, ◌∙◌, pow-suc, arith, append_assoc, append-nil, length-append, le-ltb, lt-ltb, ne_eqb, false}
use mathlib.Core.Logic.{by_cases}
use native.Mathlib.Decide.{dec_lt}
use Rattle.std.specs.Fmt as std
use Rattle.std.specs.Fmt.{digits_onto, digits}
use Rattle.std.specs.List.{flat_map}
use Rattle.std.specs.Int.{w32, to_be_bytes}
use Rattle.report.specs.Lines.{digit, decimal_in, decimal, hex2, hex4, hex8}

-- ---- decimal

-- a number of one digit
module _ (n : ℕ) (h : n < 10) where
  one : (j : ℕ) → decimal_in j n ≡ digit n ∷ []
  unfolding decimal_in
  one zero = refl
  one (suc j) = rw (lt-ltb n 10 h)

  glyph : (k : ℕ) (acc : List ℕ) → digits_onto (suc k) 10 false n acc ≡ digit n ∷ acc
  glyph k acc =
      let q : n / 10 ≡ 0 = omega arith in
      let r : n % 10 ≡ n = omega arith in
      rw (q, r, lt-ltb n 10 h)

-- digits beyond the number's own change nothing
enough : (j k n : ℕ) → n ≤ j → n ≤ k → decimal_in j n ≡ decimal_in k n
unfolding decimal_in
enough zero zero n h g = refl
enough zero (suc k) n h g = rw (lt-ltb n 10 (omega arith))
enough (suc j) zero n h g = rw (lt-ltb n 10 (omega arith))
enough (suc j) (suc k) n h g = by_cases (dec_lt n 10)
    (λ s. rw (lt-ltb n 10 s))
    (λ s. rw (le-ltb n 10 (omega arith), enough j k (n / 10) (omega arith) (omega arith)))

-- the last of several digits, and those before it
onto : (k n : ℕ) (acc : List ℕ) → 10 ≤ n → digits_onto (suc k) 10 false n acc ≡ digits_onto k 10 false (n / 10) (digit (n % 10) ∷ acc)
onto k n acc h =
    let f : n / 10 ≡ 0 → ⊥ = omega arith in
    rw (ne_eqb (n / 10) 0 f, lt-ltb (n % 10) 10 (omega arith))

-- a number of at most suc k digits is printed as std prints it
same_in : (k j n : ℕ) (acc : List ℕ) → n < 10 ^ suc k → n ≤ j → digits_onto (suc k) 10 false n acc ≡ decimal_in j n ++ acc
unfolding decimal_in
same_in k zero n acc b l = glyph n (omega arith) k acc
same_in zero (suc j) n acc b l = glyph n (omega arith) zero acc ∙ rw (one n (omega arith) (suc j))
same_in (suc k) (suc j) n acc b l = by_cases (dec_lt n 10)
    (λ s. glyph n s (suc k) acc ∙ rw (one n s (suc j)))
    (λ s. onto (suc k) n acc (omega arith) ∙ same_in k j (n / 10) (digit (n % 10) ∷ acc) (omega (arith, pow-suc 10 (suc k))) (omega arith)
    ∙ rw (le-ltb n 10 (omega arith), append_assoc))

pub same_decimal : (n : ℕ) → n < 2 ^ 64 → std.decimal n ≡ decimal n
unfolding digits decimal
same_decimal n h = same_in 63 n n [] (omega arith) (omega arith) ∙ append-nil (decimal_in n n)

-- a number of one digit, and any other: the digits of a tenth of it, and the last
pub decimal_one : (n : ℕ) → n < 10 → decimal n ≡ digit (n % 10) ∷ []
unfolding decimal
decimal_one n h = let e : n % 10 ≡ n = omega arith in rw (e) (one n h n)

pub decimal_more : (n : ℕ) → 10 ≤ n → decimal n ≡ decimal (n / 10) ++ digit (n % 10) ∷ []
unfolding decimal decimal_in
decimal_more zero h = absurd (omega arith)
decimal_more (suc n) h = rw (le-ltb (suc n) 10 h, enough n (suc n / 10) (suc n / 10) (omega arith) (omega arith))

pub length_one : (n : ℕ) → n < 10 → length (decimal n) ≡ 1
length_one n h = rw (decimal_one n h)

pub length_more : (n : ℕ) → 10 ≤ n → length (decimal n) ≡ length (decimal (n / 10)) + 1
length_more n h = rw (decimal_more n h, length-append)

-- a number below 10 ^ suc k has at most suc k digits
fewer : (j k n : ℕ) → n < 10 ^ suc k → length (decimal_in j n) ≤ suc k
unfolding decimal_in
fewer zero k n h = omega arith
fewer (suc j) zero n h = rw (lt-ltb n 10 (omega arith)) (omega arith)
fewer (suc j) (suc k) n h = by_cases (dec_lt n 10)
    (λ s. rw (lt-ltb n 10 s) (omega arith))
    (λ s. rw (le-ltb n 10 (omega arith), length-append) (omega (arith, fewer j k (n / 10) (omega (arith, pow-suc 10 (suc k))))))

pub few : (k n : ℕ) → n < 10 ^ suc k → length (decimal n) ≤ suc k
unfolding decimal
few k n h = fewer n k n h

-- how many digits any number of a usize has, and one below 100
pub decimal_short : (n : ℕ) → n < 2 ^ 64 → length (decimal n) ≤ 20
decimal_short n h = few 19 n (omega arith)

pub decimal_two : (n : ℕ) → n < 100 → length (decimal n) ≤ 2
decimal_two n h = few 1 n (omega arith)

-- ---- hexadecimal

-- eight digits are two for each byte, the highest byte first
pub hex_bytes : (n : ℕ) → n < 2 ^ 32 → flat_map hex2 (to_be_bytes w32 n) ≡ hex8 n
unfolding hex8 hex4 hex2
hex_bytes n h =
    let a : n / 16777216 % 256 ≡ n / 65536 / 256 = omega arith in
    let b : n % 65536 / 256 ≡ n / 256 % 256 = omega arith in
    let c : n % 65536 % 256 ≡ n % 256 = omega arith in
    rw (a, b, c)

pub hex8_long : (n : ℕ) → length (hex8 n) ≡ 8
unfolding hex8 hex4 hex2
hex8_long n = refl
