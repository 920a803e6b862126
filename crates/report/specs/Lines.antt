-- The lines that the program prints, as lists of ASCII codes, and the count of set bits that the last of them shows.
-- Assumes nothing.
use Rattle.std.specs.Prelude.{ℕ, zero, suc, ◌+◌, ◌/◌, ◌%◌, ◌^◌, cond, List, [], ◌∷◌, ◌++◌, ◌==◌, nat_lt, slice_index}
use Rattle.report.specs.Texts as text
use Rattle.state.specs.declared.State.{State}

-- ---- numbers

-- a digit below 16: 0 to 9, then A to F
abbrev pub digit : ℕ → ℕ
digit d = cond (nat_lt d 10) (48 + d) (55 + d)

-- n in decimal, with at most k digits after its first
unfoldable pub decimal_in : ℕ → ℕ → List ℕ
decimal_in zero n = digit n ∷ []
decimal_in (suc k) n = cond (nat_lt n 10) (digit n ∷ []) (decimal_in k (n / 10) ++ digit (n % 10) ∷ [])

-- n in decimal, the most significant digit first. A number n has at most n digits after its first
unfoldable pub decimal : ℕ → List ℕ
decimal n = decimal_in n n

-- two, four and eight hexadecimal digits
unfoldable pub hex2 : ℕ → List ℕ
hex2 n = digit (n / 16) ∷ digit (n % 16) ∷ []

unfoldable pub hex4 : ℕ → List ℕ
hex4 n = hex2 (n / 2 ^ 8) ++ hex2 (n % 2 ^ 8)

unfoldable pub hex8 : ℕ → List ℕ
hex8 n = hex4 (n / 2 ^ 16) ++ hex4 (n % 2 ^ 16)

-- ---- lines

-- reason, steps, pc in hex
unfoldable pub stop_line : ℕ → ℕ → ℕ → List ℕ
stop_line reason steps pc = text.stop ++ decimal reason ++ text.steps ++ decimal steps ++ text.pc ++ hex8 pc ++ text.end

-- status, estatus, bstatus, then ienable in hex
unfoldable pub ctl_line : ℕ → ℕ → ℕ → ℕ → List ℕ
ctl_line status estatus bstatus ienable =
    text.ctl ++ decimal status ++ text.space ++ decimal estatus ++ text.space ++ decimal bstatus ++ text.space ++ hex8 ienable ++ text.end

-- register i that holds v: no line where v is 0
unfoldable pub register_line : ℕ → ℕ → List ℕ
register_line i v = cond (v == 0) [] (text.r ++ decimal i ++ text.space ++ hex8 v ++ text.end)

-- the lines of the registers below r n, rising
unfoldable pub register_lines : ℕ → List ℕ → List ℕ
register_lines zero r = []
register_lines (suc i) r = register_lines i r ++ register_line i (slice_index r i)

-- the set bits of the two maps
unfoldable pub maps_line : ℕ → ℕ → List ℕ
maps_line read written = text.read ++ decimal read ++ text.written ++ decimal written ++ text.end

-- what an accepted call prints
unfoldable pub lines_of : ℕ → ℕ → State → ℕ → ℕ → List ℕ
lines_of reason steps s read written =
    stop_line reason steps s.core.pc ++ ctl_line s.core.status s.core.estatus s.core.bstatus s.core.ienable
    ++ register_lines 32 s.regs.r ++ maps_line read written

-- what a call that is not accepted prints
unfoldable pub refused_of : ℕ → List ℕ
refused_of number = text.refused ++ decimal number ++ text.end

-- ---- set bits

-- the set bits among the lowest k of n: the lowest is n % 2, and n / 2 holds the others
unfoldable pub bits_in : ℕ → ℕ → ℕ
bits_in zero n = 0
bits_in (suc k) n = n % 2 + bits_in k (n / 2)

-- the set bits of a map, eight to a byte
unfoldable pub ones_of : List ℕ → ℕ
ones_of [] = 0
ones_of (b ∷ m) = bits_in 8 b + ones_of m
