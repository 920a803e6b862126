-- Document 01's example, line by line.
-- Assumes nothing.
use Rattle.std.proofs.Common.{◌≡◌, [], ◌∷◌, refl}
use Rattle.report.specs.Lines.{stop_line, ctl_line, register_line, maps_line, refused_of}
use Rattle.report.specs.Lines.{decimal, decimal_in, hex8, hex4, hex2}

-- "stop 12 steps 3 pc 0000000C"
stop : stop_line 12 3 12 ≡ 115 ∷ 116 ∷ 111 ∷ 112 ∷ 32 ∷ 49 ∷ 50 ∷ 32 ∷ 115 ∷ 116 ∷ 101 ∷ 112 ∷ 115 ∷ 32 ∷ 51 ∷ 32 ∷ 112 ∷ 99 ∷ 32 ∷ 48 ∷ 48 ∷ 48 ∷ 48 ∷ 48 ∷ 48 ∷ 48 ∷ 67 ∷ 10 ∷ []
unfolding stop_line decimal decimal_in hex8 hex4 hex2
stop = refl

-- "ctl 0 0 0 00000000"
ctl : ctl_line 0 0 0 0 ≡ 99 ∷ 116 ∷ 108 ∷ 32 ∷ 48 ∷ 32 ∷ 48 ∷ 32 ∷ 48 ∷ 32 ∷ 48 ∷ 48 ∷ 48 ∷ 48 ∷ 48 ∷ 48 ∷ 48 ∷ 48 ∷ 10 ∷ []
unfolding ctl_line decimal decimal_in hex8 hex4 hex2
ctl = refl

-- nothing for r1, which is 0
r1 : register_line 1 0 ≡ []
unfolding register_line
r1 = refl

-- "r3 FFFFFFF0"
r3 : register_line 3 0xffff_fff0 ≡ 114 ∷ 51 ∷ 32 ∷ 70 ∷ 70 ∷ 70 ∷ 70 ∷ 70 ∷ 70 ∷ 70 ∷ 48 ∷ 10 ∷ []
unfolding register_line decimal decimal_in hex8 hex4 hex2
r3 = refl

-- "read 16 written 1"
maps : maps_line 16 1 ≡ 114 ∷ 101 ∷ 97 ∷ 100 ∷ 32 ∷ 49 ∷ 54 ∷ 32 ∷ 119 ∷ 114 ∷ 105 ∷ 116 ∷ 116 ∷ 101 ∷ 110 ∷ 32 ∷ 49 ∷ 10 ∷ []
unfolding maps_line decimal decimal_in
maps = refl

-- "refused 1"
refused : refused_of 1 ≡ 114 ∷ 101 ∷ 102 ∷ 117 ∷ 115 ∷ 101 ∷ 100 ∷ 32 ∷ 49 ∷ 10 ∷ []
unfolding refused_of decimal decimal_in
refused = refl
