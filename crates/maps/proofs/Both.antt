-- A `Marks` in which accesses are marked holds the slices that it held.
-- Assumes nothing.
use Rattle.std.proofs.Common.{◌≡◌, refl, ◌∙◌, List, ℕ, ◌≤◌, length, arith}
use Rattle.trace.specs.Access.{Access}
use Rattle.trace.proofs.Marks.{mark-lengths}
use Rattle.maps.specs.declared.Marks.{Marks}
use Rattle.maps.specs.Both.{maps_of, HasRoom, marked}

-- n holds the slices that m holds
pub record Kept (m n : Marks) : Type 0 where
  pub first : n.first.ghost_name ≡ m.first.ghost_name
  pub written : n.written.ghost_name ≡ m.written.ghost_name
  pub first_length : length n.first.now ≡ length m.first.now
  pub written_length : length n.written.now ≡ length m.written.now

pub kept_marked : (l : List Access) (m n : Marks) → n ≡ marked l m → Kept m n
kept_marked l m n e = rw (e) (record { first = refl; written = refl; first_length = (mark-lengths l (maps_of m)).read_first; written_length = (mark-lengths l (maps_of m)).written })

pub kept_on : (m n o : Marks) → Kept m n → Kept n o → Kept m o
kept_on m n o x y = record {
  first = y.first ∙ x.first;
  written = y.written ∙ x.written;
  first_length = y.first_length ∙ x.first_length;
  written_length = y.written_length ∙ x.written_length;
}

-- and has room for as many addresses
pub room_kept : (l : List Access) (m n : Marks) (a b : ℕ) → n ≡ marked l m → HasRoom m b → a ≤ b → HasRoom n a
room_kept l m n a b e r h =
    let k = kept_marked l m n e in
    record { of_first = omega (arith, r.of_first, k.first_length); of_written = omega (arith, r.of_written, k.written_length); small = omega (arith, r.small) }
