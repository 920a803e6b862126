-- A part of memory as a number: what is read from it, and what is put in its place. By the width, of which there are five.
-- Assumes nothing.
use mathlib.Core.Path.{◌≡◌, refl, sym, ◌∙◌}
use mathlib.Core.List.{List, [], ◌∷◌, ◌++◌}
use Prim.Native.Nat.{ℕ, zero, suc, ◌+◌, ◌≤◌}
use native.Mathlib.Nat.{div-div-eq-div-mul}
use native.Mathlib.Omega.{arith}
use borrow.Rule.Slice.PartMut.{put_mid}
use lib.ListN.{length, take, drop}
use lib.Seq.{drop-cons, sets, sets-eq}
use Rattle.std.proofs.Common.{append_assoc, rules}
use Rattle.std.proofs.lemmas.List.{drop-drop}
use Rattle.std.specs.Int.{w32, from_le_bytes, to_le_bytes}
use Rattle.trace.specs.Access.{number, put}

-- w bytes of m before zeros, as the number of four bytes
number_part : (m : List ℕ) (a w : ℕ) → w ≤ 4 → a + w ≤ length m
    → from_le_bytes w32 (take w (drop a m) ++ drop w (0 ∷ 0 ∷ 0 ∷ 0 ∷ [])) ≡ number m a w
number_part m a zero f h = refl
number_part m a (suc zero) f h = rw (drop-cons m a 0 (omega arith)) (omega arith)
number_part m a (suc (suc zero)) f h = rw (drop-cons m a 0 (omega arith), drop-cons m (suc a) 0 (omega arith)) (omega arith)
number_part m a (suc (suc (suc zero))) f h =
    rw (drop-cons m a 0 (omega arith), drop-cons m (suc a) 0 (omega arith), drop-cons m (suc (suc a)) 0 (omega arith)) (omega arith)
number_part m a (suc (suc (suc (suc zero)))) f h =
    rw (drop-cons m a 0 (omega arith), drop-cons m (suc a) 0 (omega arith), drop-cons m (suc (suc a)) 0 (omega arith), drop-cons m (suc (suc (suc a))) 0 (omega arith)) (omega arith)
number_part m a (suc (suc (suc (suc (suc w))))) f h = absurd (omega arith)

-- the same as a load meets it: the part is xs, its length k, and the number n
pub number_of : (m xs : List ℕ) (a k w n : ℕ) → n ≡ from_le_bytes w32 (xs ++ drop w (0 ∷ 0 ∷ 0 ∷ 0 ∷ [])) → xs ≡ take k (drop a m) → k ≡ w → w ≤ 4 → a + w ≤ length m → n ≡ number m a w
number_of m xs a k w n r e q f h = r ∙ rw (e, q) (number_part m a w f h)

-- bytes written at once are written one by one
at_once : (m ys : List ℕ) (a w : ℕ) → w ≡ length ys → a + w ≤ length m → put_mid a w m ys ≡ sets m a ys
at_once m ys a w e h = rw (drop-drop, e, ← append_assoc) (sym (sets-eq ys m a (omega arith)))

-- and so are the bytes of a number
one_by_one : (m : List ℕ) (a w v : ℕ) → w ≤ 4 → sets m a (take w (to_le_bytes w32 v)) ≡ put m a w v
one_by_one m a zero v f = refl
one_by_one m a (suc zero) v f = refl
one_by_one m a (suc (suc zero)) v f = refl
one_by_one m a (suc (suc (suc zero))) v f = simp div-div-eq-div-mul
one_by_one m a (suc (suc (suc (suc zero)))) v f = simp div-div-eq-div-mul
one_by_one m a (suc (suc (suc (suc (suc w))))) v f = absurd (omega arith)

-- the same as a store meets it: the part is ys, and its length k
pub put_part : (m ys : List ℕ) (a k w v : ℕ) → k ≡ w → ys ≡ take w (to_le_bytes w32 v) → w ≤ 4 → a + w ≤ length m → put_mid a k m ys ≡ put m a w v
put_part m ys a k w v q e f h = rw (q, e) (at_once m (take w (to_le_bytes w32 v)) a w (search rules) h ∙ one_by_one m a w v f)
