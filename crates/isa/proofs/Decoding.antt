-- Decoding and the paper's list of instructions: a word has a kind exactly where the list names it, and only one.
-- Assumes nothing.
use Rattle.std.proofs.Common.{◌≡◌, ◌≢◌, ◌↔◌, ℕ, Option, None, Some, inl, inr, refl, eqb, eq-eqb, ne_eqb}
use Rattle.std.specs.List.{IsDistinct}
use Rattle.std.specs.Map.{keys_of}
use Rattle.std.specs.Cmp.{nat_eq_equiv}
use Rattle.std.proofs.lemmas.Bool.{eqb-true}
use Rattle.std.proofs.lemmas.Bool.Decides.{eqb_tells}
use Rattle.std.proofs.lemmas.Map.Made.{IsDistinct-from_count}
use Rattle.std.proofs.lemmas.Map.Views.{Contains-from_lookup, lookup-from_Contains}
use Rattle.isa.specs.declared.Kind.{Kind}
use Rattle.isa.specs.Words.{op_list, opx_list, Named, list_of, number_of, kind_of, op_of, opx_of}

-- ---- in neither list does a number stand twice, each by one computed count

op_distinct : IsDistinct eqb (keys_of op_list)
unfolding op_list
op_distinct = IsDistinct-from_count nat_eq_equiv _ refl

opx_distinct : IsDistinct eqb (keys_of opx_list)
unfolding opx_list
opx_distinct = IsDistinct-from_count nat_eq_equiv _ refl

distinct : (w : ℕ) → IsDistinct eqb (keys_of (list_of w))
distinct w = elim (eqb_tells (op_of w) 0x3A) [ inl t ↦ rw t.0 opx_distinct | inr f ↦ rw f.0 op_distinct ]

-- ---- words

-- a word that the list names is decoded to that kind, and to no other
pub named : (w : ℕ) (k : Kind) → Named w k → kind_of w ≡ Some k
unfolding kind_of
named w k h = lookup-from_Contains nat_eq_equiv (number_of w) k (list_of w) (distinct w) h

-- a word is decoded to no kind but one that the list names for it
pub only_named : (w : ℕ) (k : Kind) → kind_of w ≡ Some k → Named w k
unfolding kind_of
only_named w k e = Contains-from_lookup eqb-true (number_of w) k (list_of w) e

pub one_kind : (w : ℕ) (j k : Kind) → Named w j → Named w k → j ≡ k
one_kind w j k g h = cc (named w j g, named w k h)

-- a word has no kind exactly where the list names none for it
pub outside : (w : ℕ) → (kind_of w ≡ None) ↔ ((k : Kind) → ¬ Named w k)
outside w = (λ e k h. cc (named w k h), from (kind_of w) refl)
  where
    from : (o : Option Kind) → kind_of w ≡ o → ((k : Kind) → ¬ Named w k) → o ≡ None
    from None e f = refl
    from (Some k) e f = absurd (f k (only_named w k e))

-- bits outside OP, and outside OPX where OP is 3A, never matter
pub op_alone : (v w : ℕ) → op_of v ≡ op_of w → op_of w ≢ 0x3A → kind_of v ≡ kind_of w
unfolding kind_of
op_alone v w e f = rw (e, ne_eqb (op_of w) 0x3A f)

pub opx_alone : (v w : ℕ) → op_of v ≡ 0x3A → op_of w ≡ 0x3A → opx_of v ≡ opx_of w → kind_of v ≡ kind_of w
unfolding kind_of
opx_alone v w d e f = rw (eq-eqb (op_of v) 0x3A d, eq-eqb (op_of w) 0x3A e, f)
