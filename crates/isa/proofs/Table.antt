-- The two tables hold the kinds of the list: each is compared whole, once, with the list's kinds, which antt computes.
-- Assumes nothing.
use Rattle.std.proofs.Common.{◌≡◌, ℕ, ◌<◌, List, Option, None, slice_index_or, map, refl, ap, ◌∙◌, arith}
use Rattle.std.specs.List.{range_with_len}
use Rattle.std.proofs.lemmas.List.FromFn.{get_or-map-range_with_len}
use Rattle.isa.specs.declared.Kind.{Kind}
use Rattle.isa.specs.declared.TheConstants.{OP, OPX}
use Rattle.isa.specs.Words.{op_list, opx_list, op_kind, opx_kind}

pub op_table : OP.now ≡ map op_kind (range_with_len 0 64)
unfolding op_kind op_list
op_table = refl

pub opx_table : OPX.now ≡ map opx_kind (range_with_len 0 64)
unfolding opx_kind opx_list
opx_table = refl

-- a table that holds a function's values gives the function's value at each of its places
pub entry : (f : ℕ → Option Kind) (table : List (Option Kind)) → table ≡ map f (range_with_len 0 64)
    → (n : ℕ) → n < 64 → slice_index_or table n None ≡ f n
entry f table same n h = ap (λ kinds. slice_index_or kinds n None) same ∙ get_or-map-range_with_len f 0 64 n n None h (omega arith)
