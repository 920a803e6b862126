-- Which table a word goes by, in the terms in which the code asks: OP is the word modulo 64, OPX six bits from bit 11 on.
-- Assumes nothing.
use Rattle.std.proofs.Common.{◌≡◌, ℕ, ◌/◌, ◌%◌, None, slice_index_or, arith, eq-eqb, ne_eqb}
use Rattle.isa.specs.declared.TheConstants.{OP, OPX}
use Rattle.isa.specs.Words.{op_of, op_kind, opx_kind, kind_of}
use Rattle.isa.proofs.Table.{op_table, opx_table, entry}

module _ (w : ℕ) where
  pub by_opx : w % 64 ≡ 0x3A → slice_index_or OPX.now (w / 0x800 % 64) None ≡ kind_of w
  unfolding kind_of opx_kind
  by_opx e = rw (eq-eqb (op_of w) 0x3A (omega arith)) (entry opx_kind OPX.now opx_table (w / 0x800 % 64) (omega arith))

  pub by_op : (w % 64 ≡ 0x3A → ⊥) → slice_index_or OP.now (w % 64) None ≡ kind_of w
  unfolding kind_of op_kind
  by_op f =
      let op : op_of w ≡ w % 64 = omega arith in
      rw (ne_eqb (op_of w) 0x3A (λ e. f (omega arith)), op) (entry op_kind OP.now op_table (w % 64) (omega arith))
