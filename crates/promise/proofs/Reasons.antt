-- An instruction that stops a run names its reason: never 0, which is "budget spent".
-- Assumes nothing.
use mathlib.Core.Logic.{◌≢◌}
use mathlib.Core.Bool.{Bool, true, false, not, cond}
use Prim.Native.Nat.{ℕ}
use native.Mathlib.Omega.{arith}
use lib.Dec.{ltb, eqb}
use Rattle.word.specs.Word.{less_signed_of, less_of, divu_of, div_of}
use Rattle.word.specs.declared.Undefined.{Undefined}
use Rattle.isa.specs.declared.Kind.{Kind}
use Rattle.isa.specs.declared.Kind.TheVariants.{Call, Ldbu, Addi, Stb, Br, Ldb, Cmpgei, Ldhu, Andi, Sth, Bge, Ldh, Cmplti, Ori}
use Rattle.isa.specs.declared.Kind.TheVariants.{Stw, Blt, Ldw, Cmpnei, Xori, Bne, Cmpeqi, Muli, Beq, Cmpgeui, Andhi, Bgeu, Cmpltui, Custom}
use Rattle.isa.specs.declared.Kind.TheVariants.{Initd, Orhi, Bltu, Flushd, Xorhi, Ldbuio, Stbio, Ldbio, Ldhuio, Sthio, Ldhio, Stwio, Ldwio, Eret}
use Rattle.isa.specs.declared.Kind.TheVariants.{Roli, Rol, Flushp, Ret, Nor, Mulxuu, Cmpge, Bret, Ror, Flushi, Jmp, And, Cmplt, Slli}
use Rattle.isa.specs.declared.Kind.TheVariants.{Sll, Or, Mulxsu, Cmpne, Srli, Srl, Nextpc, Callr, Xor, Mulxss, Cmpeq, Divu, Div, Rdctl}
use Rattle.isa.specs.declared.Kind.TheVariants.{Mul, Cmpgeu, Initi, Trap, Wrctl, Cmpltu, Add, Break, Sync, Sub, Srai, Sra}
use Rattle.isa.specs.declared.Fields.{Fields}
use Rattle.std.proofs.Common.{Option, Some, None, Result, Ok, Err}
use Rattle.state.specs.declared.Reason.TheVariants as reason
use Rattle.state.specs.State.{reason_number}
use Rattle.exec.specs.declared.Effect.{Effect}
use Rattle.exec.specs.declared.Effect.TheVariants as effect
use Rattle.exec.specs.Exec.{branch_of, with_unit, with_control, quotient_of, listed_of, exec_of}

abbrev pub Named : Effect → Type 0
Named (effect.Stop n) = reason_number n ≢ 0
Named effect.Next = Unit {0}
Named (effect.Put d v) = Unit {0}
Named (effect.Go t) = Unit {0}
Named (effect.Link t) = Unit {0}
Named (effect.Load d a w s) = Unit {0}
Named (effect.Store a v w) = Unit {0}
Named (effect.Read d n) = Unit {0}
Named (effect.Write n v) = Unit {0}
Named effect.Raise = Unit {0}
Named effect.Break = Unit {0}
Named effect.Eret = Unit {0}
Named effect.Bret = Unit {0}
Named effect.Ret = Unit {0}

branch_fair : (f : Fields) (pc : ℕ) (t : Bool) → Named (branch_of f pc t)
branch_fair f pc true = tt
branch_fair f pc false = tt

unit_fair : (t : Bool) (e : Effect) → Named e → Named (with_unit t e)
unit_fair true e x = x
unit_fair false e x = tt

quotient_fair : (d : ℕ) (q : Result ℕ Undefined) → Named (quotient_of d q)
quotient_fair d (Ok v) = tt
quotient_fair d (Err e) = λ z. omega arith

control_fair : (f : Fields) (e : Effect) → Named e → Named (with_control f e)
control_fair f e x = by (ltb f.imm5 6)
  where
    by : (t : Bool) → Named (cond t e (effect.Stop reason.Outside))
    by true = x
    by false = λ z. omega arith

listed_named : (k : Kind) (f : Fields) (a b pc : ℕ) (mul div : Bool) → Named (listed_of k f a b pc mul div)
listed_named Call f a b pc mul div = tt
listed_named Ldbu f a b pc mul div = tt
listed_named Addi f a b pc mul div = tt
listed_named Stb f a b pc mul div = tt
listed_named Br f a b pc mul div = branch_fair f pc true
listed_named Ldb f a b pc mul div = tt
listed_named Cmpgei f a b pc mul div = tt
listed_named Ldhu f a b pc mul div = tt
listed_named Andi f a b pc mul div = tt
listed_named Sth f a b pc mul div = tt
listed_named Bge f a b pc mul div = branch_fair f pc (not (less_signed_of a b))
listed_named Ldh f a b pc mul div = tt
listed_named Cmplti f a b pc mul div = tt
listed_named Ori f a b pc mul div = tt
listed_named Stw f a b pc mul div = tt
listed_named Blt f a b pc mul div = branch_fair f pc (less_signed_of a b)
listed_named Ldw f a b pc mul div = tt
listed_named Cmpnei f a b pc mul div = tt
listed_named Xori f a b pc mul div = tt
listed_named Bne f a b pc mul div = branch_fair f pc (not (eqb a b))
listed_named Cmpeqi f a b pc mul div = tt
listed_named Muli f a b pc mul div = unit_fair mul _ tt
listed_named Beq f a b pc mul div = branch_fair f pc (eqb a b)
listed_named Cmpgeui f a b pc mul div = tt
listed_named Andhi f a b pc mul div = tt
listed_named Bgeu f a b pc mul div = branch_fair f pc (not (less_of a b))
listed_named Cmpltui f a b pc mul div = tt
listed_named Custom f a b pc mul div = λ e. omega arith
listed_named Initd f a b pc mul div = tt
listed_named Orhi f a b pc mul div = tt
listed_named Bltu f a b pc mul div = branch_fair f pc (less_of a b)
listed_named Flushd f a b pc mul div = tt
listed_named Xorhi f a b pc mul div = tt
listed_named Ldbuio f a b pc mul div = tt
listed_named Stbio f a b pc mul div = tt
listed_named Ldbio f a b pc mul div = tt
listed_named Ldhuio f a b pc mul div = tt
listed_named Sthio f a b pc mul div = tt
listed_named Ldhio f a b pc mul div = tt
listed_named Stwio f a b pc mul div = tt
listed_named Ldwio f a b pc mul div = tt
listed_named Eret f a b pc mul div = tt
listed_named Roli f a b pc mul div = tt
listed_named Rol f a b pc mul div = tt
listed_named Flushp f a b pc mul div = tt
listed_named Ret f a b pc mul div = tt
listed_named Nor f a b pc mul div = tt
listed_named Mulxuu f a b pc mul div = unit_fair mul _ tt
listed_named Cmpge f a b pc mul div = tt
listed_named Bret f a b pc mul div = tt
listed_named Ror f a b pc mul div = tt
listed_named Flushi f a b pc mul div = tt
listed_named Jmp f a b pc mul div = tt
listed_named And f a b pc mul div = tt
listed_named Cmplt f a b pc mul div = tt
listed_named Slli f a b pc mul div = tt
listed_named Sll f a b pc mul div = tt
listed_named Or f a b pc mul div = tt
listed_named Mulxsu f a b pc mul div = unit_fair mul _ tt
listed_named Cmpne f a b pc mul div = tt
listed_named Srli f a b pc mul div = tt
listed_named Srl f a b pc mul div = tt
listed_named Nextpc f a b pc mul div = tt
listed_named Callr f a b pc mul div = tt
listed_named Xor f a b pc mul div = tt
listed_named Mulxss f a b pc mul div = unit_fair mul _ tt
listed_named Cmpeq f a b pc mul div = tt
listed_named Divu f a b pc mul div = unit_fair div _ (quotient_fair f.c (divu_of a b))
listed_named Div f a b pc mul div = unit_fair div _ (quotient_fair f.c (div_of a b))
listed_named Rdctl f a b pc mul div = control_fair f _ tt
listed_named Mul f a b pc mul div = unit_fair mul _ tt
listed_named Cmpgeu f a b pc mul div = tt
listed_named Initi f a b pc mul div = tt
listed_named Trap f a b pc mul div = tt
listed_named Wrctl f a b pc mul div = control_fair f _ tt
listed_named Cmpltu f a b pc mul div = tt
listed_named Add f a b pc mul div = tt
listed_named Break f a b pc mul div = tt
listed_named Sync f a b pc mul div = tt
listed_named Sub f a b pc mul div = tt
listed_named Srai f a b pc mul div = tt
listed_named Sra f a b pc mul div = tt

pub exec_named : (k : Option Kind) (f : Fields) (a b pc : ℕ) (mul div : Bool) → Named (exec_of k f a b pc mul div)
exec_named None f a b pc mul div = λ z. omega arith
exec_named (Some k) f a b pc mul div = listed_named k f a b pc mul div
