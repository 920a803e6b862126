-- What each instruction does, one line beside one page of the handbook's chapter 20. rA and rB are written a and b.
-- Assumes nothing.
use Rattle.std.specs.Prelude.{Bool, true, false, not, cond, Option, Some, None, Result, Ok, Err, ℕ, ◌+◌, ◌*◌, ◌/◌, ◌%◌, ◌^◌, eqb, ltb}
use Rattle.word.specs.Word.{add_of, sub_of, extend_of, high_of, less_signed_of, less_of, flag_of, mul_of, mulxuu_of, mulxss_of, mulxsu_of, divu_of, div_of}
use Rattle.word.specs.Word.{sll_of, srl_of, sra_of, rol_of, ror_of, and_of, or_of, xor_of, nor_of}
use Rattle.word.specs.declared.Undefined.{Undefined}
use Rattle.isa.specs.declared.Kind.{Kind}
use Rattle.isa.specs.declared.Kind.TheVariants.{Call, Ldbu, Addi, Stb, Br, Ldb, Cmpgei, Ldhu, Andi, Sth, Bge, Ldh, Cmplti, Ori}
use Rattle.isa.specs.declared.Kind.TheVariants.{Stw, Blt, Ldw, Cmpnei, Xori, Bne, Cmpeqi, Muli, Beq, Cmpgeui, Andhi, Bgeu, Cmpltui, Custom}
use Rattle.isa.specs.declared.Kind.TheVariants.{Initd, Orhi, Bltu, Flushd, Xorhi, Ldbuio, Stbio, Ldbio, Ldhuio, Sthio, Ldhio, Stwio, Ldwio, Eret}
use Rattle.isa.specs.declared.Kind.TheVariants.{Roli, Rol, Flushp, Ret, Nor, Mulxuu, Cmpge, Bret, Ror, Flushi, Jmp, And, Cmplt, Slli}
use Rattle.isa.specs.declared.Kind.TheVariants.{Sll, Or, Mulxsu, Cmpne, Srli, Srl, Nextpc, Callr, Xor, Mulxss, Cmpeq, Divu, Div, Rdctl}
use Rattle.isa.specs.declared.Kind.TheVariants.{Mul, Cmpgeu, Initi, Trap, Wrctl, Cmpltu, Add, Break, Sync, Sub, Srai, Sra}
use Rattle.isa.specs.declared.Fields.{Fields}
use Rattle.state.specs.declared.Reason.TheVariants as reason
use Rattle.exec.specs.declared.Width.{Width}
use Rattle.exec.specs.declared.Width.TheVariants.{Byte, Half, Word}
use Rattle.exec.specs.declared.Effect.{Effect}
use Rattle.exec.specs.declared.Effect.TheVariants as effect
use Rattle.exec.specs.declared.Effect.TheVariants.{Stop, Next, Put, Go, Link, Load, Store, Read, Write, Raise}

-- σ (IMM16)
abbrev pub signed_of : Fields → ℕ
signed_of f = extend_of 16 f.imm16

-- the top four bits of pc joined to immediate × 4
abbrev pub call_of : Fields → ℕ → ℕ
call_of f pc = pc / 2 ^ 28 * 2 ^ 28 + f.imm26 % 2 ^ 26 * 4

-- a branch goes to pc + 4 + immediate where it is taken
abbrev pub branch_of : Fields → ℕ → Bool → Effect
branch_of f pc taken = cond taken (Go (add_of (add_of pc 4) (signed_of f))) Next

-- the address is rA plus the signed immediate
abbrev pub load_of : Fields → ℕ → Width → Bool → Effect
load_of f a width sign = Load f.b (add_of a (signed_of f)) width sign

abbrev pub store_of : Fields → ℕ → ℕ → Width → Effect
store_of f a b width = Store (add_of a (signed_of f)) b width

-- without its unit, the unimplemented exception
abbrev pub with_unit : Bool → Effect → Effect
with_unit there e = cond there e Raise

-- control registers 6 to 31 give reason 12
abbrev pub with_control : Fields → Effect → Effect
with_control f e = cond (ltb f.imm5 6) e (Stop reason.Outside)

-- reason 14 for a quotient that there is not
abbrev pub quotient_of : ℕ → Result ℕ Undefined → Effect
quotient_of dest (Ok v) = Put dest v
quotient_of dest (Err e) = Stop reason.Quotient

-- a word of the list. mul and div: multiplier and divider present
abbrev pub listed_of : Kind → Fields → ℕ → ℕ → ℕ → Bool → Bool → Effect
listed_of Call f a b pc mul div = Link (call_of f pc)
listed_of Ldbu f a b pc mul div = load_of f a Byte false
listed_of Addi f a b pc mul div = Put f.b (add_of a (signed_of f))
listed_of Stb f a b pc mul div = store_of f a b Byte
listed_of Br f a b pc mul div = branch_of f pc true
listed_of Ldb f a b pc mul div = load_of f a Byte true
listed_of Cmpgei f a b pc mul div = Put f.b (flag_of (not (less_signed_of a (signed_of f))))
listed_of Ldhu f a b pc mul div = load_of f a Half false
listed_of Andi f a b pc mul div = Put f.b (and_of a f.imm16)
listed_of Sth f a b pc mul div = store_of f a b Half
listed_of Bge f a b pc mul div = branch_of f pc (not (less_signed_of a b))
listed_of Ldh f a b pc mul div = load_of f a Half true
listed_of Cmplti f a b pc mul div = Put f.b (flag_of (less_signed_of a (signed_of f)))
listed_of Ori f a b pc mul div = Put f.b (or_of a f.imm16)
listed_of Stw f a b pc mul div = store_of f a b Word
listed_of Blt f a b pc mul div = branch_of f pc (less_signed_of a b)
listed_of Ldw f a b pc mul div = load_of f a Word false
listed_of Cmpnei f a b pc mul div = Put f.b (flag_of (not (eqb a (signed_of f))))
listed_of Xori f a b pc mul div = Put f.b (xor_of a f.imm16)
listed_of Bne f a b pc mul div = branch_of f pc (not (eqb a b))
listed_of Cmpeqi f a b pc mul div = Put f.b (flag_of (eqb a (signed_of f)))
listed_of Muli f a b pc mul div = with_unit mul (Put f.b (mul_of a (signed_of f)))
listed_of Beq f a b pc mul div = branch_of f pc (eqb a b)
listed_of Cmpgeui f a b pc mul div = Put f.b (flag_of (not (less_of a f.imm16)))
listed_of Andhi f a b pc mul div = Put f.b (and_of a (high_of f.imm16))
listed_of Bgeu f a b pc mul div = branch_of f pc (not (less_of a b))
listed_of Cmpltui f a b pc mul div = Put f.b (flag_of (less_of a f.imm16))
listed_of Custom f a b pc mul div = Stop reason.Custom
listed_of Initd f a b pc mul div = Next
listed_of Orhi f a b pc mul div = Put f.b (or_of a (high_of f.imm16))
listed_of Bltu f a b pc mul div = branch_of f pc (less_of a b)
listed_of Flushd f a b pc mul div = Next
listed_of Xorhi f a b pc mul div = Put f.b (xor_of a (high_of f.imm16))
listed_of Ldbuio f a b pc mul div = load_of f a Byte false
listed_of Stbio f a b pc mul div = store_of f a b Byte
listed_of Ldbio f a b pc mul div = load_of f a Byte true
listed_of Ldhuio f a b pc mul div = load_of f a Half false
listed_of Sthio f a b pc mul div = store_of f a b Half
listed_of Ldhio f a b pc mul div = load_of f a Half true
listed_of Stwio f a b pc mul div = store_of f a b Word
listed_of Ldwio f a b pc mul div = load_of f a Word false
listed_of Eret f a b pc mul div = effect.Eret
listed_of Roli f a b pc mul div = Put f.c (rol_of a f.imm5)
listed_of Rol f a b pc mul div = Put f.c (rol_of a b)
listed_of Flushp f a b pc mul div = Next
listed_of Ret f a b pc mul div = effect.Ret
listed_of Nor f a b pc mul div = Put f.c (nor_of a b)
listed_of Mulxuu f a b pc mul div = with_unit mul (Put f.c (mulxuu_of a b))
listed_of Cmpge f a b pc mul div = Put f.c (flag_of (not (less_signed_of a b)))
listed_of Bret f a b pc mul div = effect.Bret
listed_of Ror f a b pc mul div = Put f.c (ror_of a b)
listed_of Flushi f a b pc mul div = Next
listed_of Jmp f a b pc mul div = Go a
listed_of And f a b pc mul div = Put f.c (and_of a b)
listed_of Cmplt f a b pc mul div = Put f.c (flag_of (less_signed_of a b))
listed_of Slli f a b pc mul div = Put f.c (sll_of a f.imm5)
listed_of Sll f a b pc mul div = Put f.c (sll_of a b)
listed_of Or f a b pc mul div = Put f.c (or_of a b)
listed_of Mulxsu f a b pc mul div = with_unit mul (Put f.c (mulxsu_of a b))
listed_of Cmpne f a b pc mul div = Put f.c (flag_of (not (eqb a b)))
listed_of Srli f a b pc mul div = Put f.c (srl_of a f.imm5)
listed_of Srl f a b pc mul div = Put f.c (srl_of a b)
listed_of Nextpc f a b pc mul div = Put f.c (add_of pc 4)
listed_of Callr f a b pc mul div = Link a
listed_of Xor f a b pc mul div = Put f.c (xor_of a b)
listed_of Mulxss f a b pc mul div = with_unit mul (Put f.c (mulxss_of a b))
listed_of Cmpeq f a b pc mul div = Put f.c (flag_of (eqb a b))
listed_of Divu f a b pc mul div = with_unit div (quotient_of f.c (divu_of a b))
listed_of Div f a b pc mul div = with_unit div (quotient_of f.c (div_of a b))
listed_of Rdctl f a b pc mul div = with_control f (Read f.c f.imm5)
listed_of Mul f a b pc mul div = with_unit mul (Put f.c (mul_of a b))
listed_of Cmpgeu f a b pc mul div = Put f.c (flag_of (not (less_of a b)))
listed_of Initi f a b pc mul div = Next
listed_of Trap f a b pc mul div = Raise
listed_of Wrctl f a b pc mul div = with_control f (Write f.imm5 a)
listed_of Cmpltu f a b pc mul div = Put f.c (flag_of (less_of a b))
listed_of Add f a b pc mul div = Put f.c (add_of a b)
listed_of Break f a b pc mul div = effect.Break
listed_of Sync f a b pc mul div = Next
listed_of Sub f a b pc mul div = Put f.c (sub_of a b)
listed_of Srai f a b pc mul div = Put f.c (sra_of a f.imm5)
listed_of Sra f a b pc mul div = Put f.c (sra_of a b)

-- a word outside the list has no kind, and gives reason 12
abbrev pub exec_of : Option Kind → Fields → ℕ → ℕ → ℕ → Bool → Bool → Effect
exec_of None f a b pc mul div = Stop reason.Outside
exec_of (Some k) f a b pc mul div = listed_of k f a b pc mul div
