-- Instruction words: their fields, the paper's list of instructions, and the kind that it gives a word.
-- Assumes nothing.
use Rattle.std.specs.Prelude.{cond, List, [], ◌∷◌, Contains, Option, ℕ, suc, ◌-◌, ◌/◌, ◌%◌, ◌^◌, eqb}
use Rattle.std.specs.Map.{lookup}
use Rattle.isa.specs.declared.Kind.{Kind}
use Rattle.isa.specs.declared.Fields.{Fields}
use Rattle.isa.specs.declared.Kind.TheVariants.{Call, Ldbu, Addi, Stb, Br, Ldb, Cmpgei, Ldhu, Andi, Sth, Bge, Ldh, Cmplti, Ori}
use Rattle.isa.specs.declared.Kind.TheVariants.{Stw, Blt, Ldw, Cmpnei, Xori, Bne, Cmpeqi, Muli, Beq, Cmpgeui, Andhi, Bgeu, Cmpltui, Custom}
use Rattle.isa.specs.declared.Kind.TheVariants.{Initd, Orhi, Bltu, Flushd, Xorhi, Ldbuio, Stbio, Ldbio, Ldhuio, Sthio, Ldhio, Stwio, Ldwio, Eret}
use Rattle.isa.specs.declared.Kind.TheVariants.{Roli, Rol, Flushp, Ret, Nor, Mulxuu, Cmpge, Bret, Ror, Flushi, Jmp, And, Cmplt, Slli}
use Rattle.isa.specs.declared.Kind.TheVariants.{Sll, Or, Mulxsu, Cmpne, Srli, Srl, Nextpc, Callr, Xor, Mulxss, Cmpeq, Divu, Div, Rdctl}
use Rattle.isa.specs.declared.Kind.TheVariants.{Mul, Cmpgeu, Initi, Trap, Wrctl, Cmpltu, Add, Break, Sync, Sub, Srai, Sra}

-- bits high..low of a word
abbrev pub bits : ℕ → ℕ → ℕ → ℕ
bits high low w = w / 2 ^ low % 2 ^ (suc high - low)

-- A = bits 31..27, B = 26..22, C = 21..17. I-type: immediate 21..6. R-type: OPX 16..11, small immediate 10..6. J-type: immediate 31..6
abbrev pub fields_of : ℕ → Fields
fields_of w =
    record {
      a = bits 31 27 w;
      b = bits 26 22 w;
      c = bits 21 17 w;
      imm16 = bits 21 6 w;
      opx = bits 16 11 w;
      imm5 = bits 10 6 w;
      imm26 = bits 31 6 w;
    }

-- OP is bits 5..0
abbrev pub op_of : ℕ → ℕ
op_of w = bits 5 0 w

abbrev pub opx_of : ℕ → ℕ
opx_of w = bits 16 11 w

-- ---- the list

unfoldable pub op_list : List (ℕ × Kind)
op_list =
    (0x00, Call) ∷ (0x03, Ldbu) ∷ (0x04, Addi) ∷ (0x05, Stb) ∷ (0x06, Br) ∷ (0x07, Ldb) ∷
    (0x08, Cmpgei) ∷ (0x0B, Ldhu) ∷ (0x0C, Andi) ∷ (0x0D, Sth) ∷ (0x0E, Bge) ∷ (0x0F, Ldh) ∷
    (0x10, Cmplti) ∷ (0x14, Ori) ∷ (0x15, Stw) ∷ (0x16, Blt) ∷ (0x17, Ldw) ∷ (0x18, Cmpnei) ∷
    (0x1C, Xori) ∷ (0x1E, Bne) ∷ (0x20, Cmpeqi) ∷ (0x24, Muli) ∷ (0x26, Beq) ∷ (0x28, Cmpgeui) ∷
    (0x2C, Andhi) ∷ (0x2E, Bgeu) ∷ (0x30, Cmpltui) ∷ (0x32, Custom) ∷ (0x33, Initd) ∷ (0x34, Orhi) ∷
    (0x36, Bltu) ∷ (0x3B, Flushd) ∷ (0x3C, Xorhi) ∷
    -- 3A, R-type, goes by OPX; these are the io forms of 03, 05, 07, 0B, 0D, 0F, 15, 17
    (0x23, Ldbuio) ∷ (0x25, Stbio) ∷ (0x27, Ldbio) ∷ (0x2B, Ldhuio) ∷ (0x2D, Sthio) ∷ (0x2F, Ldhio) ∷ (0x35, Stwio) ∷ (0x37, Ldwio) ∷
    []

unfoldable pub opx_list : List (ℕ × Kind)
opx_list =
    (0x01, Eret) ∷ (0x02, Roli) ∷ (0x03, Rol) ∷ (0x04, Flushp) ∷ (0x05, Ret) ∷ (0x06, Nor) ∷
    (0x07, Mulxuu) ∷ (0x08, Cmpge) ∷ (0x09, Bret) ∷ (0x0B, Ror) ∷ (0x0C, Flushi) ∷ (0x0D, Jmp) ∷
    (0x0E, And) ∷ (0x10, Cmplt) ∷ (0x12, Slli) ∷ (0x13, Sll) ∷ (0x16, Or) ∷ (0x17, Mulxsu) ∷
    (0x18, Cmpne) ∷ (0x1A, Srli) ∷ (0x1B, Srl) ∷ (0x1C, Nextpc) ∷ (0x1D, Callr) ∷ (0x1E, Xor) ∷
    (0x1F, Mulxss) ∷ (0x20, Cmpeq) ∷ (0x24, Divu) ∷ (0x25, Div) ∷ (0x26, Rdctl) ∷ (0x27, Mul) ∷
    (0x28, Cmpgeu) ∷ (0x29, Initi) ∷ (0x2D, Trap) ∷ (0x2E, Wrctl) ∷ (0x30, Cmpltu) ∷ (0x31, Add) ∷
    (0x34, Break) ∷ (0x36, Sync) ∷ (0x39, Sub) ∷ (0x3A, Srai) ∷ (0x3B, Sra) ∷
    []

-- only OP, and for 3A also OPX, choose the instruction: by which list, and by which number
abbrev pub list_of : ℕ → List (ℕ × Kind)
list_of w = cond (eqb (op_of w) 0x3A) opx_list op_list

abbrev pub number_of : ℕ → ℕ
number_of w = cond (eqb (op_of w) 0x3A) (opx_of w) (op_of w)

-- the list gives the word w this kind
abbrev pub Named : ℕ → Kind → Type 0
Named w k = Contains (list_of w) (number_of w, k)

-- ---- the same as a function

-- the kind beside a number in the list, and None where the number is not there
abbrev pub look : List (ℕ × Kind) → ℕ → Option Kind
look l n = lookup (eqb n) l

unfoldable pub kind_of : ℕ → Option Kind
kind_of w = look (list_of w) (number_of w)

-- the two tables hold these
unfoldable pub op_kind : ℕ → Option Kind
op_kind n = look op_list n

unfoldable pub opx_kind : ℕ → Option Kind
opx_kind n = look opx_list n
