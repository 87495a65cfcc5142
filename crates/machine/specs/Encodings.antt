-- Believed: demands 2 and 3 rest on it. Which records have an encoding: Intel's manual, volume 2, the opcode table of each instruction; volume 2A,
-- 2.2.1.3, "Displacement", and 2.2.1.5, "Immediates": both have at most four bytes, copied to eight by their sign, but for MOV r64, imm64. Accepted
-- lists can hold others: docs/DIFFERENCES.md.
use Rattle.std.specs.Prelude.{ℕ, ◌+◌, ◌/◌, ◌%◌, ◌^◌, Bool, true, false, cond, not, ◌&&◌, ◌||◌, ltb, leb, eqb}
use Rattle.x86.specs.declared.register.Register.{Register}
use Rattle.x86.specs.declared.mem_address.Base.{Base}
use Rattle.x86.specs.declared.enums.Size.{Size}
use Rattle.x86.specs.declared.enums.Operand.{Operand}
use Rattle.x86.specs.declared.enums.BinOp.{BinOp}
use Rattle.x86.specs.declared.enums.ComplexBinOp.{ComplexBinOp}
use Rattle.x86.specs.declared.enums.UnaryOp.{UnaryOp}
use Rattle.x86.specs.declared.enums.CtrlOp.{CtrlOp}
use Rattle.x86.specs.declared.enums.ExtendOp.{ExtendOp}
use Rattle.x86.specs.declared.enums.ConvOp.{ConvOp}
use Rattle.x86.specs.declared.enums.Instruction.{Instruction}
use Rattle.x86.specs.Registers.{number}
use Rattle.x86.specs.Records.{size_code}
use Rattle.machine.specs.Word.{W, bound}

-- no size means eight bytes (docs/FORMAT.md, "Records"); for a form that has one width only see `is_own`
abbrev pub bytes : Size → ℕ
bytes Size.NoSize = 8
bytes Size.U8 = 1
bytes Size.U16 = 2
bytes Size.U32 = 4
bytes Size.U64 = 8

-- n bytes, or no size: the width of a form that has only this one (docs/FORMAT.md, "Records")
abbrev pub is_own : ℕ → Size → Bool
is_own n z = eqb (size_code z) 0 || eqb (bytes z) n

abbrev pub is_general : Register → Bool
is_general r = ltb (number r) 16

abbrev pub is_xmm : Register → Bool
is_xmm r = leb 16 (number r) && ltb (number r) 32

-- ---- immediates and displacements (volume 2A, 2.2.1.5 and 2.2.1.3)

-- the pattern of a number from -2^31 to 2^31 - 1: four bytes whose sign is copied
abbrev pub is_near : ℕ → Bool
is_near v = ltb ((v + 2 ^ 31) % W) (2 ^ 32)

-- the pattern of a number that n bytes hold, signed or not
abbrev pub is_held : ℕ → ℕ → Bool
is_held n v = ltb ((v + bound n / 2) % W) (bound n + bound n / 2)

abbrev pub is_placed : Base → ℕ → Bool
is_placed Base.Rbp d = is_near d
is_placed Base.String k = true
is_placed Base.Float k = true
is_placed Base.Rsp d = is_near d

-- ---- operands

-- none at all
abbrev pub is_none : Operand → Bool
is_none Operand.NoOperand = true
is_none (Operand.Reg r) = false
is_none (Operand.Imm v) = false
is_none (Operand.Sym k) = false
is_none (Operand.Label l) = false
is_none (Operand.MemoryAddress a) = false

-- a function of the linker's
abbrev pub is_symbol : Operand → Bool
is_symbol Operand.NoOperand = false
is_symbol (Operand.Reg r) = false
is_symbol (Operand.Imm v) = false
is_symbol (Operand.Sym k) = true
is_symbol (Operand.Label l) = false
is_symbol (Operand.MemoryAddress a) = false

abbrev pub is_memory : Operand → Bool
is_memory Operand.NoOperand = false
is_memory (Operand.Reg r) = false
is_memory (Operand.Imm v) = false
is_memory (Operand.Sym k) = false
is_memory (Operand.Label l) = false
is_memory (Operand.MemoryAddress a) = is_placed a.base a.disp

abbrev pub is_general_operand : Operand → Bool
is_general_operand Operand.NoOperand = false
is_general_operand (Operand.Reg r) = is_general r
is_general_operand (Operand.Imm v) = false
is_general_operand (Operand.Sym k) = false
is_general_operand (Operand.Label l) = false
is_general_operand (Operand.MemoryAddress a) = false

abbrev pub is_xmm_operand : Operand → Bool
is_xmm_operand Operand.NoOperand = false
is_xmm_operand (Operand.Reg r) = is_xmm r
is_xmm_operand (Operand.Imm v) = false
is_xmm_operand (Operand.Sym k) = false
is_xmm_operand (Operand.Label l) = false
is_xmm_operand (Operand.MemoryAddress a) = false

abbrev pub is_label_operand : Operand → Bool
is_label_operand Operand.NoOperand = false
is_label_operand (Operand.Reg r) = false
is_label_operand (Operand.Imm v) = false
is_label_operand (Operand.Sym k) = false
is_label_operand (Operand.Label l) = true
is_label_operand (Operand.MemoryAddress a) = false

-- r/m: a general register or memory; xmm/m: an XMM register or memory
abbrev pub is_general_or_memory : Operand → Bool
is_general_or_memory x = is_general_operand x || is_memory x

abbrev pub is_xmm_or_memory : Operand → Bool
is_xmm_or_memory x = is_xmm_operand x || is_memory x

-- RCX, of which a shift takes CL
abbrev pub is_counter : Operand → Bool
is_counter Operand.NoOperand = false
is_counter (Operand.Reg r) = eqb (number r) 1
is_counter (Operand.Imm v) = false
is_counter (Operand.Sym k) = false
is_counter (Operand.Label l) = false
is_counter (Operand.MemoryAddress a) = false

-- ---- general-purpose forms

-- an immediate beside a dst of n bytes; `any` where eight bytes of it can be given
abbrev pub is_immediate : Bool → ℕ → Operand → Bool
is_immediate any n Operand.NoOperand = false
is_immediate any n (Operand.Reg r) = false
is_immediate any n (Operand.Imm v) = cond (eqb n 8) (any || is_near v) (is_held n v)
is_immediate any n (Operand.Sym k) = false
is_immediate any n (Operand.Label l) = false
is_immediate any n (Operand.MemoryAddress a) = false

abbrev pub is_sized : ℕ → Bool
is_sized n = eqb n 1 || (eqb n 2 || (eqb n 4 || eqb n 8))

abbrev pub is_four_or_eight : ℕ → Bool
is_four_or_eight n = eqb n 4 || eqb n 8

-- r, r/m or r/m, r or r/m, imm; only MOV r, imm has eight bytes of an immediate
abbrev pub is_general_form : Bool → Operand → Operand → Bool → ℕ → Bool
is_general_form is_mov d x is_register n =
    (is_register && is_general_or_memory x) || ((is_memory d && is_general_operand x) || (is_general_or_memory d && is_immediate (is_mov && is_register) n x))

-- XCHG, ADC, SBB, TEST, COMISD and COMISS are in Krc's enum, no list holds them, and the claims' machine does not have them
abbrev pub is_binary : BinOp → Operand → Operand → ℕ → Bool
is_binary BinOp.Mov d x n = is_sized n && is_general_form true d x (is_general_operand d) n
is_binary BinOp.Xchg d x n = false
is_binary BinOp.Add d x n = is_sized n && is_general_form false d x (is_general_operand d) n
is_binary BinOp.Sub d x n = is_sized n && is_general_form false d x (is_general_operand d) n
is_binary BinOp.Adc d x n = false
is_binary BinOp.Sbb d x n = false
is_binary BinOp.And d x n = is_sized n && is_general_form false d x (is_general_operand d) n
is_binary BinOp.Or d x n = is_sized n && is_general_form false d x (is_general_operand d) n
is_binary BinOp.Xor d x n = is_sized n && is_general_form false d x (is_general_operand d) n
is_binary BinOp.Cmp d x n = is_sized n && is_general_form false d x (is_general_operand d) n
is_binary BinOp.Test d x n = false
is_binary BinOp.LoadF d x n = is_four_or_eight n && (is_xmm_operand d && is_memory x)
is_binary BinOp.StoreF d x n = is_four_or_eight n && (is_memory d && is_xmm_operand x)
is_binary BinOp.AddF d x n = is_four_or_eight n && (is_xmm_operand d && is_xmm_or_memory x)
is_binary BinOp.SubF d x n = is_four_or_eight n && (is_xmm_operand d && is_xmm_or_memory x)
is_binary BinOp.MulF d x n = is_four_or_eight n && (is_xmm_operand d && is_xmm_or_memory x)
is_binary BinOp.DivF d x n = is_four_or_eight n && (is_xmm_operand d && is_xmm_or_memory x)
is_binary BinOp.ComiF d x n = false
is_binary BinOp.UcomiF d x n = is_four_or_eight n && (is_xmm_operand d && is_xmm_or_memory x)

-- DIV r/m and IDIV r/m have one operand, src; IMUL r, r/m has no byte form
abbrev pub is_complex : ComplexBinOp → Operand → Operand → ℕ → Bool
is_complex ComplexBinOp.Div d x n = is_sized n && (is_none d && is_general_or_memory x)
is_complex ComplexBinOp.Imul d x n = is_sized n && (not (eqb n 1) && (is_general_operand d && is_general_or_memory x))
is_complex ComplexBinOp.Idiv d x n = is_sized n && (is_none d && is_general_or_memory x)

-- CVTSI2SD, CVTSI2SS read r/m32 or r/m64, CVTTSD2SI, CVTTSS2SI write r32 or r64
abbrev pub is_conversion : ConvOp → Register → Operand → ℕ → Bool
is_conversion ConvOp.Cvtsd2ss r x n = is_xmm r && is_xmm_or_memory x
is_conversion ConvOp.Cvtsi2sd r x n = is_xmm r && (is_general_or_memory x && is_four_or_eight n)
is_conversion ConvOp.Cvtsi2ss r x n = is_xmm r && (is_general_or_memory x && is_four_or_eight n)
is_conversion ConvOp.Cvtss2sd r x n = is_xmm r && is_xmm_or_memory x
is_conversion ConvOp.Cvttsd2si r x n = is_general r && (is_xmm_or_memory x && is_four_or_eight n)
is_conversion ConvOp.Cvttss2si r x n = is_general r && (is_xmm_or_memory x && is_four_or_eight n)

-- MOVZX r64, r/m8 and MOVSXD r64, r/m32
abbrev pub is_extension : ExtendOp → Register → Operand → ℕ → ℕ → Bool
is_extension ExtendOp.Movsxd r x z n = is_general r && (is_general_or_memory x && (eqb z 4 && eqb n 8))
is_extension ExtendOp.Movzx r x z n = is_general r && (is_general_or_memory x && (eqb z 1 && eqb n 8))

-- CDQ and CQO have no operand, and a width of their own
abbrev pub is_unary : UnaryOp → Operand → Size → Bool
is_unary UnaryOp.Neg d z = is_sized (bytes z) && is_general_or_memory d
is_unary UnaryOp.Not d z = is_sized (bytes z) && is_general_or_memory d
is_unary UnaryOp.Cdq d z = is_none d && is_own 4 z
is_unary UnaryOp.Cqo d z = is_none d && is_own 8 z

-- JMP and Jcc to a label, CALL of a symbol, RET with no operand: the claims' machine does not have the manual's other forms of these, nor any list
abbrev pub is_control : CtrlOp → Operand → Bool
is_control CtrlOp.Jmp t = is_label_operand t
is_control CtrlOp.Call t = is_symbol t
is_control CtrlOp.Ret t = is_none t
is_control (CtrlOp.JmpCC cc) t = is_label_operand t

-- ---- all records

-- LEA r64, m; REP STOS stands for its byte form; PUSH and POP have eight bytes
unfoldable pub known : Instruction → Bool
known (Instruction.Binary op dst src size) = is_binary op dst src (bytes size)
known (Instruction.ComplexBinary op dst src size) = is_complex op dst src (bytes size)
known (Instruction.Convert op dst src size) = is_conversion op dst src (bytes size)
known (Instruction.Ctrl op target) = is_control op target
known (Instruction.Extend op dst src src_size size) = is_extension op dst src (bytes src_size) (bytes size)
known (Instruction.Lea src dst size) = is_general dst && (is_memory src && eqb (bytes size) 8)
known (Instruction.Label n) = true
known (Instruction.Prefix prefix op size) = eqb (bytes size) 1
known (Instruction.SetCC op dst) = is_general_or_memory dst
known (Instruction.Shift op dst src size) = is_sized (bytes size) && (is_general_or_memory dst && is_counter src)
known (Instruction.Stack op value size) = is_general_operand value && eqb (bytes size) 8
known (Instruction.Unary op dst size) = is_unary op dst size
