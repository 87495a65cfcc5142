-- Believed: the eight cells of a record, and its 64 bytes (docs/FORMAT.md, "Records"). Codes are positions in Krc's enums (elf/instructions/enums.rs).
use Rattle.std.specs.Prelude.{ℕ, ◌+◌, ◌*◌, List, [], ◌∷◌, ◌++◌}
use Rattle.cells.specs.Cells.{bytes_of}
use Rattle.x86.specs.declared.mem_address.Base.{Base}
use Rattle.x86.specs.declared.enums.Size.{Size}
use Rattle.x86.specs.declared.enums.Operand.{Operand}
use Rattle.x86.specs.declared.enums.ConditionCode.{ConditionCode}
use Rattle.x86.specs.declared.enums.BinOp.{BinOp}
use Rattle.x86.specs.declared.enums.ShiftOp.{ShiftOp}
use Rattle.x86.specs.declared.enums.ComplexBinOp.{ComplexBinOp}
use Rattle.x86.specs.declared.enums.UnaryOp.{UnaryOp}
use Rattle.x86.specs.declared.enums.StackOp.{StackOp}
use Rattle.x86.specs.declared.enums.CtrlOp.{CtrlOp}
use Rattle.x86.specs.declared.enums.StringOp.{StringOp}
use Rattle.x86.specs.declared.enums.Prefix.{Prefix}
use Rattle.x86.specs.declared.enums.ExtendOp.{ExtendOp}
use Rattle.x86.specs.declared.enums.ConvOp.{ConvOp}
use Rattle.x86.specs.declared.enums.Instruction.{Instruction}
use Rattle.x86.specs.Registers.{number}

-- ---- sizes and operands

-- a size in bytes; no size is 0
abbrev pub size_code : Size → ℕ
size_code Size.NoSize = 0
size_code Size.U8 = 1
size_code Size.U16 = 2
size_code Size.U32 = 4
size_code Size.U64 = 8

-- 5 RBP plus value, 6 string, 7 float, 8 RSP plus value
abbrev pub base_tag : Base → ℕ
base_tag Base.Rbp = 5
base_tag Base.String = 6
base_tag Base.Float = 7
base_tag Base.Rsp = 8

-- 0 none, 1 register, 2 immediate, 3 symbol, 4 label
abbrev pub tag_of : Operand → ℕ
tag_of Operand.NoOperand = 0
tag_of (Operand.Reg r) = 1
tag_of (Operand.Imm n) = 2
tag_of (Operand.Sym n) = 3
tag_of (Operand.Label n) = 4
tag_of (Operand.MemoryAddress a) = base_tag a.base

abbrev pub value_of : Operand → ℕ
value_of Operand.NoOperand = 0
value_of (Operand.Reg r) = number r
value_of (Operand.Imm n) = n
value_of (Operand.Sym n) = n
value_of (Operand.Label n) = n
value_of (Operand.MemoryAddress a) = a.disp

-- ---- operations: positions in Krc's enums

abbrev pub condition_code : ConditionCode → ℕ
condition_code ConditionCode.E = 0
condition_code ConditionCode.NE = 1
condition_code ConditionCode.G = 2
condition_code ConditionCode.GE = 3
condition_code ConditionCode.L = 4
condition_code ConditionCode.LE = 5
condition_code ConditionCode.A = 6
condition_code ConditionCode.AE = 7
condition_code ConditionCode.B = 8
condition_code ConditionCode.BE = 9
condition_code ConditionCode.P = 14
condition_code ConditionCode.NP = 15

abbrev pub bin_code : BinOp → ℕ
bin_code BinOp.Mov = 0
bin_code BinOp.Xchg = 1
bin_code BinOp.Add = 2
bin_code BinOp.Sub = 3
bin_code BinOp.Adc = 4
bin_code BinOp.Sbb = 5
bin_code BinOp.And = 6
bin_code BinOp.Or = 7
bin_code BinOp.Xor = 8
bin_code BinOp.Cmp = 9
bin_code BinOp.Test = 10
bin_code BinOp.LoadF = 11
bin_code BinOp.StoreF = 12
bin_code BinOp.AddF = 13
bin_code BinOp.SubF = 14
bin_code BinOp.MulF = 15
bin_code BinOp.DivF = 16
bin_code BinOp.ComiF = 17
bin_code BinOp.UcomiF = 18

abbrev pub shift_code : ShiftOp → ℕ
shift_code ShiftOp.Shl = 0
shift_code ShiftOp.Shr = 1
shift_code ShiftOp.Sar = 2

abbrev pub complex_code : ComplexBinOp → ℕ
complex_code ComplexBinOp.Div = 3
complex_code ComplexBinOp.Imul = 4
complex_code ComplexBinOp.Idiv = 5

abbrev pub unary_code : UnaryOp → ℕ
unary_code UnaryOp.Neg = 0
unary_code UnaryOp.Not = 1
unary_code UnaryOp.Cdq = 5
unary_code UnaryOp.Cqo = 6

abbrev pub stack_code : StackOp → ℕ
stack_code StackOp.Push = 0
stack_code StackOp.Pop = 1

-- a code with an inner one is 16 times the outer plus the inner
abbrev pub ctrl_code : CtrlOp → ℕ
ctrl_code CtrlOp.Jmp = 0
ctrl_code CtrlOp.Call = 1
ctrl_code CtrlOp.Ret = 2
ctrl_code (CtrlOp.JmpCC cc) = 16 * 4 + condition_code cc

abbrev pub prefix_code : Prefix → ℕ
prefix_code Prefix.Rep = 1

abbrev pub string_code : StringOp → ℕ
string_code StringOp.Stos = 4

abbrev pub extend_code : ExtendOp → ℕ
extend_code ExtendOp.Movsxd = 1
extend_code ExtendOp.Movzx = 2

abbrev pub conv_code : ConvOp → ℕ
conv_code ConvOp.Cvtsd2ss = 1
conv_code ConvOp.Cvtsi2sd = 2
conv_code ConvOp.Cvtsi2ss = 3
conv_code ConvOp.Cvtss2sd = 4
conv_code ConvOp.Cvttsd2si = 6
conv_code ConvOp.Cvttss2si = 7

-- ---- records

-- eight cells
pub record Record : Type 0 where
  pub form : ℕ
  pub operation : ℕ
  pub dst_tag : ℕ
  pub dst : ℕ
  pub src_tag : ℕ
  pub src : ℕ
  pub size : ℕ
  pub src_size : ℕ

-- form, operation, dst tag, dst value, src tag, src value, size, source size
abbrev pub cells_record : ℕ → ℕ → ℕ → ℕ → ℕ → ℕ → ℕ → ℕ → Record
cells_record form operation dst_tag dst src_tag src size src_size =
    record { form = form; operation = operation; dst_tag = dst_tag; dst = dst; src_tag = src_tag; src = src; size = size; src_size = src_size }

abbrev pub record_with : ℕ → ℕ → Operand → Operand → Size → Size → Record
record_with form operation dst src size src_size =
    cells_record form operation (tag_of dst) (value_of dst) (tag_of src) (value_of src) (size_code size) (size_code src_size)

-- the form is the position in Krc's `Instruction`
unfoldable pub record_of : Instruction → Record
record_of (Instruction.Binary op dst src size) = record_with 0 (bin_code op) dst src size Size.NoSize
record_of (Instruction.ComplexBinary op dst src size) = record_with 4 (complex_code op) dst src size Size.NoSize
record_of (Instruction.Convert op dst src size) = record_with 5 (conv_code op) (Operand.Reg dst) src size Size.NoSize
record_of (Instruction.Ctrl op target) = record_with 6 (ctrl_code op) target Operand.NoOperand Size.NoSize Size.NoSize
record_of (Instruction.Extend op dst src src_size size) = record_with 7 (extend_code op) (Operand.Reg dst) src size src_size
record_of (Instruction.Lea src dst size) = record_with 8 0 (Operand.Reg dst) src size Size.NoSize
record_of (Instruction.Label n) = record_with 9 0 (Operand.Label n) Operand.NoOperand Size.NoSize Size.NoSize
record_of (Instruction.Prefix prefix op size) =
    record_with 11 (16 * prefix_code prefix + string_code op) Operand.NoOperand Operand.NoOperand size Size.NoSize
record_of (Instruction.SetCC op dst) = record_with 12 (condition_code op) dst Operand.NoOperand Size.NoSize Size.NoSize
record_of (Instruction.Shift op dst src size) = record_with 13 (shift_code op) dst src size Size.NoSize
record_of (Instruction.Stack op value size) = record_with 14 (stack_code op) value Operand.NoOperand size Size.NoSize
record_of (Instruction.Unary op dst size) = record_with 17 (unary_code op) dst Operand.NoOperand size Size.NoSize

unfoldable pub record_bytes : Record → List ℕ
record_bytes r =
    bytes_of r.form ++ bytes_of r.operation ++ bytes_of r.dst_tag ++ bytes_of r.dst ++ bytes_of r.src_tag
    ++ bytes_of r.src ++ bytes_of r.size ++ bytes_of r.src_size

-- the bytes of a list of instructions: their records one behind the other
unfoldable pub list_bytes : List Instruction → List ℕ
list_bytes [] = []
list_bytes (i ∷ is) = record_bytes (record_of i) ++ list_bytes is
