-- Believed: records read back: from eight cells to the instruction that has them, and from bytes to a list (docs/FORMAT.md, "Records").
use Rattle.std.specs.Prelude.{ℕ, zero, suc, ◌+◌, ◌-◌, ◌^◌, ◌<◌, List, [], ◌∷◌, map, Bool, cond, ◌&&◌, eqb, ltb}
use Rattle.std.proofs.Math.Option.{Option, none, some, get_or}
use Rattle.std.proofs.Math.ListN.{get_elem?}
use Rattle.cells.specs.Cells.{word}
use Rattle.x86.specs.declared.register.Register.{Register}
use Rattle.x86.specs.declared.enums.Size.{Size}
use Rattle.x86.specs.declared.enums.Operand.{Operand}
use Rattle.x86.specs.declared.enums.ConditionCode.{ConditionCode}
use Rattle.x86.specs.declared.enums.BinOp.{BinOp}
use Rattle.x86.specs.declared.enums.ShiftOp.{ShiftOp}
use Rattle.x86.specs.declared.enums.ComplexBinOp.{ComplexBinOp}
use Rattle.x86.specs.declared.enums.UnaryOp.{UnaryOp}
use Rattle.x86.specs.declared.enums.StackOp.{StackOp}
use Rattle.x86.specs.declared.enums.CtrlOp.{CtrlOp}
use Rattle.x86.specs.declared.enums.StringOp.{StringOp}
use Rattle.x86.specs.declared.enums.Prefix.{Prefix}
use Rattle.x86.specs.declared.enums.ExtendOp.{ExtendOp}
use Rattle.x86.specs.declared.enums.ConvOp.{ConvOp}
use Rattle.x86.specs.declared.enums.Instruction.{Instruction}
use Rattle.x86.specs.Registers.{gpr, rbp_plus, rsp_plus, rip_string, rip_float}
use Rattle.x86.specs.Records.{Record, condition_code, record_of}

infixl 20 ◌>>=◌
abbrev pub ◌>>=◌ : {A B : Type 0} → Option A → (A → Option B) → Option B
some a >>= f = f a
none >>= f = none

-- an entry of a table of codes: the code and what it stands for
abbrev pub look_up : {A : Type 0} → List (ℕ × A) → ℕ → Option A
look_up [] k = none
look_up (e ∷ es) k = cond (eqb e.0 k) (some e.1) (look_up es k)

abbrev pub sizes : List (ℕ × Size)
sizes = (0, Size.NoSize) ∷ (1, Size.U8) ∷ (2, Size.U16) ∷ (4, Size.U32) ∷ (8, Size.U64) ∷ []

-- the codes of conditions, each with its number: the numbers are `condition_code`'s alone
abbrev pub conditions : List (ℕ × ConditionCode)
conditions =
    map (λ (cc : ConditionCode). (condition_code cc, cc)) (ConditionCode.E ∷ ConditionCode.NE ∷ ConditionCode.G ∷ ConditionCode.GE ∷ ConditionCode.L
    ∷ ConditionCode.LE ∷ ConditionCode.A ∷ ConditionCode.AE ∷ ConditionCode.B ∷ ConditionCode.BE ∷ ConditionCode.P ∷ ConditionCode.NP ∷ [])

-- the way back from a number to its code; a number that no code has gives NP
abbrev pub condition_of : ℕ → ConditionCode
condition_of k = get_or (look_up conditions k) ConditionCode.NP

abbrev pub binaries : List (ℕ × BinOp)
binaries =
    (0, BinOp.Mov) ∷ (1, BinOp.Xchg) ∷ (2, BinOp.Add) ∷ (3, BinOp.Sub) ∷ (4, BinOp.Adc) ∷ (5, BinOp.Sbb) ∷ (6, BinOp.And)
    ∷ (7, BinOp.Or) ∷ (8, BinOp.Xor) ∷ (9, BinOp.Cmp) ∷ (10, BinOp.Test) ∷ (11, BinOp.LoadF) ∷ (12, BinOp.StoreF) ∷ (13, BinOp.AddF)
    ∷ (14, BinOp.SubF) ∷ (15, BinOp.MulF) ∷ (16, BinOp.DivF) ∷ (17, BinOp.ComiF) ∷ (18, BinOp.UcomiF) ∷ []

abbrev pub shifts : List (ℕ × ShiftOp)
shifts = (0, ShiftOp.Shl) ∷ (1, ShiftOp.Shr) ∷ (2, ShiftOp.Sar) ∷ []

abbrev pub complexes : List (ℕ × ComplexBinOp)
complexes = (3, ComplexBinOp.Div) ∷ (4, ComplexBinOp.Imul) ∷ (5, ComplexBinOp.Idiv) ∷ []

abbrev pub unaries : List (ℕ × UnaryOp)
unaries = (0, UnaryOp.Neg) ∷ (1, UnaryOp.Not) ∷ (5, UnaryOp.Cdq) ∷ (6, UnaryOp.Cqo) ∷ []

abbrev pub stacks : List (ℕ × StackOp)
stacks = (0, StackOp.Push) ∷ (1, StackOp.Pop) ∷ []

-- JmpCC is 4, so its codes are 64 and more
abbrev pub controls : List (ℕ × CtrlOp)
controls = (0, CtrlOp.Jmp) ∷ (1, CtrlOp.Call) ∷ (2, CtrlOp.Ret) ∷ []

abbrev pub extends : List (ℕ × ExtendOp)
extends = (1, ExtendOp.Movsxd) ∷ (2, ExtendOp.Movzx) ∷ []

abbrev pub conversions : List (ℕ × ConvOp)
conversions =
    (1, ConvOp.Cvtsd2ss) ∷ (2, ConvOp.Cvtsi2sd) ∷ (3, ConvOp.Cvtsi2ss) ∷ (4, ConvOp.Cvtss2sd) ∷ (6, ConvOp.Cvttsd2si) ∷ (7, ConvOp.Cvttss2si) ∷ []

-- a general register's number is below 16, an XMM register's below 32
abbrev pub register_at : ℕ → Option Register
register_at k = cond (ltb k 32) (some (gpr k)) none

-- by the tag, from 0: none, register, immediate, symbol, label, RBP plus value, string, float, RSP plus value
abbrev pub operand_of : ℕ → ℕ → Option Operand
operand_of tag v =
    get_elem? (some Operand.NoOperand ∷ (register_at v >>= λ r. some (Operand.Reg r)) ∷ some (Operand.Imm v) ∷ some (Operand.Sym v)
    ∷ some (Operand.Label v) ∷ some (rbp_plus v) ∷ some (rip_string v) ∷ some (rip_float v) ∷ some (rsp_plus v) ∷ []) tag >>= λ o. o

-- the operands and sizes of a record
abbrev pub dst_of : Record → Option Operand
dst_of r = operand_of r.dst_tag r.dst

abbrev pub src_of : Record → Option Operand
src_of r = operand_of r.src_tag r.src

abbrev pub size_of : Record → Option Size
size_of r = look_up sizes r.size

-- JmpCC with its condition, or another control operation
abbrev pub control_of : ℕ → Option CtrlOp
control_of k = cond (ltb k 64) (look_up controls k) (look_up conditions (k - 64) >>= λ cc. some (CtrlOp.JmpCC cc))

-- ---- an instruction from the cells of each form

abbrev pub as_binary : Record → Option Instruction
as_binary r = do
  op ← look_up binaries r.operation
  d ← dst_of r
  x ← src_of r
  n ← size_of r
  some (Instruction.Binary op d x n)

abbrev pub as_complex : Record → Option Instruction
as_complex r = do
  op ← look_up complexes r.operation
  d ← dst_of r
  x ← src_of r
  n ← size_of r
  some (Instruction.ComplexBinary op d x n)

abbrev pub as_convert : Record → Option Instruction
as_convert r = do
  op ← look_up conversions r.operation
  d ← register_at r.dst
  x ← src_of r
  n ← size_of r
  some (Instruction.Convert op d x n)

abbrev pub as_ctrl : Record → Option Instruction
as_ctrl r = do
  op ← control_of r.operation
  t ← dst_of r
  some (Instruction.Ctrl op t)

abbrev pub as_extend : Record → Option Instruction
as_extend r = do
  op ← look_up extends r.operation
  d ← register_at r.dst
  x ← src_of r
  z ← look_up sizes r.src_size
  n ← size_of r
  some (Instruction.Extend op d x z n)

abbrev pub as_lea : Record → Option Instruction
as_lea r = do
  d ← register_at r.dst
  x ← src_of r
  n ← size_of r
  some (Instruction.Lea x d n)

abbrev pub as_prefix : Record → Option Instruction
as_prefix r = do
  n ← size_of r
  some (Instruction.Prefix Prefix.Rep StringOp.Stos n)

abbrev pub as_set_cC : Record → Option Instruction
as_set_cC r = do
  op ← look_up conditions r.operation
  d ← dst_of r
  some (Instruction.SetCC op d)

abbrev pub as_shift : Record → Option Instruction
as_shift r = do
  op ← look_up shifts r.operation
  d ← dst_of r
  x ← src_of r
  n ← size_of r
  some (Instruction.Shift op d x n)

abbrev pub as_stack : Record → Option Instruction
as_stack r = do
  op ← look_up stacks r.operation
  d ← dst_of r
  n ← size_of r
  some (Instruction.Stack op d n)

abbrev pub as_unary : Record → Option Instruction
as_unary r = do
  op ← look_up unaries r.operation
  d ← dst_of r
  n ← size_of r
  some (Instruction.Unary op d n)

-- by the form's number, the position in Krc's `Instruction`
unfoldable pub candidate : Record → Option Instruction
candidate r =
    look_up ((0, as_binary) ∷ (4, as_complex) ∷ (5, as_convert) ∷ (6, as_ctrl) ∷ (7, as_extend) ∷ (8, as_lea) ∷ (9, λ r. some (Instruction.Label r.dst))
    ∷ (11, as_prefix) ∷ (12, as_set_cC) ∷ (13, as_shift) ∷ (14, as_stack) ∷ (17, as_unary) ∷ []) r.form >>= λ f. f r

-- whether two records have the same cells
abbrev pub same_cells : Record → Record → Bool
same_cells r q =
    eqb r.form q.form && (eqb r.operation q.operation && (eqb r.dst_tag q.dst_tag && (eqb r.dst q.dst
    && (eqb r.src_tag q.src_tag && (eqb r.src q.src && (eqb r.size q.size && eqb r.src_size q.src_size))))))

-- the instruction that has a record's cells, all eight of them
unfoldable pub decode : Record → Option Instruction
decode r = candidate r >>= λ i. cond (same_cells (record_of i) r) (some i) none

-- the record in the 64 bytes from `at`
abbrev pub record_at : List ℕ → ℕ → Record
record_at bs at =
    record {
      form = word bs at;
      operation = word bs (at + 8);
      dst_tag = word bs (at + 16);
      dst = word bs (at + 24);
      src_tag = word bs (at + 32);
      src = word bs (at + 40);
      size = word bs (at + 48);
      src_size = word bs (at + 56);
    }

-- the list of n records in the bytes from `at` on
unfoldable pub decode_list : List ℕ → ℕ → ℕ → Option (List Instruction)
decode_list bs zero at = some []
decode_list bs (suc n) at = do
  i ← decode (record_at bs at)
  is ← decode_list bs n (at + 64)
  some (i ∷ is)

-- ---- which instructions have a record: their registers exist and their numbers are below 2 ^ 64

abbrev pub FitsRegister : Register → Type 0
FitsRegister r = r.number < 32

abbrev pub FitsOperand : Operand → Type 0
FitsOperand Operand.NoOperand = Unit {0}
FitsOperand (Operand.Reg r) = FitsRegister r
FitsOperand (Operand.Imm v) = v < 2 ^ 64
FitsOperand (Operand.Sym k) = k < 2 ^ 64
FitsOperand (Operand.Label l) = l < 2 ^ 64
FitsOperand (Operand.MemoryAddress a) = a.disp < 2 ^ 64

abbrev pub Fits : Instruction → Type 0
Fits (Instruction.Binary op dst src size) = FitsOperand dst × FitsOperand src
Fits (Instruction.ComplexBinary op dst src size) = FitsOperand dst × FitsOperand src
Fits (Instruction.Convert op dst src size) = FitsRegister dst × FitsOperand src
Fits (Instruction.Ctrl op target) = FitsOperand target
Fits (Instruction.Extend op dst src src_size size) = FitsRegister dst × FitsOperand src
Fits (Instruction.Lea src dst size) = FitsRegister dst × FitsOperand src
Fits (Instruction.Label n) = n < 2 ^ 64
Fits (Instruction.Prefix prefix op size) = Unit {0}
Fits (Instruction.SetCC op dst) = FitsOperand dst
Fits (Instruction.Shift op dst src size) = FitsOperand dst × FitsOperand src
Fits (Instruction.Stack op value size) = FitsOperand value
Fits (Instruction.Unary op dst size) = FitsOperand dst

abbrev pub AllFit : List Instruction → Type 0
AllFit [] = Unit {0}
AllFit (i ∷ is) = Fits i × AllFit is
