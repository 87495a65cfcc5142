-- Believed: Krc's codegen/utils.rs, with `convert_operand` of instructions.rs, in the Rust's order of evaluation.
use Rattle.std.specs.Prelude.{ℕ, Bool, true, false, cond, eqb}
use Rattle.cells.specs.Refusals.{odd_width, no_lowering}
use Rattle.ir.specs.declared.VarId.{VarId}
use Rattle.ir.specs.declared.Operand.{Operand as IrOp}
use Rattle.ir.specs.Types.{Result, ok, refused, ◌>>=◌, type_size, operand_size}
use Rattle.x86.specs.declared.register.Register.{Register}
use Rattle.x86.specs.declared.enums.Size.{Size}
use Rattle.x86.specs.declared.enums.Operand.{Operand}
use Rattle.x86.specs.declared.enums.BinOp.{BinOp}
use Rattle.x86.specs.declared.enums.ExtendOp.{ExtendOp}
use Rattle.x86.specs.declared.enums.Instruction.{Instruction}
use Rattle.x86.specs.Registers.{is_xmm, rbp_plus, rip_string, rip_float}
use Rattle.codegen.specs.Context.{Context, displacement, string_at, float_at}

-- `Size::from`: refusal 6 on other than 1, 2, 4, 8
unfoldable pub size_from : ℕ → Result Size
size_from n = cond (eqb n 1) (ok Size.U8) (cond (eqb n 2) (ok Size.U16) (cond (eqb n 4) (ok Size.U32) (cond (eqb n 8) (ok Size.U64) (refused odd_width))))

-- the size of a move that touches a variable
unfoldable pub var_size : VarId → Result Size
var_size v = type_size v.ty >>= size_from

-- `convert_operand` of a variable: its slot
unfoldable pub convert_var : Context → VarId → Result Operand
convert_var ctx v = displacement ctx v.id >>= λ d. ok (rbp_plus d)

-- a float has no immediate form; a string and an Address have no operand at all
unfoldable pub convert_operand : Context → IrOp → Result Operand
convert_operand ctx (IrOp.Var v) = convert_var ctx v
convert_operand ctx (IrOp.Int n short unsigned) = ok (Operand.Imm n)
convert_operand ctx (IrOp.Float k) = float_at ctx k >>= λ f. ok (rip_float f)
convert_operand ctx (IrOp.Bool b) = ok (Operand.Imm (cond b 1 0))
convert_operand ctx (IrOp.Address v) = refused no_lowering
convert_operand ctx (IrOp.DataAddress k) = refused no_lowering
convert_operand ctx IrOp.Null = ok (Operand.Imm 0)

-- `Option::or`
abbrev pub size_or : Size → Size → Size
size_or Size.NoSize b = b
size_or Size.U8 b = Size.U8
size_or Size.U16 b = Size.U16
size_or Size.U32 b = Size.U32
size_or Size.U64 b = Size.U64

abbrev pub is_one_byte : Size → Bool
is_one_byte Size.NoSize = false
is_one_byte Size.U8 = true
is_one_byte Size.U16 = false
is_one_byte Size.U32 = false
is_one_byte Size.U64 = false

abbrev pub is_constant : Operand → Bool
is_constant Operand.NoOperand = false
is_constant (Operand.Reg r) = false
is_constant (Operand.Imm n) = true
is_constant (Operand.Sym n) = false
is_constant (Operand.Label n) = false
is_constant (Operand.MemoryAddress a) = false

-- an XMM register is loaded by LoadF; one byte by Movzx, or by a four-byte Mov of a constant; the rest by Mov
unfoldable pub load_from : Register → Operand → Size → Instruction
load_from reg src size =
    cond (is_xmm reg) (Instruction.Binary BinOp.LoadF (Operand.Reg reg) src size)
    (cond (is_one_byte size)
    (cond (is_constant src)
    (Instruction.Binary BinOp.Mov (Operand.Reg reg) src Size.U32)
    (Instruction.Extend ExtendOp.Movzx reg src Size.U8 Size.U64))
    (Instruction.Binary BinOp.Mov (Operand.Reg reg) src size))

-- a string is an address, computed by Lea
unfoldable pub load_string : Context → Register → ℕ → Result Instruction
load_string ctx reg k = string_at ctx k >>= λ s. ok (Instruction.Lea (rip_string s) reg Size.NoSize)

-- an operand's own size: a float constant has that of its table's entry (M-102), any other that of `Operand::size`
unfoldable pub own_size : Context → IrOp → Size
own_size ctx (IrOp.Var v) = operand_size (IrOp.Var v)
own_size ctx (IrOp.Int n short unsigned) = operand_size (IrOp.Int n short unsigned)
own_size ctx (IrOp.Float k) = cond (ctx.tables.short k) Size.U32 Size.U64
own_size ctx (IrOp.Bool b) = operand_size (IrOp.Bool b)
own_size ctx (IrOp.Address v) = operand_size (IrOp.Address v)
own_size ctx (IrOp.DataAddress k) = operand_size (IrOp.DataAddress k)
own_size ctx IrOp.Null = operand_size IrOp.Null

-- any other operand; the size is the operand's own where none is given
unfoldable pub load_value : Context → Register → IrOp → Size → Result Instruction
load_value ctx reg op size = convert_operand ctx op >>= λ src. ok (load_from reg src (size_or size (own_size ctx op)))

unfoldable pub load_operand : Context → Register → IrOp → Size → Result Instruction
load_operand ctx reg (IrOp.Var v) size = load_value ctx reg (IrOp.Var v) size
load_operand ctx reg (IrOp.Int n short unsigned) size = load_value ctx reg (IrOp.Int n short unsigned) size
load_operand ctx reg (IrOp.Float k) size = load_value ctx reg (IrOp.Float k) size
load_operand ctx reg (IrOp.Bool b) size = load_value ctx reg (IrOp.Bool b) size
load_operand ctx reg (IrOp.Address v) size = load_value ctx reg (IrOp.Address v) size
load_operand ctx reg (IrOp.DataAddress k) size = load_string ctx reg k
load_operand ctx reg IrOp.Null size = load_value ctx reg IrOp.Null size
