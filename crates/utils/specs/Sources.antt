-- Auxiliary: a load in two parts, its look-up and its record; `load_operand` is these two, by `sourced` (proofs/Sources).
use Rattle.std.specs.Prelude.{Bool, true, false, cond}
use Rattle.ir.specs.declared.Operand.{Operand as IrOp}
use Rattle.ir.specs.Types.{Result, ok, refused, ◌>>=◌, operand_size}
use Rattle.x86.specs.declared.register.Register.{Register}
use Rattle.x86.specs.declared.mem_address.Base.{Base}
use Rattle.x86.specs.declared.enums.Size.{Size}
use Rattle.x86.specs.declared.enums.Operand.{Operand}
use Rattle.x86.specs.declared.enums.Instruction.{Instruction}
use Rattle.x86.specs.Registers.{rip_string}
use Rattle.codegen.specs.Context.{Context, string_at, float_short}
use Rattle.codegen.specs.Utils.{convert_operand, load_from}

-- what an operand is loaded from: a string's address, or the operand
abbrev pub source_of : Context → IrOp → Result Operand
source_of ctx (IrOp.Var v) = convert_operand ctx (IrOp.Var v)
source_of ctx (IrOp.Int n short unsigned) = convert_operand ctx (IrOp.Int n short unsigned)
source_of ctx (IrOp.Float k) = convert_operand ctx (IrOp.Float k)
source_of ctx (IrOp.Bool b) = convert_operand ctx (IrOp.Bool b)
source_of ctx (IrOp.Address v) = convert_operand ctx (IrOp.Address v)
source_of ctx (IrOp.DataAddress k) = string_at ctx k >>= λ s. ok (rip_string s)
source_of ctx IrOp.Null = convert_operand ctx IrOp.Null

-- the size of a float constant by its look-up; one that is in no table has eight bytes, and no record is made of it
abbrev pub float_size_of : Result Bool → Size
float_size_of (ok short) = cond short Size.U32 Size.U64
float_size_of (refused n) = Size.U64

-- an operand's own size: codegen's `own_size` wherever the operand has a source, by `own_found` (proofs/Sources)
abbrev pub own_size_of : Context → IrOp → Size
own_size_of ctx (IrOp.Var v) = operand_size (IrOp.Var v)
own_size_of ctx (IrOp.Int n short unsigned) = operand_size (IrOp.Int n short unsigned)
own_size_of ctx (IrOp.Float k) = float_size_of (float_short ctx k)
own_size_of ctx (IrOp.Bool b) = operand_size (IrOp.Bool b)
own_size_of ctx (IrOp.Address v) = operand_size (IrOp.Address v)
own_size_of ctx (IrOp.DataAddress k) = operand_size (IrOp.DataAddress k)
own_size_of ctx IrOp.Null = operand_size IrOp.Null

abbrev pub is_string_base : Base → Bool
is_string_base Base.Rbp = false
is_string_base Base.String = true
is_string_base Base.Float = false
is_string_base Base.Rsp = false

abbrev pub is_string : Operand → Bool
is_string Operand.NoOperand = false
is_string (Operand.Reg r) = false
is_string (Operand.Imm n) = false
is_string (Operand.Sym n) = false
is_string (Operand.Label n) = false
is_string (Operand.MemoryAddress a) = is_string_base a.base

-- the record that brings a source into a register
abbrev pub load_of : Register → Operand → Size → Instruction
load_of reg src size = cond (is_string src) (Instruction.Lea src reg Size.NoSize) (load_from reg src size)
