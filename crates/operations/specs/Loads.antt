-- Auxiliary: what an operation's look-ups find, and its records, made of that. codegen's `simple_operation` and `float_operation`
-- are `one_load`; that and codegen's `two_loads` are these two, by `one_looked` and `two_looked` (proofs/Looked).
use Rattle.std.specs.Prelude.{ℕ, List, [], ◌∷◌, ◌++◌}
use Rattle.ir.specs.declared.VarId.{VarId}
use Rattle.ir.specs.declared.Operand.{Operand as IrOp}
use Rattle.ir.specs.Types.{Result, ok, ◌>>=◌}
use Rattle.x86.specs.declared.register.Register.{Register}
use Rattle.x86.specs.declared.enums.Size.{Size}
use Rattle.x86.specs.declared.enums.Operand.{Operand}
use Rattle.x86.specs.declared.enums.BinOp.{BinOp}
use Rattle.x86.specs.declared.enums.ComplexBinOp.{ComplexBinOp}
use Rattle.x86.specs.declared.enums.Instruction.{Instruction}
use Rattle.x86.specs.Registers.{RAX, RCX}
use Rattle.codegen.specs.Context.{Context}
use Rattle.codegen.specs.Utils.{var_size, convert_var, convert_operand, load_operand}
use Rattle.codegen.specs.Instructions.{move}
use Rattle.codegen.specs.Arithmetic.{dividing}
use Rattle.utils.specs.declared.slots.Sides.{Sides}
use Rattle.utils.specs.Sources.{source_of, load_of}
use Rattle.operations.specs.declared.Middle.{Middle}

-- codegen's `simple_operation` and `float_operation`, over the register and the store
abbrev pub one_load : Context → VarId → IrOp → IrOp → Register → BinOp → BinOp → Result (List Instruction)
one_load ctx dest left right reg op store = do
  size ← var_size dest
  load ← load_operand ctx reg left size
  src ← convert_operand ctx right
  var ← convert_var ctx dest
  ok (load ∷ Instruction.Binary op (Operand.Reg reg) src size ∷ Instruction.Binary store var (Operand.Reg reg) size ∷ [])

-- the look-ups, in the Rust's order, over right's
abbrev pub look_sides : Context → VarId → IrOp → Result Operand → Result Sides
look_sides ctx dest left right = do
  size ← var_size dest
  x ← source_of ctx left
  y ← right
  var ← convert_var ctx dest
  ok (record { left = x; right = y; dest = record { var = var; size = size } })

-- ---- records

-- a load, the operation with right, and the store
abbrev pub one_load_of : Register → BinOp → BinOp → Sides → List Instruction
one_load_of reg op store t =
    load_of reg t.left t.dest.size ∷ Instruction.Binary op (Operand.Reg reg) t.right t.dest.size ∷ Instruction.Binary store t.dest.var (Operand.Reg reg) t.dest.size ∷ []

-- what stands between two loads and the store
abbrev pub middle_of : Middle → Size → List Instruction
middle_of Middle.Multiply size = Instruction.ComplexBinary ComplexBinOp.Imul (Operand.Reg RAX) (Operand.Reg RCX) size ∷ []
middle_of (Middle.Shift op) size = Instruction.Shift op (Operand.Reg RAX) (Operand.Reg RCX) size ∷ []
middle_of (Middle.Divide unsigned) size = dividing unsigned size

-- how many records that is
abbrev pub middle_count : Middle → ℕ
middle_count Middle.Multiply = 1
middle_count (Middle.Shift op) = 1
middle_count (Middle.Divide unsigned) = 2

-- two loads, the records of the operation, and the store of a register
abbrev pub two_loads_of : (Size → List Instruction) → Register → Sides → List Instruction
two_loads_of operation result t =
    load_of RAX t.left t.dest.size ∷ load_of RCX t.right t.dest.size ∷ operation t.dest.size ++ move t.dest.var (Operand.Reg result) t.dest.size ∷ []
