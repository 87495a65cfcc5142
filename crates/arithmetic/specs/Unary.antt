-- Auxiliary: what the look-ups of `generate_unary` find, and its records, made of that. codegen's `generate_unary` is these two, by `sign_looked` and
-- `unary_looked` (proofs/Looked).
use Rattle.std.specs.Prelude.{List, [], ◌∷◌, Bool, true, false, cond}
use Rattle.ir.specs.declared.«Type».{«Type» as IrType}
use Rattle.ir.specs.declared.VarId.{VarId}
use Rattle.ir.specs.declared.Operand.{Operand as IrOp}
use Rattle.ir.specs.declared.UnaryOp.{UnaryOp as IrUnary}
use Rattle.ir.specs.Types.{Result, ok, ◌>>=◌, is_float}
use Rattle.x86.specs.declared.enums.Size.{Size}
use Rattle.x86.specs.declared.enums.Operand.{Operand}
use Rattle.x86.specs.declared.enums.BinOp.{BinOp}
use Rattle.x86.specs.declared.enums.UnaryOp.{UnaryOp}
use Rattle.x86.specs.declared.enums.Instruction.{Instruction}
use Rattle.x86.specs.Registers.{RAX, RCX}
use Rattle.codegen.specs.Context.{Context}
use Rattle.codegen.specs.Utils.{var_size, convert_var}
use Rattle.codegen.specs.Instructions.{move}
use Rattle.codegen.specs.Arithmetic.{sign_bit}
use Rattle.utils.specs.Sources.{source_of, load_of}
use Rattle.arithmetic.specs.declared.Changed.{Changed}

-- the look-ups, in the Rust's order
abbrev pub look_unary : Context → VarId → IrOp → Result Changed
look_unary ctx dest src = do
  size ← var_size dest
  x ← source_of ctx src
  var ← convert_var ctx dest
  ok (record { src = x; dest = record { var = var; size = size } })

-- ---- which records

-- of the three operations it is the minus
abbrev pub is_negation : IrUnary → Bool
is_negation IrUnary.Neg = true
is_negation IrUnary.BitNot = false
is_negation IrUnary.Not = false

-- -x of a float flips its sign bit; else there is one record between the load and the store
abbrev pub flips_sign : IrUnary → IrType → Bool
flips_sign op ty = cond (is_negation op) (is_float ty) false

-- that record, on RAX
abbrev pub unary_record : IrUnary → Size → Instruction
unary_record IrUnary.Neg size = Instruction.Unary UnaryOp.Neg (Operand.Reg RAX) size
unary_record IrUnary.BitNot size = Instruction.Unary UnaryOp.Not (Operand.Reg RAX) size
unary_record IrUnary.Not size = Instruction.Binary BinOp.Xor (Operand.Reg RAX) (Operand.Imm 1) size

-- ---- the records

-- a load, one record, and the store
abbrev pub changed_of : Instruction → Changed → List Instruction
changed_of i t = load_of RAX t.src t.dest.size ∷ i ∷ move t.dest.var (Operand.Reg RAX) t.dest.size ∷ []

-- a load, the sign bit in RCX, the record that flips it, and the store
abbrev pub sign_of : Changed → List Instruction
sign_of t =
    load_of RAX t.src t.dest.size ∷ move (Operand.Reg RCX) (Operand.Imm (sign_bit t.dest.size)) t.dest.size
    ∷ Instruction.Binary BinOp.Xor (Operand.Reg RAX) (Operand.Reg RCX) t.dest.size ∷ move t.dest.var (Operand.Reg RAX) t.dest.size ∷ []
