-- Auxiliary: the records that an instruction's look-ups make. Codegen's definitions are the look-ups, in the Rust's order, and these: by `return_looked`, `copy_looked` and `branch_looked` (proofs/Looked) where they load, and else as they stand.
use Rattle.std.specs.Prelude.{ℕ, List, [], ◌∷◌, cond}
use Rattle.ir.specs.declared.«Type».{«Type» as IrType}
use Rattle.ir.specs.Types.{Result, ok, ◌>>=◌, is_float}
use Rattle.x86.specs.declared.register.Register.{Register}
use Rattle.x86.specs.declared.enums.Size.{Size}
use Rattle.x86.specs.declared.enums.Operand.{Operand}
use Rattle.x86.specs.declared.enums.BinOp.{BinOp}
use Rattle.x86.specs.declared.enums.ConditionCode.{ConditionCode}
use Rattle.x86.specs.declared.enums.CtrlOp.{CtrlOp}
use Rattle.x86.specs.declared.enums.StringOp.{StringOp}
use Rattle.x86.specs.declared.enums.Prefix.{Prefix}
use Rattle.x86.specs.declared.enums.Instruction.{Instruction}
use Rattle.x86.specs.Registers.{xmm, RAX, RCX, RDI}
use Rattle.codegen.specs.Context.{label_at}
use Rattle.codegen.specs.Instructions.{move, func_epilogue}
use Rattle.utils.specs.Sources.{load_of}

-- ---- return: its source alone is looked up

-- where the value comes back
abbrev pub return_register : IrType → Register
return_register ret = cond (is_float ret) (xmm 0) RAX

-- a load of the value, then the epilogue
abbrev pub return_of : Register → Operand → Size → List Instruction
return_of reg src size = load_of reg src size ∷ func_epilogue

-- ---- zero

-- so many bytes of a slot are zeroed
abbrev pub zero_of : ℕ → Operand → List Instruction
zero_of bytes var =
    Instruction.Lea var RDI Size.NoSize ∷ move (Operand.Reg RCX) (Operand.Imm bytes) Size.U64 ∷ move (Operand.Reg RAX) (Operand.Imm 0) Size.U64
    ∷ Instruction.Prefix Prefix.Rep StringOp.Stos Size.U8 ∷ []

-- ---- labels and jumps

-- a label is looked up, and one record is made
abbrev pub labelled : ℕ → ℕ → Instruction → Result (List Instruction)
labelled labels id i = label_at labels id >>= λ label. ok (i ∷ [])

-- a condition's source is compared with zero
abbrev pub branch_of : Operand → ℕ → List Instruction
branch_of src label =
    load_of RAX src Size.U8 ∷ Instruction.Binary BinOp.Cmp (Operand.Reg RAX) (Operand.Imm 0) Size.U8
    ∷ Instruction.Ctrl (CtrlOp.JmpCC ConditionCode.E) (Operand.Label label) ∷ []
