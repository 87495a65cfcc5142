-- Records that the manual has, and ones that it does not have, by computation: operands that a form has not are turned away.
use mathlib.Core.Path.{◌≡◌, refl}
use mathlib.Core.Bool.{true, not}
use mathlib.Core.List.{List, [], ◌∷◌}
use Rattle.x86.specs.declared.enums.Size.{Size}
use Rattle.x86.specs.declared.enums.Operand.{Operand}
use Rattle.x86.specs.declared.enums.BinOp.{BinOp}
use Rattle.x86.specs.declared.enums.ComplexBinOp.{ComplexBinOp}
use Rattle.x86.specs.declared.enums.UnaryOp.{UnaryOp}
use Rattle.x86.specs.declared.enums.CtrlOp.{CtrlOp}
use Rattle.x86.specs.declared.enums.ConditionCode.{ConditionCode}
use Rattle.x86.specs.declared.enums.Instruction.{Instruction}
use Rattle.x86.specs.Registers.{RAX, RCX, RDI, rbp_plus}
use Rattle.machine.specs.Encodings.{known}
use Rattle.machine.specs.Plain.{every}

abbrev had : List Instruction
had =
    -- jmp, je, call, ret
    Instruction.Ctrl CtrlOp.Jmp (Operand.Label 0) ∷ Instruction.Ctrl (CtrlOp.JmpCC ConditionCode.E) (Operand.Label 0)
    ∷ Instruction.Ctrl CtrlOp.Call (Operand.Sym 0) ∷ Instruction.Ctrl CtrlOp.Ret Operand.NoOperand
    -- lea rdi, [rbp + 8]
    ∷ Instruction.Lea (rbp_plus 8) RDI Size.NoSize
    -- cdq and cqo, with their own width or none
    ∷ Instruction.Unary UnaryOp.Cdq Operand.NoOperand Size.U32 ∷ Instruction.Unary UnaryOp.Cdq Operand.NoOperand Size.NoSize
    ∷ Instruction.Unary UnaryOp.Cqo Operand.NoOperand Size.U64 ∷ Instruction.Unary UnaryOp.Cqo Operand.NoOperand Size.NoSize
    -- div ecx, idiv rcx
    ∷ Instruction.ComplexBinary ComplexBinOp.Div Operand.NoOperand (Operand.Reg RCX) Size.U32
    ∷ Instruction.ComplexBinary ComplexBinOp.Idiv Operand.NoOperand (Operand.Reg RCX) Size.U64 ∷ []

abbrev lacked : List Instruction
lacked =
    -- a jump to a symbol, a call of a register, which has a meaning that the claims' machine lacks, and ret 8, likewise
    Instruction.Ctrl CtrlOp.Jmp (Operand.Sym 0) ∷ Instruction.Ctrl (CtrlOp.JmpCC ConditionCode.E) Operand.NoOperand
    ∷ Instruction.Ctrl CtrlOp.Call (Operand.Reg RAX) ∷ Instruction.Ctrl CtrlOp.Call Operand.NoOperand ∷ Instruction.Ctrl CtrlOp.Ret (Operand.Imm 8)
    -- the address of a register
    ∷ Instruction.Lea (Operand.Reg RAX) RDI Size.NoSize
    -- cdq and cqo with an operand, or with each other's width
    ∷ Instruction.Unary UnaryOp.Cdq (Operand.Reg RAX) Size.U32 ∷ Instruction.Unary UnaryOp.Cdq Operand.NoOperand Size.U64
    ∷ Instruction.Unary UnaryOp.Cqo (Operand.Reg RAX) Size.U64 ∷ Instruction.Unary UnaryOp.Cqo Operand.NoOperand Size.U32
    -- a division with two operands
    ∷ Instruction.ComplexBinary ComplexBinOp.Div (Operand.Reg RAX) (Operand.Reg RCX) Size.U32
    ∷ Instruction.ComplexBinary ComplexBinOp.Idiv (Operand.Reg RAX) (Operand.Reg RCX) Size.U64
    -- operations that no list holds
    ∷ Instruction.Binary BinOp.Xchg (Operand.Reg RAX) (Operand.Reg RCX) Size.U64 ∷ []

pub forms : (every known had ≡ true) × (every (λ i. not (known i)) lacked ≡ true)
unfolding every known
forms = (refl, refl)
