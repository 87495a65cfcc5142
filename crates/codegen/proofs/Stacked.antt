-- Two lists with arguments and parameters on the stack, as M-112 has them: nine longs passed, three of them on the stack; six longs, a Bool and a
-- short received, the last two from the stack. And the order of refusals on a parameter in excess.
use Prim.Native.Nat.{ℕ}
use mathlib.Core.Path.{◌≡◌, refl}
use mathlib.Core.Bool.{false}
use mathlib.Core.List.{[], ◌∷◌}
use Rattle.ir.specs.declared.VarId.{VarId}
use Rattle.ir.specs.declared.Operand.{Operand as IrOp}
use Rattle.std.specs.Prelude.{Some}
use Rattle.ir.specs.Types.{ok, refused, no_array, type_size, is_float, element_width, bytes, operand_size, elf_size}
use Rattle.ir.specs.Function.{Tables}
use Rattle.x86.specs.declared.enums.Size.{Size}
use Rattle.x86.specs.declared.enums.Operand.{Operand}
use Rattle.x86.specs.declared.enums.BinOp.{BinOp}
use Rattle.x86.specs.declared.enums.CtrlOp.{CtrlOp}
use Rattle.x86.specs.declared.enums.StackOp.{StackOp}
use Rattle.x86.specs.declared.enums.ExtendOp.{ExtendOp}
use Rattle.x86.specs.declared.enums.Instruction.{Instruction}
use Rattle.x86.specs.Registers.{RAX, RCX, RDX, RSP, RBP, RSI, RDI, R8, R9, rbp_plus, rsp_plus}
use Rattle.cells.specs.Cells.{minus}
use Rattle.cells.specs.Refusals.{no_width}
use Rattle.codegen.specs.Context.{context_of, displacement}
use Rattle.codegen.specs.Utils.{size_from, var_size, convert_var, convert_operand, load_from, own_size, load_value, load_operand}
use Rattle.codegen.specs.Instructions.{move, excess, load_arguments, push_arguments, store_result, generate_call}
use Rattle.codegen.specs.Frame.{store_params, copy_params, func_prologue}

abbrev tables : Tables
tables = record { strings = 0; floats = 0; short = λ k. false }

abbrev constant : ℕ → IrOp
constant n = IrOp.Int n false false

-- a variable of a code
abbrev variable : ℕ → ℕ → VarId
variable id code = record { id = id; ty = record { code = code; count = no_array } }

abbrev slot : ℕ → Operand
slot n = rbp_plus (minus n)

nine_longs :
    generate_call (context_of tables (8 ∷ [])) (Some (variable 0 1)) 5
    (constant 1 ∷ constant 2 ∷ constant 3 ∷ constant 4 ∷ constant 5 ∷ constant 6 ∷ constant 7 ∷ IrOp.Var (variable 0 1) ∷ constant 9 ∷ [])
    ≡ ok
    (Instruction.Binary BinOp.Sub (Operand.Reg RSP) (Operand.Imm 32) Size.NoSize ∷ move (Operand.Reg RAX) (Operand.Imm 7) Size.U64
    ∷ move (rsp_plus 0) (Operand.Reg RAX) Size.U64 ∷ move (Operand.Reg RAX) (slot 8) Size.U64 ∷ move (rsp_plus 8) (Operand.Reg RAX) Size.U64
    ∷ move (Operand.Reg RAX) (Operand.Imm 9) Size.U64 ∷ move (rsp_plus 16) (Operand.Reg RAX) Size.U64 ∷ move (Operand.Reg RDI) (Operand.Imm 1) Size.U64
    ∷ move (Operand.Reg RSI) (Operand.Imm 2) Size.U64 ∷ move (Operand.Reg RDX) (Operand.Imm 3) Size.U64 ∷ move (Operand.Reg RCX) (Operand.Imm 4) Size.U64
    ∷ move (Operand.Reg R8) (Operand.Imm 5) Size.U64 ∷ move (Operand.Reg R9) (Operand.Imm 6) Size.U64 ∷ move (Operand.Reg RAX) (Operand.Imm 0) Size.NoSize
    ∷ Instruction.Ctrl CtrlOp.Call (Operand.Sym 5) ∷ Instruction.Binary BinOp.Add (Operand.Reg RSP) (Operand.Imm 32) Size.NoSize
    ∷ move (slot 8) (Operand.Reg RAX) Size.U64 ∷ [])
unfolding generate_call excess push_arguments load_arguments load_operand load_value convert_operand convert_var displacement operand_size store_result var_size type_size size_from is_float element_width bytes load_from elf_size own_size
nine_longs = refl

-- the seventh is a Bool, the eighth a short
eight_received :
    func_prologue (context_of tables (8 ∷ 16 ∷ 24 ∷ 32 ∷ 40 ∷ 48 ∷ 49 ∷ 53 ∷ [])) 64
    (variable 0 1 ∷ variable 1 1 ∷ variable 2 1 ∷ variable 3 1 ∷ variable 4 1 ∷ variable 5 1 ∷ variable 6 7 ∷ variable 7 3 ∷ [])
    ≡ ok
    (Instruction.Stack StackOp.Push (Operand.Reg RBP) Size.NoSize ∷ move (Operand.Reg RBP) (Operand.Reg RSP) Size.NoSize
    ∷ Instruction.Binary BinOp.Sub (Operand.Reg RSP) (Operand.Imm 64) Size.NoSize ∷ move (slot 8) (Operand.Reg RDI) Size.U64
    ∷ move (slot 16) (Operand.Reg RSI) Size.U64 ∷ move (slot 24) (Operand.Reg RDX) Size.U64 ∷ move (slot 32) (Operand.Reg RCX) Size.U64
    ∷ move (slot 40) (Operand.Reg R8) Size.U64 ∷ move (slot 48) (Operand.Reg R9) Size.U64
    ∷ Instruction.Extend ExtendOp.Movzx RAX (rbp_plus 16) Size.U8 Size.U64 ∷ move (slot 49) (Operand.Reg RAX) Size.U8
    ∷ move (Operand.Reg RAX) (rbp_plus 24) Size.U32 ∷ move (slot 53) (Operand.Reg RAX) Size.U32 ∷ [])
unfolding func_prologue excess store_params copy_params convert_var displacement var_size type_size size_from is_float element_width bytes load_from
eight_received = refl

-- on one parameter in excess 4 and 6 come before 5; on one in a register 5 does
no_width_first :
    func_prologue (context_of tables (8 ∷ [])) 16
    (variable 0 1 ∷ variable 0 1 ∷ variable 0 1 ∷ variable 0 1 ∷ variable 0 1 ∷ variable 0 1 ∷ variable 9 11 ∷ []) ≡ refused no_width
unfolding func_prologue excess store_params copy_params convert_var displacement var_size type_size size_from is_float element_width bytes load_from
no_width_first = refl
