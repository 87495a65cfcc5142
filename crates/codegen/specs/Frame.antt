-- Believed: offsets, frame and prologue (Krc's codegen/generation.rs: `var_offsets`, `func_prologue`).
use Rattle.std.specs.Prelude.{ℕ, suc, ◌+◌, ◌*◌, ◌/◌, List, [], ◌∷◌, ◌++◌, Bool, true, false, cond, ◌&&◌, not, length, get_or, ltb, eqb}
use Rattle.std.specs.Bool.{beq}
use Rattle.cells.specs.Refusals.{no_width}
use Rattle.ir.specs.declared.«Type».{«Type» as IrType}
use Rattle.ir.specs.declared.VarId.{VarId}
use Rattle.ir.specs.Types.{Result, ok, refused, ◌>>=◌, element_width, offset_behind, last_offset, is_float}
use Rattle.x86.specs.declared.register.Register.{Register}
use Rattle.x86.specs.declared.enums.Size.{Size}
use Rattle.x86.specs.declared.enums.Operand.{Operand}
use Rattle.x86.specs.declared.enums.BinOp.{BinOp}
use Rattle.x86.specs.declared.enums.StackOp.{StackOp}
use Rattle.x86.specs.declared.enums.Instruction.{Instruction}
use Rattle.x86.specs.Registers.{RAX, RSP, RBP, rbp_plus}
use Rattle.codegen.specs.Context.{Context}
use Rattle.codegen.specs.Utils.{var_size, convert_var, load_from}
use Rattle.codegen.specs.Instructions.{move, param_regs, param_fregs, excess}

-- ---- offsets

-- the offset of each variable, where those before them end at `end`
unfoldable pub offsets_from : ℕ → List IrType → List ℕ
offsets_from end [] = []
offsets_from end (t ∷ ts) = offset_behind end t ∷ offsets_from (offset_behind end t) ts

-- the last offset, which the frame goes by (M-110)
abbrev pub total : List IrType → ℕ
total vars = last_offset 0 vars

-- whether every variable has a width
unfoldable pub have_widths : List IrType → Bool
have_widths [] = true
have_widths (t ∷ ts) = not (eqb (element_width t.code) 0) && have_widths ts

unfoldable pub var_offsets : List IrType → Result (List ℕ)
var_offsets vars = cond (have_widths vars) (ok (offsets_from 0 vars)) (refused no_width)

-- ---- the prologue

-- the last offset rounded up to 16
abbrev pub frame : List IrType → ℕ
frame vars = (total vars + 15) / 16 * 16

-- the registers of the parameters that are floats, or of those that are not, and the record that stores one
abbrev pub registers_of : Bool → List Register
registers_of true = param_fregs
registers_of false = param_regs

abbrev pub store_of : Bool → BinOp
store_of true = BinOp.StoreF
store_of false = BinOp.Mov

-- the stores of the parameters that are floats, or of those that are not, the first of them of rank k; those beyond the registers are in excess
unfoldable pub store_params : Context → Bool → ℕ → List VarId → Result (List Instruction)
store_params ctx float k [] = ok []
store_params ctx float k (p ∷ ps) =
    cond (beq (is_float p.ty) float)
    (cond (ltb k (length (registers_of float)))
    (convert_var ctx p >>= λ var. var_size p >>= λ size. store_params ctx float (suc k) ps >>= λ rest.
    ok (Instruction.Binary (store_of float) var (Operand.Reg (get_or (registers_of float) k RAX)) size ∷ rest))
    (ok []))
    (store_params ctx float k ps)

-- the parameters in excess, the first of them of number j: each is copied from RBP plus 16 plus 8j through RAX into its slot (M-112)
unfoldable pub copy_params : Context → ℕ → List VarId → Result (List Instruction)
copy_params ctx j [] = ok []
copy_params ctx j (p ∷ ps) =
    var_size p >>= λ size. convert_var ctx p >>= λ var. copy_params ctx (suc j) ps >>= λ rest.
    ok (load_from RAX (rbp_plus (16 + 8 * j)) size ∷ move var (Operand.Reg RAX) size ∷ rest)

abbrev pub is_float_param : VarId → Bool
is_float_param p = is_float p.ty

-- `push rbp ; mov rbp, rsp ; sub rsp, frame`, then each parameter goes from its register, or from the caller's stack, into its slot
unfoldable pub func_prologue : Context → ℕ → List VarId → Result (List Instruction)
func_prologue ctx bytes params = do
  words ← store_params ctx false 0 params
  floats ← store_params ctx true 0 params
  copies ← copy_params ctx 0 (excess is_float_param 0 0 params)
  ok (Instruction.Stack StackOp.Push (Operand.Reg RBP) Size.NoSize ∷ move (Operand.Reg RBP) (Operand.Reg RSP) Size.NoSize
      ∷ Instruction.Binary BinOp.Sub (Operand.Reg RSP) (Operand.Imm bytes) Size.NoSize ∷ words ++ (floats ++ copies))
