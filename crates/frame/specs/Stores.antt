-- Auxiliary: the parts of the prologue. `func_prologue` is `entering` and the stores behind it, by `in_parts` (proofs/Prologue); `store_params` is
-- `store_param` of each parameter, by `turn` (proofs/Stores), and `copy_params` is `copy_one` of each parameter in excess, by `copying` (proofs/Copies).
use Rattle.std.specs.Prelude.{ℕ, ◌+◌, ◌*◌, Bool, cond, List, [], ◌∷◌, length, get_or, ltb}
use Rattle.std.specs.Bool.{beq}
use Rattle.ir.specs.declared.VarId.{VarId}
use Rattle.ir.specs.Types.{Result, ok, ◌>>=◌, is_float}
use Rattle.ir.specs.Function.{vars_at}
use Rattle.x86.specs.declared.register.Register.{Register}
use Rattle.x86.specs.declared.enums.Size.{Size}
use Rattle.x86.specs.declared.enums.BinOp.{BinOp}
use Rattle.x86.specs.declared.enums.StackOp.{StackOp}
use Rattle.x86.specs.declared.enums.Operand.{Operand}
use Rattle.x86.specs.declared.enums.Instruction.{Instruction}
use Rattle.x86.specs.Registers.{RAX, RSP, RBP, rbp_plus}
use Rattle.codegen.specs.Context.{Context}
use Rattle.codegen.specs.Utils.{var_size, convert_var, load_from}
use Rattle.codegen.specs.Instructions.{move}
use Rattle.codegen.specs.Frame.{registers_of, store_of}
use Rattle.utils.specs.declared.slots.Slot.{Slot}
use Rattle.frame.specs.declared.parameters.Parameters.{Parameters}

-- the parameters that the code holds
abbrev pub params_of : Parameters → List VarId
params_of p = vars_at p.sheet.now p.count p.from

-- `push rbp ; mov rbp, rsp ; sub rsp, bytes`
abbrev pub entering : ℕ → List Instruction
entering bytes =
    Instruction.Stack StackOp.Push (Operand.Reg RBP) Size.NoSize ∷ move (Operand.Reg RBP) (Operand.Reg RSP) Size.NoSize
    ∷ Instruction.Binary BinOp.Sub (Operand.Reg RSP) (Operand.Imm bytes) Size.NoSize ∷ []

-- ---- a parameter's store

-- the record that is made of what utils' `look_slot` finds
abbrev pub param_of : BinOp → Register → Slot → Instruction
param_of op reg t = Instruction.Binary op t.var (Operand.Reg reg) t.size

-- from the register of rank k into the parameter's slot
unfoldable pub store_one : Context → Bool → ℕ → VarId → Result (List Instruction)
store_one ctx float k p =
    convert_var ctx p >>= λ var. var_size p >>= λ size. ok (Instruction.Binary (store_of float) var (Operand.Reg (get_or (registers_of float) k RAX)) size ∷ [])

-- no record for a parameter of the other kind, or where no register is left
unfoldable pub store_param : Context → Bool → ℕ → VarId → Result (List Instruction)
store_param ctx float k p =
    cond (beq (is_float p.ty) float) (cond (ltb k (length (registers_of float))) (store_one ctx float k p) (ok [])) (ok [])

-- ---- a parameter in excess

-- its size, then its slot
abbrev pub look_copied : Context → VarId → Result Slot
look_copied ctx p = do
  size ← var_size p
  var ← convert_var ctx p
  ok (record { var = var; size = size })

-- of number j: from RBP plus 16 plus 8j, through RAX
abbrev pub copied_of : ℕ → Slot → List Instruction
copied_of j t = load_from RAX (rbp_plus (16 + 8 * j)) t.size ∷ move t.var (Operand.Reg RAX) t.size ∷ []

-- the copy of a parameter in excess, of number j
unfoldable pub copy_one : Context → ℕ → VarId → Result (List Instruction)
copy_one ctx j p = var_size p >>= λ size. convert_var ctx p >>= λ var. ok (copied_of j (record { var = var; size = size }))
