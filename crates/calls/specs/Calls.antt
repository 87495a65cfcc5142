-- Auxiliary: the parts of a call, one behind the other. `generate_call` is `stack_arguments`, `load_arguments` and `call_symbol`, by `in_parts`
-- (proofs/Calling), and `push_arguments` is `push_one` of each argument in excess, by `pushing` (proofs/Pushes).
use Rattle.std.specs.Prelude.{ℕ, ◌*◌, Bool, cond, List, [], ◌∷◌, length, Option}
use Rattle.ir.specs.declared.VarId.{VarId}
use Rattle.ir.specs.declared.Operand.{Operand as IrOp}
use Rattle.ir.specs.Types.{Result, ok}
use Rattle.ir.specs.Function.{operands_at}
use Rattle.x86.specs.declared.enums.Size.{Size}
use Rattle.x86.specs.declared.enums.BinOp.{BinOp}
use Rattle.x86.specs.declared.enums.CtrlOp.{CtrlOp}
use Rattle.x86.specs.declared.enums.Operand.{Operand}
use Rattle.x86.specs.declared.enums.Instruction.{Instruction}
use Rattle.x86.specs.Registers.{xmm, RAX, rsp_plus}
use Rattle.codegen.specs.Context.{Context}
use Rattle.codegen.specs.Utils.{load_operand}
use Rattle.codegen.specs.Instructions.{move, floating, excess, push_arguments, move_stack, store_result}
use Rattle.utils.specs.declared.slots.Slot.{Slot}
use Rattle.utils.specs.Makes.{alone, then}
use Rattle.calls.specs.declared.arguments.Arguments.{Arguments}

-- the arguments that the code holds
abbrev pub args_of : Arguments → List IrOp
args_of a = operands_at a.sheet.now a.count a.from

-- ---- the stack

-- the store of RAX at RSP plus 8j
abbrev pub push_of : ℕ → Instruction
push_of j = move (rsp_plus (8 * j)) (Operand.Reg RAX) Size.U64

-- an argument in excess, of number j: its load, and that store
unfoldable pub push_one : Context → ℕ → IrOp → Result (List Instruction)
push_one ctx j x = then (alone (load_operand ctx RAX x Size.NoSize)) (ok (push_of j ∷ []))

-- RSP lowered, and the arguments in excess in its area
unfoldable pub stack_arguments : Context → List IrOp → Result (List Instruction)
stack_arguments ctx args = then (ok (move_stack BinOp.Sub (length (excess floating 0 0 args)))) (push_arguments ctx 0 (excess floating 0 0 args))

-- ---- the registers

-- the number of floats, in RAX
abbrev pub count_of : ℕ → Instruction
count_of n = move (Operand.Reg RAX) (Operand.Imm n) Size.NoSize

-- ---- the call

-- the call itself
abbrev pub call_of : ℕ → Instruction
call_of symbol = Instruction.Ctrl CtrlOp.Call (Operand.Sym symbol)

-- .. and RSP raised again, where k arguments are in excess
abbrev pub call_raised : ℕ → ℕ → List Instruction
call_raised symbol k = call_of symbol ∷ move_stack BinOp.Add k

-- the store of a result that is kept, from XMM0 or RAX
abbrev pub result_of : Bool → Slot → Instruction
result_of float t = cond float (Instruction.Binary BinOp.StoreF t.var (Operand.Reg (xmm 0)) t.size) (move t.var (Operand.Reg RAX) t.size)

-- the call, and the store of its result
unfoldable pub call_symbol : Context → Option VarId → ℕ → ℕ → Result (List Instruction)
call_symbol ctx dest symbol k = then (ok (call_raised symbol k)) (store_result ctx dest)
