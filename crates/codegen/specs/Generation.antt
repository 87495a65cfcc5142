-- Believed: Krc's codegen/generation.rs: the list that `generate` holds for one function before `add_function`, or the first panic with its place.
use Rattle.std.specs.Prelude.{ℕ, suc, ◌*◌, List, [], ◌∷◌, ◌++◌, Bool, true, false, cond, length, drop, ltb}
pub use Rattle.cells.specs.Outcomes.{Outcome, accepted, refused, ◌>>=◌}
use Rattle.cells.specs.Refusals.{page_full, number_of_refusal}
use Rattle.ir.specs.declared.«Type».{«Type» as IrType}
use Rattle.ir.specs.declared.Instr.{Instr}
use Rattle.ir.specs.declared.Operand.{Operand as IrOp}
use Rattle.std.specs.Prelude.{Ok, Err}
use Rattle.layout.specs.Layout.{Checked}
use Rattle.ir.specs.Types as types
use Rattle.ir.specs.Types.{Result, ok}
use Rattle.ir.specs.Function.{Tables, Function, Line, tables_of, function_of}
use Rattle.layout.specs.Layout.{tables_check, sheet_check}
use Rattle.x86.specs.declared.enums.CtrlOp.{CtrlOp}
use Rattle.x86.specs.declared.enums.Instruction.{Instruction}
use Rattle.x86.specs.Records.{list_bytes}
use Rattle.codegen.specs.Context.{Context, context_of}
use Rattle.codegen.specs.Instructions.{func_epilogue, generate_return, generate_copy, generate_cast, generate_zero, generate_call, generate_jmp_if_not, generate_label, generate_jump}
use Rattle.codegen.specs.Arithmetic.{generate_binary, generate_unary}
use Rattle.codegen.specs.Frame.{var_offsets, frame, func_prologue}

-- ---- an answer with the place of its refusal: 0 before the body, or the instruction's number from 1

abbrev pub at : {A : Type 0} → ℕ → Result A → Outcome A
at place (ok a) = accepted a
at place (types.refused n) = refused n place

-- ---- instructions

-- `generate_instruction`, in a function of so many labels and a return type; `args` are a call's arguments
unfoldable pub generate_instr : Context → ℕ → IrType → Instr → List IrOp → Result (List Instruction)
generate_instr ctx labels ret (Instr.Copy dest src) args = generate_copy ctx dest src
generate_instr ctx labels ret (Instr.Unary dest op src) args = generate_unary ctx dest op src
generate_instr ctx labels ret (Instr.Binary dest op left right) args = generate_binary ctx dest op left right
generate_instr ctx labels ret (Instr.Cast dest src) args = generate_cast ctx dest src
generate_instr ctx labels ret (Instr.Zero dest) args = generate_zero ctx dest
generate_instr ctx labels ret (Instr.Call dest symbol count) args = generate_call ctx dest symbol args
generate_instr ctx labels ret (Instr.Label l) args = generate_label labels l
generate_instr ctx labels ret (Instr.Jump l) args = generate_jump labels l
generate_instr ctx labels ret (Instr.JumpIfNot condition target) args = generate_jmp_if_not ctx labels condition target
generate_instr ctx labels ret (Instr.Return op) args = generate_return ctx ret op
generate_instr ctx labels ret Instr.Comment args = ok []

abbrev pub generate_instruction : Context → ℕ → IrType → Line → Result (List Instruction)
generate_instruction ctx labels ret line = generate_instr ctx labels ret line.instr line.args

-- the body, its first line of number i
unfoldable pub generate_body : Context → ℕ → IrType → ℕ → List Line → Outcome (List Instruction)
generate_body ctx labels ret i [] = accepted []
generate_body ctx labels ret i (line ∷ lines) = do
  records ← at i (generate_instruction ctx labels ret line)
  rest ← generate_body ctx labels ret (suc i) lines
  accepted (records ++ rest)

-- ---- the epilogue

abbrev pub is_ret_op : CtrlOp → Bool
is_ret_op CtrlOp.Jmp = false
is_ret_op CtrlOp.Call = false
is_ret_op CtrlOp.Ret = true
is_ret_op (CtrlOp.JmpCC cc) = false

abbrev pub is_ret : Instruction → Bool
is_ret (Instruction.Binary op dst src size) = false
is_ret (Instruction.ComplexBinary op dst src size) = false
is_ret (Instruction.Convert op dst src size) = false
is_ret (Instruction.Ctrl op target) = is_ret_op op
is_ret (Instruction.Extend op dst src src_size size) = false
is_ret (Instruction.Lea src dst size) = false
is_ret (Instruction.Label n) = false
is_ret (Instruction.Prefix prefix op size) = false
is_ret (Instruction.SetCC op dst) = false
is_ret (Instruction.Shift op dst src size) = false
is_ret (Instruction.Stack op value size) = false
is_ret (Instruction.Unary op dst size) = false

-- whether the last record is Ret
unfoldable pub ends_in_ret : List Instruction → Bool
ends_in_ret [] = false
ends_in_ret (i ∷ []) = is_ret i
ends_in_ret (i ∷ j ∷ is) = ends_in_ret (j ∷ is)

-- `need_epilogue`: it is added unless the last record is Ret
unfoldable pub with_epilogue : List Instruction → List Instruction
with_epilogue is = cond (ends_in_ret is) is (is ++ func_epilogue)

-- ---- generate

unfoldable pub generate : Tables → Function → Outcome (List Instruction)
generate tables F = do
  offsets ← at 0 (var_offsets F.vars)
  prologue ← at 0 (func_prologue (context_of tables offsets) (frame F.vars) F.params)
  body ← generate_body (context_of tables offsets) F.labels F.ret 1 F.body
  accepted (with_epilogue (prologue ++ body))

-- ---- the whole answer, for tables, sheet and the length of the record bytes

-- what follows a layout that is right
abbrev pub checked : {A : Type 0} → Checked → (Unit {0} → Outcome A) → Outcome A
checked (Ok c) rest = rest tt
checked (Err r) rest = refused (number_of_refusal r.refusal) r.place

-- refusals 1 to 7; 8, registers spent, no longer occurs (M-112)
unfoldable pub compiled : List ℕ → List ℕ → Outcome (List Instruction)
compiled tables sheet = checked (tables_check tables) (λ u. checked (sheet_check sheet) (λ v. generate (tables_of tables) (function_of sheet)))

-- page full: refusal 9 with the records needed, where the record bytes are fewer than 64 times the records
abbrev pub page : ℕ → List Instruction → Outcome (List Instruction)
page m is = cond (ltb m (64 * length is)) (refused page_full (length is)) (accepted is)

unfoldable pub lowered : List ℕ → List ℕ → ℕ → Outcome (List Instruction)
lowered tables sheet m = compiled tables sheet >>= page m

-- the record bytes afterwards: the list at their start and their old content behind it, or their old content
unfoldable pub records_after : Outcome (List Instruction) → List ℕ → List ℕ
records_after (accepted is) old = list_bytes is ++ drop (64 * length is) old
records_after (refused n place) old = old
