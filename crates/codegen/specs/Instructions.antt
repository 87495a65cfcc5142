-- Believed: Krc's codegen/instructions.rs, in the Rust's order of evaluation.
use Rattle.std.specs.Prelude.{ℕ, suc, ◌+◌, ◌*◌, ◌/◌, List, [], ◌∷◌, ◌++◌, Bool, true, false, cond, not, ◌&&◌, ◌||◌, length, get_or, eqb, leb}
use Rattle.std.specs.Bool.{beq}
use Rattle.ir.specs.declared.«Type».{«Type» as IrType}
use Rattle.ir.specs.declared.VarId.{VarId}
use Rattle.ir.specs.declared.Operand.{Operand as IrOp}
use Rattle.std.specs.Prelude.{Option, Some, None}
use Rattle.ir.specs.Types.{Result, ok, ◌>>=◌, is_scalar, type_size, is_float, is_unsigned}
use Rattle.x86.specs.declared.register.Register.{Register}
use Rattle.x86.specs.declared.enums.Size.{Size}
use Rattle.x86.specs.declared.enums.Operand.{Operand}
use Rattle.x86.specs.declared.enums.BinOp.{BinOp}
use Rattle.x86.specs.declared.enums.ConditionCode.{ConditionCode}
use Rattle.x86.specs.declared.enums.CtrlOp.{CtrlOp}
use Rattle.x86.specs.declared.enums.StackOp.{StackOp}
use Rattle.x86.specs.declared.enums.StringOp.{StringOp}
use Rattle.x86.specs.declared.enums.Prefix.{Prefix}
use Rattle.x86.specs.declared.enums.ExtendOp.{ExtendOp}
use Rattle.x86.specs.declared.enums.ConvOp.{ConvOp}
use Rattle.x86.specs.declared.enums.Instruction.{Instruction}
use Rattle.x86.specs.Registers.{xmm, RAX, RCX, RDX, RSP, RBP, RSI, RDI, R8, R9, rsp_plus}
use Rattle.codegen.specs.Context.{Context, float_short, label_at}
use Rattle.codegen.specs.Utils.{size_from, var_size, convert_var, convert_operand, load_operand}

-- Mov of a register into a variable's slot, or of RAX
abbrev pub move : Operand → Operand → Size → Instruction
move dst src size = Instruction.Binary BinOp.Mov dst src size

-- `mov rsp, rbp ; pop rbp ; ret`
abbrev pub func_epilogue : List Instruction
func_epilogue =
    move (Operand.Reg RSP) (Operand.Reg RBP) Size.NoSize ∷ Instruction.Stack StackOp.Pop (Operand.Reg RBP) Size.NoSize
    ∷ Instruction.Ctrl CtrlOp.Ret Operand.NoOperand ∷ []

-- the value comes back in XMM0 for a float return type, else in RAX
unfoldable pub generate_return : Context → IrType → IrOp → Result (List Instruction)
generate_return ctx ret op = load_operand ctx (cond (is_float ret) (xmm 0) RAX) op Size.NoSize >>= λ load. ok (load ∷ func_epilogue)

-- ---- operand_kind

-- the size in bytes of an operand's value, whether it is a float, and whether it is unsigned
pub record Kind : Type 0 where
  pub size : ℕ
  pub float : Bool
  pub unsigned : Bool

abbrev pub kind : ℕ → Bool → Bool → Kind
kind n f u = record { size = n; float = f; unsigned = u }

unfoldable pub operand_kind : Context → IrOp → Result Kind
operand_kind ctx (IrOp.Var v) = type_size v.ty >>= λ n. ok (kind n (is_float v.ty) (is_unsigned v.ty))
operand_kind ctx (IrOp.Int n short unsigned) = ok (kind (cond short 4 8) false unsigned)
operand_kind ctx (IrOp.Float k) = float_short ctx k >>= λ short. ok (kind (cond short 4 8) true false)
operand_kind ctx (IrOp.Bool b) = ok (kind 1 false true)
operand_kind ctx (IrOp.Address v) = ok (kind 8 false true)
operand_kind ctx (IrOp.DataAddress k) = ok (kind 8 false true)
operand_kind ctx IrOp.Null = ok (kind 8 false true)

-- ---- copies and casts

-- `dest = src`, sized by dest
unfoldable pub generate_copy : Context → VarId → IrOp → Result (List Instruction)
generate_copy ctx dest src = do
  var ← convert_var ctx dest
  size ← var_size dest
  load ← load_operand ctx RAX src size
  ok (load ∷ move var (Operand.Reg RAX) size ∷ [])

-- a cast's source where it is converted: the records that bring it there, the operand, and its size in bytes
pub record Source : Type 0 where
  pub records : List Instruction
  pub operand : Operand
  pub size : ℕ

abbrev pub source : List Instruction → Operand → ℕ → Source
source rs x n = record { records = rs; operand = x; size = n }

-- a constant of a Cast goes through RAX: an integer at its own size, a Bool by four bytes
unfoldable pub cast_operand : Context → IrOp → ℕ → Result Source
cast_operand ctx (IrOp.Var v) n = convert_var ctx v >>= λ x. ok (source [] x n)
cast_operand ctx (IrOp.Int v short unsigned) n =
    load_operand ctx RAX (IrOp.Int v short unsigned) (cond short Size.U32 Size.U64) >>= λ load. ok (source (load ∷ []) (Operand.Reg RAX) (cond short 4 8))
cast_operand ctx (IrOp.Float k) n = convert_operand ctx (IrOp.Float k) >>= λ x. ok (source [] x n)
cast_operand ctx (IrOp.Bool b) n = load_operand ctx RAX (IrOp.Bool b) Size.U8 >>= λ load. ok (source (load ∷ []) (Operand.Reg RAX) 1)
cast_operand ctx (IrOp.Address v) n = convert_operand ctx (IrOp.Address v) >>= λ x. ok (source [] x n)
cast_operand ctx (IrOp.DataAddress k) n = convert_operand ctx (IrOp.DataAddress k) >>= λ x. ok (source [] x n)
cast_operand ctx IrOp.Null n = convert_operand ctx IrOp.Null >>= λ x. ok (source [] x n)

-- one byte that is no float is widened by Movzx first
abbrev pub widened : Bool → Source → Source
widened float s =
    cond (not float && eqb s.size 1)
    (source (s.records ++ Instruction.Extend ExtendOp.Movzx RAX s.operand Size.U8 Size.U64 ∷ []) (Operand.Reg RAX) 8) s

-- a conversion and the store of its result
abbrev pub converted : Context → VarId → Source → ConvOp → Register → Size → Result (List Instruction)
converted ctx dest s op reg size = do
  var ← convert_var ctx dest
  stored ← var_size dest
  ok (s.records ++ Instruction.Convert op reg s.operand size
      ∷ Instruction.Binary (cond (is_float dest.ty) BinOp.StoreF BinOp.Mov) var (Operand.Reg reg) stored ∷ [])

-- between integers: RAX has eight bytes already, or Movsxd widens four
abbrev pub extended : Context → VarId → Source → Result (List Instruction)
extended ctx dest s = do
  var ← convert_var ctx dest
  size ← var_size dest
  ok (s.records ++ cond (eqb s.size 8) [] (Instruction.Extend ExtendOp.Movsxd RAX s.operand Size.U32 Size.U64 ∷ []) ++ move var (Operand.Reg RAX) size ∷ [])

-- by whether source and dest are floats, and dest's size
unfoldable pub cast_between : Context → VarId → Source → Bool → Bool → ℕ → Result (List Instruction)
cast_between ctx dest s true true n = converted ctx dest s (cond (eqb n 8) ConvOp.Cvtss2sd ConvOp.Cvtsd2ss) (xmm 0) Size.NoSize
cast_between ctx dest s false true n = size_from s.size >>= λ size. converted ctx dest s (cond (eqb n 8) ConvOp.Cvtsi2sd ConvOp.Cvtsi2ss) (xmm 0) size
cast_between ctx dest s true false n = var_size dest >>= λ size. converted ctx dest s (cond (eqb s.size 8) ConvOp.Cvttsd2si ConvOp.Cvttss2si) RAX size
cast_between ctx dest s false false n = extended ctx dest s

-- an unsigned short, variable or constant, which widens with zeros (M-105); an array is none
abbrev pub is_unsigned_short : IrOp → Bool
is_unsigned_short (IrOp.Var v) = is_scalar v.ty && eqb v.ty.code 4
is_unsigned_short (IrOp.Int n short unsigned) = short && unsigned
is_unsigned_short (IrOp.Float k) = false
is_unsigned_short (IrOp.Bool b) = false
is_unsigned_short (IrOp.Address v) = false
is_unsigned_short (IrOp.DataAddress k) = false
is_unsigned_short IrOp.Null = false

-- its cast to an integer of eight bytes: a four-byte load into RAX, and the store (M-105)
unfoldable pub zero_extended : Context → VarId → IrOp → Result (List Instruction)
zero_extended ctx dest src = do
  load ← load_operand ctx RAX src Size.U32
  var ← convert_var ctx dest
  size ← var_size dest
  ok (load ∷ move var (Operand.Reg RAX) size ∷ [])

-- the low bytes are enough: both are floats of one size, or both are integers and dest is no wider
abbrev pub is_copy : Kind → Bool → ℕ → Bool
is_copy k float n = (beq k.float float && (eqb k.size n || not float)) && leb n k.size

unfoldable pub generate_cast : Context → VarId → IrOp → Result (List Instruction)
generate_cast ctx dest src = do
  k ← operand_kind ctx src
  n ← type_size dest.ty
  cond (is_copy k (is_float dest.ty) n) (generate_copy ctx dest src)
      (cond (not (is_float dest.ty) && is_unsigned_short src) (zero_extended ctx dest src)
      (cast_operand ctx src k.size >>= λ s. cast_between ctx dest (widened k.float s) k.float (is_float dest.ty) n))

-- ---- zero

-- `lea rdi, [dest] ; mov rcx, size ; mov rax, 0 ; rep stosb`
unfoldable pub generate_zero : Context → VarId → Result (List Instruction)
generate_zero ctx dest = do
  n ← type_size dest.ty
  var ← convert_var ctx dest
  ok (Instruction.Lea var RDI Size.NoSize ∷ move (Operand.Reg RCX) (Operand.Imm n) Size.U64 ∷ move (Operand.Reg RAX) (Operand.Imm 0) Size.U64
      ∷ Instruction.Prefix Prefix.Rep StringOp.Stos Size.U8 ∷ [])

-- ---- calls

-- `PARAM_REGS`: the registers of the arguments that are no floats
abbrev pub param_regs : List Register
param_regs = RDI ∷ RSI ∷ RDX ∷ RCX ∷ R8 ∷ R9 ∷ []

-- `PARAM_FREGS`: those of the floats
abbrev pub param_fregs : List Register
param_fregs = xmm 0 ∷ xmm 1 ∷ xmm 2 ∷ xmm 3 ∷ xmm 4 ∷ xmm 5 ∷ xmm 6 ∷ xmm 7 ∷ []

-- whether an argument goes into an XMM register
abbrev pub floating : IrOp → Bool
floating (IrOp.Var v) = is_float v.ty
floating (IrOp.Int n short unsigned) = false
floating (IrOp.Float k) = true
floating (IrOp.Bool b) = false
floating (IrOp.Address v) = false
floating (IrOp.DataAddress k) = false
floating IrOp.Null = false

-- whether an argument or a parameter finds the registers of its kind taken, where i general and f XMM registers are
abbrev pub is_spent : Bool → ℕ → ℕ → Bool
is_spent true i f = leb 8 f
is_spent false i f = leb 6 i

-- how many general registers, and how many XMM registers, are taken behind one that has found its own
abbrev pub words_taken : Bool → ℕ → ℕ
words_taken true i = i
words_taken false i = suc i

abbrev pub floats_taken : Bool → ℕ → ℕ
floats_taken true f = suc f
floats_taken false f = f

-- the excess of a list (M-112): those that find the registers of their kind taken, in order, where i general and f XMM registers are
unfoldable pub excess : {A : Type 0} → (A → Bool) → ℕ → ℕ → List A → List A
excess float i f [] = []
excess float i f (x ∷ xs) =
    cond (is_spent (float x) i f) (x ∷ excess float i f xs) (excess float (words_taken (float x) i) (floats_taken (float x) f) xs)

-- the register of the next argument of a kind
abbrev pub register_of : Bool → ℕ → ℕ → Register
register_of true i f = get_or param_fregs f RAX
register_of false i f = get_or param_regs i RAX

-- `float_parameter` and `normal_param`: the arguments that find a register, in order, where i general and f XMM registers are taken; then the
-- number of floats in registers, in RAX
unfoldable pub load_arguments : Context → ℕ → ℕ → List IrOp → Result (List Instruction)
load_arguments ctx i f [] = ok (move (Operand.Reg RAX) (Operand.Imm f) Size.NoSize ∷ [])
load_arguments ctx i f (x ∷ xs) =
    cond (is_spent (floating x) i f) (load_arguments ctx i f xs)
    (load_operand ctx (register_of (floating x) i f) x Size.NoSize >>= λ load.
    load_arguments ctx (words_taken (floating x) i) (floats_taken (floating x) f) xs >>= λ rest. ok (load ∷ rest))

-- the arguments in excess, the first of them of number j: each goes through RAX to RSP plus 8j
unfoldable pub push_arguments : Context → ℕ → List IrOp → Result (List Instruction)
push_arguments ctx j [] = ok []
push_arguments ctx j (x ∷ xs) =
    load_operand ctx RAX x Size.NoSize >>= λ load. push_arguments ctx (suc j) xs >>= λ rest.
    ok (load ∷ move (rsp_plus (8 * j)) (Operand.Reg RAX) Size.U64 ∷ rest)

-- the least multiple of 16 not below 8k
abbrev pub call_area : ℕ → ℕ
call_area k = (8 * k + 15) / 16 * 16

-- RSP is moved by the area of k arguments in excess, if there are any
abbrev pub move_stack : BinOp → ℕ → List Instruction
move_stack op k = cond (eqb k 0) [] (Instruction.Binary op (Operand.Reg RSP) (Operand.Imm (call_area k)) Size.NoSize ∷ [])

-- the result is stored from XMM0 or RAX, if it is kept
unfoldable pub store_result : Context → Option VarId → Result (List Instruction)
store_result ctx None = ok []
store_result ctx (Some v) = do
  var ← convert_var ctx v
  size ← var_size v
  ok (cond (is_float v.ty) (Instruction.Binary BinOp.StoreF var (Operand.Reg (xmm 0)) size) (move var (Operand.Reg RAX) size) ∷ [])

-- RSP is lowered, the arguments in excess are put in its area, the others into registers; behind the Call RSP is raised again
unfoldable pub generate_call : Context → Option VarId → ℕ → List IrOp → Result (List Instruction)
generate_call ctx dest symbol args = do
  pushes ← push_arguments ctx 0 (excess floating 0 0 args)
  loads ← load_arguments ctx 0 0 args
  store ← store_result ctx dest
  ok (move_stack BinOp.Sub (length (excess floating 0 0 args)) ++ (pushes ++ (loads ++ Instruction.Ctrl CtrlOp.Call (Operand.Sym symbol)
      ∷ (move_stack BinOp.Add (length (excess floating 0 0 args)) ++ store))))

-- ---- jumps

-- `mov al, cond ; cmp al, 0 ; je target`
unfoldable pub generate_jmp_if_not : Context → ℕ → IrOp → ℕ → Result (List Instruction)
generate_jmp_if_not ctx labels condition target = do
  load ← load_operand ctx RAX condition Size.U8
  label ← label_at labels target
  ok (load ∷ Instruction.Binary BinOp.Cmp (Operand.Reg RAX) (Operand.Imm 0) Size.U8 ∷ Instruction.Ctrl (CtrlOp.JmpCC ConditionCode.E) (Operand.Label label) ∷ [])

unfoldable pub generate_label : ℕ → ℕ → Result (List Instruction)
generate_label labels l = label_at labels l >>= λ label. ok (Instruction.Label label ∷ [])

unfoldable pub generate_jump : ℕ → ℕ → Result (List Instruction)
generate_jump labels l = label_at labels l >>= λ label. ok (Instruction.Ctrl CtrlOp.Jmp (Operand.Label label) ∷ [])
