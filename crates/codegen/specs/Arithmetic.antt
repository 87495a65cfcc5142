-- Believed: Krc's codegen/arithmetic.rs, in the Rust's order of evaluation.
use Rattle.std.specs.Prelude.{ℕ, ◌+◌, ◌-◌, ◌^◌, List, [], ◌∷◌, ◌++◌, Bool, true, false, cond, ◌||◌, ◌&&◌, eqb, leb}
use Rattle.cells.specs.Cells.{minus}
use Rattle.cells.specs.Refusals.{no_lowering}
use Rattle.ir.specs.declared.VarId.{VarId}
use Rattle.ir.specs.declared.Operand.{Operand as IrOp}
use Rattle.ir.specs.declared.UnaryOp.{UnaryOp as IrUnary}
use Rattle.ir.specs.Types.{Result, ok, refused, ◌>>=◌, is_float, is_unsigned}
use Rattle.x86.specs.declared.register.Register.{Register}
use Rattle.x86.specs.declared.enums.Size.{Size}
use Rattle.x86.specs.declared.enums.Operand.{Operand}
use Rattle.x86.specs.declared.enums.BinOp.{BinOp}
use Rattle.x86.specs.declared.enums.ComplexBinOp.{ComplexBinOp}
use Rattle.x86.specs.declared.enums.ShiftOp.{ShiftOp}
use Rattle.x86.specs.declared.enums.UnaryOp.{UnaryOp}
use Rattle.x86.specs.declared.enums.ConditionCode.{ConditionCode}
use Rattle.x86.specs.declared.enums.Instruction.{Instruction}
use Rattle.x86.specs.Registers.{xmm, RAX, RCX, RDX}
use Rattle.x86.specs.Records.{condition_code}
use Rattle.x86.specs.Decode.{condition_of}
use Rattle.codegen.specs.Context.{Context}
use Rattle.codegen.specs.Utils.{size_from, var_size, convert_var, convert_operand, load_operand}
use Rattle.codegen.specs.Instructions.{move, operand_kind}
use Rattle.ir.specs.declared.BinaryOp.{BinaryOp}

-- `mov rax, left ; op rax, right ; mov [dest], rax`
unfoldable pub simple_operation : Context → VarId → IrOp → IrOp → BinOp → Result (List Instruction)
simple_operation ctx dest left right op = do
  size ← var_size dest
  load ← load_operand ctx RAX left size
  src ← convert_operand ctx right
  var ← convert_var ctx dest
  ok (load ∷ Instruction.Binary op (Operand.Reg RAX) src size ∷ move var (Operand.Reg RAX) size ∷ [])

-- `movsd xmm0, left ; op xmm0, right ; movsd [dest], xmm0`
unfoldable pub float_operation : Context → VarId → IrOp → IrOp → BinOp → Result (List Instruction)
float_operation ctx dest left right op = do
  size ← var_size dest
  load ← load_operand ctx (xmm 0) left size
  src ← convert_operand ctx right
  var ← convert_var ctx dest
  ok (load ∷ Instruction.Binary op (Operand.Reg (xmm 0)) src size ∷ Instruction.Binary BinOp.StoreF var (Operand.Reg (xmm 0)) size ∷ [])

-- left in RAX, right in RCX, the records of the operation, and the store of a register to dest
unfoldable pub two_loads : Context → VarId → IrOp → IrOp → (Size → List Instruction) → Register → Result (List Instruction)
two_loads ctx dest left right operation result = do
  size ← var_size dest
  a ← load_operand ctx RAX left size
  b ← load_operand ctx RCX right size
  var ← convert_var ctx dest
  ok (a ∷ b ∷ operation size ++ move var (Operand.Reg result) size ∷ [])

-- Cdq for four bytes, else Cqo
abbrev pub sign_into : Size → UnaryOp
sign_into Size.NoSize = UnaryOp.Cqo
sign_into Size.U8 = UnaryOp.Cqo
sign_into Size.U16 = UnaryOp.Cqo
sign_into Size.U32 = UnaryOp.Cdq
sign_into Size.U64 = UnaryOp.Cqo

-- RDX is cleared for an unsigned dest, else RAX's sign is extended into it
abbrev pub dividing : Bool → Size → List Instruction
dividing true size =
    Instruction.Binary BinOp.Xor (Operand.Reg RDX) (Operand.Reg RDX) size ∷ Instruction.ComplexBinary ComplexBinOp.Div Operand.NoOperand (Operand.Reg RCX) size ∷ []
dividing false size =
    Instruction.Unary (sign_into size) Operand.NoOperand size ∷ Instruction.ComplexBinary ComplexBinOp.Idiv Operand.NoOperand (Operand.Reg RCX) size ∷ []

-- the quotient comes in RAX, the remainder in RDX
unfoldable pub division : Context → VarId → IrOp → IrOp → Register → Result (List Instruction)
division ctx dest left right result = two_loads ctx dest left right (dividing (is_unsigned dest.ty)) result

unfoldable pub multiplication : Context → VarId → IrOp → IrOp → Result (List Instruction)
multiplication ctx dest left right =
    two_loads ctx dest left right (λ size. Instruction.ComplexBinary ComplexBinOp.Imul (Operand.Reg RAX) (Operand.Reg RCX) size ∷ []) RAX

-- the count goes through RCX
unfoldable pub shift : Context → VarId → IrOp → IrOp → ShiftOp → Result (List Instruction)
shift ctx dest left right op = two_loads ctx dest left right (λ size. Instruction.Shift op (Operand.Reg RAX) (Operand.Reg RCX) size ∷ []) RAX

-- ---- comparisons

-- for an unsigned, non-float left G, GE, L, LE turn to A, AE, B, BE: codes 2 to 5 become the code plus 4 and the others stay (M-103)
unfoldable pub unsigned_code : ConditionCode → ConditionCode
unsigned_code cc = cond (leb 2 (condition_code cc) && leb (condition_code cc) 5) (condition_of (condition_code cc + 4)) cc

-- on floats L and LE become G and GE, the code less 2, with the sides swapped, and these A and AE
abbrev pub is_swapped : ConditionCode → Bool
is_swapped cc = eqb (condition_code cc) 4 || eqb (condition_code cc) 5

unfoldable pub float_code : ConditionCode → ConditionCode
float_code cc = unsigned_code (cond (is_swapped cc) (condition_of (condition_code cc - 2)) cc)

-- equality of floats asks the parity flag too: `sete al ; setnp cl ; and al, cl`, or `setne al ; setp cl ; or al, cl`
abbrev pub parity : ConditionCode → BinOp → List Instruction
parity cc op =
    Instruction.SetCC cc (Operand.Reg RCX) ∷ Instruction.Binary op (Operand.Reg RAX) (Operand.Reg RCX) Size.U8 ∷ []

abbrev pub ordered : ConditionCode → List Instruction
ordered cc =
    cond (eqb (condition_code cc) 0) (parity ConditionCode.NP BinOp.And) (cond (eqb (condition_code cc) 1) (parity ConditionCode.P BinOp.Or) [])

-- both sides, the comparison, the flag, what else a float asks, and the store to dest, which is looked up last
unfoldable pub compared : Context → VarId → Register → IrOp → Register → IrOp → Size → BinOp → ConditionCode → List Instruction → Result (List Instruction)
compared ctx dest a left b right size op cc more = do
  x ← load_operand ctx a left size
  y ← load_operand ctx b right size
  var ← convert_var ctx dest
  stored ← var_size dest
  ok (x ∷ y ∷ Instruction.Binary op (Operand.Reg a) (Operand.Reg b) size ∷ Instruction.SetCC cc (Operand.Reg RAX) ∷ more ++ move var (Operand.Reg RAX) stored ∷ [])

unfoldable pub float_comparison : Context → VarId → IrOp → IrOp → Size → ConditionCode → Result (List Instruction)
float_comparison ctx dest left right size cc =
    cond (is_swapped cc)
    (compared ctx dest (xmm 0) right (xmm 1) left size BinOp.UcomiF (float_code cc) [])
    (compared ctx dest (xmm 0) left (xmm 1) right size BinOp.UcomiF (float_code cc) (ordered cc))

unfoldable pub comparison : Context → VarId → IrOp → IrOp → ConditionCode → Result (List Instruction)
comparison ctx dest left right cc = do
  k ← operand_kind ctx left
  size ← size_from k.size
  cond k.float (float_comparison ctx dest left right size cc)
      (compared ctx dest RAX left RCX right size BinOp.Cmp (cond k.unsigned (unsigned_code cc) cc) [])

-- ---- generate_binary

-- only + - * / are done on a float
abbrev pub float_binary : Context → VarId → BinaryOp → IrOp → IrOp → Result (List Instruction)
float_binary ctx dest BinaryOp.Or left right = refused no_lowering
float_binary ctx dest BinaryOp.And left right = refused no_lowering
float_binary ctx dest BinaryOp.BitOr left right = refused no_lowering
float_binary ctx dest BinaryOp.BitXor left right = refused no_lowering
float_binary ctx dest BinaryOp.BitAnd left right = refused no_lowering
float_binary ctx dest BinaryOp.Eq left right = refused no_lowering
float_binary ctx dest BinaryOp.NotEq left right = refused no_lowering
float_binary ctx dest BinaryOp.Lt left right = refused no_lowering
float_binary ctx dest BinaryOp.Le left right = refused no_lowering
float_binary ctx dest BinaryOp.Gt left right = refused no_lowering
float_binary ctx dest BinaryOp.Ge left right = refused no_lowering
float_binary ctx dest BinaryOp.Shl left right = refused no_lowering
float_binary ctx dest BinaryOp.Shr left right = refused no_lowering
float_binary ctx dest BinaryOp.Add left right = float_operation ctx dest left right BinOp.AddF
float_binary ctx dest BinaryOp.Sub left right = float_operation ctx dest left right BinOp.SubF
float_binary ctx dest BinaryOp.Mul left right = float_operation ctx dest left right BinOp.MulF
float_binary ctx dest BinaryOp.Div left right = float_operation ctx dest left right BinOp.DivF
float_binary ctx dest BinaryOp.Rem left right = refused no_lowering

-- the logical pair never reaches the lowering
abbrev pub integer_binary : Context → VarId → BinaryOp → IrOp → IrOp → Result (List Instruction)
integer_binary ctx dest BinaryOp.Or left right = refused no_lowering
integer_binary ctx dest BinaryOp.And left right = refused no_lowering
integer_binary ctx dest BinaryOp.BitOr left right = simple_operation ctx dest left right BinOp.Or
integer_binary ctx dest BinaryOp.BitXor left right = simple_operation ctx dest left right BinOp.Xor
integer_binary ctx dest BinaryOp.BitAnd left right = simple_operation ctx dest left right BinOp.And
integer_binary ctx dest BinaryOp.Eq left right = comparison ctx dest left right ConditionCode.E
integer_binary ctx dest BinaryOp.NotEq left right = comparison ctx dest left right ConditionCode.NE
integer_binary ctx dest BinaryOp.Lt left right = comparison ctx dest left right ConditionCode.L
integer_binary ctx dest BinaryOp.Le left right = comparison ctx dest left right ConditionCode.LE
integer_binary ctx dest BinaryOp.Gt left right = comparison ctx dest left right ConditionCode.G
integer_binary ctx dest BinaryOp.Ge left right = comparison ctx dest left right ConditionCode.GE
integer_binary ctx dest BinaryOp.Shl left right = shift ctx dest left right ShiftOp.Shl
integer_binary ctx dest BinaryOp.Shr left right = shift ctx dest left right (cond (is_unsigned dest.ty) ShiftOp.Shr ShiftOp.Sar)
integer_binary ctx dest BinaryOp.Add left right = simple_operation ctx dest left right BinOp.Add
integer_binary ctx dest BinaryOp.Sub left right = simple_operation ctx dest left right BinOp.Sub
integer_binary ctx dest BinaryOp.Mul left right = multiplication ctx dest left right
integer_binary ctx dest BinaryOp.Div left right = division ctx dest left right RAX
integer_binary ctx dest BinaryOp.Rem left right = division ctx dest left right RDX

unfoldable pub generate_binary : Context → VarId → BinaryOp → IrOp → IrOp → Result (List Instruction)
generate_binary ctx dest op left right = cond (is_float dest.ty) (float_binary ctx dest op left right) (integer_binary ctx dest op left right)

-- ---- generate_unary

-- the sign bit of a float of a size: `i32::MIN` for four bytes, else `i64::MIN`
abbrev pub sign_bit : Size → ℕ
sign_bit Size.NoSize = minus (2 ^ 63)
sign_bit Size.U8 = minus (2 ^ 63)
sign_bit Size.U16 = minus (2 ^ 63)
sign_bit Size.U32 = minus (2 ^ 31)
sign_bit Size.U64 = minus (2 ^ 63)

-- -x of a float flips its sign bit; the logical not of a Bool flips its lowest bit
abbrev pub unary_records : IrUnary → Bool → Size → List Instruction
unary_records IrUnary.Neg true size =
    move (Operand.Reg RCX) (Operand.Imm (sign_bit size)) size ∷ Instruction.Binary BinOp.Xor (Operand.Reg RAX) (Operand.Reg RCX) size ∷ []
unary_records IrUnary.Neg false size = Instruction.Unary UnaryOp.Neg (Operand.Reg RAX) size ∷ []
unary_records IrUnary.BitNot float size = Instruction.Unary UnaryOp.Not (Operand.Reg RAX) size ∷ []
unary_records IrUnary.Not float size = Instruction.Binary BinOp.Xor (Operand.Reg RAX) (Operand.Imm 1) size ∷ []

unfoldable pub generate_unary : Context → VarId → IrUnary → IrOp → Result (List Instruction)
generate_unary ctx dest op src = do
  size ← var_size dest
  load ← load_operand ctx RAX src size
  var ← convert_var ctx dest
  ok (load ∷ unary_records op (is_float dest.ty) size ++ move var (Operand.Reg RAX) size ∷ [])
