-- The records of a plain instruction, written out: what the lowering gives for it.
use Prim.Native.Nat.{ℕ, ◌<◌, ◌≤◌}
use mathlib.Core.Path.{◌≡◌, refl, sym, ap, ◌∙◌}
use mathlib.Core.Bool.{Bool, true, false, cond, not, ◌&&◌, ◌||◌}
use mathlib.Core.List.{List, [], ◌∷◌, ◌++◌}
use lib.Dec.{eqb, leb, ltb}
use lib.ListN.{length, drop}
use native.Mathlib.Omega.{arith}
use borrow.Author.Tests.{leb-false, ltb-true, lt-leb, eqb-true}
use Rattle.ir.specs.declared.«Type».{«Type» as IrType}
use Rattle.ir.specs.declared.VarId.{VarId}
use Rattle.ir.specs.declared.Operand.{Operand as IrOp}
use Rattle.ir.specs.declared.UnaryOp.{UnaryOp as IrUnary}
use Rattle.ir.specs.declared.Instr.{Instr}
use Rattle.ir.specs.Types.{Result, ok, ◌>>=◌, bytes, is_float, element_size, operand_size}
use Rattle.ir.specs.Function.{Function, Line, Tables}
use Rattle.x86.specs.declared.register.Register.{Register}
use Rattle.x86.specs.declared.enums.Size.{Size}
use Rattle.x86.specs.declared.enums.Operand.{Operand}
use Rattle.x86.specs.declared.enums.BinOp.{BinOp}
use Rattle.x86.specs.declared.enums.ShiftOp.{ShiftOp}
use Rattle.x86.specs.declared.enums.ComplexBinOp.{ComplexBinOp}
use Rattle.x86.specs.declared.enums.CtrlOp.{CtrlOp}
use Rattle.x86.specs.declared.enums.ExtendOp.{ExtendOp}
use Rattle.x86.specs.declared.enums.ConditionCode.{ConditionCode}
use Rattle.x86.specs.declared.enums.StringOp.{StringOp}
use Rattle.x86.specs.declared.enums.Prefix.{Prefix}
use Rattle.x86.specs.declared.enums.Instruction.{Instruction}
use Rattle.x86.specs.Registers.{gpr, RAX, RCX, RDX, RDI, rbp_plus}
use Rattle.codegen.specs.Context.{Context}
use Rattle.codegen.specs.Utils.{size_from, var_size, convert_var, convert_operand, size_or, is_one_byte, is_constant, own_size, load_from, load_value, load_operand}
use Rattle.codegen.specs.Instructions.{move, kind, operand_kind, source, func_epilogue, generate_return, generate_copy, cast_operand, widened, cast_between, is_unsigned_short, zero_extended, generate_cast, generate_zero, generate_jmp_if_not, generate_jump}
use Rattle.codegen.specs.Arithmetic.{simple_operation, two_loads, dividing, division, multiplication, shift, unsigned_code, compared, comparison, integer_binary, generate_binary, unary_records, generate_unary}
use Rattle.codegen.specs.Generation.{generate_instr}
use Rattle.machine.specs.Frames.{slot_of}
use Rattle.machine.specs.Steps.{width, is_signed, is_signed_type}
use Rattle.machine.specs.Simulation.{context_for}
use Rattle.codegen.proofs.Results.{Yields, yields, bind}
use Rattle.machine.proofs.Tests.{both}
use Rattle.machine.proofs.Frame.{displacement_is}
use Rattle.machine.proofs.Accepted.{Accepted, records}
use Rattle.machine.proofs.Generated.{labels_at, label_made}
use Rattle.machine.proofs.Plainness.{Width, one, four, eight, ScalarType, Entry, Scalar, PlainOperand, PlainBinary, PlainInstr, Meant}
use Rattle.ir.specs.declared.BinaryOp.{BinaryOp}

-- ---- operands

abbrev pub slot : Function → VarId → Operand
slot F v = rbp_plus (slot_of F.vars v.id)

abbrev pub convert : Function → IrOp → Operand
convert F (IrOp.Var v) = slot F v
convert F (IrOp.Int n short unsigned) = Operand.Imm n
convert F (IrOp.Float k) = Operand.NoOperand
convert F (IrOp.Bool b) = Operand.Imm (cond b 1 0)
convert F (IrOp.Address v) = Operand.NoOperand
convert F (IrOp.DataAddress k) = Operand.NoOperand
convert F IrOp.Null = Operand.Imm 0

-- the size of a move to a variable
abbrev pub size_in : VarId → Size
size_in d = element_size (bytes d.ty)

abbrev pub load : Function → Register → IrOp → Size → Instruction
load F r x z = load_from r (convert F x) z

-- .. into a general register
abbrev pub general_load : ℕ → Operand → Size → Instruction
general_load k a z =
    cond (is_one_byte z)
    (cond (is_constant a) (Instruction.Binary BinOp.Mov (Operand.Reg (gpr k)) a Size.U32) (Instruction.Extend ExtendOp.Movzx (gpr k) a Size.U8 Size.U64))
    (Instruction.Binary BinOp.Mov (Operand.Reg (gpr k)) a z)

pub general_load_lem : (k : ℕ) (a : Operand) (z : Size) → ltb k 16 ≡ true → load_from (gpr k) a z ≡ general_load k a z
unfolding load_from
general_load_lem k a z h = rw (lt-leb 16 k (ltb-true k 16 h))

abbrev pub store : Function → VarId → Register → Instruction
store F d r = move (slot F d) (Operand.Reg r) (size_in d)

-- ---- instructions

abbrev pub simple : Function → BinOp → VarId → IrOp → IrOp → List Instruction
simple F o d x y = load F RAX x (size_in d) ∷ Instruction.Binary o (Operand.Reg RAX) (convert F y) (size_in d) ∷ store F d RAX ∷ []

-- the condition code of a comparison, by whether its left is signed
abbrev pub code_of : Bool → ConditionCode → ConditionCode
code_of signed cc = cond (not signed) (unsigned_code cc) cc

abbrev pub compares : Function → ConditionCode → VarId → IrOp → IrOp → List Instruction
compares F cc d x y =
    load F RAX x (element_size (width x)) ∷ load F RCX y (element_size (width x))
    ∷ Instruction.Binary BinOp.Cmp (Operand.Reg RAX) (Operand.Reg RCX) (element_size (width x))
    ∷ Instruction.SetCC (code_of (is_signed x) cc) (Operand.Reg RAX) ∷ store F d RAX ∷ []

abbrev pub two : Function → VarId → IrOp → IrOp → List Instruction → Register → List Instruction
two F d x y operation r = load F RAX x (size_in d) ∷ load F RCX y (size_in d) ∷ operation ++ store F d r ∷ []

-- by whether dest is signed
abbrev pub divides : VarId → List Instruction
divides d = dividing (not (is_signed_type d.ty)) (size_in d)

abbrev pub multiplies : VarId → List Instruction
multiplies d = Instruction.ComplexBinary ComplexBinOp.Imul (Operand.Reg RAX) (Operand.Reg RCX) (size_in d) ∷ []

abbrev pub shifts : ShiftOp → VarId → List Instruction
shifts o d = Instruction.Shift o (Operand.Reg RAX) (Operand.Reg RCX) (size_in d) ∷ []

-- the shift to the right, by whether dest is signed
abbrev pub right_of : Bool → ShiftOp
right_of signed = cond (not signed) ShiftOp.Shr ShiftOp.Sar

abbrev pub lower_binary : Function → BinaryOp → VarId → IrOp → IrOp → List Instruction
lower_binary F BinaryOp.Or d x y = []
lower_binary F BinaryOp.And d x y = []
lower_binary F BinaryOp.BitOr d x y = simple F BinOp.Or d x y
lower_binary F BinaryOp.BitXor d x y = simple F BinOp.Xor d x y
lower_binary F BinaryOp.BitAnd d x y = simple F BinOp.And d x y
lower_binary F BinaryOp.Eq d x y = compares F ConditionCode.E d x y
lower_binary F BinaryOp.NotEq d x y = compares F ConditionCode.NE d x y
lower_binary F BinaryOp.Lt d x y = compares F ConditionCode.L d x y
lower_binary F BinaryOp.Le d x y = compares F ConditionCode.LE d x y
lower_binary F BinaryOp.Gt d x y = compares F ConditionCode.G d x y
lower_binary F BinaryOp.Ge d x y = compares F ConditionCode.GE d x y
lower_binary F BinaryOp.Shl d x y = two F d x y (shifts ShiftOp.Shl d) RAX
lower_binary F BinaryOp.Shr d x y = two F d x y (shifts (right_of (is_signed_type d.ty)) d) RAX
lower_binary F BinaryOp.Add d x y = simple F BinOp.Add d x y
lower_binary F BinaryOp.Sub d x y = simple F BinOp.Sub d x y
lower_binary F BinaryOp.Mul d x y = two F d x y (multiplies d) RAX
lower_binary F BinaryOp.Div d x y = two F d x y (divides d) RAX
lower_binary F BinaryOp.Rem d x y = two F d x y (divides d) RDX

-- a cast to more bytes, but for an unsigned short: RAX is widened first, a constant in RAX
abbrev pub widening : Function → IrOp → List Instruction
widening F (IrOp.Var v) =
    cond (eqb (bytes v.ty) 1) (Instruction.Extend ExtendOp.Movzx RAX (slot F v) Size.U8 Size.U64)
    (Instruction.Extend ExtendOp.Movsxd RAX (slot F v) Size.U32 Size.U64) ∷ []
widening F (IrOp.Int n short unsigned) =
    load F RAX (IrOp.Int n short unsigned) Size.U32 ∷ Instruction.Extend ExtendOp.Movsxd RAX (Operand.Reg RAX) Size.U32 Size.U64 ∷ []
widening F (IrOp.Float k) = []
widening F (IrOp.Bool b) = load F RAX (IrOp.Bool b) Size.U8 ∷ Instruction.Extend ExtendOp.Movzx RAX (Operand.Reg RAX) Size.U8 Size.U64 ∷ []
widening F (IrOp.Address v) = []
widening F (IrOp.DataAddress k) = []
widening F IrOp.Null = []

abbrev pub copies : Function → VarId → IrOp → List Instruction
copies F d x = load F RAX x (size_in d) ∷ store F d RAX ∷ []

abbrev pub zero_extends : Function → VarId → IrOp → List Instruction
zero_extends F d x = load F RAX x Size.U32 ∷ store F d RAX ∷ []

-- a cast, by whether dest has no more bytes, and whether the source is an unsigned short
abbrev pub casting : Function → VarId → IrOp → Bool → Bool → List Instruction
casting F d x narrow short = cond narrow (copies F d x) (cond short (zero_extends F d x) (widening F x ++ store F d RAX ∷ []))

abbrev pub lower : Function → Instr → List Instruction
lower F (Instr.Copy d x) = copies F d x
lower F (Instr.Unary d op x) = load F RAX x (size_in d) ∷ unary_records op false (size_in d) ++ store F d RAX ∷ []
lower F (Instr.Binary d op x y) = lower_binary F op d x y
lower F (Instr.Cast d x) = casting F d x (leb (bytes d.ty) (width x)) (is_unsigned_short x)
lower F (Instr.Zero d) =
    Instruction.Lea (slot F d) RDI Size.NoSize ∷ move (Operand.Reg RCX) (Operand.Imm (bytes d.ty)) Size.U64 ∷ move (Operand.Reg RAX) (Operand.Imm 0) Size.U64
    ∷ Instruction.Prefix Prefix.Rep StringOp.Stos Size.U8 ∷ []
lower F (Instr.Call d f count) = []
lower F (Instr.Label l) = Instruction.Label l ∷ []
lower F (Instr.Jump l) = Instruction.Ctrl CtrlOp.Jmp (Operand.Label l) ∷ []
lower F (Instr.JumpIfNot x l) =
    load F RAX x Size.U8 ∷ Instruction.Binary BinOp.Cmp (Operand.Reg RAX) (Operand.Imm 0) Size.U8
    ∷ Instruction.Ctrl (CtrlOp.JmpCC ConditionCode.E) (Operand.Label l) ∷ []
lower F (Instr.Return x) = load F RAX x (operand_size x) ∷ func_epilogue
lower F Instr.Comment = []

-- ---- parts of the lowering

-- a value that is known
exactly : {A : Type 0} {r : Result A} {a : A} → r ≡ ok a → Yields r (λ b. b ≡ a)
exactly {A} {r} {a} e = record { of = λ b f. cc }

pub eight_most : {n : ℕ} → Width n → n ≤ 8
eight_most one = omega arith
eight_most four = omega arith
eight_most eight = omega arith

or_true : (b : Bool) → (b || true) ≡ true
or_true true = refl
or_true false = refl

size_of : {n : ℕ} → Width n → size_from n ≡ ok (element_size n)
unfolding size_from
size_of one = refl
size_of four = refl
size_of eight = refl

given_size : {n : ℕ} (z : Size) → Width n → size_or (element_size n) z ≡ element_size n
given_size z one = refl
given_size z four = refl
given_size z eight = refl

pub operand_width : (F : Function) (x : IrOp) → PlainOperand F x → Width (width x)
unfolding width
operand_width F (IrOp.Var v) h = h.type.width
operand_width F (IrOp.Int v true unsigned) h = four
operand_width F (IrOp.Int v false unsigned) h = eight
operand_width F (IrOp.Float k) h = absurd h
operand_width F (IrOp.Bool b) h = one
operand_width F (IrOp.Address v) h = absurd h
operand_width F (IrOp.DataAddress k) h = absurd h
operand_width F IrOp.Null h = eight

-- the unsigned shorts are the unsigned ones of four bytes
pub short_is : (F : Function) (x : IrOp) → PlainOperand F x → is_unsigned_short x ≡ (eqb (width x) 4 && not (is_signed x))
unfolding width
short_is F (IrOp.Var v) h = h.type.short
short_is F (IrOp.Int v true true) h = refl
short_is F (IrOp.Int v true false) h = refl
short_is F (IrOp.Int v false unsigned) h = refl
short_is F (IrOp.Float k) h = absurd h
short_is F (IrOp.Bool b) h = refl
short_is F (IrOp.Address v) h = absurd h
short_is F (IrOp.DataAddress k) h = absurd h
short_is F IrOp.Null h = refl

pub short_width : (F : Function) (x : IrOp) → PlainOperand F x → is_unsigned_short x ≡ true → width x ≡ 4
short_width F x h e = eqb-true (width x) 4 (both (eqb (width x) 4) (not (is_signed x)) (sym (short_is F x h) ∙ e)).0

module _ (tables : Tables) (F : Function) where
  abbrev ctx : Context
  ctx = context_for tables F

  var_is : (v : VarId) → v.id < length F.vars → convert_var ctx v ≡ ok (slot F v)
  unfolding convert_var
  var_is v h = rw (displacement_is tables F.vars v.id h)

  size_is : (v : VarId) → ScalarType v.ty → var_size v ≡ ok (size_in v)
  unfolding var_size
  size_is v h = rw h.sized (size_of h.width)

  operand_is : (x : IrOp) → PlainOperand F x → convert_operand ctx x ≡ ok (convert F x)
  unfolding convert_operand
  operand_is (IrOp.Var v) h = var_is v h.at.there
  operand_is (IrOp.Int v short unsigned) h = refl
  operand_is (IrOp.Float k) h = absurd h
  operand_is (IrOp.Bool b) h = refl
  operand_is (IrOp.Address v) h = absurd h
  operand_is (IrOp.DataAddress k) h = absurd h
  operand_is IrOp.Null h = refl

  load_is : (r : Register) (x : IrOp) (z : Size) → PlainOperand F x → load_operand ctx r x z ≡ ok (load F r x (size_or z (operand_size x)))
  unfolding load_operand load_value own_size
  load_is r (IrOp.Var v) z h = rw (operand_is (IrOp.Var v) h)
  load_is r (IrOp.Int v short unsigned) z h = rw (operand_is (IrOp.Int v short unsigned) h)
  load_is r (IrOp.Float k) z h = absurd h
  load_is r (IrOp.Bool b) z h = rw (operand_is (IrOp.Bool b) h)
  load_is r (IrOp.Address v) z h = absurd h
  load_is r (IrOp.DataAddress k) z h = absurd h
  load_is r IrOp.Null z h = rw (operand_is IrOp.Null h)

  -- at a size that is given
  load_at : {n : ℕ} (r : Register) (x : IrOp) → Width n → PlainOperand F x → load_operand ctx r x (element_size n) ≡ ok (load F r x (element_size n))
  load_at {n} r x w h = load_is r x (element_size n) h ∙ ap (λ (z : Size). ok (load F r x z)) (given_size (operand_size x) w)

  kind_is : (x : IrOp) → PlainOperand F x → operand_kind ctx x ≡ ok (kind (width x) false (not (is_signed x)))
  unfolding operand_kind width
  kind_is (IrOp.Var v) h = rw (h.type.sized, h.type.whole, h.type.sign)
  kind_is (IrOp.Int v true true) h = refl
  kind_is (IrOp.Int v true false) h = refl
  kind_is (IrOp.Int v false true) h = refl
  kind_is (IrOp.Int v false false) h = refl
  kind_is (IrOp.Float k) h = absurd h
  kind_is (IrOp.Bool b) h = refl
  kind_is (IrOp.Address v) h = absurd h
  kind_is (IrOp.DataAddress k) h = absurd h
  kind_is IrOp.Null h = refl

  -- ---- instructions

  copy_is : (d : VarId) (x : IrOp) → Scalar F d → PlainOperand F x → generate_copy ctx d x ≡ ok (copies F d x)
  unfolding generate_copy
  copy_is d x s h = rw (var_is d s.at.there, size_is d s.type, load_at RAX x s.type.width h)

  unary_is : (d : VarId) (op : IrUnary) (x : IrOp) → Scalar F d → PlainOperand F x
      → generate_unary ctx d op x ≡ ok (load F RAX x (size_in d) ∷ unary_records op false (size_in d) ++ store F d RAX ∷ [])
  unfolding generate_unary
  unary_is d op x s h = rw (size_is d s.type, load_at RAX x s.type.width h, var_is d s.at.there, s.type.whole)

  simple_is : (o : BinOp) (d : VarId) (x y : IrOp) → Scalar F d → PlainOperand F x → PlainOperand F y → simple_operation ctx d x y o ≡ ok (simple F o d x y)
  unfolding simple_operation
  simple_is o d x y s h k = rw (size_is d s.type, load_at RAX x s.type.width h, operand_is y k, var_is d s.at.there)

  two_is : (d : VarId) (x y : IrOp) (operation : Size → List Instruction) (r : Register) → Scalar F d → PlainOperand F x → PlainOperand F y
      → two_loads ctx d x y operation r ≡ ok (two F d x y (operation (size_in d)) r)
  unfolding two_loads
  two_is d x y operation r s h k = rw (size_is d s.type, load_at RAX x s.type.width h, load_at RCX y s.type.width k, var_is d s.at.there)

  comparison_is : (cc : ConditionCode) (d : VarId) (x y : IrOp) → Scalar F d → PlainOperand F x → PlainOperand F y
      → comparison ctx d x y cc ≡ ok (compares F cc d x y)
  unfolding comparison compared
  comparison_is cc d x y s h k =
      let w : Width (width x) = operand_width F x h in
      rw (kind_is x h, size_of w, load_at RAX x w h, load_at RCX y w k, var_is d s.at.there, size_is d s.type)

  binary_is : (op : BinaryOp) (d : VarId) (x y : IrOp) → Scalar F d → PlainOperand F x → PlainOperand F y → PlainBinary op d x y
      → integer_binary ctx d op x y ≡ ok (lower_binary F op d x y)
  unfolding division multiplication shift
  binary_is BinaryOp.Or d x y s h k p = absurd p
  binary_is BinaryOp.And d x y s h k p = absurd p
  binary_is BinaryOp.BitOr d x y s h k p = simple_is BinOp.Or d x y s h k
  binary_is BinaryOp.BitXor d x y s h k p = simple_is BinOp.Xor d x y s h k
  binary_is BinaryOp.BitAnd d x y s h k p = simple_is BinOp.And d x y s h k
  binary_is BinaryOp.Eq d x y s h k p = comparison_is ConditionCode.E d x y s h k
  binary_is BinaryOp.NotEq d x y s h k p = comparison_is ConditionCode.NE d x y s h k
  binary_is BinaryOp.Lt d x y s h k p = comparison_is ConditionCode.L d x y s h k
  binary_is BinaryOp.Le d x y s h k p = comparison_is ConditionCode.LE d x y s h k
  binary_is BinaryOp.Gt d x y s h k p = comparison_is ConditionCode.G d x y s h k
  binary_is BinaryOp.Ge d x y s h k p = comparison_is ConditionCode.GE d x y s h k
  binary_is BinaryOp.Shl d x y s h k p = two_is d x y _ RAX s h k
  binary_is BinaryOp.Shr d x y s h k p = rw s.type.sign (two_is d x y _ RAX s h k)
  binary_is BinaryOp.Add d x y s h k p = simple_is BinOp.Add d x y s h k
  binary_is BinaryOp.Sub d x y s h k p = simple_is BinOp.Sub d x y s h k
  binary_is BinaryOp.Mul d x y s h k p = two_is d x y _ RAX s h k
  binary_is BinaryOp.Div d x y s h k p = rw s.type.sign (two_is d x y _ RAX s h k)
  binary_is BinaryOp.Rem d x y s h k p = rw s.type.sign (two_is d x y _ RDX s h k)

  zero_is : (d : VarId) → Entry F d → generate_zero ctx d ≡ ok (lower F (Instr.Zero d))
  unfolding generate_zero
  zero_is d h = rw (h.sized, var_is d h.there)

  return_is : (ret : IrType) (x : IrOp) → is_float ret ≡ false → PlainOperand F x → generate_return ctx ret x ≡ ok (lower F (Instr.Return x))
  unfolding generate_return
  return_is ret x e h = rw (e, load_is RAX x Size.NoSize h)

  extend_var : (d v : VarId) {n : ℕ} → Scalar F d → Width n → n < bytes d.ty
      → cast_between ctx d (widened false (source [] (slot F v) n)) false false (bytes d.ty)
      ≡ ok (cond (eqb n 1) (Instruction.Extend ExtendOp.Movzx RAX (slot F v) Size.U8 Size.U64)
      (Instruction.Extend ExtendOp.Movsxd RAX (slot F v) Size.U32 Size.U64) ∷ store F d RAX ∷ [])
  unfolding cast_between
  extend_var d v s one k = rw (var_is d s.at.there, size_is d s.type)
  extend_var d v s four k = rw (var_is d s.at.there, size_is d s.type)
  extend_var d v s eight k = absurd (omega (arith, eight_most s.type.width))

  extend_is : (d : VarId) (x : IrOp) → Scalar F d → PlainOperand F x → width x < bytes d.ty
      → (cast_operand ctx x (width x) >>= λ s. cast_between ctx d (widened false s) false false (bytes d.ty)) ≡ ok (widening F x ++ store F d RAX ∷ [])
  unfolding cast_operand cast_between width
  extend_is d (IrOp.Var v) s h k = rw (var_is v h.at.there) (extend_var d v s h.type.width k)
  extend_is d (IrOp.Int v true unsigned) s h k = rw (load_is RAX (IrOp.Int v true unsigned) Size.U32 h, var_is d s.at.there, size_is d s.type)
  extend_is d (IrOp.Int v false unsigned) s h k = absurd (omega (arith, eight_most s.type.width))
  extend_is d (IrOp.Float j) s h k = absurd h
  extend_is d (IrOp.Bool b) s h k = rw (load_is RAX (IrOp.Bool b) Size.U8 h, var_is d s.at.there, size_is d s.type)
  extend_is d (IrOp.Address v) s h k = absurd h
  extend_is d (IrOp.DataAddress j) s h k = absurd h
  extend_is d IrOp.Null s h k = absurd (omega (arith, eight_most s.type.width))

  zero_extended_is : (d : VarId) (x : IrOp) → Scalar F d → PlainOperand F x → zero_extended ctx d x ≡ ok (zero_extends F d x)
  unfolding zero_extended
  zero_extended_is d x s h = rw (load_is RAX x Size.U32 h, var_is d s.at.there, size_is d s.type)

  cast_is : (d : VarId) (x : IrOp) → Scalar F d → PlainOperand F x → generate_cast ctx d x ≡ ok (lower F (Instr.Cast d x))
  unfolding generate_cast
  cast_is d x s h = rw (kind_is x h, s.type.sized, s.type.whole) (go (leb (bytes d.ty) (width x)) (is_unsigned_short x) refl)
    where
      go : (b z : Bool) → leb (bytes d.ty) (width x) ≡ b
          → cond ((true && (eqb (width x) (bytes d.ty) || true)) && b) (generate_copy ctx d x)
          (cond z (zero_extended ctx d x) (cast_operand ctx x (width x) >>= λ s. cast_between ctx d (widened false s) false false (bytes d.ty)))
          ≡ ok (casting F d x b z)
      go true z e = rw (or_true (eqb (width x) (bytes d.ty))) (copy_is d x s h)
      go false true e = rw (or_true (eqb (width x) (bytes d.ty))) (zero_extended_is d x s h)
      go false false e = rw (or_true (eqb (width x) (bytes d.ty))) (extend_is d x s h (leb-false (bytes d.ty) (width x) e))

  -- ---- all of them

  lowers : (args : List IrOp) (i : Instr) → Meant F → PlainInstr F i → Yields (generate_instr ctx F.labels F.ret i args) (λ b. b ≡ lower F i)
  unfolding generate_instr generate_binary generate_jump generate_jmp_if_not
  lowers args (Instr.Copy d x) m (s, h, w) = exactly (copy_is d x s h)
  lowers args (Instr.Unary d op x) m (s, h, w) = exactly (unary_is d op x s h)
  lowers args (Instr.Binary d op x y) m (s, h, k, w, p) = rw s.type.whole (exactly (binary_is op d x y s h k p))
  lowers args (Instr.Cast d x) m (s, h, w) = exactly (cast_is d x s h)
  lowers args (Instr.Zero d) m h = exactly (zero_is d h)
  lowers args (Instr.Call d f count) m h = absurd h
  lowers args (Instr.Label l) m h = label_made F.labels l
  lowers args (Instr.Jump l) m h = bind (labels_at F.labels l) (λ k e. yields (rw e))
  lowers args (Instr.JumpIfNot x l) m (h, w, q) =
      bind (exactly (load_is RAX x Size.U8 h)) (λ i e. bind (labels_at F.labels l) (λ k f. yields (rw (e, f))))
  lowers args (Instr.Return x) m h = exactly (return_is F.ret x m.ret h)
  lowers args Instr.Comment m h = yields refl

  -- the records of a line are those
  pub lowered : Accepted tables F → Meant F → (k : ℕ) (l : Line) (r : List Line) → drop k F.body ≡ l ∷ r → records tables F l ≡ lower F l.instr
  lowered a m k l r d = (lowers l.args l.instr m (m.lines k l r d)).of (records tables F l) (a.lines k l r d)
