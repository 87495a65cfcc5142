-- What an instruction is lowered to: what its maker looked up, and the list that it then gave. Every answer is such a list or a refusal by 4 to 7.
use Prim.Native.Nat.{ℕ, suc}
use mathlib.Core.Path.{◌≡◌, refl}
use mathlib.Core.Bool.{Bool, true, false, cond, not, ◌&&◌, false≢true}
use mathlib.Core.List.{List, [], ◌∷◌, ◌++◌}
use lib.Dec.{ltb, eqb}
use lib.ListN.{length, get_or}
use Rattle.cells.specs.Refusals.{no_entry, no_lowering}
use Rattle.ir.specs.declared.«Type».{«Type» as IrType}
use Rattle.ir.specs.declared.VarId.{VarId}
use Rattle.ir.specs.declared.Operand.{Operand as IrOp}
use Rattle.ir.specs.declared.UnaryOp.{UnaryOp as IrUnary}
use Rattle.std.specs.Prelude.{Option, Some, None}
use Rattle.ir.specs.declared.Instr.{Instr}
use Rattle.ir.specs.Types.{Result, ok, refused, ◌>>=◌, type_size, is_float, is_unsigned, element_width}
use Rattle.x86.specs.declared.register.Register.{Register}
use Rattle.x86.specs.declared.enums.Size.{Size}
use Rattle.x86.specs.declared.enums.Operand.{Operand}
use Rattle.x86.specs.declared.enums.BinOp.{BinOp}
use Rattle.x86.specs.declared.enums.ComplexBinOp.{ComplexBinOp}
use Rattle.x86.specs.declared.enums.ShiftOp.{ShiftOp}
use Rattle.x86.specs.declared.enums.ConditionCode.{ConditionCode}
use Rattle.x86.specs.declared.enums.ConvOp.{ConvOp}
use Rattle.x86.specs.declared.enums.CtrlOp.{CtrlOp}
use Rattle.x86.specs.declared.enums.ExtendOp.{ExtendOp}
use Rattle.x86.specs.declared.enums.Prefix.{Prefix}
use Rattle.x86.specs.declared.enums.StringOp.{StringOp}
use Rattle.x86.specs.declared.enums.Instruction.{Instruction}
use Rattle.x86.specs.Registers.{xmm, RAX, RCX, RDX, RDI}
use Rattle.codegen.specs.Context.{Context, displacement, string_at, float_at, float_short, label_at}
use Rattle.codegen.specs.Utils.{size_from, var_size, convert_var, convert_operand, load_string, load_value, load_operand}
use Rattle.codegen.specs.Instructions.{move, Kind, operand_kind, is_copy, Source, widened, converted, extended, cast_operand, cast_between, is_unsigned_short, zero_extended, func_epilogue, generate_return, generate_copy, generate_cast, generate_zero, floating, is_spent, words_taken, floats_taken, excess, register_of, load_arguments, push_arguments, store_result, generate_call, generate_jmp_if_not, generate_label, generate_jump}
use Rattle.codegen.specs.Arithmetic.{simple_operation, float_operation, two_loads, dividing, division, multiplication, shift, is_swapped, ordered, compared, float_comparison, comparison, generate_binary, unary_records, generate_unary}
use Rattle.codegen.specs.Frame.{store_of}
use Rattle.codegen.specs.Generation.{generate_instr}
use Rattle.codegen.proofs.Results.{Closed, gives, Slips, fine, slip, look, found, implies, either}
use Rattle.ir.specs.declared.BinaryOp.{BinaryOp}

-- ---- copies and casts

pub data ZeroExtends (ctx : Context) (d : VarId) (x : IrOp) : List Instruction → Type 0 where
  zero_extends_lem : {load : Instruction} {var : Operand} {z : Size} → load_operand ctx RAX x Size.U32 ≡ ok load → convert_var ctx d ≡ ok var → var_size d ≡ ok z
      → ZeroExtends ctx d x (load ∷ move var (Operand.Reg RAX) z ∷ [])

pub data Copies (ctx : Context) (d : VarId) (x : IrOp) : List Instruction → Type 0 where
  copies : {var : Operand} {z : Size} {load : Instruction} → convert_var ctx d ≡ ok var → var_size d ≡ ok z → load_operand ctx RAX x z ≡ ok load
      → Copies ctx d x (load ∷ move var (Operand.Reg RAX) z ∷ [])

-- the register of a float, or of any other value, that is worked on and stored
abbrev pub working : Bool → Register
working float = cond float (xmm 0) RAX

-- the conversion of a cast and the size of its record, by whether source and dest are floats
pub data Conversion (d : VarId) (s : Source) (n : ℕ) : Bool → Bool → ConvOp → Size → Type 0 where
  between_floats : Conversion d s n true true (cond (eqb n 8) ConvOp.Cvtss2sd ConvOp.Cvtsd2ss) Size.NoSize
  to_float : {z : Size} → size_from s.size ≡ ok z → Conversion d s n false true (cond (eqb n 8) ConvOp.Cvtsi2sd ConvOp.Cvtsi2ss) z
  from_float : {z : Size} → var_size d ≡ ok z → Conversion d s n true false (cond (eqb s.size 8) ConvOp.Cvttsd2si ConvOp.Cvttss2si) z

pub data Converts (ctx : Context) (d : VarId) (s : Source) (n : ℕ) : Bool → Bool → List Instruction → Type 0 where
  conversion : {a b : Bool} {op : ConvOp} {z stored : Size} {var : Operand} → Conversion d s n a b op z → convert_var ctx d ≡ ok var → var_size d ≡ ok stored
      → Converts ctx d s n a b (s.records ++ Instruction.Convert op (working b) s.operand z
      ∷ Instruction.Binary (cond (is_float d.ty) BinOp.StoreF BinOp.Mov) var (Operand.Reg (working b)) stored ∷ [])
  extension : {z : Size} {var : Operand} → convert_var ctx d ≡ ok var → var_size d ≡ ok z → Converts ctx d s n false false
      (s.records ++ cond (eqb s.size 8) [] (Instruction.Extend ExtendOp.Movsxd RAX s.operand Size.U32 Size.U64 ∷ []) ++ move var (Operand.Reg RAX) z ∷ [])

-- ---- operations of two sides

-- the operations whose sides are taken by dest's size, and those that compare
abbrev pub calculations : List BinaryOp
calculations =
    BinaryOp.BitOr ∷ BinaryOp.BitXor ∷ BinaryOp.BitAnd ∷ BinaryOp.Shl ∷ BinaryOp.Shr ∷ BinaryOp.Add ∷ BinaryOp.Sub ∷ BinaryOp.Mul ∷ BinaryOp.Div ∷ BinaryOp.Rem ∷ []

abbrev pub comparisons : List BinaryOp
comparisons = BinaryOp.Eq ∷ BinaryOp.NotEq ∷ BinaryOp.Lt ∷ BinaryOp.Le ∷ BinaryOp.Gt ∷ BinaryOp.Ge ∷ []

-- what follows two loads, and the register that has the result
pub data Works (z : Size) : List Instruction → Register → Type 0 where
  quotient : (unsigned : Bool) → Works z (dividing unsigned z) RAX
  remainder : (unsigned : Bool) → Works z (dividing unsigned z) RDX
  product : Works z (Instruction.ComplexBinary ComplexBinOp.Imul (Operand.Reg RAX) (Operand.Reg RCX) z ∷ []) RAX
  shifted : (op : ShiftOp) → Works z (Instruction.Shift op (Operand.Reg RAX) (Operand.Reg RCX) z ∷ []) RAX

-- the two sides of a comparison, each with its register, and what equality of floats asks besides
pub data Sides (x y : IrOp) : Register → IrOp → Register → IrOp → List Instruction → Type 0 where
  words : Sides x y RAX x RCX y []
  floats : (cc : ConditionCode) → Sides x y (xmm 0) x (xmm 1) y (ordered cc)
  swapped : Sides x y (xmm 0) y (xmm 1) x []

-- by one load or two, or a comparison; which record computes an operation is left open
pub data Operates (ctx : Context) (d : VarId) (op : BinaryOp) (x y : IrOp) : List Instruction → Type 0 where
  one_load_lem : {p : BinOp} {z : Size} {load : Instruction} {src var : Operand} (k : ℕ) (float : Bool) → op ≡ get_or calculations k BinaryOp.Add
      → var_size d ≡ ok z → load_operand ctx (working float) x z ≡ ok load → convert_operand ctx y ≡ ok src → convert_var ctx d ≡ ok var
      → Operates ctx d op x y
      (load ∷ Instruction.Binary p (Operand.Reg (working float)) src z ∷ Instruction.Binary (store_of float) var (Operand.Reg (working float)) z ∷ [])
  two_loads_lem : {z : Size} {a b : Instruction} {work : List Instruction} {r : Register} {var : Operand} (k : ℕ) → op ≡ get_or calculations k BinaryOp.Add
      → var_size d ≡ ok z → load_operand ctx RAX x z ≡ ok a → load_operand ctx RCX y z ≡ ok b → Works z work r → convert_var ctx d ≡ ok var
      → Operates ctx d op x y (a ∷ b ∷ work ++ move var (Operand.Reg r) z ∷ [])
  compares : {p : BinOp} {code : ConditionCode} {left : Kind} {z stored : Size} {a b : Register} {l r : IrOp} {more : List Instruction} {i j : Instruction}
      {var : Operand} (k : ℕ) → op ≡ get_or comparisons k BinaryOp.Eq
      → operand_kind ctx x ≡ ok left → size_from left.size ≡ ok z → Sides x y a l b r more → load_operand ctx a l z ≡ ok i → load_operand ctx b r z ≡ ok j
      → convert_var ctx d ≡ ok var → var_size d ≡ ok stored → Operates ctx d op x y
      (i ∷ j ∷ Instruction.Binary p (Operand.Reg a) (Operand.Reg b) z ∷ Instruction.SetCC code (Operand.Reg RAX) ∷ more ++ move var (Operand.Reg RAX) stored ∷ [])

-- ---- every instruction

pub data Lowers (ctx : Context) (labels : ℕ) (ret : IrType) : Instr → List IrOp → List Instruction → Type 0 where
  copied : {d : VarId} {x : IrOp} {args : List IrOp} {b : List Instruction} → Copies ctx d x b → Lowers ctx labels ret (Instr.Copy d x) args b
  unary : {d : VarId} {op : IrUnary} {x : IrOp} {args : List IrOp} {z : Size} {load : Instruction} {var : Operand} → var_size d ≡ ok z
      → load_operand ctx RAX x z ≡ ok load → convert_var ctx d ≡ ok var
      → Lowers ctx labels ret (Instr.Unary d op x) args (load ∷ unary_records op (is_float d.ty) z ++ move var (Operand.Reg RAX) z ∷ [])
  binary : {d : VarId} {op : BinaryOp} {x y : IrOp} {args : List IrOp} {b : List Instruction} → Operates ctx d op x y b
      → Lowers ctx labels ret (Instr.Binary d op x y) args b
  cast_copied : {d : VarId} {x : IrOp} {args : List IrOp} {k : Kind} {n : ℕ} {b : List Instruction} → operand_kind ctx x ≡ ok k → type_size d.ty ≡ ok n
      → is_copy k (is_float d.ty) n ≡ true → Copies ctx d x b → Lowers ctx labels ret (Instr.Cast d x) args b
  cast_short : {d : VarId} {x : IrOp} {args : List IrOp} {b : List Instruction} → is_unsigned_short x ≡ true → ZeroExtends ctx d x b
      → Lowers ctx labels ret (Instr.Cast d x) args b
  cast : {d : VarId} {x : IrOp} {args : List IrOp} {k : Kind} {n : ℕ} {s : Source} {b : List Instruction} → operand_kind ctx x ≡ ok k → type_size d.ty ≡ ok n
      → is_copy k (is_float d.ty) n ≡ false → cast_operand ctx x k.size ≡ ok s → Converts ctx d (widened k.float s) n k.float (is_float d.ty) b
      → Lowers ctx labels ret (Instr.Cast d x) args b
  zeroed : {d : VarId} {args : List IrOp} {n : ℕ} {var : Operand} → type_size d.ty ≡ ok n → convert_var ctx d ≡ ok var
      → Lowers ctx labels ret (Instr.Zero d) args (Instruction.Lea var RDI Size.NoSize ∷ move (Operand.Reg RCX) (Operand.Imm n) Size.U64
      ∷ move (Operand.Reg RAX) (Operand.Imm 0) Size.U64 ∷ Instruction.Prefix Prefix.Rep StringOp.Stos Size.U8 ∷ [])
  called : {d : Option VarId} {f count : ℕ} {args : List IrOp} {b : List Instruction} → generate_call ctx d f args ≡ ok b
      → Lowers ctx labels ret (Instr.Call d f count) args b
  labelled : {l k : ℕ} {args : List IrOp} → label_at labels l ≡ ok k → Lowers ctx labels ret (Instr.Label l) args (Instruction.Label k ∷ [])
  jump : {l k : ℕ} {args : List IrOp} → label_at labels l ≡ ok k → Lowers ctx labels ret (Instr.Jump l) args (Instruction.Ctrl CtrlOp.Jmp (Operand.Label k) ∷ [])
  branch : {x : IrOp} {l k : ℕ} {args : List IrOp} {load : Instruction} → load_operand ctx RAX x Size.U8 ≡ ok load → label_at labels l ≡ ok k
      → Lowers ctx labels ret (Instr.JumpIfNot x l) args (load ∷ Instruction.Binary BinOp.Cmp (Operand.Reg RAX) (Operand.Imm 0) Size.U8
      ∷ Instruction.Ctrl (CtrlOp.JmpCC ConditionCode.E) (Operand.Label k) ∷ [])
  returned : {x : IrOp} {args : List IrOp} {load : Instruction} → load_operand ctx (working (is_float ret)) x Size.NoSize ≡ ok load
      → Lowers ctx labels ret (Instr.Return x) args (load ∷ func_epilogue)
  comment : {args : List IrOp} → Lowers ctx labels ret Instr.Comment args []

-- ---- look-ups

-- an entry of a table that has so many
entry : {A : Type 0} (k n : ℕ) (a : A) → Slips (cond (ltb k n) (ok a) (refused no_entry))
entry k n a = either (ltb k n) (λ e. fine) (λ e. slip 5 refl refl)

type_size_lem : (ty : IrType) → Slips (type_size ty)
unfolding type_size
type_size_lem ty = either (eqb (element_width ty.code) 0) (λ e. slip 4 refl refl) (λ e. fine)

size_from_lem : (n : ℕ) → Slips (size_from n)
unfolding size_from
size_from_lem n =
    either (eqb n 1) (λ e. fine) (λ e. either (eqb n 2) (λ e. fine) (λ e. either (eqb n 4) (λ e. fine) (λ e.
    either (eqb n 8) (λ e. fine) (λ e. slip 6 refl refl))))

pub var_size_lem : (v : VarId) → Slips (var_size v)
unfolding var_size
var_size_lem v = look (type_size_lem v.ty) (λ n e. size_from_lem n)

label_at_lem : (labels l : ℕ) → Slips (label_at labels l)
unfolding label_at
label_at_lem labels l = entry l labels l

module _ (ctx : Context) where
  pub var : (v : VarId) → Slips (convert_var ctx v)
  unfolding convert_var displacement
  var v = look (entry v.id (length ctx.offsets) _) (λ d e. fine)

  operand : (x : IrOp) → Slips (convert_operand ctx x)
  unfolding convert_operand float_at
  operand (IrOp.Var v) = var v
  operand (IrOp.Int n short unsigned) = fine
  operand (IrOp.Float k) = look (entry k ctx.tables.floats k) (λ f e. fine)
  operand (IrOp.Bool b) = fine
  operand (IrOp.Address v) = slip 7 refl refl
  operand (IrOp.DataAddress k) = slip 7 refl refl
  operand IrOp.Null = fine

  load : (r : Register) (x : IrOp) (z : Size) → Slips (load_operand ctx r x z)
  unfolding load_operand load_value load_string string_at
  load r (IrOp.Var v) z = look (operand (IrOp.Var v)) (λ y e. fine)
  load r (IrOp.Int n short unsigned) z = look (operand (IrOp.Int n short unsigned)) (λ y e. fine)
  load r (IrOp.Float k) z = look (operand (IrOp.Float k)) (λ y e. fine)
  load r (IrOp.Bool b) z = look (operand (IrOp.Bool b)) (λ y e. fine)
  load r (IrOp.Address v) z = look (operand (IrOp.Address v)) (λ y e. fine)
  load r (IrOp.DataAddress k) z = look (entry k ctx.tables.strings k) (λ s e. fine)
  load r IrOp.Null z = look (operand IrOp.Null) (λ y e. fine)

  kind : (x : IrOp) → Slips (operand_kind ctx x)
  unfolding operand_kind float_short
  kind (IrOp.Var v) = look (type_size_lem v.ty) (λ n e. fine)
  kind (IrOp.Int n short unsigned) = fine
  kind (IrOp.Float k) = look (entry k ctx.tables.floats _) (λ s e. fine)
  kind (IrOp.Bool b) = fine
  kind (IrOp.Address v) = fine
  kind (IrOp.DataAddress k) = fine
  kind IrOp.Null = fine

  source : (x : IrOp) (n : ℕ) → Slips (cast_operand ctx x n)
  unfolding cast_operand
  source (IrOp.Var v) n = look (var v) (λ x e. fine)
  source (IrOp.Int v short unsigned) n = look (load RAX (IrOp.Int v short unsigned) _) (λ i e. fine)
  source (IrOp.Float k) n = look (operand (IrOp.Float k)) (λ x e. fine)
  source (IrOp.Bool b) n = look (load RAX (IrOp.Bool b) Size.U8) (λ i e. fine)
  source (IrOp.Address v) n = look (operand (IrOp.Address v)) (λ x e. fine)
  source (IrOp.DataAddress k) n = look (operand (IrOp.DataAddress k)) (λ x e. fine)
  source IrOp.Null n = look (operand IrOp.Null) (λ x e. fine)

  -- ---- calls

  loads : (i f : ℕ) (xs : List IrOp) → Slips (load_arguments ctx i f xs)
  unfolding load_arguments
  loads i f [] = fine
  loads i f (x ∷ xs) =
      either (is_spent (floating x) i f) (λ e. loads i f xs)
      (λ e. look (load (register_of (floating x) i f) x Size.NoSize) (λ a p. look (loads (words_taken (floating x) i) (floats_taken (floating x) f) xs) (λ l q. fine)))

  pushes : (j : ℕ) (xs : List IrOp) → Slips (push_arguments ctx j xs)
  unfolding push_arguments
  pushes j [] = fine
  pushes j (x ∷ xs) = look (load RAX x Size.NoSize) (λ a p. look (pushes (suc j) xs) (λ l q. fine))

  result : (d : Option VarId) → Slips (store_result ctx d)
  unfolding store_result
  result None = fine
  result (Some v) = look (var v) (λ y p. look (var_size_lem v) (λ z q. fine))

  call : (d : Option VarId) (f : ℕ) (xs : List IrOp) → Slips (generate_call ctx d f xs)
  unfolding generate_call
  call d f xs = look (pushes 0 (excess floating 0 0 xs)) (λ p _. look (loads 0 0 xs) (λ l _. look (result d) (λ s _. fine)))

  -- ---- makers

  copy : (d : VarId) (x : IrOp) → Closed (Copies ctx d x) (generate_copy ctx d x)
  unfolding generate_copy
  copy d x = look (var d) (λ y p. look (var_size_lem d) (λ z q. look (load RAX x z) (λ i r. gives (copies p q r))))

  zero_extending : (d : VarId) (x : IrOp) → Closed (ZeroExtends ctx d x) (zero_extended ctx d x)
  unfolding zero_extended
  zero_extending d x = look (load RAX x Size.U32) (λ i p. look (var d) (λ y q. look (var_size_lem d) (λ z r. gives (zero_extends_lem p q r))))

  converting : {d : VarId} {s : Source} {n : ℕ} {a b : Bool} {op : ConvOp} {z : Size} → Conversion d s n a b op z
      → Closed (Converts ctx d s n a b) (converted ctx d s op (working b) z)
  converting {d} c = look (var d) (λ y p. look (var_size_lem d) (λ z q. gives (conversion c p q)))

  extending : (d : VarId) (s : Source) (n : ℕ) → Closed (Converts ctx d s n false false) (extended ctx d s)
  extending d s n = look (var d) (λ y p. look (var_size_lem d) (λ z q. gives (extension p q)))

  between : (d : VarId) (s : Source) (n : ℕ) (a b : Bool) → Closed (Converts ctx d s n a b) (cast_between ctx d s a b n)
  unfolding cast_between
  between d s n true true = converting between_floats
  between d s n false true = look (size_from_lem s.size) (λ z e. converting (to_float e))
  between d s n true false = look (var_size_lem d) (λ z e. converting (from_float e))
  between d s n false false = extending d s n

  -- of simple_operation, and of float_operation
  one : {d : VarId} {op : BinaryOp} {x y : IrOp} (float : Bool) (p : BinOp) (k : ℕ) → op ≡ get_or calculations k BinaryOp.Add
      → Closed (Operates ctx d op x y) (var_size d >>= λ z. load_operand ctx (working float) x z >>= λ load. convert_operand ctx y >>= λ src. convert_var ctx d >>= λ v.
      ok (load ∷ Instruction.Binary p (Operand.Reg (working float)) src z ∷ Instruction.Binary (store_of float) v (Operand.Reg (working float)) z ∷ []))
  one {d} {x = x} {y} float p k h =
      look (var_size_lem d) (λ z e. look (load (working float) x z) (λ i f. look (operand y) (λ b g. look (var d) (λ v j. gives (one_load_lem k float h e f g j)))))

  two : {d : VarId} {op : BinaryOp} {x y : IrOp} {work : Size → List Instruction} {r : Register} (k : ℕ) → op ≡ get_or calculations k BinaryOp.Add
      → ((z : Size) → Works z (work z) r) → Closed (Operates ctx d op x y) (two_loads ctx d x y work r)
  unfolding two_loads
  two {d} {x = x} {y} k h w =
      look (var_size_lem d) (λ z e. look (load RAX x z) (λ i f. look (load RCX y z) (λ j g. look (var d) (λ v l. gives (two_loads_lem k h e f g (w z) l)))))

  comparing : {d : VarId} {op : BinaryOp} {x y : IrOp} (cc : ConditionCode) (k : ℕ) → op ≡ get_or comparisons k BinaryOp.Eq
      → Closed (Operates ctx d op x y) (comparison ctx d x y cc)
  unfolding comparison float_comparison compared
  comparing {d} {op} {x} {y} cc k h =
      look (kind x) (λ left e. look (size_from_lem left.size) (λ z f. either left.float
      (λ _. either (is_swapped cc) (λ _. sides left z e f _ _ swapped) (λ _. sides left z e f _ _ (floats cc))) (λ _. sides left z e f _ _ words)))
    where
      sides : (left : Kind) (z : Size) → operand_kind ctx x ≡ ok left → size_from left.size ≡ ok z → {a b : Register} {l r : IrOp} {more : List Instruction}
          (p : BinOp) (code : ConditionCode) → Sides x y a l b r more → Closed (Operates ctx d op x y) (compared ctx d a l b r z p code more)
      sides left z e f {a} {b} {l} {r} p code s =
          look (load a l z) (λ i g. look (load b r z) (λ j m. look (var d) (λ v n. look (var_size_lem d) (λ q t. gives (compares k h e f s g m n t)))))

  -- what is not done on a float
  words_only : {P : List Instruction → Type 0} {r : Result (List Instruction)} (float : Bool) → Closed P r → Closed P (cond float (refused no_lowering) r)
  words_only float h = either float (λ _. slip 7 refl refl) (λ _. h)

  operates : (d : VarId) (op : BinaryOp) (x y : IrOp) → Closed (Operates ctx d op x y) (generate_binary ctx d op x y)
  unfolding generate_binary simple_operation float_operation division multiplication shift
  operates d BinaryOp.Or x y = words_only (is_float d.ty) (slip 7 refl refl)
  operates d BinaryOp.And x y = words_only (is_float d.ty) (slip 7 refl refl)
  operates d BinaryOp.BitOr x y = words_only (is_float d.ty) (one false BinOp.Or 0 refl)
  operates d BinaryOp.BitXor x y = words_only (is_float d.ty) (one false BinOp.Xor 1 refl)
  operates d BinaryOp.BitAnd x y = words_only (is_float d.ty) (one false BinOp.And 2 refl)
  operates d BinaryOp.Eq x y = words_only (is_float d.ty) (comparing ConditionCode.E 0 refl)
  operates d BinaryOp.NotEq x y = words_only (is_float d.ty) (comparing ConditionCode.NE 1 refl)
  operates d BinaryOp.Lt x y = words_only (is_float d.ty) (comparing ConditionCode.L 2 refl)
  operates d BinaryOp.Le x y = words_only (is_float d.ty) (comparing ConditionCode.LE 3 refl)
  operates d BinaryOp.Gt x y = words_only (is_float d.ty) (comparing ConditionCode.G 4 refl)
  operates d BinaryOp.Ge x y = words_only (is_float d.ty) (comparing ConditionCode.GE 5 refl)
  operates d BinaryOp.Shl x y = words_only (is_float d.ty) (two 3 refl (λ z. shifted ShiftOp.Shl))
  operates d BinaryOp.Shr x y = words_only (is_float d.ty) (two 4 refl (λ z. shifted (cond (is_unsigned d.ty) ShiftOp.Shr ShiftOp.Sar)))
  operates d BinaryOp.Add x y = either (is_float d.ty) (λ _. one true BinOp.AddF 5 refl) (λ _. one false BinOp.Add 5 refl)
  operates d BinaryOp.Sub x y = either (is_float d.ty) (λ _. one true BinOp.SubF 6 refl) (λ _. one false BinOp.Sub 6 refl)
  operates d BinaryOp.Mul x y = either (is_float d.ty) (λ _. one true BinOp.MulF 7 refl) (λ _. two 7 refl (λ z. product))
  operates d BinaryOp.Div x y = either (is_float d.ty) (λ _. one true BinOp.DivF 8 refl) (λ _. two 8 refl (λ z. quotient (is_unsigned d.ty)))
  operates d BinaryOp.Rem x y = words_only (is_float d.ty) (two 9 refl (λ z. remainder (is_unsigned d.ty)))

  -- ---- every answer

  second : (a b : Bool) → (a && b) ≡ true → b ≡ true
  second true b e = e
  second false b e = absurd (false≢true e)

  pub lowers : (labels : ℕ) (ret : IrType) (i : Instr) (args : List IrOp) → Closed (Lowers ctx labels ret i args) (generate_instr ctx labels ret i args)
  unfolding generate_instr generate_unary generate_cast generate_zero generate_label generate_jump generate_jmp_if_not generate_return
  lowers labels ret (Instr.Copy d x) args = implies (copy d x) (λ b h. copied h)
  lowers labels ret (Instr.Unary d op x) args = look (var_size_lem d) (λ z p. look (load RAX x z) (λ i q. look (var d) (λ v r. gives (unary p q r))))
  lowers labels ret (Instr.Binary d op x y) args = implies (operates d op x y) (λ b h. binary h)
  lowers labels ret (Instr.Cast d x) args =
      look (kind x) (λ k p. look (type_size_lem d.ty) (λ n q. either (is_copy k (is_float d.ty) n) (λ e. implies (copy d x) (λ b h. cast_copied p q e h))
      (λ e. either (not (is_float d.ty) && is_unsigned_short x)
      (λ u. implies (zero_extending d x) (λ b h. cast_short (second (not (is_float d.ty)) (is_unsigned_short x) u) h))
      (λ u. look (source x k.size) (λ s r. implies (between d (widened k.float s) n k.float (is_float d.ty)) (λ b h. cast p q e r h))))))
  lowers labels ret (Instr.Zero d) args = look (type_size_lem d.ty) (λ n p. look (var d) (λ v q. gives (zeroed p q)))
  lowers labels ret (Instr.Call d f count) args = implies (found (call d f args)) (λ b h. called h)
  lowers labels ret (Instr.Label l) args = look (label_at_lem labels l) (λ k p. gives (labelled p))
  lowers labels ret (Instr.Jump l) args = look (label_at_lem labels l) (λ k p. gives (jump p))
  lowers labels ret (Instr.JumpIfNot x l) args = look (load RAX x Size.U8) (λ i p. look (label_at_lem labels l) (λ k q. gives (branch p q)))
  lowers labels ret (Instr.Return x) args = look (load (working (is_float ret)) x Size.NoSize) (λ i p. gives (returned p))
  lowers labels ret Instr.Comment args = gives comment
