-- The records that the lowering makes of each instruction, floats and calls included: all are sound, but for labels, calls and epilogues.
use Prim.Native.Nat.{ℕ, suc, ◌+◌, ◌*◌, ◌<◌, ◌≤◌, min, max}
use mathlib.Core.Path.{◌≡◌, refl, sym, ap, ◌∙◌, subst}
use mathlib.Core.Logic.{◌⊎◌, inl, inr}
use mathlib.Core.Bool.{Bool, true, false, cond, not, ◌&&◌, ◌||◌, beq, false≢true}
use mathlib.Core.List.{List, [], ◌∷◌, ◌++◌}
use lib.Dec.{eqb, ltb, leb, lit<, lit≤}
use lib.ListN.{length, get_or}
use native.Mathlib.Nat.{mul-le-mul, min-le_right}
use native.Mathlib.Omega.{arith}
use borrow.Author.Tests.{ltb-true, leb-true, leb-false, eqb-true, eqb-false}
use Rattle.ir.specs.declared.«Type».{«Type» as IrType}
use Rattle.ir.specs.declared.VarId.{VarId}
use Rattle.ir.specs.declared.Operand.{Operand as IrOp}
use Rattle.ir.specs.declared.UnaryOp.{UnaryOp as IrUnary}
use Rattle.std.specs.Prelude.{Option, Some, None}
use Rattle.ir.specs.declared.Instr.{Instr}
use Rattle.ir.specs.Types.{ok, ◌>>=◌, bytes, type_size, element_width, element_size, is_scalar, is_float, operand_size, elf_size}
use Rattle.ir.specs.Function.{Tables}
use Rattle.x86.specs.declared.register.Register.{Register}
use Rattle.x86.specs.declared.enums.Size.{Size}
use Rattle.x86.specs.declared.enums.Operand.{Operand}
use Rattle.x86.specs.declared.enums.BinOp.{BinOp}
use Rattle.x86.specs.declared.enums.ShiftOp.{ShiftOp}
use Rattle.x86.specs.declared.enums.ComplexBinOp.{ComplexBinOp}
use Rattle.x86.specs.declared.enums.ConvOp.{ConvOp}
use Rattle.x86.specs.declared.enums.CtrlOp.{CtrlOp}
use Rattle.x86.specs.declared.enums.ExtendOp.{ExtendOp}
use Rattle.x86.specs.declared.enums.ConditionCode.{ConditionCode}
use Rattle.x86.specs.declared.enums.Prefix.{Prefix}
use Rattle.x86.specs.declared.enums.StringOp.{StringOp}
use Rattle.x86.specs.declared.enums.Instruction.{Instruction}
use Rattle.x86.specs.Registers.{number, is_xmm, RAX, RCX, RDX, RSP, RDI, xmm, rbp_plus, rsp_plus, rip_string, rip_float}
use Rattle.x86.specs.Records.{condition_code}
use Rattle.x86.specs.Decode.{FitsRegister}
use Rattle.codegen.specs.Context.{Context, string_at, float_at, float_short, label_at}
use Rattle.codegen.specs.Utils.{size_from, var_size, convert_var, convert_operand, size_or, own_size, is_one_byte, is_constant, load_from, load_string, load_value, load_operand}
use Rattle.codegen.specs.Instructions.{move, Kind, Source, source, operand_kind, param_regs, param_fregs, func_epilogue, floating, cast_operand, widened, is_unsigned_short, is_copy, generate_zero, is_spent, words_taken, floats_taken, excess, register_of, load_arguments, push_arguments, call_area, move_stack, store_result, generate_call, generate_label}
use Rattle.codegen.specs.Arithmetic.{dividing, parity, ordered, sign_bit, unary_records}
use Rattle.codegen.specs.Frame.{store_of}
use Rattle.codegen.specs.Generation.{generate_instr}
use Rattle.machine.specs.Word.{W}
use Rattle.machine.specs.Encodings.{bytes as span}
use Rattle.machine.specs.Machine.{is_free}
use Rattle.machine.specs.Plain.{every}
use Rattle.machine.specs.Frames.{slot_of}
use Rattle.machine.specs.Calls.{Taking, Naming, converted_bytes, passed_bytes, Whole, Takes, compared_bytes, binary_bytes, cast_bytes, Casts, Passes, PassesOne, Result, Names, zeroing}
use Rattle.ir.proofs.Rest.{few_bytes}
use Rattle.machine.proofs.Tests.{both, every_at, each_or}
use Rattle.machine.proofs.Frame.{context_with, At, var_at_lem}
use Rattle.codegen.proofs.Shapes.{excess_few}
use Rattle.codegen.proofs.Results.{Yields, yields, refuses, bind, weaken, choose, guard, implies, values}
use Rattle.codegen.proofs.Lowers.{Copies, copies, ZeroExtends, zero_extends_lem, working, Conversion, between_floats, to_float, from_float, Converts, conversion, extension, calculations, comparisons, Works, quotient, remainder, product, shifted, Sides, words, floats, swapped, Operates, one_load_lem, two_loads_lem, compares, Lowers, copied, unary, binary, cast_copied, cast_short, cast, zeroed, called, labelled, jump, branch, returned, comment, lowers}
use Rattle.machine.proofs.Run.{All, all_append, all_map}
use Rattle.machine.proofs.Sound.{Sound, SoundOperand, Straight, Given, Usable, tame, is_jump, is_call, either, slot_sound, into_register, into_slot, extends, load_sound}
use Rattle.ir.specs.declared.BinaryOp.{BinaryOp}

-- ---- numbers of an instruction that a record takes over: below 2 ^ 64, as those of a sheet are

abbrev pub SmallOperand : IrOp → Type 0
SmallOperand (IrOp.Var v) = Unit {0}
SmallOperand (IrOp.Int n short unsigned) = n < W
SmallOperand (IrOp.Float k) = k < W
SmallOperand (IrOp.Bool b) = Unit {0}
SmallOperand (IrOp.Address v) = Unit {0}
SmallOperand (IrOp.DataAddress k) = k < W
SmallOperand IrOp.Null = Unit {0}

abbrev pub SmallOperands : List IrOp → Type 0
SmallOperands [] = Unit {0}
SmallOperands (x ∷ xs) = SmallOperand x × SmallOperands xs

abbrev pub SmallInstr : Instr → List IrOp → Type 0
SmallInstr (Instr.Copy d x) args = SmallOperand x
SmallInstr (Instr.Unary d op x) args = SmallOperand x
SmallInstr (Instr.Binary d op x y) args = SmallOperand x × SmallOperand y
SmallInstr (Instr.Cast d x) args = SmallOperand x
SmallInstr (Instr.Zero d) args = Unit {0}
SmallInstr (Instr.Call d f count) args = (f < W) × SmallOperands args × (length args ≤ 64)
SmallInstr (Instr.Label l) args = l < W
SmallInstr (Instr.Jump l) args = l < W
SmallInstr (Instr.JumpIfNot x l) args = SmallOperand x × (l < W)
SmallInstr (Instr.Return x) args = SmallOperand x
SmallInstr Instr.Comment args = Unit {0}

-- ---- sizes

bytes_lt : (ty : IrType) → bytes ty < W
unfolding bytes
bytes_lt ty = go (is_scalar ty)
  where
    go : (b : Bool) → cond b (element_width ty.code) (element_width ty.code * min ty.count 1048576) < W
    go true = omega (arith, few_bytes ty.code)
    go false = omega (arith, mul-le-mul (few_bytes ty.code) (min-le_right ty.count 1048576))

-- ---- what a Call's loads are

-- the record that brings an argument into a register, by the argument's kind
abbrev pub Loaded : Tables → List IrType → Register → IrOp → Instruction → Type 0
Loaded tables vars r (IrOp.Var v) i = (v.id < length vars) × (i ≡ load_from r (rbp_plus (slot_of vars v.id)) (elf_size v.ty))
Loaded tables vars r (IrOp.Int n short unsigned) i = i ≡ load_from r (Operand.Imm n) (cond short Size.U32 Size.U64)
Loaded tables vars r (IrOp.Float k) i = i ≡ load_from r (rip_float k) (cond (tables.short k) Size.U32 Size.U64)
Loaded tables vars r (IrOp.Bool b) i = i ≡ load_from r (Operand.Imm (cond b 1 0)) Size.U8
Loaded tables vars r (IrOp.Address v) i = ⊥
Loaded tables vars r (IrOp.DataAddress k) i = i ≡ Instruction.Lea (rip_string k) r Size.NoSize
Loaded tables vars r IrOp.Null i = i ≡ load_from r (Operand.Imm 0) Size.NoSize

-- the loads of arguments, where i general and f XMM registers are taken; those that find none are passed over
pub data Loading (tables : Tables) (vars : List IrType) : ℕ → ℕ → List IrOp → List Instruction → Type 0 where
  counted : (i f : ℕ) → Loading tables vars i f [] (move (Operand.Reg RAX) (Operand.Imm f) Size.NoSize ∷ [])
  a_word : {i f : ℕ} {x : IrOp} {xs : List IrOp} {load : Instruction} {rest : List Instruction} → floating x ≡ false → i < 6
      → Loaded tables vars (get_or param_regs i RAX) x load → Loading tables vars (suc i) f xs rest → Loading tables vars i f (x ∷ xs) (load ∷ rest)
  a_float : {i f : ℕ} {x : IrOp} {xs : List IrOp} {load : Instruction} {rest : List Instruction} → floating x ≡ true → f < 8
      → Loaded tables vars (get_or param_fregs f RAX) x load → Loading tables vars i (suc f) xs rest → Loading tables vars i f (x ∷ xs) (load ∷ rest)
  late_word : {i f : ℕ} {x : IrOp} {xs : List IrOp} {l : List Instruction} → floating x ≡ false → 6 ≤ i → Loading tables vars i f xs l
      → Loading tables vars i f (x ∷ xs) l
  late_float : {i f : ℕ} {x : IrOp} {xs : List IrOp} {l : List Instruction} → floating x ≡ true → 8 ≤ f → Loading tables vars i f xs l
      → Loading tables vars i f (x ∷ xs) l

-- the store of number j of the arguments in excess
abbrev pub putting : ℕ → Instruction
putting j = move (rsp_plus (8 * j)) (Operand.Reg RAX) Size.U64

-- the arguments in excess, from number j on, go to the stack
pub data Pushing (tables : Tables) (vars : List IrType) : ℕ → List IrOp → List Instruction → Type 0 where
  none : (j : ℕ) → Pushing tables vars j [] []
  push : {j : ℕ} {x : IrOp} {xs : List IrOp} {load : Instruction} {rest : List Instruction} → Loaded tables vars RAX x load → Pushing tables vars (suc j) xs rest
      → Pushing tables vars j (x ∷ xs) (load ∷ putting j ∷ rest)

-- how many arguments are in excess
abbrev pub spare : List IrOp → ℕ
spare args = length (excess floating 0 0 args)

-- what holds of an operand that is a variable
abbrev pub OfVar : (VarId → Type 0) → IrOp → Type 0
OfVar P (IrOp.Var v) = P v
OfVar P (IrOp.Int k short unsigned) = Unit {0}
OfVar P (IrOp.Float k) = Unit {0}
OfVar P (IrOp.Bool b) = Unit {0}
OfVar P (IrOp.Address v) = Unit {0}
OfVar P (IrOp.DataAddress k) = Unit {0}
OfVar P IrOp.Null = Unit {0}

of_var : (P : VarId → Type 0) (x : IrOp) → ((v : VarId) → x ≡ IrOp.Var v → P v) → OfVar P x
of_var P (IrOp.Var v) f = f v refl
of_var P (IrOp.Int k short unsigned) f = tt
of_var P (IrOp.Float k) f = tt
of_var P (IrOp.Bool b) f = tt
of_var P (IrOp.Address v) f = tt
of_var P (IrOp.DataAddress k) f = tt
of_var P IrOp.Null f = tt

-- it is named, by n bytes at least
abbrev pub GivenOperand : Taking → ℕ → IrOp → Type 0
GivenOperand N n = OfVar (Given N n)

-- .. by the bytes that are passed
abbrev pub GivenArgument : Taking → IrOp → Type 0
GivenArgument N = OfVar (λ v. Given N (passed_bytes v.ty) v)

abbrev pub GivenArguments : Taking → List IrOp → Type 0
GivenArguments N [] = Unit {0}
GivenArguments N (x ∷ xs) = GivenArgument N x × GivenArguments N xs

-- a Call's block
pub record Calling (tables : Tables) (vars : List IrType) (N : Naming) (Q : Type 0) (f : ℕ) (args : List IrOp) (b : List Instruction) : Type 0 where
  pub pushes : List Instruction
  pub loads : List Instruction
  pub store : List Instruction
  pub is : b ≡ move_stack BinOp.Sub (spare args) ++ (pushes ++ (loads ++ Instruction.Ctrl CtrlOp.Call (Operand.Sym f) ∷ (move_stack BinOp.Add (spare args) ++ store)))
  pub pushing : Pushing tables vars 0 (excess floating 0 0 args) pushes
  pub loading : Loading tables vars 0 0 args loads
  pub given : GivenArguments (N false) args
  pub after : All (Sound vars N Q) store

-- what the records of an instruction are
abbrev pub Made : Tables → List IrType → Naming → Type 0 → Instr → List IrOp → List Instruction → Type 0
Made tables vars N Q (Instr.Copy d x) args b = All (Sound vars N Q) b
Made tables vars N Q (Instr.Unary d op x) args b = All (Sound vars N Q) b
Made tables vars N Q (Instr.Binary d op x y) args b = All (Sound vars N Q) b
Made tables vars N Q (Instr.Cast d x) args b = All (Sound vars N Q) b
Made tables vars N Q (Instr.Zero d) args b = All (Sound vars N Q) b
Made tables vars N Q (Instr.Call d f count) args b = Calling tables vars N Q f args b
Made tables vars N Q (Instr.Label l) args b = b ≡ Instruction.Label l ∷ []
Made tables vars N Q (Instr.Jump l) args b = All (Sound vars N Q) b
Made tables vars N Q (Instr.JumpIfNot x l) args b = All (Sound vars N Q) b
Made tables vars N Q (Instr.Return x) args b = (load : Instruction) × Sound vars N Q load × (b ≡ load ∷ func_epilogue)
Made tables vars N Q Instr.Comment args b = All (Sound vars N Q) b

-- ---- a Call's loads are sound

lea_sound : (vars : List IrType) (N : Naming) (Q : Type 0) (r : Register) (k : ℕ) → Usable r → (Q → k < W) → Sound vars N Q (Instruction.Lea (rip_string k) r Size.NoSize)
lea_sound vars N Q r k u h = record { kept = u.0; slots = tt; fits = λ q. (u.1, h q); plain = λ l. refl; uncalled = refl }

bit_lt : (b : Bool) → cond b 1 0 < W
bit_lt true = lit< tt
bit_lt false = lit< tt

abbrev is_usable : Register → Bool
is_usable r = is_free (number r) && ltb (number r) 32

usable : (rs : List Register) (k : ℕ) → every is_usable rs ≡ true → k < length rs → Usable (get_or rs k RAX)
usable rs k e h =
    let r : Register = get_or rs k RAX in
    let t = both (is_free (number r)) (ltb (number r) 32) (every_at is_usable rs k RAX e h) in
    (t.0, ltb-true (number r) 32 t.1)

-- the bytes of the move of an argument
element_passed : (code : ℕ) → span (element_size (element_width code)) ≡ cond (eqb (element_width code) 0) 8 (element_width code)
unfolding element_width
element_passed code =
    each_or (λ w. span (element_size w) ≡ cond (eqb w 0) 8 w) (0 ∷ 8 ∷ 8 ∷ 4 ∷ 4 ∷ 8 ∷ 4 ∷ 1 ∷ 1 ∷ 1 ∷ 8 ∷ 0 ∷ 0 ∷ []) code 0
    (refl, (refl, (refl, (refl, (refl, (refl, (refl, (refl, (refl, (refl, (refl, (refl, (refl, tt))))))))))))) refl

pub passed_span : (ty : IrType) → span (elf_size ty) ≡ passed_bytes ty
unfolding elf_size
passed_span ty = go (is_scalar ty)
  where
    go : (b : Bool) → span (cond b (element_size (element_width ty.code)) Size.U64) ≡ cond b (cond (eqb (element_width ty.code) 0) 8 (element_width ty.code)) 8
    go true = element_passed ty.code
    go false = refl

-- fewer bytes
given_less : (N : Taking) (v : VarId) {m n : ℕ} → m ≤ n → Given N n v → Given N m v
given_less N v h g = (g.0, g.1, omega (arith, g.2))

module _ (vars : List IrType) (N : Naming) (Q : Type 0) where
  loaded_sound : (tables : Tables) (r : Register) (x : IrOp) (i : Instruction) → Usable r → GivenArgument (N false) x → (Q → SmallOperand x) → Loaded tables vars r x i → Sound vars N Q i
  loaded_sound tables r (IrOp.Var v) i u g h (k, e) =
      rw e (load_sound vars N Q r _ _ u (slot_sound vars (N false) Q (span (elf_size v.ty)) v (rw (passed_span v.ty) g) k))
  loaded_sound tables r (IrOp.Int n short unsigned) i u g h e = rw e (load_sound vars N Q r _ _ u (tt, h))
  loaded_sound tables r (IrOp.Float k) i u g h e = rw e (load_sound vars N Q r _ _ u (tt, h))
  loaded_sound tables r (IrOp.Bool b) i u g h e = rw e (load_sound vars N Q r _ _ u (tt, λ q. bit_lt b))
  loaded_sound tables r (IrOp.Address v) i u g h e = absurd e
  loaded_sound tables r (IrOp.DataAddress k) i u g h e = rw e (lea_sound vars N Q r k u h)
  loaded_sound tables r IrOp.Null i u g h e = rw e (load_sound vars N Q r _ _ u (tt, λ q. lit< tt))

  pub loading_sound : {tables : Tables} {i f : ℕ} {xs : List IrOp} {l : List Instruction} → f ≤ 8 → GivenArguments (N false) xs → (Q → SmallOperands xs) → Loading tables vars i f xs l
      → All (Sound vars N Q) l
  unfolding every
  loading_sound k g h (counted i f) = (into_register vars N Q BinOp.Mov RAX (Operand.Imm f) Size.NoSize (refl, lit< tt) (tt, λ q. omega arith), tt)
  loading_sound {tables} k g h (a_word {i} {x = x} {load = load} e y t ls) =
      (loaded_sound tables (get_or param_regs i RAX) x load (usable param_regs i refl y) g.0 (λ q. (h q).0) t, loading_sound k g.1 (λ q. (h q).1) ls)
  loading_sound {tables} k g h (a_float {f = f} {x = x} {load = load} e y t ls) =
      (loaded_sound tables (get_or param_fregs f RAX) x load (usable param_fregs f refl y) g.0 (λ q. (h q).0) t, loading_sound y g.1 (λ q. (h q).1) ls)
  loading_sound k g h (late_word e y ls) = loading_sound k g.1 (λ q. (h q).1) ls
  loading_sound k g h (late_float e y ls) = loading_sound k g.1 (λ q. (h q).1) ls

  -- of the records that put arguments on the stack: the loads are sound
  pub pushing_all : (P : Instruction → Type 0) → ((i : Instruction) → Sound vars N Q i → P i) → {tables : Tables} {j : ℕ} {xs : List IrOp} {l : List Instruction}
      → ((k : ℕ) → k < j + length xs → P (putting k)) → GivenArguments (N false) xs → (Q → SmallOperands xs) → Pushing tables vars j xs l → All P l
  pushing_all P of puts g h (none j) = tt
  pushing_all P of {tables} puts g h (push {j} {x} {xs} {load} t ps) = (
    of load (loaded_sound tables RAX x load (refl, lit< tt) g.0 (λ q. (h q).0) t),
    (puts j (omega arith), pushing_all P of (λ k l. puts k (omega arith)) g.1 (λ q. (h q).1) ps),
  )

-- what holds of every argument holds of those in excess
excess_all : (P : List IrOp → Type 0) → P [] → ((x : IrOp) (xs : List IrOp) → P (x ∷ xs) → P xs) → ((x : IrOp) (xs l : List IrOp) → P (x ∷ xs) → P l → P (x ∷ l))
    → (i f : ℕ) (xs : List IrOp) → P xs → P (excess floating i f xs)
unfolding excess
excess_all P empty rest one i f [] h = empty
excess_all P empty rest one i f (x ∷ xs) h =
    go (is_spent (floating x) i f) _ _ (excess_all P empty rest one i f xs (rest x xs h))
    (excess_all P empty rest one (words_taken (floating x) i) (floats_taken (floating x) f) xs (rest x xs h))
  where
    go : (b : Bool) (l m : List IrOp) → P l → P m → P (cond b (x ∷ l) m)
    go true l m p q = one x xs l h p
    go false l m p q = q

excess_small : (i f : ℕ) (xs : List IrOp) → SmallOperands xs → SmallOperands (excess floating i f xs)
excess_small = excess_all SmallOperands tt (λ x xs h. h.1) (λ x xs l h g. (h.0, g))

pub excess_given : (N : Taking) (i f : ℕ) (xs : List IrOp) → GivenArguments N xs → GivenArguments N (excess floating i f xs)
excess_given N = excess_all (GivenArguments N) tt (λ x xs h. h.1) (λ x xs l h g. (h.0, g))

-- ---- a Call's pushes and loads go straight on

load_ahead : (r : Register) (x : Operand) (z : Size) → is_jump (load_from r x z) ≡ false
unfolding load_from
load_ahead r x z = go (is_xmm r) (is_one_byte z) (is_constant x)
  where
    go : (a b c : Bool) → is_jump (cond a (Instruction.Binary BinOp.LoadF (Operand.Reg r) x z) (cond b (cond c (Instruction.Binary BinOp.Mov (Operand.Reg r) x Size.U32)
        (Instruction.Extend ExtendOp.Movzx r x Size.U8 Size.U64)) (Instruction.Binary BinOp.Mov (Operand.Reg r) x z))) ≡ false
    go true b c = refl
    go false true true = refl
    go false true false = refl
    go false false c = refl

loaded_ahead : (tables : Tables) (vars : List IrType) (r : Register) (x : IrOp) (i : Instruction) → Loaded tables vars r x i → is_jump i ≡ false
loaded_ahead tables vars r (IrOp.Var v) i (k, e) = rw e (load_ahead r _ _)
loaded_ahead tables vars r (IrOp.Int n short unsigned) i e = rw e (load_ahead r _ _)
loaded_ahead tables vars r (IrOp.Float k) i e = rw e (load_ahead r _ _)
loaded_ahead tables vars r (IrOp.Bool b) i e = rw e (load_ahead r _ _)
loaded_ahead tables vars r (IrOp.Address v) i e = absurd e
loaded_ahead tables vars r (IrOp.DataAddress k) i e = rw e
loaded_ahead tables vars r IrOp.Null i e = rw e (load_ahead r _ _)

module _ (tables : Tables) (vars : List IrType) (N : Naming) where
  loaded_straight : (r : Register) (x : IrOp) (i : Instruction) → Usable r → GivenArgument (N false) x → Loaded tables vars r x i → Straight i
  loaded_straight r x i u g t =
      let s : Sound vars N ⊥ i = loaded_sound vars N ⊥ tables r x i u g (λ q. absurd q) t in
      record { kept = s.kept; ahead = loaded_ahead tables vars r x i t; plain = s.plain }

  pub pushing_straight : {j : ℕ} {xs : List IrOp} {l : List Instruction} → GivenArguments (N false) xs → Pushing tables vars j xs l → All Straight l
  pushing_straight g (none j) = tt
  pushing_straight g (push {x = x} {load = load} t ps) =
      (loaded_straight RAX x load (refl, lit< tt) g.0 t, (record { kept = refl; ahead = refl; plain = λ l. refl }, pushing_straight g.1 ps))

  pub loading_straight : {i f : ℕ} {xs : List IrOp} {l : List Instruction} → GivenArguments (N false) xs → Loading tables vars i f xs l → All Straight l
  unfolding every
  loading_straight g (counted i f) = (record { kept = refl; ahead = refl; plain = λ l. refl }, tt)
  loading_straight g (a_word {i} {x = x} {load = load} e y t ls) =
      (loaded_straight (get_or param_regs i RAX) x load (usable param_regs i refl y) g.0 t, loading_straight g.1 ls)
  loading_straight g (a_float {f = f} {x = x} {load = load} e y t ls) =
      (loaded_straight (get_or param_fregs f RAX) x load (usable param_fregs f refl y) g.0 t, loading_straight g.1 ls)
  loading_straight g (late_word e y ls) = loading_straight g.1 ls
  loading_straight g (late_float e y ls) = loading_straight g.1 ls

-- ---- parts of the lowering

pub labels_at : (labels l : ℕ) → Yields (label_at labels l) (λ k. k ≡ l)
unfolding label_at
labels_at labels l = guard 5 (ltb l labels) (λ e. yields refl)

pub label_made : (labels l : ℕ) → Yields (generate_label labels l) (λ b. b ≡ Instruction.Label l ∷ [])
unfolding generate_label
label_made labels l = bind (labels_at labels l) (λ k e. yields (rw e))

-- a size of n bytes that is given
pub record Sized (n : ℕ) (z : Size) : Type 0 where
  pub is : span z ≡ n
  pub own : (b : Size) → size_or z b ≡ z

pub size_is : (n : ℕ) → Yields (size_from n) (Sized n)
unfolding size_from
size_is n =
    choose (eqb n 1) (λ e. yields (record { is = sym (eqb-true n 1 e); own = λ b. refl }))
    (λ _. choose (eqb n 2) (λ e. yields (record { is = sym (eqb-true n 2 e); own = λ b. refl }))
    (λ _. choose (eqb n 4) (λ e. yields (record { is = sym (eqb-true n 4 e); own = λ b. refl }))
    (λ _. choose (eqb n 8) (λ e. yields (record { is = sym (eqb-true n 8 e); own = λ b. refl })) (λ _. refuses 6))))

-- a type's size, and that it has a width
pub type_size_is : (ty : IrType) → Yields (type_size ty) (λ n. (n ≡ bytes ty) × (eqb (element_width ty.code) 0 ≡ false))
unfolding type_size
type_size_is ty = choose (eqb (element_width ty.code) 0) (λ e. refuses 4) (λ e. yields (refl, e))

pub var_size_is : (v : VarId) → Yields (var_size v) (Sized (bytes v.ty))
unfolding var_size
var_size_is v = bind (type_size_is v.ty) (λ n e. subst (λ (m : ℕ). Yields (size_from n) (Sized m)) e.0 (size_is n))

-- ---- the bytes that a cast touches of its source

-- by whether source and dest are floats, and their sizes
abbrev cast_touches : Bool → Bool → ℕ → ℕ → ℕ
cast_touches true true size n = cond (eqb n 8) 4 8
cast_touches false true size n = size
cast_touches true false size n = cond (eqb size 8) 8 4
cast_touches false false size n = cond (eqb size 8) 0 4

float_sizes : (ty : IrType) → is_float ty ≡ true → (is_scalar ty ≡ true) × ((bytes ty ≡ 4) ⊎ (bytes ty ≡ 8))
unfolding is_float bytes element_width
float_sizes ty e = (h.0, go (eqb ty.code 5) (eqb ty.code 6) refl refl h.1)
  where
    h : (is_scalar ty ≡ true) × ((eqb ty.code 5 || eqb ty.code 6) ≡ true)
    h = both (is_scalar ty) (eqb ty.code 5 || eqb ty.code 6) e

    go : (a b : Bool) → eqb ty.code 5 ≡ a → eqb ty.code 6 ≡ b → (a || b) ≡ true → (bytes ty ≡ 4) ⊎ (bytes ty ≡ 8)
    go true b p q k = inr (rw (h.0, eqb-true ty.code 5 p))
    go false true p q k = inl (rw (h.0, eqb-true ty.code 6 q))
    go false false p q k = absurd (false≢true k)

-- no width but 1, 4 and 8
element_sizes : (code : ℕ) → eqb (element_width code) 0 ≡ false → (element_width code ≡ 1 → ⊥) → 4 ≤ element_width code
unfolding element_width
element_sizes code =
    each_or (λ w. eqb w 0 ≡ false → (w ≡ 1 → ⊥) → 4 ≤ w) (0 ∷ 8 ∷ 8 ∷ 4 ∷ 4 ∷ 8 ∷ 4 ∷ 1 ∷ 1 ∷ 1 ∷ 8 ∷ 0 ∷ 0 ∷ []) code 0
    (none, (eight, (eight, (four, (four, (eight, (four, (byte, (byte, (byte, (eight, (none, (none, tt))))))))))))) none
  where
    none : true ≡ false → (◌≡◌ {A = ℕ} 0 1 → ⊥) → 4 ≤ 0
    none e h = absurd (false≢true (sym e))

    byte : false ≡ false → (◌≡◌ {A = ℕ} 1 1 → ⊥) → 4 ≤ 1
    byte e h = absurd (h refl)

    four : false ≡ false → (◌≡◌ {A = ℕ} 4 1 → ⊥) → 4 ≤ 4
    four e h = lit≤ tt

    eight : false ≡ false → (◌≡◌ {A = ℕ} 8 1 → ⊥) → 4 ≤ 8
    eight e h = lit≤ tt

own_cast : (ty : IrType) → bytes ty ≤ cast_bytes ty
own_cast ty = go (is_scalar ty)
  where
    go : (b : Bool) → bytes ty ≤ cond b (bytes ty) (max 4 (bytes ty))
    go true = omega arith
    go false = omega arith

-- what is known of an operand's kind, if it is a variable
abbrev KindOf : IrOp → Kind → Type 0
KindOf x k = OfVar (λ u. (k.size ≡ bytes u.ty) × (k.float ≡ is_float u.ty) × (eqb (element_width u.ty.code) 0 ≡ false)) x

kind_of : (ctx : Context) (x : IrOp) → Yields (operand_kind ctx x) (KindOf x)
unfolding operand_kind
kind_of ctx x = record { of = λ k e. of_var _ x (λ u i. (variable u).of k (rw i at e)) }
  where
    variable : (u : VarId) → Yields (operand_kind ctx (IrOp.Var u)) (KindOf (IrOp.Var u))
    variable u = bind (type_size_is u.ty) (λ n e. yields (e.0, refl, e.1))

scalar_bytes : (ty : IrType) → is_scalar ty ≡ true → bytes ty ≡ element_width ty.code
unfolding bytes
scalar_bytes ty h = rw h

-- an unsigned short has four bytes
short_bytes : (ty : IrType) → (is_scalar ty && eqb ty.code 4) ≡ true → 4 ≤ cast_bytes ty
unfolding element_width
short_bytes ty e =
    let h = both (is_scalar ty) (eqb ty.code 4) e in
    let z : bytes ty ≡ 4 = scalar_bytes ty h.0 ∙ ap element_width (eqb-true ty.code 4 h.1) in
    omega (arith, own_cast ty)

-- a variable that is cast, and not copied or widened from one byte, has the bytes that are touched
cast_few : (u d : IrType) → eqb (element_width u.code) 0 ≡ false
    → (((beq (is_float u) (is_float d) && (eqb (bytes u) (bytes d) || not (is_float d))) && leb (bytes d) (bytes u)) ≡ false)
    → ((not (is_float u) && eqb (bytes u) 1) ≡ false) → cast_touches (is_float u) (is_float d) (bytes u) (bytes d) ≤ cast_bytes u
cast_few u d w e g = go (is_float u) (is_float d) refl refl e g
  where
    scalar_cast : is_scalar u ≡ true → cast_bytes u ≡ bytes u
    scalar_cast h = rw h

    both_floats : (m n : ℕ) → (m ≡ 4) ⊎ (m ≡ 8) → (n ≡ 4) ⊎ (n ≡ 8) → (((eqb m n || false) && leb n m) ≡ false) → cond (eqb n 8) 4 8 ≤ m
    both_floats m n (inl p) (inl q) e = absurd (false≢true (sym (rw (p, q) at e)))
    both_floats m n (inl p) (inr q) e = rw (p, q) (lit≤ tt)
    both_floats m n (inr p) (inl q) e = rw (p, q) (lit≤ tt)
    both_floats m n (inr p) (inr q) e = rw (p, q) (lit≤ tt)

    a_float : (m : ℕ) → (m ≡ 4) ⊎ (m ≡ 8) → cond (eqb m 8) 8 4 ≤ m
    a_float m (inl p) = rw p (lit≤ tt)
    a_float m (inr p) = rw p (lit≤ tt)

    whole_numbers : (b : Bool) → is_scalar u ≡ b → eqb (bytes u) 1 ≡ false → cond (eqb (bytes u) 8) 0 4 ≤ cast_bytes u
    whole_numbers true h g =
        let four : 4 ≤ bytes u = rw (scalar_bytes u h) (element_sizes u.code w (λ z. eqb-false (bytes u) 1 g (scalar_bytes u h ∙ z))) in
        rw (scalar_cast h) (fewer (eqb (bytes u) 8) four)
      where
        fewer : (b : Bool) → 4 ≤ bytes u → cond b 0 4 ≤ bytes u
        fewer true h = omega arith
        fewer false h = h
    whole_numbers false h g = rw h (fewer (eqb (bytes u) 8))
      where
        fewer : (b : Bool) → cond b 0 4 ≤ max 4 (bytes u)
        fewer true = omega arith
        fewer false = omega arith

    go : (a b : Bool) → is_float u ≡ a → is_float d ≡ b → (((beq a b && (eqb (bytes u) (bytes d) || not b)) && leb (bytes d) (bytes u)) ≡ false)
        → ((not a && eqb (bytes u) 1) ≡ false) → cast_touches a b (bytes u) (bytes d) ≤ cast_bytes u
    go true true p q e g = let t = float_sizes u p in rw (scalar_cast t.0) (both_floats (bytes u) (bytes d) t.1 (float_sizes d q).1 e)
    go true false p q e g = let t = float_sizes u p in rw (scalar_cast t.0) (a_float (bytes u) t.1)
    go false true p q e g = own_cast u
    go false false p q e g = whole_numbers (is_scalar u) refl g

-- one of two conversions
by_op : (b : Bool) (p q : ConvOp) (m k : ℕ) → (b ≡ true → converted_bytes p m ≡ k) → (b ≡ false → converted_bytes q m ≡ k) → converted_bytes (cond b p q) m ≡ k
by_op true p q m k h j = h refl
by_op false p q m k h j = j refl

-- a conversion touches so many bytes of its source
converted_bytes_lem : {d : VarId} {s : Source} {n : ℕ} {a b : Bool} {op : ConvOp} {z : Size} → Conversion d s n a b op z → converted_bytes op (span z) ≡ cast_touches a b s.size n
converted_bytes_lem {n = n} between_floats = by_op (eqb n 8) ConvOp.Cvtss2sd ConvOp.Cvtsd2ss 8 _ (λ e. rw e) (λ e. rw e)
converted_bytes_lem {s = s} {n} (to_float {z} e) =
    let u = (size_is s.size).of z e in
    by_op (eqb n 8) ConvOp.Cvtsi2sd ConvOp.Cvtsi2ss (span z) s.size (λ _. u.is) (λ _. u.is)
converted_bytes_lem {s = s} (from_float {z} e) = by_op (eqb s.size 8) ConvOp.Cvttsd2si ConvOp.Cvttss2si (span z) _ (λ e. rw e) (λ e. rw e)

-- by which bytes an operation takes its sides
calculated : {op : BinaryOp} (left dest k : ℕ) → op ≡ get_or calculations k BinaryOp.Add → binary_bytes op left dest ≡ dest
calculated left dest k e =
    rw e
    (each_or (λ op. binary_bytes op left dest ≡ dest) calculations k BinaryOp.Add (refl, (refl, (refl, (refl, (refl, (refl, (refl, (refl, (refl, (refl, tt)))))))))) refl)

compared : {op : BinaryOp} (left dest k : ℕ) → op ≡ get_or comparisons k BinaryOp.Eq → binary_bytes op left dest ≡ left
compared left dest k e =
    rw e (each_or (λ op. binary_bytes op left dest ≡ left) comparisons k BinaryOp.Eq (refl, (refl, (refl, (refl, (refl, (refl, tt)))))) refl)

module _ (tables : Tables) (vars : List IrType) (N : Naming) (Q : Type 0) where
  abbrev ctx : Context
  ctx = context_with tables vars

  slot_at : (n : ℕ) (v : VarId) → Given (N false) n v → Yields (convert_var ctx v) (SoundOperand vars (N false) n Q)
  slot_at n v g = weaken (var_at_lem tables vars v) (λ x p. subst (SoundOperand vars (N false) n Q) (sym p.1) (slot_sound vars (N false) Q n v g p.0))

  operand_at : (n : ℕ) (x : IrOp) → GivenOperand (N false) n x → (Q → SmallOperand x) → Yields (convert_operand ctx x) (SoundOperand vars (N false) n Q)
  unfolding convert_operand float_at
  operand_at n (IrOp.Var v) g h = slot_at n v g
  operand_at n (IrOp.Int k short unsigned) g h = yields (tt, h)
  operand_at n (IrOp.Float k) g h = bind {P = λ f. Q → f < W} (guard 5 (ltb k tables.floats) (λ e. yields h)) (λ f z. yields (tt, z))
  operand_at n (IrOp.Bool b) g h = yields (tt, λ q. bit_lt b)
  operand_at n (IrOp.Address v) g h = refuses 7
  operand_at n (IrOp.DataAddress k) g h = refuses 7
  operand_at n IrOp.Null g h = yields (tt, λ q. lit< tt)

  -- a load by a size, or by the operand's own where none is given
  load_at : (r : Register) (x : IrOp) (z : Size) → Usable r → GivenOperand (N false) (span (size_or z (own_size ctx x))) x → (Q → SmallOperand x)
      → Yields (load_operand ctx r x z) (Sound vars N Q)
  unfolding load_operand load_value load_string string_at
  load_at r x z u w h = go x w h
    where
      value_at_lem : (x : IrOp) → GivenOperand (N false) (span (size_or z (own_size ctx x))) x → (Q → SmallOperand x) → Yields (load_value ctx r x z) (Sound vars N Q)
      value_at_lem x w h = bind (operand_at (span (size_or z (own_size ctx x))) x w h) (λ y g. yields (load_sound vars N Q r y (size_or z (own_size ctx x)) u g))

      go : (x : IrOp) → GivenOperand (N false) (span (size_or z (own_size ctx x))) x → (Q → SmallOperand x) → Yields (load_operand ctx r x z) (Sound vars N Q)
      go (IrOp.Var v) w h = value_at_lem (IrOp.Var v) w h
      go (IrOp.Int n short unsigned) w h = value_at_lem (IrOp.Int n short unsigned) w h
      go (IrOp.Float k) w h = value_at_lem (IrOp.Float k) w h
      go (IrOp.Bool b) w h = value_at_lem (IrOp.Bool b) w h
      go (IrOp.Address v) w h = value_at_lem (IrOp.Address v) w h
      go (IrOp.DataAddress k) w h = bind {P = λ s. Q → s < W} (guard 5 (ltb k tables.strings) (λ e. yields h)) (λ s g. yields (lea_sound vars N Q r s u g))
      go IrOp.Null w h = value_at_lem IrOp.Null w h

  -- .. by a size of n bytes
  load_by : {n : ℕ} {z : Size} {i : Instruction} (r : Register) (x : IrOp) → Usable r → Sized n z → GivenOperand (N false) n x → (Q → SmallOperand x)
      → load_operand ctx r x z ≡ ok i → Sound vars N Q i
  load_by {z = z} {i} r x u s w h e = (load_at r x z u (rw (s.own (own_size ctx x), s.is) w) h).of i e

  -- RAX, RCX, RDX, RDI, XMM0 and XMM1 are usable
  ax : Usable RAX
  ax = (refl, lit< tt)

  cx : Usable RCX
  cx = (refl, lit< tt)

  dx : Usable RDX
  dx = (refl, lit< tt)

  worked : (float : Bool) → Usable (working float)
  worked true = (refl, lit< tt)
  worked false = ax

  -- the store of a register to a variable
  store_at : {n : ℕ} (op : BinOp) (v : VarId) (x : Operand) (r : Register) (z : Size) → Sized n z → Given (N true) n v → At vars v x → FitsRegister r
      → Sound vars N Q (Instruction.Binary op x (Operand.Reg r) z)
  store_at op v x r z s w h g = rw h.1 (into_slot vars N Q op v r z (rw s.is w) h.0 g)

  abbrev GivenVar : VarId → Type 0
  GivenVar d = Given (N true) (bytes d.ty) d

  -- .. that was looked up
  stored : {y : Operand} {z : Size} (op : BinOp) (v : VarId) (r : Register) → convert_var ctx v ≡ ok y → var_size v ≡ ok z → GivenVar v → FitsRegister r
      → Sound vars N Q (Instruction.Binary op y (Operand.Reg r) z)
  stored {y} {z} op v r p q g f = store_at op v y r z ((var_size_is v).of z q) g ((var_at_lem tables vars v).of y p) f

  -- ---- copies and casts

  copying : {d : VarId} {x : IrOp} {b : List Instruction} → Copies ctx d x b → GivenVar d → GivenOperand (N false) (bytes d.ty) x → (Q → SmallOperand x) → All (Sound vars N Q) b
  copying {d} {x} (copies {z = z} p q r) g w h = (load_by RAX x ax ((var_size_is d).of z q) w h r, (stored BinOp.Mov d RAX p q g (lit< tt), tt))

  -- a cast's source where it is converted: at most `cast_bytes` of a variable are touched there
  abbrev GivenCast : IrOp → Type 0
  GivenCast = OfVar (λ u. Given (N false) (cast_bytes u.ty) u)

  abbrev Touchable : IrOp → ℕ → Type 0
  Touchable x n = OfVar (λ u. n ≤ cast_bytes u.ty) x

  abbrev SizeIs : IrOp → ℕ → ℕ → Type 0
  SizeIs x m n = OfVar (λ u. m ≡ n) x

  abbrev Brought : IrOp → ℕ → Source → Type 0
  Brought x n s = All (Sound vars N Q) s.records × ((m : ℕ) → Touchable x m → SoundOperand vars (N false) m Q s.operand) × SizeIs x s.size n

  brings : (x : IrOp) (n : ℕ) → GivenCast x → (Q → SmallOperand x) → Yields (cast_operand ctx x n) (Brought x n)
  unfolding cast_operand convert_operand float_at
  brings (IrOp.Var v) n w h =
      bind (var_at_lem tables vars v) (λ y p.
      yields (tt, λ m t. subst (SoundOperand vars (N false) m Q) (sym p.1) (slot_sound vars (N false) Q m v (given_less (N false) v t w) p.0), refl))
  brings (IrOp.Int v short unsigned) n w h =
      bind (load_at RAX (IrOp.Int v short unsigned) _ ax tt h) (λ i s. yields ((s, tt), λ m t. (tt, λ q. lit< tt), tt))
  brings (IrOp.Float k) n w h =
      bind {P = λ y. (m : ℕ) → SoundOperand vars (N false) m Q y}
      (bind {P = λ f. Q → f < W} (guard 5 (ltb k tables.floats) (λ e. yields h)) (λ f g. yields (λ m. (tt, g)))) (λ y g. yields (tt, λ m t. g m, tt))
  brings (IrOp.Bool b) n w h = bind (load_at RAX (IrOp.Bool b) Size.U8 ax tt h) (λ i s. yields ((s, tt), λ m t. (tt, λ q. lit< tt), tt))
  brings (IrOp.Address v) n w h = refuses 7
  brings (IrOp.DataAddress k) n w h = refuses 7
  brings IrOp.Null n w h = yields (tt, λ m t. (tt, λ q. lit< tt), tt)

  -- the source is copied, or cast
  copied_few : (x : IrOp) (k : Kind) (float : Bool) (n : ℕ) → GivenCast x → KindOf x k → is_copy k float n ≡ true → GivenOperand (N false) n x
  copied_few x k float n w q e =
      let t = both (beq k.float float && (eqb k.size n || not float)) (leb n k.size) e in
      of_var _ x (λ u i. given_less (N false) u (omega (arith, leb-true n k.size t.1, (rw i at q).0, own_cast u.ty)) (rw i at w))

  -- .. or is an unsigned short, which is loaded by four bytes
  short_few : (x : IrOp) → GivenCast x → is_unsigned_short x ≡ true → GivenOperand (N false) 4 x
  short_few x w e = of_var _ x (λ u i. given_less (N false) u (short_bytes u.ty (rw i at e)) (rw i at w))

  zero_extending : {d : VarId} {x : IrOp} {b : List Instruction} → ZeroExtends ctx d x b → GivenVar d → GivenOperand (N false) 4 x → (Q → SmallOperand x)
      → All (Sound vars N Q) b
  zero_extending {x = x} (zero_extends_lem {load} p q r) g w h = ((load_at RAX x Size.U32 ax w h).of load p, (stored BinOp.Mov _ RAX q r g (lit< tt), tt))

  touches : (x : IrOp) (k : Kind) (s : Source) (d : IrType) (n : ℕ) → KindOf x k → SizeIs x s.size k.size → n ≡ bytes d → is_copy k (is_float d) n ≡ false
      → (not k.float && eqb s.size 1) ≡ false → Touchable x (cast_touches k.float (is_float d) s.size n)
  touches x k s d n q z r e g = of_var _ x (λ u i. variable u (rw i at q) (rw i at z))
    where
      variable : (u : VarId) → KindOf (IrOp.Var u) k → s.size ≡ k.size → cast_touches k.float (is_float d) s.size n ≤ cast_bytes u.ty
      variable u q z =
          let p : s.size ≡ bytes u.ty = z ∙ q.0 in
          rw (q.1, p, r)
          (cast_few u.ty d q.2
          (subst (λ (m : ℕ). ((beq (is_float u.ty) (is_float d) && (eqb m (bytes d) || not (is_float d))) && leb (bytes d) m) ≡ false) q.0
          (subst (λ (f : Bool). ((beq f (is_float d) && (eqb k.size (bytes d) || not (is_float d))) && leb (bytes d) k.size) ≡ false) q.1
          (subst (λ (n : ℕ). is_copy k (is_float d) n ≡ false) r e)))
          (subst (λ (m : ℕ). (not (is_float u.ty) && eqb m 1) ≡ false) p (subst (λ (f : Bool). (not f && eqb s.size 1) ≡ false) q.1 g)))

  one_touched : (x : IrOp) (k : Kind) (s : Source) → KindOf x k → SizeIs x s.size k.size → eqb s.size 1 ≡ true → Touchable x 1
  one_touched x k s q z e = of_var _ x (λ u i. omega (arith, eqb-true s.size 1 e, rw i at z, (rw i at q).0, own_cast u.ty))

  -- where it is converted, no more of it is touched
  abbrev Ready : Bool → Bool → ℕ → Source → Type 0
  Ready a b n s = All (Sound vars N Q) s.records × SoundOperand vars (N false) (cast_touches a b s.size n) Q s.operand

  widens : (x : IrOp) (k : Kind) (d : IrType) (n : ℕ) (s : Source) → KindOf x k → n ≡ bytes d → is_copy k (is_float d) n ≡ false → Brought x k.size s
      → Ready k.float (is_float d) n (widened k.float s)
  widens x k d n s q r e h = go (not k.float && eqb s.size 1) refl
    where
      go : (b : Bool) → (not k.float && eqb s.size 1) ≡ b → Ready k.float (is_float d) n
          (cond b (source (s.records ++ Instruction.Extend ExtendOp.Movzx RAX s.operand Size.U8 Size.U64 ∷ []) (Operand.Reg RAX) 8) s)
      go true z = (
        all_append (Sound vars N Q) s.records _ h.0
            (extends vars N Q ExtendOp.Movzx RAX s.operand Size.U8 Size.U64 ax (h.1 1 (one_touched x k s q h.2 (both (not k.float) (eqb s.size 1) z).1)), tt),
        (tt, λ q. lit< tt),
      )
      go false z = (h.0, h.1 _ (touches x k s d n q h.2 r e z))

  converts : (op : ConvOp) (r : Register) (x : Operand) (z : Size) → Usable r → SoundOperand vars (N false) (converted_bytes op (span z)) Q x
      → Sound vars N Q (Instruction.Convert op r x z)
  converts op r x z h k = record { kept = h.0; slots = k.0; fits = λ q. (h.1, k.1 q); plain = λ l. refl; uncalled = refl }

  extending : {y : Operand} {z : Size} (d : VarId) (s : Source) (n : ℕ) → convert_var ctx d ≡ ok y → var_size d ≡ ok z → GivenVar d → Ready false false n s
      → All (Sound vars N Q) (s.records ++ cond (eqb s.size 8) [] (Instruction.Extend ExtendOp.Movsxd RAX s.operand Size.U32 Size.U64 ∷ []) ++ move y (Operand.Reg RAX) z ∷ [])
  extending d s n p q g h =
      all_append (Sound vars N Q) (s.records ++ widening (eqb s.size 8)) _
      (all_append (Sound vars N Q) s.records _ h.0 (go (eqb s.size 8) h.1)) (stored BinOp.Mov d RAX p q g (lit< tt), tt)
    where
      widening : Bool → List Instruction
      widening b = cond b [] (Instruction.Extend ExtendOp.Movsxd RAX s.operand Size.U32 Size.U64 ∷ [])

      go : (b : Bool) → SoundOperand vars (N false) (cond b 0 4) Q s.operand → All (Sound vars N Q) (widening b)
      go true k = tt
      go false k = (extends vars N Q ExtendOp.Movsxd RAX s.operand Size.U32 Size.U64 ax k, tt)

  casting : {d : VarId} {s : Source} {n : ℕ} {a b : Bool} {is : List Instruction} → Converts ctx d s n a b is → GivenVar d → Ready a b n s → All (Sound vars N Q) is
  casting {d} {s} {b = b} (conversion {op = op} {z} c p q) g h =
      all_append (Sound vars N Q) s.records _ h.0
      (converts op (working b) s.operand z (worked b) (rw (converted_bytes_lem c) h.1), (stored _ d (working b) p q g (worked b).1, tt))
  casting {d} {s} {n} (extension p q) g h = extending d s n p q g h

  -- ---- arithmetic

  divides : (b : Bool) (z : Size) → All (Sound vars N Q) (dividing b z)
  divides true z = (
    into_register vars N Q BinOp.Xor RDX (Operand.Reg RDX) z dx (tt, λ q. lit< tt),
    (record { kept = refl; slots = (tt, tt); fits = λ q. (tt, lit< tt); plain = λ l. refl; uncalled = refl }, tt),
  )
  divides false z = (
    record { kept = refl; slots = tt; fits = λ q. tt; plain = λ l. refl; uncalled = refl },
    (record { kept = refl; slots = (tt, tt); fits = λ q. (tt, lit< tt); plain = λ l. refl; uncalled = refl }, tt),
  )

  multiplies : (z : Size) → All (Sound vars N Q) (Instruction.ComplexBinary ComplexBinOp.Imul (Operand.Reg RAX) (Operand.Reg RCX) z ∷ [])
  multiplies z = (record { kept = refl; slots = (tt, tt); fits = λ q. (lit< tt, lit< tt); plain = λ l. refl; uncalled = refl }, tt)

  shifts : (op : ShiftOp) (z : Size) → All (Sound vars N Q) (Instruction.Shift op (Operand.Reg RAX) (Operand.Reg RCX) z ∷ [])
  shifts op z = (record { kept = refl; slots = (tt, tt); fits = λ q. (lit< tt, lit< tt); plain = λ l. refl; uncalled = refl }, tt)

  sets : (cc : ConditionCode) (r : Register) → Usable r → Sound vars N Q (Instruction.SetCC cc (Operand.Reg r))
  sets cc r u = record { kept = u.0; slots = tt; fits = λ q. u.1; plain = λ l. refl; uncalled = refl }

  parities : (cc : ConditionCode) → All (Sound vars N Q) (ordered cc)
  parities cc = go (eqb (condition_code cc) 0) (eqb (condition_code cc) 1)
    where
      asks : (cc : ConditionCode) (op : BinOp) → All (Sound vars N Q) (parity cc op)
      asks cc op = (sets cc RCX cx, (into_register vars N Q op RAX (Operand.Reg RCX) Size.U8 ax (tt, λ q. lit< tt), tt))

      go : (a b : Bool) → All (Sound vars N Q) (cond a (parity ConditionCode.NP BinOp.And) (cond b (parity ConditionCode.P BinOp.Or) []))
      go true b = asks ConditionCode.NP BinOp.And
      go false true = asks ConditionCode.P BinOp.Or
      go false false = tt

  -- the kind of a comparison's left has its width
  left_kind : (x : IrOp) → Yields (operand_kind ctx x) (λ k. k.size ≡ compared_bytes tables x)
  unfolding operand_kind float_short
  left_kind (IrOp.Var v) = bind (type_size_is v.ty) (λ n e. yields e.0)
  left_kind (IrOp.Int n short unsigned) = yields refl
  left_kind (IrOp.Float k) = bind {P = λ b. b ≡ tables.short k} (guard 5 (ltb k tables.floats) (λ e. yields refl)) (λ b e. yields (rw e))
  left_kind (IrOp.Bool b) = yields refl
  left_kind (IrOp.Address v) = yields refl
  left_kind (IrOp.DataAddress k) = yields refl
  left_kind IrOp.Null = yields refl

  -- what follows two loads, and the register that is stored
  works : {z : Size} {work : List Instruction} {r : Register} → Works z work r → All (Sound vars N Q) work × FitsRegister r
  works {z} (quotient unsigned) = (divides unsigned z, lit< tt)
  works {z} (remainder unsigned) = (divides unsigned z, lit< tt)
  works {z} product = (multiplies z, lit< tt)
  works {z} (shifted op) = (shifts op z, lit< tt)

  -- a side that is taken by n bytes, and its register
  abbrev Taken : ℕ → Register → IrOp → Type 0
  Taken n r x = Usable r × GivenOperand (N false) n x × (Q → SmallOperand x)

  sides : (n : ℕ) {x y l r : IrOp} {a b : Register} {more : List Instruction} → Sides x y a l b r more → GivenOperand (N false) n x → GivenOperand (N false) n y
      → (Q → SmallOperand x) → (Q → SmallOperand y) → Taken n a l × Taken n b r × All (Sound vars N Q) more
  sides n words e f h k = ((ax, e, h), (cx, f, k), tt)
  sides n (floats cc) e f h k = ((worked true, e, h), ((refl, lit< tt), f, k), parities cc)
  sides n swapped e f h k = ((worked true, f, k), ((refl, lit< tt), e, h), tt)

  abbrev GivenSide : VarId → BinaryOp → IrOp → IrOp → Type 0
  GivenSide d op x y = GivenOperand (N false) (binary_bytes op (compared_bytes tables x) (bytes d.ty)) y

  binaries : {d : VarId} {op : BinaryOp} {x y : IrOp} {b : List Instruction} → Operates ctx d op x y b → GivenVar d → GivenSide d op x x → GivenSide d op x y
      → (Q → SmallOperand x) → (Q → SmallOperand y) → All (Sound vars N Q) b
  binaries {d} {x = x} {y} (one_load_lem {p} {z} {src = src} k float o q r t v) c e f h j =
      let own = calculated (compared_bytes tables x) (bytes d.ty) k o in
      let u : Sized (bytes d.ty) z = (var_size_is d).of z q in
      let g = (operand_at (bytes d.ty) y (rw own at f) j).of src t in (
        load_by (working float) x (worked float) u (rw own at e) h r,
        (
          into_register vars N Q p (working float) src z (worked float) (rw u.is g),
          (stored (store_of float) d (working float) v q c (worked float).1, tt),
        ),
      )
  binaries {d} {x = x} {y} (two_loads_lem {z} {work = work} {r} k o q s t w v) c e f h j =
      let own = calculated (compared_bytes tables x) (bytes d.ty) k o in
      let u : Sized (bytes d.ty) z = (var_size_is d).of z q in (
        load_by RAX x ax u (rw own at e) h s,
        (
          load_by RCX y cx u (rw own at f) j t,
          all_append (Sound vars N Q) work _ (works w).0 (stored BinOp.Mov d r v q c (works w).1, tt),
        ),
      )
  binaries {d} {x = x} {y} (compares {p} {code} {left} {z} {a = a} {b} {l} {r} {more} k o q s t i m v w) c e f h j =
      let own = compared (compared_bytes tables x) (bytes d.ty) k o in
      let u : Sized (compared_bytes tables x) z = rw ((left_kind x).of left q) at ((size_is left.size).of z s) in
      let (la, rb, ms) = sides (compared_bytes tables x) t (rw own at e) (rw own at f) h j in (
        load_by a l la.0 u la.1 la.2 i,
        (
          load_by b r rb.0 u rb.1 rb.2 m,
          (
            into_register vars N Q p a (Operand.Reg b) z la.0 (tt, λ q. rb.0.1),
            (sets code RAX ax, all_append (Sound vars N Q) more _ ms (stored BinOp.Mov d RAX v w c (lit< tt), tt)),
          ),
        ),
      )

  sign_lt : (z : Size) → sign_bit z < W
  sign_lt Size.NoSize = lit< tt
  sign_lt Size.U8 = lit< tt
  sign_lt Size.U16 = lit< tt
  sign_lt Size.U32 = lit< tt
  sign_lt Size.U64 = lit< tt

  unaries : (op : IrUnary) (float : Bool) (z : Size) → All (Sound vars N Q) (unary_records op float z)
  unaries IrUnary.Neg true z = (
    into_register vars N Q BinOp.Mov RCX (Operand.Imm (sign_bit z)) z cx (tt, λ q. sign_lt z),
    (into_register vars N Q BinOp.Xor RAX (Operand.Reg RCX) z ax (tt, λ q. lit< tt), tt),
  )
  unaries IrUnary.Neg false z = (record { kept = refl; slots = tt; fits = λ q. lit< tt; plain = λ l. refl; uncalled = refl }, tt)
  unaries IrUnary.BitNot float z = (record { kept = refl; slots = tt; fits = λ q. lit< tt; plain = λ l. refl; uncalled = refl }, tt)
  unaries IrUnary.Not float z = (into_register vars N Q BinOp.Xor RAX (Operand.Imm 1) z ax (tt, λ q. lit< tt), tt)

  zeroes : {n : ℕ} {y : Operand} (d : VarId) → Given (N false) (bytes d.ty) d → type_size d.ty ≡ ok n → convert_var ctx d ≡ ok y
      → All (Sound vars N Q) (Instruction.Lea y RDI Size.NoSize ∷ move (Operand.Reg RCX) (Operand.Imm n) Size.U64 ∷ move (Operand.Reg RAX) (Operand.Imm 0) Size.U64
      ∷ Instruction.Prefix Prefix.Rep StringOp.Stos Size.U8 ∷ [])
  zeroes {n} {y} d g h q =
      let p = (var_at_lem tables vars d).of y q in
      let o = slot_sound vars (N false) Q 0 d (given_less (N false) d (omega arith) g) p.0 in (
        record {
          kept = refl;
          slots = rw p.1 o.0;
          fits = λ q. (lit< tt, rw p.1 (o.1 q));
          plain = λ l. refl;
          uncalled = refl;
        },
        (
          into_register vars N Q BinOp.Mov RCX (Operand.Imm n) Size.U64 cx (tt, λ q. rw ((type_size_is d.ty).of n h).0 (bytes_lt d.ty)),
          (
            into_register vars N Q BinOp.Mov RAX (Operand.Imm 0) Size.U64 ax (tt, λ q. lit< tt),
            (record { kept = refl; slots = tt; fits = λ q. tt; plain = λ l. refl; uncalled = refl }, tt),
          ),
        ),
      )

  pub zeroing_is : (d : VarId) → Yields (generate_zero ctx d) (λ b. b ≡ zeroing vars d)
  unfolding generate_zero
  zeroing_is d = bind (type_size_is d.ty) (λ n h. bind (var_at_lem tables vars d) (λ v p. yields (rw (h.0, p.1))))

  -- ---- jumps, returns, calls

  -- a jump of any kind
  jumps : (op : CtrlOp) (l : ℕ) → tame (Instruction.Ctrl op (Operand.Label l)) ≡ true → is_call (Instruction.Ctrl op (Operand.Label l)) ≡ false → (Q → l < W)
      → Sound vars N Q (Instruction.Ctrl op (Operand.Label l))
  jumps op l t u h = record { kept = t; slots = tt; fits = h; plain = λ l. refl; uncalled = u }

  -- a Return's load, by the operand's own size
  returning : {i : Instruction} (ret : IrType) (x : IrOp) → GivenArgument (N false) x → (Q → SmallOperand x)
      → load_operand ctx (working (is_float ret)) x Size.NoSize ≡ ok i → Sound vars N Q i
  unfolding own_size operand_size
  returning {i} ret x w h e = (load_at (working (is_float ret)) x Size.NoSize (worked (is_float ret)) (own x w) h).of i e
    where
      own : (x : IrOp) → GivenArgument (N false) x → GivenOperand (N false) (span (own_size ctx x)) x
      own x w = of_var _ x (λ v i. rw (i, passed_span v.ty) (rw i at w))

  -- an argument's load
  loaded : (r : Register) (x : IrOp) → Yields (load_operand ctx r x Size.NoSize) (Loaded tables vars r x)
  unfolding load_operand load_value load_string string_at convert_operand float_at own_size operand_size
  loaded r (IrOp.Var v) = bind (var_at_lem tables vars v) (λ y p. yields (p.0, rw p.1))
  loaded r (IrOp.Int n short unsigned) = yields refl
  loaded r (IrOp.Float k) =
      bind {P = λ y. y ≡ rip_float k} (bind {P = λ f. f ≡ k} (guard 5 (ltb k tables.floats) (λ e. yields refl)) (λ f e. yields (rw e))) (λ y e. yields (rw e))
  loaded r (IrOp.Bool b) = yields refl
  loaded r (IrOp.Address v) = refuses 7
  loaded r (IrOp.DataAddress k) = bind {P = λ f. f ≡ k} (guard 5 (ltb k tables.strings) (λ e. yields refl)) (λ f e. yields (rw e))
  loaded r IrOp.Null = yields refl

  arguments : (i f : ℕ) (xs : List IrOp) → Yields (load_arguments ctx i f xs) (Loading tables vars i f xs)
  unfolding load_arguments
  arguments i f [] = yields (counted i f)
  arguments i f (x ∷ xs) = go (floating x) refl (arguments i f xs) (arguments i (suc f) xs) (arguments (suc i) f xs)
    where
      go : (b : Bool) → floating x ≡ b → Yields (load_arguments ctx i f xs) (Loading tables vars i f xs) → Yields (load_arguments ctx i (suc f) xs) (Loading tables vars i (suc f) xs)
          → Yields (load_arguments ctx (suc i) f xs) (Loading tables vars (suc i) f xs)
          → Yields (cond (is_spent b i f) (load_arguments ctx i f xs) (load_operand ctx (register_of b i f) x Size.NoSize >>= λ load.
          load_arguments ctx (words_taken b i) (floats_taken b f) xs >>= λ rest. ok (load ∷ rest))) (Loading tables vars i f (x ∷ xs))
      go true e n u w =
          choose (leb 8 f) (λ h. weaken n (λ l g. late_float e (leb-true 8 f h) g))
          (λ h. bind (loaded (get_or param_fregs f RAX) x) (λ a g. bind u (λ l q. yields (a_float e (leb-false 8 f h) g q))))
      go false e n u w =
          choose (leb 6 i) (λ h. weaken n (λ l g. late_word e (leb-true 6 i h) g))
          (λ h. bind (loaded (get_or param_regs i RAX) x) (λ a g. bind w (λ l q. yields (a_word e (leb-false 6 i h) g q))))

  pushing : (j : ℕ) (xs : List IrOp) → Yields (push_arguments ctx j xs) (Pushing tables vars j xs)
  unfolding push_arguments
  pushing j [] = yields (none j)
  pushing j (x ∷ xs) = bind (loaded RAX x) (λ a g. bind (pushing (suc j) xs) (λ l h. yields (push g h)))

  abbrev GivenResult : Option VarId → Type 0
  GivenResult None = Unit {0}
  GivenResult (Some d) = GivenVar d

  results : (d : Option VarId) → GivenResult d → Yields (store_result ctx d) (All (Sound vars N Q))
  unfolding store_result
  results None g = yields tt
  results (Some v) g =
      bind (var_at_lem tables vars v) (λ y p. bind (var_size_is v) (λ z u. yields
      (either vars N Q (is_float v.ty) (store_at BinOp.StoreF v y (xmm 0) z u g p (lit< tt)) (store_at BinOp.Mov v y RAX z u g p (lit< tt)), tt)))

  call_made : (d : Option VarId) (f : ℕ) (xs : List IrOp) → GivenResult d → GivenArguments (N false) xs → Yields (generate_call ctx d f xs) (Calling tables vars N Q f xs)
  unfolding generate_call
  call_made d f xs e w =
      bind (pushing 0 (excess floating 0 0 xs)) (λ p q. bind (arguments 0 0 xs) (λ l h. bind (results d e) (λ s g.
      yields (record { pushes = p; loads = l; store = s; is = refl; pushing = q; loading = h; given = w; after = g }))))

-- ---- what an instruction names

taken_operand : (N : Taking) (n : ℕ) (x : IrOp) → ((v : VarId) (w : ℕ) → Takes n x v w → N v w) → GivenOperand N n x
taken_operand N n x f = of_var _ x (λ u i. (n, f u n (rw i (refl, refl)), omega arith))

whole_var : (N : Taking) (d : VarId) → ((v : VarId) (w : ℕ) → Whole d v w → N v w) → Given N (bytes d.ty) d
whole_var N d f = (bytes d.ty, f d (bytes d.ty) (refl, refl), omega arith)

passed_operand : (N : Taking) (x : IrOp) → ((v : VarId) (w : ℕ) → Passes x v w → N v w) → GivenArgument N x
passed_operand N x f = of_var _ x (λ u i. (passed_bytes u.ty, f u (passed_bytes u.ty) (rw i (refl, refl)), omega arith))

passed_operands : (N : Taking) (xs : List IrOp) → ((v : VarId) (w : ℕ) → PassesOne xs v w → N v w) → GivenArguments N xs
passed_operands N [] f = tt
passed_operands N (x ∷ xs) f = (passed_operand N x (λ v w h. f v w (inl h)), passed_operands N xs (λ v w h. f v w (inr h)))

-- ---- all of them

module _ (tables : Tables) (vars : List IrType) (Q : Type 0) where
  abbrev context : Context
  context = context_with tables vars

  cast_source_lem : (N : Naming) (x : IrOp) → ((v : VarId) (w : ℕ) → Casts x v w → N false v w) → GivenCast tables vars N Q x
  cast_source_lem N x f = of_var _ x (λ u i. (cast_bytes u.ty, f u (cast_bytes u.ty) (rw i (refl, refl)), omega arith))

  call_result : (N : Naming) (d : Option VarId) → ((v : VarId) (w : ℕ) → Result d v w → N true v w) → GivenResult tables vars N Q d
  call_result N None f = tt
  call_result N (Some d) f = whole_var (N true) d f

  made_of : {labels : ℕ} {ret : IrType} {i : Instr} {args : List IrOp} {b : List Instruction} → Lowers context labels ret i args b → (Q → SmallInstr i args)
      → Made tables vars (Names tables i args) Q i args b
  made_of (copied {d} {x} {args} c) h =
      let N : Naming = Names tables (Instr.Copy d x) args in
      copying tables vars N Q c (whole_var (N true) d (λ v w z. z)) (taken_operand (N false) (bytes d.ty) x (λ v w z. z)) h
  made_of (unary {d} {op} {x} {args} {z} p q r) h =
      let N : Naming = Names tables (Instr.Unary d op x) args in (
        load_by tables vars N Q RAX x (ax tables vars N Q) ((var_size_is d).of z p) (taken_operand (N false) (bytes d.ty) x (λ v w z. z)) h q,
        all_append (Sound vars N Q) (unary_records op (is_float d.ty) z) _ (unaries tables vars N Q op (is_float d.ty) z)
            (stored tables vars N Q BinOp.Mov d RAX r p (whole_var (N true) d (λ v w z. z)) (lit< tt), tt),
      )
  made_of (binary {d} {op} {x} {y} {args} o) h =
      let N : Naming = Names tables (Instr.Binary d op x y) args in
      binaries tables vars N Q o (whole_var (N true) d (λ v w z. z)) (taken_operand (N false) _ x (λ v w z. inl z)) (taken_operand (N false) _ y (λ v w z. inr z))
      (λ q. (h q).0) (λ q. (h q).1)
  made_of (cast_copied {d} {x} {args} {k} {n} p q e c) h =
      let N : Naming = Names tables (Instr.Cast d x) args in
      let few = copied_few tables vars N Q x k (is_float d.ty) n (cast_source_lem N x (λ v w z. z)) ((kind_of context x).of k p) e in
      copying tables vars N Q c (whole_var (N true) d (λ v w z. z)) (rw ((type_size_is d.ty).of n q).0 at few) h
  made_of (cast_short {d} {x} {args} e c) h =
      let N : Naming = Names tables (Instr.Cast d x) args in
      zero_extending tables vars N Q c (whole_var (N true) d (λ v w z. z)) (short_few tables vars N Q x (cast_source_lem N x (λ v w z. z)) e) h
  made_of (cast {d} {x} {args} {k} {n} {s} p q e r c) h =
      let N : Naming = Names tables (Instr.Cast d x) args in
      let brought = (brings tables vars N Q x k.size (cast_source_lem N x (λ v w z. z)) h).of s r in
      casting tables vars N Q c (whole_var (N true) d (λ v w z. z))
      (widens tables vars N Q x k d.ty n s ((kind_of context x).of k p) ((type_size_is d.ty).of n q).0 e brought)
  made_of (zeroed {d} {args} p q) h =
      let N : Naming = Names tables (Instr.Zero d) args in
      zeroes tables vars N Q d (whole_var (N false) d (λ v w z. z)) p q
  made_of (called {d} {f} {count} {args} {b} e) h =
      let N : Naming = Names tables (Instr.Call d f count) args in
      (call_made tables vars N Q d f args (call_result N d (λ v w z. z)) (passed_operands (N false) args (λ v w z. z))).of b e
  made_of (labelled {l} {k} p) h = rw ((labels_at _ l).of k p)
  made_of (jump {l} {k} {args} p) h = (rw ((labels_at _ l).of k p) (jumps tables vars (Names tables (Instr.Jump l) args) Q CtrlOp.Jmp l refl refl h), tt)
  made_of (branch {x} {l} {k} {args} {load} p q) h =
      let N : Naming = Names tables (Instr.JumpIfNot x l) args in (
        (load_at tables vars N Q RAX x Size.U8 (ax tables vars N Q) (taken_operand (N false) 1 x (λ v w z. z)) (λ q. (h q).0)).of load p,
        (
          into_register vars N Q BinOp.Cmp RAX (Operand.Imm 0) Size.U8 (ax tables vars N Q) (tt, λ q. lit< tt),
          (rw ((labels_at _ l).of k q) (jumps tables vars N Q (CtrlOp.JmpCC ConditionCode.E) l refl refl (λ q. (h q).1)), tt),
        ),
      )
  made_of {ret = ret} (returned {x} {args} {load} p) h =
      let N : Naming = Names tables (Instr.Return x) args in
      (load, returning tables vars N Q ret x (passed_operand (N false) x (λ v w z. z)) h p, refl)
  made_of comment h = tt

  pub made : (labels : ℕ) (ret : IrType) (i : Instr) (args : List IrOp) → (Q → SmallInstr i args)
      → Yields (generate_instr context labels ret i args) (Made tables vars (Names tables i args) Q i args)
  made labels ret i args h = values (implies (lowers context labels ret i args) (λ b l. made_of l h))

-- ---- what holds of every record of an instruction

-- RSP moved by a number
abbrev pub moving : BinOp → ℕ → Instruction
moving op n = Instruction.Binary op (Operand.Reg RSP) (Operand.Imm n) Size.NoSize

-- of a Call's own records, with k arguments in excess; Q has the numbers small
pub record OwnCall (Q : Type 0) (P : Instruction → Type 0) (f k : ℕ) : Type 0 where
  pub calls : P (Instruction.Ctrl CtrlOp.Call (Operand.Sym f))
  pub lowers : (n : ℕ) → (Q → n ≤ 1024) → P (moving BinOp.Sub n)
  pub raises : (n : ℕ) → (Q → n ≤ 1024) → P (moving BinOp.Add n)
  pub puts : (j : ℕ) → j < k → (Q → j < 64) → P (putting j)

-- of a label's and a Call's own records
abbrev pub Own : Type 0 → (Instruction → Type 0) → Instr → List IrOp → Type 0
Own Q P (Instr.Copy d x) args = Unit {0}
Own Q P (Instr.Unary d op x) args = Unit {0}
Own Q P (Instr.Binary d op x y) args = Unit {0}
Own Q P (Instr.Cast d x) args = Unit {0}
Own Q P (Instr.Zero d) args = Unit {0}
Own Q P (Instr.Call d f count) args = OwnCall Q P f (spare args)
Own Q P (Instr.Label l) args = P (Instruction.Label l)
Own Q P (Instr.Jump l) args = Unit {0}
Own Q P (Instr.JumpIfNot x l) args = Unit {0}
Own Q P (Instr.Return x) args = Unit {0}
Own Q P Instr.Comment args = Unit {0}

module _ (vars : List IrType) (N : Naming) (Q : Type 0) (P : Instruction → Type 0) (of : (i : Instruction) → Sound vars N Q i → P i) where
  pub sound_all : (b : List Instruction) → All (Sound vars N Q) b → All P b
  sound_all b h = all_map (Sound vars N Q) P b of h

  -- RSP lowered or raised by a Call's area
  stack_all : (op : BinOp) → ((n : ℕ) → (Q → n ≤ 1024) → P (moving op n)) → (k : ℕ) → (Q → k ≤ 64) → All P (move_stack op k)
  stack_all op w k h = go (eqb k 0)
    where
      go : (b : Bool) → All P (cond b [] (moving op (call_area k) ∷ []))
      go true = tt
      go false = (w (call_area k) (λ q. let z : k ≤ 64 = h q in omega arith), tt)

  call_all : {tables : Tables} (f : ℕ) (args : List IrOp) (b : List Instruction) → (Q → (f < W) × SmallOperands args × (length args ≤ 64)) → OwnCall Q P f (spare args)
      → Calling tables vars N Q f args b → All P b
  call_all f args b q w m =
      rw m.is
      (all_append P (move_stack BinOp.Sub (spare args)) _ (stack_all BinOp.Sub w.lowers (spare args) few)
      (all_append P m.pushes _ (pushing_all vars N Q P of puts (excess_given (N false) 0 0 args m.given) (λ z. excess_small 0 0 args (q z).1) m.pushing)
      (all_append P m.loads _ (sound_all m.loads (loading_sound vars N Q (omega arith) m.given (λ z. (q z).1) m.loading))
      (w.calls, all_append P (move_stack BinOp.Add (spare args)) _ (stack_all BinOp.Add w.raises (spare args) few) (sound_all m.store m.after)))))
    where
      few : Q → spare args ≤ 64
      few z = let h : length args ≤ 64 = (q z).2 in omega (arith, excess_few floating 0 0 args)

      puts : (j : ℕ) → j < 0 + spare args → P (putting j)
      puts j h = w.puts j (omega arith) (λ z. omega (arith, few z))

  pub made_all : (tables : Tables) → All P func_epilogue → (i : Instr) (args : List IrOp) (b : List Instruction) → (Q → SmallInstr i args) → Own Q P i args → Made tables vars N Q i args b
      → All P b
  made_all tables t (Instr.Copy d x) args b q w m = sound_all b m
  made_all tables t (Instr.Unary d op x) args b q w m = sound_all b m
  made_all tables t (Instr.Binary d op x y) args b q w m = sound_all b m
  made_all tables t (Instr.Cast d x) args b q w m = sound_all b m
  made_all tables t (Instr.Zero d) args b q w m = sound_all b m
  made_all tables t (Instr.Call d f count) args b q w m = call_all f args b q w m
  made_all tables t (Instr.Label l) args b q w m = rw m (w, tt)
  made_all tables t (Instr.Jump l) args b q w m = sound_all b m
  made_all tables t (Instr.JumpIfNot x l) args b q w m = sound_all b m
  made_all tables t (Instr.Return x) args b q w (i, s, e) = rw e (of i s, t)
  made_all tables t Instr.Comment args b q w m = sound_all b m
