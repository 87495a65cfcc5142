-- Good tables exchanged for other good ones leave the list of every sheet that names no string and no float.
use Prim.Native.Nat.{ℕ, suc}
use mathlib.Core.Path.{◌≡◌, refl, sym, ap, ◌∙◌}
use mathlib.Core.Bool.{Bool, true, false, cond, not, ◌&&◌, ◌||◌, beq}
use mathlib.Core.List.{List, [], ◌∷◌, ◌++◌}
use lib.Dec.{ltb}
use lib.ListN.{length}
use Rattle.cells.specs.Refusals.{no_entry}
use Rattle.ir.specs.declared.«Type».{«Type» as IrType}
use Rattle.ir.specs.declared.VarId.{VarId}
use Rattle.ir.specs.declared.Operand.{Operand as IrOp}
use Rattle.std.specs.Prelude.{Option, Some, None}
use Rattle.ir.specs.declared.Instr.{Instr}
use Rattle.ir.specs.Types.{Result, ok, refused, ◌>>=◌, type_size, is_float}
use Rattle.ir.specs.Function.{Tables, Line, Function, tables_of, function_of}
use Rattle.cells.specs.declared.Cursor.{Cursor}
use Rattle.std.specs.Prelude.{Ok, Err}
use Rattle.layout.specs.Layout.{Checked}
use Rattle.layout.specs.Layout.{tables_check, sheet_check}
use Rattle.layout.proofs.Passed.{apart}
use Rattle.x86.specs.declared.register.Register.{Register}
use Rattle.x86.specs.declared.enums.Size.{Size}
use Rattle.x86.specs.declared.enums.BinOp.{BinOp}
use Rattle.x86.specs.declared.enums.ConditionCode.{ConditionCode}
use Rattle.x86.specs.declared.enums.ConvOp.{ConvOp}
use Rattle.x86.specs.declared.enums.Instruction.{Instruction}
use Rattle.x86.specs.Registers.{xmm, RAX, RCX}
use Rattle.codegen.specs.Context.{Context, context_of, displacement}
use Rattle.codegen.specs.Utils.{size_from, var_size, convert_var, convert_operand, own_size, load_value, load_operand}
use Rattle.codegen.specs.Instructions.{operand_kind, is_copy, Source, widened, converted, cast_operand, cast_between, is_unsigned_short, zero_extended, generate_return, generate_copy, generate_cast, generate_zero, floating, is_spent, words_taken, floats_taken, excess, register_of, load_arguments, push_arguments, store_result, generate_call, generate_jmp_if_not}
use Rattle.codegen.specs.Arithmetic.{simple_operation, float_operation, two_loads, division, multiplication, shift, is_swapped, compared, float_comparison, comparison, generate_binary, generate_unary}
use Rattle.codegen.specs.Frame.{registers_of, store_params, copy_params, is_float_param, var_offsets, frame, func_prologue}
use Rattle.codegen.specs.Generation.{Outcome, accepted, at, checked, generate_instr, generate_body, generate, compiled, page, lowered}
use Rattle.codegen.specs.Generation as outcomes
use Rattle.pack.specs.Names.{is_named, operands_of, any_named, lines_name, names_any}
use Rattle.pack.specs.Pack.{pack_check, sheet_count, sheet_at, lowered_in}
use Rattle.pack.specs.Changes.{TablesExchanged}
use Rattle.pack.proofs.LookUps.{looked_up}
use Rattle.ir.specs.declared.BinaryOp.{BinaryOp}

-- ---- along binds and tests

after : {A B : Type 0} (r : Result A) {f g : A → Result B} → ((a : A) → f a ≡ g a) → (r >>= f) ≡ (r >>= g)
after (ok a) h = h a
after (refused n) h = refl

part : {A B : Type 0} {r q : Result A} {f g : A → Result B} → r ≡ q → ((a : A) → f a ≡ g a) → (r >>= f) ≡ (q >>= g)
part {A} {B} {r} {q} {f} {g} e h = ap (λ (x : Result A). x >>= f) e ∙ after q h

behind : {A B : Type 0} (r : Outcome A) {f g : A → Outcome B} → ((a : A) → f a ≡ g a) → outcomes.◌>>=◌ r f ≡ outcomes.◌>>=◌ r g
behind (accepted a) h = h a
behind (outcomes.refused n place) h = refl

placed : {A B : Type 0} {r q : Outcome A} {f g : A → Outcome B} → r ≡ q → ((a : A) → f a ≡ g a) → outcomes.◌>>=◌ r f ≡ outcomes.◌>>=◌ q g
placed {A} {B} {r} {q} {f} {g} e h = ap (λ (x : Outcome A). outcomes.◌>>=◌ x f) e ∙ behind q h

either : {A : Type 0} {x x' y y' : A} (b : Bool) → x ≡ x' → y ≡ y' → cond b x y ≡ cond b x' y'
either true e f = e
either false e f = f

neither : (a b : Bool) → (a || b) ≡ false → (a ≡ false) × (b ≡ false)
neither true b e = apart e
neither false b e = (refl, e)

-- ---- the same offsets with other tables

module _ (T U : Tables) (offsets : List ℕ) where
  abbrev c : Context
  c = context_of T offsets

  abbrev d : Context
  d = context_of U offsets

  abbrev Same : {A : Type 0} → (Context → A) → Type 0
  Same f = f c ≡ f d

  var : (v : VarId) → Same (λ x. convert_var x v)
  unfolding convert_var displacement
  var v = refl

  operand : (y : IrOp) → is_named y ≡ false → Same (λ x. convert_operand x y)
  unfolding convert_operand
  operand (IrOp.Var v) e = var v
  operand (IrOp.Int n short unsigned) e = refl
  operand (IrOp.Float k) e = apart e
  operand (IrOp.Bool b) e = refl
  operand (IrOp.Address v) e = refl
  operand (IrOp.DataAddress k) e = refl
  operand IrOp.Null e = refl

  load : (r : Register) (y : IrOp) (z : Size) → is_named y ≡ false → Same (λ x. load_operand x r y z)
  unfolding load_operand load_value own_size
  load r (IrOp.Var v) z e = part (operand (IrOp.Var v) e) (λ a. refl)
  load r (IrOp.Int n short unsigned) z e = part (operand (IrOp.Int n short unsigned) e) (λ a. refl)
  load r (IrOp.Float k) z e = apart e
  load r (IrOp.Bool b) z e = part (operand (IrOp.Bool b) e) (λ a. refl)
  load r (IrOp.Address v) z e = part (operand (IrOp.Address v) e) (λ a. refl)
  load r (IrOp.DataAddress k) z e = apart e
  load r IrOp.Null z e = part (operand IrOp.Null e) (λ a. refl)

  kind : (y : IrOp) → is_named y ≡ false → Same (λ x. operand_kind x y)
  unfolding operand_kind
  kind (IrOp.Var v) e = refl
  kind (IrOp.Int n short unsigned) e = refl
  kind (IrOp.Float k) e = apart e
  kind (IrOp.Bool b) e = refl
  kind (IrOp.Address v) e = refl
  kind (IrOp.DataAddress k) e = refl
  kind IrOp.Null e = refl

  source : (y : IrOp) (n : ℕ) → is_named y ≡ false → Same (λ x. cast_operand x y n)
  unfolding cast_operand
  source (IrOp.Var v) n e = part (var v) (λ a. refl)
  source (IrOp.Int v short unsigned) n e = part (load RAX (IrOp.Int v short unsigned) _ e) (λ a. refl)
  source (IrOp.Float k) n e = apart e
  source (IrOp.Bool b) n e = part (load RAX (IrOp.Bool b) Size.U8 e) (λ a. refl)
  source (IrOp.Address v) n e = part (operand (IrOp.Address v) e) (λ a. refl)
  source (IrOp.DataAddress k) n e = apart e
  source IrOp.Null n e = part (operand IrOp.Null e) (λ a. refl)

  -- ---- copies and casts

  copy : (dest : VarId) (y : IrOp) → is_named y ≡ false → Same (λ x. generate_copy x dest y)
  unfolding generate_copy
  copy dest y e = part (var dest) (λ v. after (var_size dest) (λ z. part (load RAX y z e) (λ i. refl)))

  zero_extending : (dest : VarId) (y : IrOp) → is_named y ≡ false → Same (λ x. zero_extended x dest y)
  unfolding zero_extended
  zero_extending dest y e = part (load RAX y Size.U32 e) (λ i. part (var dest) (λ v. refl))

  converting : (dest : VarId) (s : Source) (op : ConvOp) (r : Register) (z : Size) → Same (λ x. converted x dest s op r z)
  converting dest s op r z = part (var dest) (λ v. refl)

  between : (dest : VarId) (s : Source) (a b : Bool) (n : ℕ) → Same (λ x. cast_between x dest s a b n)
  unfolding cast_between
  between dest s true true n = converting dest s _ _ _
  between dest s false true n = after (size_from s.size) (λ z. converting dest s _ _ z)
  between dest s true false n = after (var_size dest) (λ z. converting dest s _ _ z)
  between dest s false false n = part (var dest) (λ v. refl)

  casting : (dest : VarId) (y : IrOp) → is_named y ≡ false → Same (λ x. generate_cast x dest y)
  unfolding generate_cast
  casting dest y e =
      part (kind y e) (λ k. after (type_size dest.ty) (λ n. either (is_copy k (is_float dest.ty) n) (copy dest y e)
      (either (not (is_float dest.ty) && is_unsigned_short y) (zero_extending dest y e)
      (part (source y k.size e) (λ s. between dest (widened k.float s) k.float (is_float dest.ty) n)))))

  -- ---- operations of two sides

  simple : (dest : VarId) (l r : IrOp) (op : BinOp) → is_named l ≡ false → is_named r ≡ false → Same (λ x. simple_operation x dest l r op)
  unfolding simple_operation
  simple dest l r op e f = after (var_size dest) (λ z. part (load RAX l z e) (λ i. part (operand r f) (λ y. part (var dest) (λ v. refl))))

  floats : (dest : VarId) (l r : IrOp) (op : BinOp) → is_named l ≡ false → is_named r ≡ false → Same (λ x. float_operation x dest l r op)
  unfolding float_operation
  floats dest l r op e f = after (var_size dest) (λ z. part (load (xmm 0) l z e) (λ i. part (operand r f) (λ y. part (var dest) (λ v. refl))))

  two : (dest : VarId) (l r : IrOp) (work : Size → List Instruction) (q : Register) → is_named l ≡ false → is_named r ≡ false → Same (λ x. two_loads x dest l r work q)
  unfolding two_loads
  two dest l r work q e f = after (var_size dest) (λ z. part (load RAX l z e) (λ i. part (load RCX r z f) (λ j. part (var dest) (λ v. refl))))

  sides : (dest : VarId) (a : Register) (l : IrOp) (b : Register) (r : IrOp) (z : Size) (op : BinOp) (cc : ConditionCode) (more : List Instruction) →
      is_named l ≡ false → is_named r ≡ false → Same (λ x. compared x dest a l b r z op cc more)
  unfolding compared
  sides dest a l b r z op cc more e f = part (load a l z e) (λ i. part (load b r z f) (λ j. part (var dest) (λ v. refl)))

  comparing : (dest : VarId) (l r : IrOp) (cc : ConditionCode) → is_named l ≡ false → is_named r ≡ false → Same (λ x. comparison x dest l r cc)
  unfolding comparison float_comparison
  comparing dest l r cc e f =
      part (kind l e) (λ k. after (size_from k.size) (λ z. either k.float
      (either (is_swapped cc) (sides dest (xmm 0) r (xmm 1) l z _ _ _ f e) (sides dest (xmm 0) l (xmm 1) r z _ _ _ e f))
      (sides dest RAX l RCX r z _ _ _ e f)))

  operating : (dest : VarId) (op : BinaryOp) (l r : IrOp) → is_named l ≡ false → is_named r ≡ false → Same (λ x. generate_binary x dest op l r)
  unfolding generate_binary division multiplication shift
  operating dest BinaryOp.Or l r e f = refl
  operating dest BinaryOp.And l r e f = refl
  operating dest BinaryOp.BitOr l r e f = either (is_float dest.ty) refl (simple dest l r BinOp.Or e f)
  operating dest BinaryOp.BitXor l r e f = either (is_float dest.ty) refl (simple dest l r BinOp.Xor e f)
  operating dest BinaryOp.BitAnd l r e f = either (is_float dest.ty) refl (simple dest l r BinOp.And e f)
  operating dest BinaryOp.Eq l r e f = either (is_float dest.ty) refl (comparing dest l r ConditionCode.E e f)
  operating dest BinaryOp.NotEq l r e f = either (is_float dest.ty) refl (comparing dest l r ConditionCode.NE e f)
  operating dest BinaryOp.Lt l r e f = either (is_float dest.ty) refl (comparing dest l r ConditionCode.L e f)
  operating dest BinaryOp.Le l r e f = either (is_float dest.ty) refl (comparing dest l r ConditionCode.LE e f)
  operating dest BinaryOp.Gt l r e f = either (is_float dest.ty) refl (comparing dest l r ConditionCode.G e f)
  operating dest BinaryOp.Ge l r e f = either (is_float dest.ty) refl (comparing dest l r ConditionCode.GE e f)
  operating dest BinaryOp.Shl l r e f = either (is_float dest.ty) refl (two dest l r _ _ e f)
  operating dest BinaryOp.Shr l r e f = either (is_float dest.ty) refl (two dest l r _ _ e f)
  operating dest BinaryOp.Add l r e f = either (is_float dest.ty) (floats dest l r BinOp.AddF e f) (simple dest l r BinOp.Add e f)
  operating dest BinaryOp.Sub l r e f = either (is_float dest.ty) (floats dest l r BinOp.SubF e f) (simple dest l r BinOp.Sub e f)
  operating dest BinaryOp.Mul l r e f = either (is_float dest.ty) (floats dest l r BinOp.MulF e f) (two dest l r _ _ e f)
  operating dest BinaryOp.Div l r e f = either (is_float dest.ty) (floats dest l r BinOp.DivF e f) (two dest l r _ _ e f)
  operating dest BinaryOp.Rem l r e f = either (is_float dest.ty) refl (two dest l r _ _ e f)

  -- ---- calls

  loads : (i f : ℕ) (ys : List IrOp) → any_named ys ≡ false → Same (λ x. load_arguments x i f ys)
  unfolding load_arguments any_named
  loads i f [] e = refl
  loads i f (y ∷ ys) e =
      let h = neither (is_named y) (any_named ys) e in
      either (is_spent (floating y) i f) (loads i f ys h.1)
      (part (load (register_of (floating y) i f) y Size.NoSize h.0) (λ a. part (loads (words_taken (floating y) i) (floats_taken (floating y) f) ys h.1) (λ l. refl)))

  pushes : (j : ℕ) (ys : List IrOp) → any_named ys ≡ false → Same (λ x. push_arguments x j ys)
  unfolding push_arguments any_named
  pushes j [] e = refl
  pushes j (y ∷ ys) e =
      let h = neither (is_named y) (any_named ys) e in
      part (load RAX y Size.NoSize h.0) (λ a. part (pushes (suc j) ys h.1) (λ l. refl))

  result : (dest : Option VarId) → Same (λ x. store_result x dest)
  unfolding store_result
  result None = refl
  result (Some v) = part (var v) (λ y. refl)

-- those in excess are among them
unnamed : (y : IrOp) (b : Bool) (more less : List IrOp) → is_named y ≡ false → any_named more ≡ false → any_named less ≡ false → any_named (cond b (y ∷ more) less) ≡ false
unfolding any_named
unnamed y true more less h e f = rw h e
unnamed y false more less h e f = f

excess_unnamed : (i f : ℕ) (ys : List IrOp) → any_named ys ≡ false → any_named (excess floating i f ys) ≡ false
unfolding excess any_named
excess_unnamed i f [] e = refl
excess_unnamed i f (y ∷ ys) e =
    let h = neither (is_named y) (any_named ys) e in
    unnamed y (is_spent (floating y) i f) (excess floating i f ys) (excess floating (words_taken (floating y) i) (floats_taken (floating y) f) ys) h.0 (excess_unnamed i f ys h.1) (excess_unnamed (words_taken (floating y) i) (floats_taken (floating y) f) ys h.1)

-- ---- every instruction, and the whole

module _ (T U : Tables) (offsets : List ℕ) where
  instruction : (labels : ℕ) (ret : IrType) (i : Instr) (args : List IrOp) → any_named (operands_of i ++ args) ≡ false → Same T U offsets (λ x. generate_instr x labels ret i args)
  unfolding generate_instr generate_unary generate_zero generate_call generate_jmp_if_not generate_return any_named
  instruction labels ret (Instr.Copy dest y) args e = copy T U offsets dest y (neither (is_named y) (any_named args) e).0
  instruction labels ret (Instr.Unary dest op y) args e =
      after (var_size dest) (λ z. part (load T U offsets RAX y z (neither (is_named y) (any_named args) e).0) (λ i. part (var T U offsets dest) (λ v. refl)))
  instruction labels ret (Instr.Binary dest op l r) args e =
      let h = neither (is_named l) (is_named r || any_named args) e in
      operating T U offsets dest op l r h.0 (neither (is_named r) (any_named args) h.1).0
  instruction labels ret (Instr.Cast dest y) args e = casting T U offsets dest y (neither (is_named y) (any_named args) e).0
  instruction labels ret (Instr.Zero dest) args e = after (type_size dest.ty) (λ n. part (var T U offsets dest) (λ v. refl))
  instruction labels ret (Instr.Call dest symbol count) args e =
      part (pushes T U offsets 0 (excess floating 0 0 args) (excess_unnamed 0 0 args e)) (λ p. part (loads T U offsets 0 0 args e) (λ l. part (result T U offsets dest) (λ s. refl)))
  instruction labels ret (Instr.Label l) args e = refl
  instruction labels ret (Instr.Jump l) args e = refl
  instruction labels ret (Instr.JumpIfNot y target) args e = part (load T U offsets RAX y Size.U8 (neither (is_named y) (any_named args) e).0) (λ i. refl)
  instruction labels ret (Instr.Return y) args e =
      part (load T U offsets (cond (is_float ret) (xmm 0) RAX) y Size.NoSize (neither (is_named y) (any_named args) e).0) (λ i. refl)
  instruction labels ret Instr.Comment args e = refl

  body : (labels : ℕ) (ret : IrType) (i : ℕ) (lines : List Line) → lines_name lines ≡ false → Same T U offsets (λ x. generate_body x labels ret i lines)
  unfolding generate_body lines_name
  body labels ret i [] e = refl
  body labels ret i (line ∷ lines) e =
      let h = neither (any_named (operands_of line.instr ++ line.args)) (lines_name lines) e in
      placed (ap (at i) (instruction labels ret line.instr line.args h.0)) (λ records. placed (body labels ret (suc i) lines h.1) (λ rest. refl))

  stores : (float : Bool) (k : ℕ) (ps : List VarId) → Same T U offsets (λ x. store_params x float k ps)
  unfolding store_params
  stores float k [] = refl
  stores float k (p ∷ ps) =
      either (beq (is_float p.ty) float)
      (either (ltb k (length (registers_of float))) (part (var T U offsets p) (λ v. after (var_size p) (λ z. part (stores float (suc k) ps) (λ rest. refl)))) refl)
      (stores float k ps)

  copies : (j : ℕ) (ps : List VarId) → Same T U offsets (λ x. copy_params x j ps)
  unfolding copy_params
  copies j [] = refl
  copies j (p ∷ ps) = after (var_size p) (λ z. part (var T U offsets p) (λ v. part (copies (suc j) ps) (λ rest. refl)))

  prologue : (bytes : ℕ) (ps : List VarId) → Same T U offsets (λ x. func_prologue x bytes ps)
  unfolding func_prologue
  prologue bytes ps = part (stores false 0 ps) (λ a. part (stores true 0 ps) (λ b. part (copies 0 (excess is_float_param 0 0 ps)) (λ c. refl)))

tables_apart : (T U : Tables) (F : Function) → lines_name F.body ≡ false → generate T F ≡ generate U F
unfolding generate
tables_apart T U F e =
    behind (at 0 (var_offsets F.vars)) (λ o. placed (ap (at 0) (prologue T U o (frame F.vars) F.params)) (λ p. placed (body T U o F.labels F.ret 1 F.body e) (λ b. refl)))

-- ---- the answer to a call

-- behind tables that are good
behind_tables : (t s : List ℕ) {end : Cursor} → tables_check t ≡ Ok end → compiled t s ≡ checked (sheet_check s) (λ u. generate (tables_of t) (function_of s))
unfolding compiled
behind_tables t s e = rw e

module _ (t t' : List ℕ) {end end' : Cursor} (good : tables_check t ≡ Ok end) (good' : tables_check t' ≡ Ok end') where
  list_stays : (s : List ℕ) (m : ℕ) → names_any s ≡ false → lowered t s m ≡ lowered t' s m
  unfolding lowered
  list_stays s m e =
      ap (λ (x : Outcome (List Instruction)). outcomes.◌>>=◌ x (page m))
      (behind_tables t s good ∙ ap (λ (x : Outcome (List Instruction)). checked (sheet_check s) (λ u. x)) (tables_apart (tables_of t) (tables_of t') (function_of s) e) ∙ sym (behind_tables t' s good'))

  -- and so of a sheet in a pack
  list_stays_in : (p : List ℕ) (k m : ℕ) → names_any (sheet_at p k) ≡ false → lowered_in t p k m ≡ lowered_in t' p k m
  unfolding lowered_in
  list_stays_in p k m e = rw (looked_up p k) (go (pack_check p) (ltb k (sheet_count p)))
    where
      go : (x : Checked) (b : Bool) →
          outcomes.◌>>=◌ (checked x (λ u. cond b (accepted (sheet_at p k)) (outcomes.refused no_entry 0))) (λ s. lowered t s m)
          ≡ outcomes.◌>>=◌ (checked x (λ u. cond b (accepted (sheet_at p k)) (outcomes.refused no_entry 0))) (λ s. lowered t' s m)
      go (Ok c) true = list_stays (sheet_at p k) m e
      go (Ok c) false = refl
      go (Err r) b = refl

pub tables_exchanged : TablesExchanged
tables_exchanged t t' end end' g h = (list_stays t t' g h, list_stays_in t t' g h)
