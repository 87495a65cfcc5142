-- The records of one instruction are few, and the last of them is Ret exactly where the instruction is a Return.
use Prim.Native.Nat.{ℕ, suc, ◌+◌, ◌*◌, ◌<◌, ◌≤◌}
use mathlib.Core.Path.{◌≡◌, refl, ◌∙◌}
use mathlib.Core.Bool.{Bool, true, false, cond, not, ◌&&◌, beq}
use mathlib.Core.List.{List, [], ◌∷◌, ◌++◌}
use lib.ListN.{length, length-append}
use native.Mathlib.Omega.{arith}
use lib.Dec.{eqb, ltb, lit≤}
use borrow.Author.Tests.{ltb-true}
use Rattle.ir.specs.declared.«Type».{«Type» as IrType}
use Rattle.ir.specs.declared.VarId.{VarId}
use Rattle.ir.specs.declared.Operand.{Operand as IrOp}
use Rattle.ir.specs.declared.UnaryOp.{UnaryOp as IrUnary}
use Rattle.std.specs.Prelude.{Option, Some, None}
use Rattle.ir.specs.declared.Instr.{Instr}
use Rattle.ir.specs.Types.{ok, ◌>>=◌, is_float}
use Rattle.x86.specs.declared.register.Register.{Register}
use Rattle.x86.specs.declared.enums.Size.{Size}
use Rattle.x86.specs.declared.enums.Operand.{Operand}
use Rattle.x86.specs.declared.enums.BinOp.{BinOp}
use Rattle.x86.specs.declared.enums.ConditionCode.{ConditionCode}
use Rattle.x86.specs.declared.enums.CtrlOp.{CtrlOp}
use Rattle.x86.specs.declared.enums.ExtendOp.{ExtendOp}
use Rattle.x86.specs.declared.enums.Instruction.{Instruction}
use Rattle.x86.specs.Registers.{xmm, RAX, RSP}
use Rattle.x86.specs.Records.{condition_code}
use Rattle.codegen.specs.Context.{Context}
use Rattle.codegen.specs.Utils.{var_size, convert_var, convert_operand, load_operand}
use Rattle.codegen.specs.Instructions.{move, Source, source, widened, cast_operand, floating, is_spent, words_taken, floats_taken, excess, register_of, load_arguments, push_arguments, call_area, move_stack, store_result, generate_call}
use Rattle.codegen.specs.Arithmetic.{dividing, parity, ordered, unary_records}
use Rattle.codegen.specs.Frame.{registers_of, store_params, copy_params, is_float_param, func_prologue}
use Rattle.codegen.specs.Generation.{generate_instr, is_ret, ends_in_ret}
use Rattle.codegen.specs.Bounds.{most_records, most_in_prologue}
use Rattle.codegen.proofs.Results.{Yields, yields, any, bind, weaken, choose, implies, values}
use Rattle.codegen.proofs.Lowers.{copies, zero_extends_lem, Converts, conversion, extension, Works, quotient, remainder, product, shifted, Sides, words, floats, swapped, Operates, one_load_lem, two_loads_lem, compares, Lowers, copied, unary, binary, cast_copied, cast_short, cast, zeroed, called, labelled, jump, branch, returned, comment, lowers}
use Rattle.ir.specs.declared.BinaryOp.{BinaryOp}

-- ---- lists

-- whether an instruction is a Return
abbrev pub is_return : Instr → Bool
is_return (Instr.Copy dest src) = false
is_return (Instr.Unary dest op src) = false
is_return (Instr.Binary dest op left right) = false
is_return (Instr.Cast dest src) = false
is_return (Instr.Zero dest) = false
is_return (Instr.Call dest symbol count) = false
is_return (Instr.Label l) = false
is_return (Instr.Jump l) = false
is_return (Instr.JumpIfNot condition target) = false
is_return (Instr.Return op) = true
is_return Instr.Comment = false

pub record Part (most : ℕ) (ret : Bool) (is : List Instruction) : Type 0 where
  pub few : length is ≤ most
  pub last : ends_in_ret is ≡ ret

-- the last record of a list is that of its last part
pub ends_last : (xs : List Instruction) (y : Instruction) (ys : List Instruction) → ends_in_ret (xs ++ y ∷ ys) ≡ ends_in_ret (y ∷ ys)
unfolding ends_in_ret
ends_last [] y ys = refl
ends_last (x ∷ []) y ys = refl
ends_last (x ∷ z ∷ xs) y ys = ends_last (z ∷ xs) y ys

ends_none : (xs : List Instruction) → ends_in_ret (xs ++ []) ≡ ends_in_ret xs
unfolding ends_in_ret
ends_none [] = refl
ends_none (x ∷ []) = refl
ends_none (x ∷ y ∷ xs) = ends_none (y ∷ xs)

-- the last record of a list is that of its last part, unless that part has none
pub ends_some : (xs ys : List Instruction) → 0 < length ys → ends_in_ret (xs ++ ys) ≡ ends_in_ret ys
ends_some xs [] h = absurd (omega arith)
ends_some xs (y ∷ ys) h = ends_last xs y ys

pub ends_same : (xs ys : List Instruction) → length ys ≡ 0 → ends_in_ret (xs ++ ys) ≡ ends_in_ret xs
ends_same xs [] h = ends_none xs
ends_same xs (y ∷ ys) h = absurd (omega arith)

-- a list whose last record, no Ret, follows few others
part : (n : ℕ) (xs : List Instruction) (i : Instruction) → length xs < n → is_ret i ≡ false → Part n false (xs ++ i ∷ [])
unfolding ends_in_ret
part n xs i h e = record { few = rw length-append (omega arith); last = ends_last xs i [] ∙ e }

-- .. at most so many
wider : {n : ℕ} {ret : Bool} {is : List Instruction} (k : ℕ) → Part n ret is → n ≤ k → Part k ret is
wider k p h = record { few = omega (arith, p.few); last = p.last }

-- ---- casts

-- a cast's source takes at most two records
abbrev pub Brief : ℕ → Source → Type 0
Brief n s = length s.records ≤ n

pub source_brief : (ctx : Context) (x : IrOp) (n : ℕ) → Yields (cast_operand ctx x n) (Brief 1)
unfolding cast_operand
source_brief ctx (IrOp.Var v) n = bind (any (convert_var ctx v)) (λ x p. yields (lit≤ tt))
source_brief ctx (IrOp.Int v short unsigned) n =
    bind (any (load_operand ctx RAX (IrOp.Int v short unsigned) (cond short Size.U32 Size.U64))) (λ x p. yields (lit≤ tt))
source_brief ctx (IrOp.Float k) n = bind (any (convert_operand ctx (IrOp.Float k))) (λ x p. yields (lit≤ tt))
source_brief ctx (IrOp.Bool b) n = bind (any (load_operand ctx RAX (IrOp.Bool b) Size.U8)) (λ x p. yields (lit≤ tt))
source_brief ctx (IrOp.Address v) n = bind (any (convert_operand ctx (IrOp.Address v))) (λ x p. yields (lit≤ tt))
source_brief ctx (IrOp.DataAddress k) n = bind (any (convert_operand ctx (IrOp.DataAddress k))) (λ x p. yields (lit≤ tt))
source_brief ctx IrOp.Null n = bind (any (convert_operand ctx IrOp.Null)) (λ x p. yields (lit≤ tt))

widened_brief : (float : Bool) (s : Source) → Brief 1 s → Brief 2 (widened float s)
widened_brief float s h = go (not float && eqb s.size 1)
  where
    go : (b : Bool) →
        Brief 2 (cond b (source (s.records ++ Instruction.Extend ExtendOp.Movzx RAX s.operand Size.U8 Size.U64 ∷ []) (Operand.Reg RAX) 8) s)
    go true = rw length-append (omega arith)
    go false = omega arith

extended_part : (s : Source) (var : Operand) (size : Size) (b : Bool) → Brief 2 s →
    Part 7 false (s.records ++ cond b [] (Instruction.Extend ExtendOp.Movsxd RAX s.operand Size.U32 Size.U64 ∷ []) ++ move var (Operand.Reg RAX) size ∷ [])
extended_part s var size true h = part 7 (s.records ++ []) (move var (Operand.Reg RAX) size) (rw length-append (omega arith)) refl
extended_part s var size false h = part 7 (s.records ++ _ ∷ []) (move var (Operand.Reg RAX) size) (rw length-append (omega arith)) refl

cast_part : {ctx : Context} {d : VarId} {s : Source} {n : ℕ} {a b : Bool} {is : List Instruction} → Brief 2 s → Converts ctx d s n a b is → Part 7 false is
unfolding ends_in_ret
cast_part {s = s} h (conversion c p q) = record { few = rw length-append (omega arith); last = ends_last s.records _ _ }
cast_part {s = s} h (extension {z} {var} p q) = extended_part s var z (eqb s.size 8) h

-- ---- calls

-- a record an argument in a register, and the number of floats
pub loads_few : (ctx : Context) (i f : ℕ) (xs : List IrOp) → Yields (load_arguments ctx i f xs) (λ is. length is + length (excess floating i f xs) ≡ suc (length xs))
unfolding load_arguments excess
loads_few ctx i f [] = yields refl
loads_few ctx i f (x ∷ xs) = go (is_spent (floating x) i f) (loads_few ctx i f xs) (loads_few ctx (words_taken (floating x) i) (floats_taken (floating x) f) xs)
  where
    i' : ℕ
    i' = words_taken (floating x) i

    f' : ℕ
    f' = floats_taken (floating x) f

    go : (b : Bool) → Yields (load_arguments ctx i f xs) (λ is. length is + length (excess floating i f xs) ≡ suc (length xs))
        → Yields (load_arguments ctx i' f' xs) (λ is. length is + length (excess floating i' f' xs) ≡ suc (length xs))
        → Yields (cond b (load_arguments ctx i f xs) (load_operand ctx (register_of (floating x) i f) x Size.NoSize >>= λ load. load_arguments ctx i' f' xs >>= λ rest. ok (load ∷ rest)))
        (λ is. length is + length (cond b (x ∷ excess floating i f xs) (excess floating i' f' xs)) ≡ suc (suc (length xs)))
    go true u w = weaken u (λ is p. omega arith)
    go false u w = bind (any (load_operand ctx (register_of (floating x) i f) x Size.NoSize)) (λ load p. bind w (λ rest q. yields (omega arith)))

-- two records an argument in excess
pub pushes_few : (ctx : Context) (j : ℕ) (xs : List IrOp) → Yields (push_arguments ctx j xs) (λ is. length is ≡ 2 * length xs)
unfolding push_arguments
pushes_few ctx j [] = yields refl
pushes_few ctx j (x ∷ xs) =
    bind (any (load_operand ctx RAX x Size.NoSize)) (λ load p. bind (pushes_few ctx (suc j) xs) (λ rest q. yields (omega arith)))

pub stack_few : (op : BinOp) (k : ℕ) → length (move_stack op k) ≤ 1
stack_few op k = go (eqb k 0)
  where
    go : (b : Bool) → length (cond b [] (Instruction.Binary op (Operand.Reg RSP) (Operand.Imm (call_area k)) Size.NoSize ∷ [])) ≤ 1
    go true = lit≤ tt
    go false = lit≤ tt

pub result_part : (ctx : Context) (dest : Option VarId) → Yields (store_result ctx dest) (Part 1 false)
unfolding store_result ends_in_ret
result_part ctx None = yields (record { few = lit≤ tt; last = refl })
result_part ctx (Some v) =
    bind (any (convert_var ctx v)) (λ var p. bind (any (var_size v)) (λ size q. yields (go var size (is_float v.ty))))
  where
    go : (var : Operand) (size : Size) (b : Bool) →
        Part 1 false (cond b (Instruction.Binary BinOp.StoreF var (Operand.Reg (xmm 0)) size) (move var (Operand.Reg RAX) size) ∷ [])
    go var size true = record { few = lit≤ tt; last = refl }
    go var size false = record { few = lit≤ tt; last = refl }

call_part : (ctx : Context) (dest : Option VarId) (symbol : ℕ) (args : List IrOp) → Yields (generate_call ctx dest symbol args) (Part (most_records (length args)) false)
unfolding generate_call ends_in_ret
call_part ctx dest symbol args =
    bind (pushes_few ctx 0 (excess floating 0 0 args)) (λ pushes o.
    bind (loads_few ctx 0 0 args) (λ loads p.
    bind (result_part ctx dest) (λ store q. yields (behind pushes loads store o p q))))
  where
    call : Instruction
    call = Instruction.Ctrl CtrlOp.Call (Operand.Sym symbol)

    k : ℕ
    k = length (excess floating 0 0 args)

    last_store : (i : Instruction) (store : List Instruction) → is_ret i ≡ false → ends_in_ret store ≡ false → ends_in_ret (i ∷ store) ≡ false
    last_store i [] h e = h
    last_store i (j ∷ is) h e = e

    raised : (b : Bool) (store : List Instruction) → ends_in_ret store ≡ false
        → ends_in_ret (call ∷ (cond b [] (Instruction.Binary BinOp.Add (Operand.Reg RSP) (Operand.Imm (call_area k)) Size.NoSize ∷ []) ++ store)) ≡ false
    raised true store e = last_store call store refl e
    raised false store e = last_store (Instruction.Binary BinOp.Add (Operand.Reg RSP) (Operand.Imm (call_area k)) Size.NoSize) store refl e

    behind : (pushes loads store : List Instruction) → length pushes ≡ 2 * k → length loads + k ≡ suc (length args) → Part 1 false store
        → Part (most_records (length args)) false (move_stack BinOp.Sub k ++ (pushes ++ (loads ++ call ∷ (move_stack BinOp.Add k ++ store))))
    behind pushes loads store o p q =
        record {
          few = rw (length-append, length-append, length-append, length-append) (omega (arith, o, p, q.few, stack_few BinOp.Sub k, stack_few BinOp.Add k));
          last = ends_some (move_stack BinOp.Sub k) _ (rw (length-append, length-append) (omega arith))
              ∙ ends_some pushes _ (rw length-append (omega arith)) ∙ ends_last loads call _ ∙ raised (eqb k 0) store q.last;
        }

-- ---- operations of two sides

dividing_few : (unsigned : Bool) (z : Size) → length (dividing unsigned z) ≤ 2
dividing_few true z = lit≤ tt
dividing_few false z = lit≤ tt

works_few : {z : Size} {work : List Instruction} {r : Register} → Works z work r → length work ≤ 2
works_few {z} (quotient unsigned) = dividing_few unsigned z
works_few {z} (remainder unsigned) = dividing_few unsigned z
works_few product = lit≤ tt
works_few (shifted op) = lit≤ tt

ordered_few : (cc : ConditionCode) → length (ordered cc) ≤ 2
ordered_few cc = go (eqb (condition_code cc) 0) (eqb (condition_code cc) 1)
  where
    go : (a b : Bool) → length (cond a (parity ConditionCode.NP BinOp.And) (cond b (parity ConditionCode.P BinOp.Or) [])) ≤ 2
    go true b = lit≤ tt
    go false true = lit≤ tt
    go false false = lit≤ tt

sides_few : {x y l r : IrOp} {a b : Register} {more : List Instruction} → Sides x y a l b r more → length more ≤ 2
sides_few words = lit≤ tt
sides_few (floats cc) = ordered_few cc
sides_few swapped = lit≤ tt

binary_part : {ctx : Context} {d : VarId} {op : BinaryOp} {x y : IrOp} {is : List Instruction} → Operates ctx d op x y is → Part 7 false is
unfolding ends_in_ret
binary_part (one_load_lem k float h p q r t) = record { few = lit≤ tt; last = refl }
binary_part (two_loads_lem {work = work} k h p q r w t) = part 7 (_ ∷ _ ∷ work) _ (omega (arith, works_few w)) refl
binary_part (compares {more = more} k h p q s r t u v) = part 7 (_ ∷ _ ∷ _ ∷ _ ∷ more) _ (omega (arith, sides_few s)) refl

-- ---- every instruction

unary_few : (op : IrUnary) (float : Bool) (size : Size) → length (unary_records op float size) ≤ 2
unary_few IrUnary.Neg true size = lit≤ tt
unary_few IrUnary.Neg false size = lit≤ tt
unary_few IrUnary.BitNot float size = lit≤ tt
unary_few IrUnary.Not float size = lit≤ tt

lowers_part : {ctx : Context} {labels : ℕ} {ret : IrType} {i : Instr} {args : List IrOp} {is : List Instruction} → Lowers ctx labels ret i args is → Part (most_records (length args)) (is_return i) is
unfolding ends_in_ret
lowers_part (copied (copies p q r)) = record { few = omega arith; last = refl }
lowers_part (unary {d} {op} {z = z} p q r) = part _ (_ ∷ unary_records op (is_float d.ty) z) _ (omega (arith, unary_few op (is_float d.ty) z)) refl
lowers_part (binary h) = wider _ (binary_part h) (omega arith)
lowers_part (cast_copied p q e (copies r t u)) = record { few = omega arith; last = refl }
lowers_part (cast_short e (zero_extends_lem p q r)) = record { few = omega arith; last = refl }
lowers_part {ctx} (cast {x = x} {k = k} {s = s} p q e r h) = wider _ (cast_part (widened_brief k.float s ((source_brief ctx x k.size).of s r)) h) (omega arith)
lowers_part (zeroed p q) = record { few = omega arith; last = refl }
lowers_part {ctx} (called {d} {f} {args = args} {b} e) = (call_part ctx d f args).of b e
lowers_part (labelled p) = record { few = omega arith; last = refl }
lowers_part (jump p) = record { few = omega arith; last = refl }
lowers_part (branch p q) = record { few = omega arith; last = refl }
lowers_part (returned p) = record { few = omega arith; last = refl }
lowers_part comment = record { few = omega arith; last = refl }

pub instr_part : (ctx : Context) (labels : ℕ) (ret : IrType) (i : Instr) (args : List IrOp) → Yields (generate_instr ctx labels ret i args) (Part (most_records (length args)) (is_return i))
instr_part ctx labels ret i args = values (implies (lowers ctx labels ret i args) (λ is h. lowers_part h))

-- ---- the prologue

-- the excess of a list is no longer than the list
pub excess_few : {A : Type 0} (float : A → Bool) (i f : ℕ) (xs : List A) → length (excess float i f xs) ≤ length xs
unfolding excess
excess_few float i f [] = lit≤ tt
excess_few {A} float i f (x ∷ xs) = go (is_spent (float x) i f) (excess_few float i f xs) (excess_few float (words_taken (float x) i) (floats_taken (float x) f) xs)
  where
    go : (b : Bool) → length (excess float i f xs) ≤ length xs → length (excess float (words_taken (float x) i) (floats_taken (float x) f) xs) ≤ length xs
        → length (cond b (x ∷ excess float i f xs) (excess float (words_taken (float x) i) (floats_taken (float x) f) xs)) ≤ suc (length xs)
    go true h k = omega arith
    go false h k = omega arith

-- a record a register, from the register of rank k on
pub stores_few : (ctx : Context) (float : Bool) (k : ℕ) (ps : List VarId) → k ≤ length (registers_of float)
    → Yields (store_params ctx float k ps) (λ is. length is + k ≤ length (registers_of float))
unfolding store_params
stores_few ctx float k [] h = yields (omega arith)
stores_few ctx float k (p ∷ ps) h =
    choose (beq (is_float p.ty) float)
    (λ e. choose (ltb k (length (registers_of float)))
    (λ l. bind (any (convert_var ctx p)) (λ var a. bind (any (var_size p)) (λ size b.
    bind (stores_few ctx float (suc k) ps (ltb-true k (length (registers_of float)) l)) (λ rest c. yields (omega arith)))))
    (λ l. yields (omega arith)))
    (λ e. stores_few ctx float k ps h)

-- two records a parameter in excess
pub copies_few : (ctx : Context) (j : ℕ) (ps : List VarId) → Yields (copy_params ctx j ps) (λ is. length is ≡ 2 * length ps)
unfolding copy_params
copies_few ctx j [] = yields refl
copies_few ctx j (p ∷ ps) =
    bind (any (var_size p)) (λ size a. bind (any (convert_var ctx p)) (λ var b. bind (copies_few ctx (suc j) ps) (λ rest c. yields (omega arith))))

pub prologue_few : (ctx : Context) (bytes : ℕ) (ps : List VarId) → Yields (func_prologue ctx bytes ps) (λ is. length is ≤ most_in_prologue (length ps))
unfolding func_prologue
prologue_few ctx bytes ps =
    bind (stores_few ctx false 0 ps (lit≤ tt)) (λ words a.
    bind (stores_few ctx true 0 ps (lit≤ tt)) (λ floats b.
    bind (copies_few ctx 0 (excess is_float_param 0 0 ps)) (λ copies c.
    yields (rw (length-append, length-append) (omega (arith, a, b, c, excess_few is_float_param 0 0 ps))))))
