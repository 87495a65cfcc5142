-- The manual has every record of a plain function's list.
use Prim.Native.Nat.{ℕ, suc, ◌+◌, ◌%◌, ◌^◌, ◌<◌, ◌≤◌}
use mathlib.Core.Path.{◌≡◌, refl, sym, ◌∙◌, subst}
use mathlib.Core.Bool.{Bool, true, false, cond, not, ◌&&◌}
use mathlib.Core.List.{List, [], ◌∷◌, ◌++◌}
use lib.Dec.{eqb, leb, ltb}
use lib.ListN.{length, drop}
use native.Mathlib.Omega.{arith}
use borrow.Author.Tests.{lt-ltb, leb-false}
use Rattle.ir.specs.declared.VarId.{VarId}
use Rattle.ir.specs.declared.Operand.{Operand as IrOp}
use Rattle.ir.specs.declared.UnaryOp.{UnaryOp as IrUnary}
use Rattle.ir.specs.declared.Instr.{Instr}
use Rattle.ir.specs.Types.{element_size, operand_size}
use Rattle.ir.specs.Types as types
use Rattle.ir.specs.Function.{Function, Line, Tables}
use Rattle.x86.specs.declared.enums.Size.{Size}
use Rattle.x86.specs.declared.enums.Operand.{Operand}
use Rattle.x86.specs.declared.enums.BinOp.{BinOp}
use Rattle.x86.specs.declared.enums.ComplexBinOp.{ComplexBinOp}
use Rattle.x86.specs.declared.enums.ShiftOp.{ShiftOp}
use Rattle.x86.specs.declared.enums.ConditionCode.{ConditionCode}
use Rattle.x86.specs.declared.enums.ExtendOp.{ExtendOp}
use Rattle.x86.specs.declared.enums.Instruction.{Instruction}
use Rattle.x86.specs.Registers.{gpr, RAX, RCX}
use Rattle.codegen.specs.Utils.{load_from}
use Rattle.codegen.specs.Instructions.{func_epilogue, is_unsigned_short}
use Rattle.codegen.specs.Arithmetic.{sign_into, dividing, unary_records}
use Rattle.codegen.specs.Generation.{ends_in_ret}
use Rattle.machine.specs.Word.{W}
use Rattle.machine.specs.Encodings.{known, is_near, is_placed, is_sized, is_general_operand, is_general_form, is_binary}
use Rattle.machine.specs.Steps.{width, is_signed_type}
use Rattle.machine.specs.Frames.{depth, slot_of}
use Rattle.machine.specs.Simulation.{records_of_lines}
use Rattle.machine.proofs.Run.{Known, Fit, all_append}
use Rattle.machine.proofs.Accepted.{Accepted, records, front, whole, tail, code}
use Rattle.machine.proofs.Plainness.{Width, one, four, eight, Scalar, FourBytes, Near, Long, PlainOperand, PlainBinary, PlainInstr, Meant}
use Rattle.machine.proofs.Lowered.{slot, convert, size_in, load, general_load_lem, store, simple, compares, two, divides, multiplies, shifts, right_of, lower_binary, widening, casting, lower, lowered, operand_width, eight_most, short_width}
use Rattle.machine.proofs.Prologue.{near_slot, sized, front_known}
use Rattle.machine.proofs.Lines.{front_framed}
use Rattle.machine.proofs.Slots.{frame_le}
use Rattle.ir.specs.declared.BinaryOp.{BinaryOp}

-- ---- loads

-- an operand that a load of n bytes can have
abbrev Loadable : ℕ → Operand → Type 0
Loadable n Operand.NoOperand = ⊥
Loadable n (Operand.Reg r) = ⊥
Loadable n (Operand.Imm v) = n < 8 → FourBytes v
Loadable n (Operand.Sym k) = ⊥
Loadable n (Operand.Label l) = ⊥
Loadable n (Operand.MemoryAddress a) = is_placed a.base a.disp ≡ true

load_known : {n : ℕ} (k : ℕ) (a : Operand) → ltb k 16 ≡ true → Width n → Loadable n a → known (load_from (gpr k) a (element_size n)) ≡ true
unfolding known
load_known k Operand.NoOperand g w h = absurd h
load_known k (Operand.Reg r) g w h = absurd h
load_known k (Operand.Imm v) g one h = rw (general_load_lem k _ _ g, g) (lt-ltb _ _ (h (omega arith)))
load_known k (Operand.Imm v) g four h = rw (general_load_lem k _ _ g, g) (lt-ltb _ _ (h (omega arith)))
load_known k (Operand.Imm v) g eight h = rw (general_load_lem k _ _ g, g)
load_known k (Operand.Sym j) g w h = absurd h
load_known k (Operand.Label l) g w h = absurd h
load_known k (Operand.MemoryAddress a) g one h = rw (general_load_lem k _ _ g, g, h)
load_known k (Operand.MemoryAddress a) g four h = rw (general_load_lem k _ _ g, g, h)
load_known k (Operand.MemoryAddress a) g eight h = rw (general_load_lem k _ _ g, g, h)

-- ---- records that compute

-- ADD, SUB, AND, OR and XOR have alike forms
abbrev Computing : BinOp → Type 0
Computing o = (d x : Operand) (n : ℕ) → is_binary o d x n ≡ (is_sized n && is_general_form false d x (is_general_operand d) n)

times_known : {n : ℕ} → Width n → (n ≡ 1 → ⊥) → known (Instruction.ComplexBinary ComplexBinOp.Imul (Operand.Reg RAX) (Operand.Reg RCX) (element_size n)) ≡ true
unfolding known
times_known one h = absurd (h refl)
times_known four h = refl
times_known eight h = refl

one_known : {n : ℕ} → Width n → known (Instruction.Binary BinOp.Xor (Operand.Reg RAX) (Operand.Imm 1) (element_size n)) ≡ true
unfolding known
one_known one = refl
one_known four = refl
one_known eight = refl

-- ---- a plain function's

module _ (F : Function) (small : depth F.vars ≤ 1048576) where
  slot_near : (v : VarId) → v.id < length F.vars → is_near (slot_of F.vars v.id) ≡ true
  slot_near v h = near_slot F.vars small v.id h

  store_known : (d : VarId) (k : ℕ) → ltb k 16 ≡ true → Scalar F d → Known (store F d (gpr k))
  unfolding known
  store_known d k g s = rw (sized (size_in d), slot_near d s.at.there, g)

  loadable : (n : ℕ) (x : IrOp) → PlainOperand F x → width x ≡ n → Loadable n (convert F x)
  unfolding width
  loadable n (IrOp.Var v) h e = slot_near v h.at.there
  loadable n (IrOp.Int v true unsigned) h e = λ k. h
  loadable n (IrOp.Int v false unsigned) h e = λ k. absurd (omega arith)
  loadable n (IrOp.Float k) h e = absurd h
  loadable n (IrOp.Bool true) h e = λ k. omega arith
  loadable n (IrOp.Bool false) h e = λ k. omega arith
  loadable n (IrOp.Address v) h e = absurd h
  loadable n (IrOp.DataAddress k) h e = absurd h
  loadable n IrOp.Null h e = λ k. omega arith

  -- an operand of n bytes, into RAX or RCX
  operand_known : (n k : ℕ) (x : IrOp) → ltb k 16 ≡ true → Width n → PlainOperand F x → width x ≡ n → Known (load F (gpr k) x (element_size n))
  operand_known n k x g w h e = load_known k (convert F x) g w (loadable n x h e)

  -- .. or at its own size
  own_known : (x : IrOp) → PlainOperand F x → Known (load F RAX x (operand_size x))
  unfolding operand_size width load_from known
  own_known (IrOp.Var v) h = rw h.type.elf (operand_known _ 0 (IrOp.Var v) refl h.type.width h refl)
  own_known (IrOp.Int v true unsigned) h = operand_known 4 0 (IrOp.Int v true unsigned) refl four h refl
  own_known (IrOp.Int v false unsigned) h = operand_known 8 0 (IrOp.Int v false unsigned) refl eight h refl
  own_known (IrOp.Float k) h = absurd h
  own_known (IrOp.Bool b) h = operand_known 1 0 (IrOp.Bool b) refl one h refl
  own_known (IrOp.Address v) h = absurd h
  own_known (IrOp.DataAddress k) h = absurd h
  own_known IrOp.Null h = refl

  -- a right operand
  right_known : (n : ℕ) (o : BinOp) (y : IrOp) → Computing o → Width n → PlainOperand F y → width y ≡ n → Long Near y
      → Known (Instruction.Binary o (Operand.Reg RAX) (convert F y) (element_size n))
  unfolding known width
  right_known n o (IrOp.Var v) c w h e z = c _ _ _ ∙ rw (sized (element_size n), slot_near v h.at.there)
  right_known n o (IrOp.Int v true unsigned) c w h e z = c _ _ _ ∙ rw (← e) (lt-ltb ((v + 2 ^ 31) % W) (2 ^ 32 + 2 ^ 31) h)
  right_known n o (IrOp.Int v false unsigned) c w h e z = c _ _ _ ∙ rw (← e) (lt-ltb ((v + 2 ^ 31) % W) (2 ^ 32) z)
  right_known n o (IrOp.Float k) c w h e z = absurd h
  right_known n o (IrOp.Bool true) c w h e z = c _ _ _ ∙ rw (← e)
  right_known n o (IrOp.Bool false) c w h e z = c _ _ _ ∙ rw (← e)
  right_known n o (IrOp.Address v) c w h e z = absurd h
  right_known n o (IrOp.DataAddress k) c w h e z = absurd h
  right_known n o IrOp.Null c w h e z = c _ _ _ ∙ rw (← e)

  castable : (n : ℕ) (x : IrOp) → PlainOperand F x → (n < 8 → Long FourBytes x) → Loadable n (convert F x)
  castable n (IrOp.Var v) h z = slot_near v h.at.there
  castable n (IrOp.Int v true unsigned) h z = λ k. h
  castable n (IrOp.Int v false unsigned) h z = z
  castable n (IrOp.Float k) h z = absurd h
  castable n (IrOp.Bool true) h z = λ k. omega arith
  castable n (IrOp.Bool false) h z = λ k. omega arith
  castable n (IrOp.Address v) h z = absurd h
  castable n (IrOp.DataAddress k) h z = absurd h
  castable n IrOp.Null h z = λ k. omega arith

  widening_known : (d : VarId) (x : IrOp) → Scalar F d → PlainOperand F x → width x < types.bytes d.ty → Fit (widening F x ++ store F d RAX ∷ [])
  unfolding width known
  widening_known d (IrOp.Var v) s h k = (go (eqb (types.bytes v.ty) 1), (store_known d 0 refl s, tt))
    where
      go : (b : Bool)
          → Known (cond b (Instruction.Extend ExtendOp.Movzx RAX (slot F v) Size.U8 Size.U64) (Instruction.Extend ExtendOp.Movsxd RAX (slot F v) Size.U32 Size.U64))
      go true = rw (slot_near v h.at.there)
      go false = rw (slot_near v h.at.there)
  widening_known d (IrOp.Int v true unsigned) s h k = (operand_known 4 0 (IrOp.Int v true unsigned) refl four h refl, (refl, (store_known d 0 refl s, tt)))
  widening_known d (IrOp.Int v false unsigned) s h k = absurd (omega (arith, eight_most s.type.width))
  widening_known d (IrOp.Float j) s h k = absurd h
  widening_known d (IrOp.Bool b) s h k = (operand_known 1 0 (IrOp.Bool b) refl one h refl, (refl, (store_known d 0 refl s, tt)))
  widening_known d (IrOp.Address v) s h k = absurd h
  widening_known d (IrOp.DataAddress j) s h k = absurd h
  widening_known d IrOp.Null s h k = absurd (omega (arith, eight_most s.type.width))

  -- ---- instructions

  module _ (d : VarId) (x y : IrOp) (s : Scalar F d) (h : PlainOperand F x) (k : PlainOperand F y) where
    abbrev n : ℕ
    n = types.bytes d.ty

    simple_known : (o : BinOp) → Computing o → width x ≡ n → width y ≡ n → Long Near y
        → Fit (simple F o d x y)
    simple_known o c ex ey z =
        (operand_known n 0 x refl s.type.width h ex, (right_known n o y c s.type.width k ey z, (store_known d 0 refl s, tt)))

    compare_known : (cc : ConditionCode) → width x ≡ width y → Fit (compares F cc d x y)
    unfolding known
    compare_known cc e =
        let w : Width (width x) = operand_width F x h in (
          operand_known (width x) 0 x refl w h refl,
          (
            operand_known (width x) 1 y refl w k (sym e),
            (rw (sized (element_size (width x))), (refl, (store_known d 0 refl s, tt))),
          ),
        )

    two_known : (operation : List Instruction) (j : ℕ) → ltb j 16 ≡ true → width x ≡ n → width y ≡ n → Fit operation
        → Fit (two F d x y operation (gpr j))
    two_known operation j g ex ey f = (
      operand_known n 0 x refl s.type.width h ex,
      (
        operand_known n 1 y refl s.type.width k ey,
        all_append Known operation _ f (store_known d j g s, tt),
      ),
    )

    divides_known : Fit (divides d)
    unfolding known
    divides_known = go (is_signed_type d.ty) refl
      where
        signs : {n : ℕ} → Width n → (n ≡ 1 → ⊥) → Known (Instruction.Unary (sign_into (element_size n)) Operand.NoOperand (element_size n))
        signs one wide = absurd (wide refl)
        signs four wide = refl
        signs eight wide = refl

        go : (b : Bool) → is_signed_type d.ty ≡ b → Fit (dividing (not b) (size_in d))
        go true e = (signs s.type.width (s.type.wide e), (rw (sized (size_in d)), tt))
        go false e = (rw (sized (size_in d)), (rw (sized (size_in d)), tt))

    shift_known : (o : ShiftOp) → Fit (shifts o d)
    unfolding known
    shift_known o = (rw (sized (size_in d)), tt)

    binary_known : (op : BinaryOp) → width x ≡ width y → PlainBinary op d x y → Fit (lower_binary F op d x y)
    unfolding known
    binary_known BinaryOp.Or e p = absurd p
    binary_known BinaryOp.And e p = absurd p
    binary_known BinaryOp.BitOr e p = simple_known BinOp.Or (λ d x n. refl) p.0 (sym e ∙ p.0) p.1
    binary_known BinaryOp.BitXor e p = simple_known BinOp.Xor (λ d x n. refl) p.0 (sym e ∙ p.0) p.1
    binary_known BinaryOp.BitAnd e p = simple_known BinOp.And (λ d x n. refl) p.0 (sym e ∙ p.0) p.1
    binary_known BinaryOp.Eq e p = compare_known ConditionCode.E e
    binary_known BinaryOp.NotEq e p = compare_known ConditionCode.NE e
    binary_known BinaryOp.Lt e p = compare_known ConditionCode.L e
    binary_known BinaryOp.Le e p = compare_known ConditionCode.LE e
    binary_known BinaryOp.Gt e p = compare_known ConditionCode.G e
    binary_known BinaryOp.Ge e p = compare_known ConditionCode.GE e
    binary_known BinaryOp.Shl e p = two_known (shifts ShiftOp.Shl d) 0 refl p (sym e ∙ p) (shift_known ShiftOp.Shl)
    binary_known BinaryOp.Shr e p = two_known (shifts (right_of (is_signed_type d.ty)) d) 0 refl p (sym e ∙ p) (shift_known (right_of (is_signed_type d.ty)))
    binary_known BinaryOp.Add e p = simple_known BinOp.Add (λ d x n. refl) p.0 (sym e ∙ p.0) p.1
    binary_known BinaryOp.Sub e p = simple_known BinOp.Sub (λ d x n. refl) p.0 (sym e ∙ p.0) p.1
    binary_known BinaryOp.Mul e p = two_known (multiplies d) 0 refl p.0 (sym e ∙ p.0) (times_known s.type.width p.1, tt)
    binary_known BinaryOp.Div e p = two_known (divides d) 0 refl p (sym e ∙ p) divides_known
    binary_known BinaryOp.Rem e p = two_known (divides d) 2 refl p.0 (sym e ∙ p.0) divides_known

  unary_known : (d : VarId) (op : IrUnary) → Scalar F d → Fit (unary_records op false (size_in d))
  unfolding known
  unary_known d IrUnary.Neg s = (rw (sized (size_in d)), tt)
  unary_known d IrUnary.BitNot s = (rw (sized (size_in d)), tt)
  unary_known d IrUnary.Not s = (one_known s.type.width, tt)

  lower_known : (i : Instr) → PlainInstr F i → Fit (lower F i)
  unfolding known
  lower_known (Instr.Copy d x) (s, h, e) = (operand_known _ 0 x refl s.type.width h e, (store_known d 0 refl s, tt))
  lower_known (Instr.Unary d op x) (s, h, e) =
      (operand_known _ 0 x refl s.type.width h e, all_append Known (unary_records op false (size_in d)) _ (unary_known d op s) (store_known d 0 refl s, tt))
  lower_known (Instr.Binary d op x y) (s, h, k, e, p) = binary_known d x y s h k op e p
  lower_known (Instr.Cast d x) (s, h, z) = go (leb (types.bytes d.ty) (width x)) (is_unsigned_short x) refl refl
    where
      go : (b c : Bool) → leb (types.bytes d.ty) (width x) ≡ b → is_unsigned_short x ≡ c → Fit (casting F d x b c)
      go true c q r = (load_known 0 (convert F x) refl s.type.width (castable _ x h z), (store_known d 0 refl s, tt))
      go false true q r = (operand_known 4 0 x refl four h (short_width F x h r), (store_known d 0 refl s, tt))
      go false false q r = widening_known d x s h (leb-false (types.bytes d.ty) (width x) q)
  lower_known (Instr.Zero d) h = (rw (slot_near d h.there), (refl, (refl, (refl, tt))))
  lower_known (Instr.Call d f count) h = absurd h
  lower_known (Instr.Label l) h = (refl, tt)
  lower_known (Instr.Jump l) h = (refl, tt)
  lower_known (Instr.JumpIfNot x l) (h, e, q) = (operand_known 1 0 x refl one h e, (refl, (refl, tt)))
  lower_known (Instr.Return x) h = (own_known x h, (refl, (refl, (refl, tt))))
  lower_known Instr.Comment h = tt

-- ---- the whole list

pub epilogue_known : Fit func_epilogue
unfolding known
epilogue_known = (refl, (refl, (refl, tt)))

module _ (tables : Tables) (F : Function) (small : depth F.vars ≤ 1048576) (few : length F.params ≤ 256) (a : Accepted tables F) (m : Meant F) where
  lines_known : (ls : List Line) → ((k : ℕ) (l : Line) (r : List Line) → drop k ls ≡ l ∷ r → Fit (records tables F l)) → Fit (records_of_lines tables F ls)
  unfolding records_of_lines
  lines_known [] h = tt
  lines_known (l ∷ ls) h = all_append Known (records tables F l) _ (h 0 l ls refl) (lines_known ls (λ k. h (suc k)))

  pub code_known : Fit (code tables F)
  unfolding code
  code_known =
      all_append Known (whole tables F) (tail tables F)
      (all_append Known (front tables F) _
      (front_known F.vars F.params (front tables F) small few (frame_le F.vars small) (front_framed tables F a))
      (lines_known F.body (λ k l r d. subst Fit (sym (lowered tables F a m k l r d)) (lower_known F small l.instr (m.lines k l r d)))))
      (go (ends_in_ret (whole tables F)))
    where
      go : (b : Bool) → Fit (cond b [] func_epilogue)
      go true = tt
      go false = epilogue_known
