-- Codes and what they stand for. What is looked up by a code's number is the code; and all cells of a record but its two values are below 100.
use Prim.Native.Nat.{ℕ, ◌+◌, ◌*◌, ◌-◌, ◌<◌}
use mathlib.Core.Path.{◌≡◌, refl}
use mathlib.Core.Bool.{Bool, true, false, cond}
use mathlib.Core.List.{List, [], ◌∷◌}
use mathlib.Core.Option.{some}
use native.Mathlib.Omega.{arith}
use borrow.Author.Tests.{eqb-true, ltb-true, le-ltb}
use lib.Dec.{eqb, ltb, lit<}
use Rattle.x86.specs.declared.mem_address.Base.{Base}
use Rattle.x86.specs.declared.enums.Size.{Size}
use Rattle.x86.specs.declared.enums.Operand.{Operand}
use Rattle.x86.specs.declared.enums.ConditionCode.{ConditionCode}
use Rattle.x86.specs.declared.enums.BinOp.{BinOp}
use Rattle.x86.specs.declared.enums.ShiftOp.{ShiftOp}
use Rattle.x86.specs.declared.enums.ComplexBinOp.{ComplexBinOp}
use Rattle.x86.specs.declared.enums.UnaryOp.{UnaryOp}
use Rattle.x86.specs.declared.enums.StackOp.{StackOp}
use Rattle.x86.specs.declared.enums.CtrlOp.{CtrlOp}
use Rattle.x86.specs.declared.enums.StringOp.{StringOp}
use Rattle.x86.specs.declared.enums.Prefix.{Prefix}
use Rattle.x86.specs.declared.enums.ExtendOp.{ExtendOp}
use Rattle.x86.specs.declared.enums.ConvOp.{ConvOp}
use Rattle.x86.specs.declared.enums.Instruction.{Instruction}
use Rattle.x86.specs.Records.{Record, size_code, base_tag, tag_of, condition_code, bin_code, shift_code, complex_code, unary_code, stack_code, ctrl_code, prefix_code, string_code, extend_code, conv_code, record_with, record_of}
use Rattle.x86.specs.Decode.{look_up, sizes, conditions, binaries, shifts, complexes, unaries, stacks, extends, conversions, control_of}

-- ---- from a number back to its code

pub size_back : (z : Size) → look_up sizes (size_code z) ≡ some z
size_back Size.NoSize = refl
size_back Size.U8 = refl
size_back Size.U16 = refl
size_back Size.U32 = refl
size_back Size.U64 = refl

pub condition_back : (c : ConditionCode) → look_up conditions (condition_code c) ≡ some c
condition_back ConditionCode.E = refl
condition_back ConditionCode.NE = refl
condition_back ConditionCode.G = refl
condition_back ConditionCode.GE = refl
condition_back ConditionCode.L = refl
condition_back ConditionCode.LE = refl
condition_back ConditionCode.A = refl
condition_back ConditionCode.AE = refl
condition_back ConditionCode.B = refl
condition_back ConditionCode.BE = refl
condition_back ConditionCode.P = refl
condition_back ConditionCode.NP = refl

pub binary_back : (o : BinOp) → look_up binaries (bin_code o) ≡ some o
binary_back BinOp.Mov = refl
binary_back BinOp.Xchg = refl
binary_back BinOp.Add = refl
binary_back BinOp.Sub = refl
binary_back BinOp.Adc = refl
binary_back BinOp.Sbb = refl
binary_back BinOp.And = refl
binary_back BinOp.Or = refl
binary_back BinOp.Xor = refl
binary_back BinOp.Cmp = refl
binary_back BinOp.Test = refl
binary_back BinOp.LoadF = refl
binary_back BinOp.StoreF = refl
binary_back BinOp.AddF = refl
binary_back BinOp.SubF = refl
binary_back BinOp.MulF = refl
binary_back BinOp.DivF = refl
binary_back BinOp.ComiF = refl
binary_back BinOp.UcomiF = refl

pub shift_back : (o : ShiftOp) → look_up shifts (shift_code o) ≡ some o
shift_back ShiftOp.Shl = refl
shift_back ShiftOp.Shr = refl
shift_back ShiftOp.Sar = refl

pub complex_back : (o : ComplexBinOp) → look_up complexes (complex_code o) ≡ some o
complex_back ComplexBinOp.Div = refl
complex_back ComplexBinOp.Imul = refl
complex_back ComplexBinOp.Idiv = refl

pub unary_back : (o : UnaryOp) → look_up unaries (unary_code o) ≡ some o
unary_back UnaryOp.Neg = refl
unary_back UnaryOp.Not = refl
unary_back UnaryOp.Cdq = refl
unary_back UnaryOp.Cqo = refl

pub stack_back : (o : StackOp) → look_up stacks (stack_code o) ≡ some o
stack_back StackOp.Push = refl
stack_back StackOp.Pop = refl

pub extend_back : (o : ExtendOp) → look_up extends (extend_code o) ≡ some o
extend_back ExtendOp.Movsxd = refl
extend_back ExtendOp.Movzx = refl

pub conversion_back : (o : ConvOp) → look_up conversions (conv_code o) ≡ some o
conversion_back ConvOp.Cvtsd2ss = refl
conversion_back ConvOp.Cvtsi2sd = refl
conversion_back ConvOp.Cvtsi2ss = refl
conversion_back ConvOp.Cvtss2sd = refl
conversion_back ConvOp.Cvttsd2si = refl
conversion_back ConvOp.Cvttss2si = refl

-- the code of JmpCC is 64 and its condition's
conditional_back : (c : ConditionCode) → control_of (ctrl_code (CtrlOp.JmpCC c)) ≡ some (CtrlOp.JmpCC c)
conditional_back c =
    let e : 64 + condition_code c - 64 ≡ condition_code c = omega arith in
    rw (le-ltb (64 + condition_code c) 64 (omega arith), e, condition_back c)

pub control_back : (o : CtrlOp) → control_of (ctrl_code o) ≡ some o
control_back CtrlOp.Jmp = refl
control_back CtrlOp.Call = refl
control_back CtrlOp.Ret = refl
control_back (CtrlOp.JmpCC c) = conditional_back c

-- ---- bounds: what is looked up in a table is below a number that all its codes are below, which is computed

abbrev all_below : {A : Type 0} → ℕ → List (ℕ × A) → Bool
all_below n [] = true
all_below n (e ∷ es) = cond (ltb e.0 n) (all_below n es) false

below : {A : Type 0} (n : ℕ) (es : List (ℕ × A)) (k : ℕ) (a : A) → all_below n es ≡ true → look_up es k ≡ some a → k < n
below n [] k a t h = let z : ◌≡◌ {A = ℕ} 0 1 = cc in absurd (omega arith)
below n (e ∷ es) k a t h = go (ltb e.0 n) refl t (eqb e.0 k) refl h (below n es k a)
  where
    go : (b : Bool) → ltb e.0 n ≡ b → cond b (all_below n es) false ≡ true → (c : Bool) → eqb e.0 k ≡ c → cond c (some e.1) (look_up es k) ≡ some a
        → (all_below n es ≡ true → look_up es k ≡ some a → k < n) → k < n
    go true p t true q h more = omega (arith, ltb-true e.0 n p, eqb-true e.0 k q)
    go true p t false q h more = more t h
    go false p t c q h more = let z : ◌≡◌ {A = ℕ} 0 1 = cc in absurd (omega arith)

size_lt : (o : Size) → size_code o < 100
size_lt o = below 100 sizes (size_code o) o refl (size_back o)

condition_lt : (o : ConditionCode) → condition_code o < 16
condition_lt o = below 16 conditions (condition_code o) o refl (condition_back o)

binary_lt : (o : BinOp) → bin_code o < 100
binary_lt o = below 100 binaries (bin_code o) o refl (binary_back o)

shift_lt : (o : ShiftOp) → shift_code o < 100
shift_lt o = below 100 shifts (shift_code o) o refl (shift_back o)

complex_lt : (o : ComplexBinOp) → complex_code o < 100
complex_lt o = below 100 complexes (complex_code o) o refl (complex_back o)

unary_lt : (o : UnaryOp) → unary_code o < 100
unary_lt o = below 100 unaries (unary_code o) o refl (unary_back o)

stack_lt : (o : StackOp) → stack_code o < 100
stack_lt o = below 100 stacks (stack_code o) o refl (stack_back o)

extend_lt : (o : ExtendOp) → extend_code o < 100
extend_lt o = below 100 extends (extend_code o) o refl (extend_back o)

conversion_lt : (o : ConvOp) → conv_code o < 100
conversion_lt o = below 100 conversions (conv_code o) o refl (conversion_back o)

-- those that no table has
control_lt : (o : CtrlOp) → ctrl_code o < 100
control_lt CtrlOp.Jmp = lit< tt
control_lt CtrlOp.Call = lit< tt
control_lt CtrlOp.Ret = lit< tt
control_lt (CtrlOp.JmpCC c) = omega (arith, condition_lt c)

prefix_lt : (p : Prefix) (o : StringOp) → 16 * prefix_code p + string_code o < 100
prefix_lt Prefix.Rep StringOp.Stos = lit< tt

base_lt : (o : Base) → base_tag o < 100
base_lt Base.Rbp = lit< tt
base_lt Base.String = lit< tt
base_lt Base.Float = lit< tt
base_lt Base.Rsp = lit< tt

tag_lt : (o : Operand) → tag_of o < 100
tag_lt Operand.NoOperand = lit< tt
tag_lt (Operand.Reg r) = lit< tt
tag_lt (Operand.Imm n) = lit< tt
tag_lt (Operand.Sym n) = lit< tt
tag_lt (Operand.Label n) = lit< tt
tag_lt (Operand.MemoryAddress a) = base_lt a.base

-- ---- every record

pub record Narrow (r : Record) : Type 0 where
  pub form : r.form < 100
  pub operation : r.operation < 100
  pub dst_tag : r.dst_tag < 100
  pub src_tag : r.src_tag < 100
  pub size : r.size < 100
  pub src_size : r.src_size < 100

narrow_with : (form operation : ℕ) (d x : Operand) (z y : Size) → form < 100 → operation < 100 → Narrow (record_with form operation d x z y)
narrow_with form operation d x z y f o =
    record { form = f; operation = o; dst_tag = tag_lt d; src_tag = tag_lt x; size = size_lt z; src_size = size_lt y }

pub narrow_record : (i : Instruction) → Narrow (record_of i)
unfolding record_of
narrow_record (Instruction.Binary op d x z) = narrow_with 0 (bin_code op) d x z Size.NoSize (lit< tt) (binary_lt op)
narrow_record (Instruction.ComplexBinary op d x z) = narrow_with 4 (complex_code op) d x z Size.NoSize (lit< tt) (complex_lt op)
narrow_record (Instruction.Convert op r x z) = narrow_with 5 (conv_code op) (Operand.Reg r) x z Size.NoSize (lit< tt) (conversion_lt op)
narrow_record (Instruction.Ctrl op t) = narrow_with 6 (ctrl_code op) t Operand.NoOperand Size.NoSize Size.NoSize (lit< tt) (control_lt op)
narrow_record (Instruction.Extend op r x y z) = narrow_with 7 (extend_code op) (Operand.Reg r) x z y (lit< tt) (extend_lt op)
narrow_record (Instruction.Lea x r z) = narrow_with 8 0 (Operand.Reg r) x z Size.NoSize (lit< tt) (lit< tt)
narrow_record (Instruction.Label n) = narrow_with 9 0 (Operand.Label n) Operand.NoOperand Size.NoSize Size.NoSize (lit< tt) (lit< tt)
narrow_record (Instruction.Prefix p op z) = narrow_with 11 _ Operand.NoOperand Operand.NoOperand z Size.NoSize (lit< tt) (prefix_lt p op)
narrow_record (Instruction.SetCC op d) = narrow_with 12 (condition_code op) d Operand.NoOperand Size.NoSize Size.NoSize (lit< tt) (omega (arith, condition_lt op))
narrow_record (Instruction.Shift op d x z) = narrow_with 13 (shift_code op) d x z Size.NoSize (lit< tt) (shift_lt op)
narrow_record (Instruction.Stack op x z) = narrow_with 14 (stack_code op) x Operand.NoOperand z Size.NoSize (lit< tt) (stack_lt op)
narrow_record (Instruction.Unary op d z) = narrow_with 17 (unary_code op) d Operand.NoOperand z Size.NoSize (lit< tt) (unary_lt op)
