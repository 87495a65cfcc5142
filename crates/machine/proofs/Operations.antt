-- What each record that computes leaves in RAX, for a width left open.
use Prim.Native.Nat.{ℕ, ◌*◌, ◌-◌, ◌%◌, ◌^◌, ◌<◌}
use mathlib.Core.Path.{◌≡◌, refl, sym, ap, ◌∙◌}
use mathlib.Core.Bool.{Bool, true, false}
use mathlib.Core.List.{List}
use lib.Pow.{mod-mod-pow}
use native.Mathlib.Nat.{mod-lt, zero-add}
use native.Mathlib.Omega.{arith}
use Rattle.ir.specs.declared.Operand.{Operand as IrOp}
use Rattle.ir.specs.declared.UnaryOp.{UnaryOp as IrUnary}
use Rattle.ir.specs.Types.{element_size}
use Rattle.ir.specs.Function.{Function}
use Rattle.x86.specs.declared.enums.Operand.{Operand}
use Rattle.x86.specs.declared.enums.BinOp.{BinOp}
use Rattle.x86.specs.declared.enums.ShiftOp.{ShiftOp}
use Rattle.x86.specs.declared.enums.ComplexBinOp.{ComplexBinOp}
use Rattle.x86.specs.declared.enums.UnaryOp.{UnaryOp}
use Rattle.x86.specs.declared.enums.Instruction.{Instruction}
use Rattle.x86.specs.Registers.{RAX, RCX}
use Rattle.machine.specs.Word.{bound, bit_xor}
use Rattle.machine.specs.Encodings.{bytes}
use Rattle.machine.specs.Machine.{Flags, Choice, State, exec, exec_binary, exec_shift, exec_unary, exec_complex, minus_flags, next, with_reg, with_flags, merge, second, shifted, shift_count, shift_flags}
use Rattle.machine.specs.Steps.{Values, width, value, shift_by, shift_right, binary, unary}
use Rattle.machine.proofs.Numbers.{bound_pos, number_lt}
use Rattle.machine.proofs.Records.{shift_df}
use Rattle.machine.proofs.Plainness.{Width, one, four, eight, PlainOperand}
use Rattle.machine.proofs.Lowered.{right_of}
use Rattle.machine.proofs.Moves.{size_bytes}
use Rattle.ir.specs.declared.BinaryOp.{BinaryOp}

-- ---- F's values have their width

pub value_lt : (F : Function) (x : IrOp) (σ : Values) → PlainOperand F x → value x σ < bound (width x)
unfolding width
value_lt F (IrOp.Var v) σ h = number_lt (σ v.id) _
value_lt F (IrOp.Int v true unsigned) σ h = mod-lt v (bound_pos 4)
value_lt F (IrOp.Int v false unsigned) σ h = mod-lt v (bound_pos 8)
value_lt F (IrOp.Float k) σ h = absurd h
value_lt F (IrOp.Bool true) σ h = omega arith
value_lt F (IrOp.Bool false) σ h = omega arith
value_lt F (IrOp.Address v) σ h = absurd h
value_lt F (IrOp.DataAddress k) σ h = absurd h
value_lt F IrOp.Null σ h = bound_pos 8

-- ---- records

-- the record puts z, n bytes, into RAX, and goes on
abbrev pub Puts : List Instruction → Choice → Instruction → ℕ → ℕ → State → Type 0
Puts c u i n z s = (f : Flags) × (exec c u i s ≡ next (with_flags f (with_reg 0 (merge n (s.regs 0) z) s))) × (f.df ≡ s.flags.df)

second_one : {n : ℕ} (s : State) → Width n → second n (Operand.Imm 1) s ≡ 1
second_one s one = refl
second_one s four = refl
second_one s eight = refl

-- the count is in CL, whatever the width
same_count : {n : ℕ} → Width n → (r : ℕ) → shift_count n (r % 256) ≡ shift_by n (r % bound n)
same_count one r = refl
same_count four r = mod-mod-pow r 3 5 ∙ sym (mod-mod-pow r 27 5)
same_count eight r = mod-mod-pow r 2 6 ∙ sym (mod-mod-pow r 58 6)

-- ADD, SUB, AND, OR, XOR
pub data Simple : BinaryOp → BinOp → Type 0 where
  add : Simple BinaryOp.Add BinOp.Add
  sub : Simple BinaryOp.Sub BinOp.Sub
  and : Simple BinaryOp.BitAnd BinOp.And
  or : Simple BinaryOp.BitOr BinOp.Or
  xor : Simple BinaryOp.BitXor BinOp.Xor

-- SAL, SHR, SAR
pub data Shifts (dest : Bool) : BinaryOp → ShiftOp → Type 0 where
  left : Shifts dest BinaryOp.Shl ShiftOp.Shl
  right : Shifts dest BinaryOp.Shr (right_of dest)

right_is : (dest : Bool) (n x k : ℕ) → shifted (right_of dest) n x k ≡ shift_right dest n x k
right_is true n x k = refl
right_is false n x k = refl

shifted_is : {dest : Bool} {op : BinaryOp} {p : ShiftOp} → Shifts dest op p → (signed : Bool) (n x k y : ℕ) → k ≡ shift_by n y
    → shifted p n x k ≡ binary op signed dest n x y
unfolding binary
shifted_is left signed n x k y e = ap (λ (k : ℕ). x * 2 ^ k % bound n) e
shifted_is {dest} right signed n x k y e = right_is dest n x k ∙ ap (shift_right dest n x) e

module _ (c : List Instruction) (u : Choice) (n : ℕ) (s : State) (w : Width n) where
  abbrev ax : ℕ
  ax = s.regs 0 % bound n

  abbrev cx : ℕ
  cx = s.regs 1 % bound n

  in_bytes : (f : ℕ → State) → f (bytes (element_size n)) ≡ f n
  in_bytes f = ap f (size_bytes w)

  pub simple_sound : {op : BinaryOp} {p : BinOp} → Simple op p → (signed dest : Bool) (b : Operand)
      → Puts c u (Instruction.Binary p (Operand.Reg RAX) b (element_size n)) n (binary op signed dest n ax (second n b s)) s
  unfolding exec binary
  simple_sound add signed dest b = (_, in_bytes (λ n. exec_binary BinOp.Add (Operand.Reg RAX) b n u s), refl)
  simple_sound sub signed dest b = (_, in_bytes (λ n. exec_binary BinOp.Sub (Operand.Reg RAX) b n u s), refl)
  simple_sound and signed dest b = (_, in_bytes (λ n. exec_binary BinOp.And (Operand.Reg RAX) b n u s), refl)
  simple_sound or signed dest b = (_, in_bytes (λ n. exec_binary BinOp.Or (Operand.Reg RAX) b n u s), refl)
  simple_sound xor signed dest b = (_, in_bytes (λ n. exec_binary BinOp.Xor (Operand.Reg RAX) b n u s), refl)

  pub neg_sound : Puts c u (Instruction.Unary UnaryOp.Neg (Operand.Reg RAX) (element_size n)) n (unary IrUnary.Neg n ax) s
  unfolding exec unary
  neg_sound = (
    _,
    in_bytes (λ n. exec_unary UnaryOp.Neg (Operand.Reg RAX) n s)
        ∙ ap (λ (z : ℕ). next (with_flags (minus_flags n 0 ax s.flags) (with_reg 0 (merge n (s.regs 0) (z % bound n)) s))) (zero-add (bound n - ax)),
    refl,
  )

  pub flip_sound : Puts c u (Instruction.Unary UnaryOp.Not (Operand.Reg RAX) (element_size n)) n (unary IrUnary.BitNot n ax) s
  unfolding exec unary
  flip_sound = (s.flags, in_bytes (λ n. exec_unary UnaryOp.Not (Operand.Reg RAX) n s), refl)

  pub not_sound : Puts c u (Instruction.Binary BinOp.Xor (Operand.Reg RAX) (Operand.Imm 1) (element_size n)) n (unary IrUnary.Not n ax) s
  unfolding binary unary
  not_sound =
      let (f, e, d) = simple_sound xor false false (Operand.Imm 1) in
      (f, e ∙ ap (λ (z : ℕ). next (with_flags f (with_reg 0 (merge n (s.regs 0) (bit_xor n ax z)) s))) (second_one s w), d)

  pub imul_sound : (signed dest : Bool)
      → Puts c u (Instruction.ComplexBinary ComplexBinOp.Imul (Operand.Reg RAX) (Operand.Reg RCX) (element_size n)) n (binary BinaryOp.Mul signed dest n ax cx) s
  unfolding exec binary
  imul_sound signed dest = (_, in_bytes (λ n. exec_complex ComplexBinOp.Imul (Operand.Reg RAX) (Operand.Reg RCX) n u s), refl)

  pub shift_sound : {dest : Bool} {op : BinaryOp} {p : ShiftOp} → Shifts dest op p → (signed : Bool)
      → Puts c u (Instruction.Shift p (Operand.Reg RAX) (Operand.Reg RCX) (element_size n)) n (binary op signed dest n ax cx) s
  unfolding exec
  shift_sound {dest} {op} {p} t signed =
      let k : ℕ = shift_count n (s.regs 1 % 256) in
      let f : Flags = shift_flags u.flags p n ax k s.flags in (
        f,
        in_bytes (λ n. exec_shift p (Operand.Reg RAX) (Operand.Reg RCX) n u s)
            ∙ ap (λ (z : ℕ). next (with_flags f (with_reg 0 (merge n (s.regs 0) z) s))) (shifted_is t signed n ax k cx (same_count w (s.regs 1))),
        shift_df u.flags p n ax k s.flags,
      )
