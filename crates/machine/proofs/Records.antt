-- One record, any: where it leads, whether RSP and RBP stay, and that the direction flag does.
use Prim.Native.Nat.{ℕ, suc, ◌+◌, ◌-◌, ◌/◌, ◌%◌}
use mathlib.Core.Path.{◌≡◌, refl}
use mathlib.Core.Logic.{◌⊎◌, inl, inr}
use mathlib.Core.Bool.{Bool, true, false, cond, not, ◌&&◌, ◌||◌, false≢true}
use mathlib.Core.List.{List}
use lib.Dec.{eqb, leb, ltb}
use Rattle.x86.specs.declared.register.Register.{Register}
use Rattle.x86.specs.declared.enums.Operand.{Operand}
use Rattle.x86.specs.declared.enums.BinOp.{BinOp}
use Rattle.x86.specs.declared.enums.ComplexBinOp.{ComplexBinOp}
use Rattle.x86.specs.declared.enums.ShiftOp.{ShiftOp}
use Rattle.x86.specs.declared.enums.UnaryOp.{UnaryOp}
use Rattle.x86.specs.declared.enums.StackOp.{StackOp}
use Rattle.x86.specs.declared.enums.CtrlOp.{CtrlOp}
use Rattle.x86.specs.declared.enums.ExtendOp.{ExtendOp}
use Rattle.x86.specs.declared.enums.ConvOp.{ConvOp}
use Rattle.x86.specs.declared.enums.Instruction.{Instruction}
use Rattle.x86.specs.Registers.{number}
use Rattle.machine.specs.Word.{bound, sign, update, magnitude, differ}
use Rattle.machine.specs.Encodings.{known, bytes, is_general, is_memory, is_binary, is_control, is_label_operand}
use Rattle.machine.specs.Machine.{Flags, Choice, State, faulted, next, with_reg, with_flags, with_status, write, with_low, with_xmm, quotient_to, dividend, divide_by, divide_signed, undefined_flags, shifted, shift_count, shift_flags, last_out, shift_over, result_flags, read, holds, jump, exec_binary, exec_complex, exec_unary, exec_convert, exec_extend, exec_lea, exec_stack, exec_ctrl, exec, find, is_free, is_free_operand}
use Rattle.machine.proofs.Tests.{both}
use Rattle.machine.proofs.Sound.{tame, tame_ctrl, is_jump_op, is_jump}

-- the run goes on behind the record, or at a label
-- `jump`: whether it can be at a label
abbrev pub Leads : List Instruction → Bool → State → State → Type 0
Leads c jump s s' = (s'.pos ≡ suc s.pos) ⊎ ((l : ℕ) × (s'.pos ≡ find l c) × (jump ≡ true))

-- `keep`: whether RSP and RBP stay
pub record Runs (c : List Instruction) (jump keep : Bool) (s s' : State) : Type 0 where
  pub sp : keep ≡ true → s'.regs 4 ≡ s.regs 4
  pub bp : keep ≡ true → s'.regs 5 ≡ s.regs 5
  pub to : Leads c jump s s'
  pub df : s'.flags.df ≡ s.flags.df

-- ---- registers

-- a free register is neither of the two
update_sp : (f : ℕ → ℕ) (r v : ℕ) → is_free r ≡ true → update f r v 4 ≡ f 4
update_sp f r v h = go (eqb 4 r) (eqb 5 r) h
  where
    go : (a b : Bool) → not (a || b) ≡ true → cond a v (f 4) ≡ f 4
    go true b e = absurd (false≢true e)
    go false b e = refl

update_bp : (f : ℕ → ℕ) (r v : ℕ) → is_free r ≡ true → update f r v 5 ≡ f 5
update_bp f r v h = go (eqb 4 r) (eqb 5 r) h
  where
    go : (a b : Bool) → not (a || b) ≡ true → cond b v (f 5) ≡ f 5
    go true b e = absurd (false≢true e)
    go false true e = absurd (false≢true e)
    go false false e = refl

-- the flags of a shift keep DF
pub shift_df : (u : Flags) (o : ShiftOp) (n a k : ℕ) (f : Flags) → (shift_flags u o n a k f).df ≡ f.df
shift_df u o n a k f = go (eqb k 0)
  where
    go : (b : Bool) → (cond b f (result_flags n (shifted o n a k) (last_out o u n a k) (cond (eqb k 1) (shift_over o n a) u.ov) f)).df ≡ f.df
    go true = refl
    go false = refl

module _ (c : List Instruction) (j : Bool) where
  -- a record that goes on and writes a register, or none that matters
  into : (r v : ℕ) (f : Flags) (s : State) → f.df ≡ s.flags.df → Runs c j (is_free r) s (next (with_flags f (with_reg r v s)))
  into r v f s e = record { sp = update_sp s.regs r v; bp = update_bp s.regs r v; to = inl refl; df = e }

  still : (b : Bool) {s s' : State} → s'.regs 4 ≡ s.regs 4 → s'.regs 5 ≡ s.regs 5 → s'.pos ≡ suc s.pos → s'.flags.df ≡ s.flags.df → Runs c j b s s'
  still b p q e f = record { sp = λ h. p; bp = λ h. q; to = inl e; df = f }

  writes : (n : ℕ) (d : Operand) (v : ℕ) (f : Flags) (s : State) → f.df ≡ s.flags.df → Runs c j (is_free_operand d) s (next (with_flags f (write n d v s)))
  writes n Operand.NoOperand v f s e = still true refl refl refl e
  writes n (Operand.Reg r) v f s e = into (number r) _ f s e
  writes n (Operand.Imm k) v f s e = still true refl refl refl e
  writes n (Operand.Sym k) v f s e = still true refl refl refl e
  writes n (Operand.Label l) v f s e = still true refl refl refl e
  writes n (Operand.MemoryAddress a) v f s e = still true refl refl refl e

  moves : (n : ℕ) (d : Operand) (v : ℕ) (s : State) → Runs c j (is_free_operand d) s (next (write n d v s))
  moves n Operand.NoOperand v s = still true refl refl refl refl
  moves n (Operand.Reg r) v s = into (number r) _ s.flags s refl
  moves n (Operand.Imm k) v s = still true refl refl refl refl
  moves n (Operand.Sym k) v s = still true refl refl refl refl
  moves n (Operand.Label l) v s = still true refl refl refl refl
  moves n (Operand.MemoryAddress a) v s = still true refl refl refl refl

  lows : (n : ℕ) (d : Operand) (v : ℕ) (s : State) → Runs c j (is_free_operand d) s (next (with_low n d v s))
  lows n Operand.NoOperand v s = still true refl refl refl refl
  lows n (Operand.Reg r) v s = into (number r) _ s.flags s refl
  lows n (Operand.Imm k) v s = still true refl refl refl refl
  lows n (Operand.Sym k) v s = still true refl refl refl refl
  lows n (Operand.Label l) v s = still true refl refl refl refl
  lows n (Operand.MemoryAddress a) v s = still true refl refl refl refl

  floats : (d : Operand) (v : ℕ) (s : State) → Runs c j (is_free_operand d) s (next (with_xmm d v s))
  floats Operand.NoOperand v s = still true refl refl refl refl
  floats (Operand.Reg r) v s = into (number r) _ s.flags s refl
  floats (Operand.Imm k) v s = still true refl refl refl refl
  floats (Operand.Sym k) v s = still true refl refl refl refl
  floats (Operand.Label l) v s = still true refl refl refl refl
  floats (Operand.MemoryAddress a) v s = still true refl refl refl refl

  -- ---- by kind

  binaries : (op : BinOp) (d x : Operand) (n : ℕ) (u : Choice) (s : State) → is_binary op d x n ≡ true → Runs c j (is_free_operand d) s (exec_binary op d x n u s)
  binaries BinOp.Mov d x n u s h = moves n d _ s
  binaries BinOp.Xchg d x n u s h = absurd (false≢true h)
  binaries BinOp.Add d x n u s h = writes n d _ _ s refl
  binaries BinOp.Sub d x n u s h = writes n d _ _ s refl
  binaries BinOp.Adc d x n u s h = absurd (false≢true h)
  binaries BinOp.Sbb d x n u s h = absurd (false≢true h)
  binaries BinOp.And d x n u s h = writes n d _ _ s refl
  binaries BinOp.Or d x n u s h = writes n d _ _ s refl
  binaries BinOp.Xor d x n u s h = writes n d _ _ s refl
  binaries BinOp.Cmp d x n u s h = still (is_free_operand d) refl refl refl refl
  binaries BinOp.Test d x n u s h = absurd (false≢true h)
  binaries BinOp.LoadF d x n u s h = floats d _ s
  binaries BinOp.StoreF d x n u s h = moves n d _ s
  binaries BinOp.AddF d x n u s h = lows n d _ s
  binaries BinOp.SubF d x n u s h = lows n d _ s
  binaries BinOp.MulF d x n u s h = lows n d _ s
  binaries BinOp.DivF d x n u s h = lows n d _ s
  binaries BinOp.ComiF d x n u s h = absurd (false≢true h)
  binaries BinOp.UcomiF d x n u s h = still (is_free_operand d) refl refl refl refl

  -- a division writes RAX and RDX, or faults
  quotients : (b : Bool) (n q r : ℕ) (f : Flags) (s : State) → f.df ≡ s.flags.df → Runs c j b s (next (with_flags f (quotient_to n q r s)))
  quotients b n q r f s e = go (eqb n 1) refl
    where
      go : (t : Bool) → eqb n 1 ≡ t → Runs c j b s (next (with_flags f (quotient_to n q r s)))
      go true z = rw z (still b refl refl refl e)
      go false z = rw z (still b refl refl refl e)

  or_faults : (t b : Bool) {s s' : State} → Runs c j b s s' → Runs c j b s (cond t (with_status faulted (next s)) s')
  or_faults true b k = still b refl refl refl refl
  or_faults false b k = k

  divisions : (b : Bool) (u : Flags) (n a d : ℕ) (s : State) → Runs c j b s (divide_by u n a d s)
  divisions b u n a d s = or_faults (eqb d 0 || leb (bound n) (a / d)) b (quotients b n (a / d) (a % d) (undefined_flags u s.flags) s refl)

  signed_divisions : (b : Bool) (u : Flags) (n a d : ℕ) (s : State) → Runs c j b s (divide_signed u n a d s)
  signed_divisions b u n a d s =
      let q : ℕ = magnitude (n + n) a / magnitude n d in
      let down : Bool = differ (sign (n + n) a) (sign n d) in
      or_faults (eqb d 0 || ltb (cond down (bound n / 2) (bound n / 2 - 1)) q) b (quotients b n _ _ (undefined_flags u s.flags) s refl)

  complexes : (op : ComplexBinOp) (d x : Operand) (n : ℕ) (u : Choice) (s : State) → Runs c j (is_free_operand d) s (exec_complex op d x n u s)
  complexes ComplexBinOp.Div d x n u s = divisions (is_free_operand d) u.flags n (dividend n s) (read n x s) s
  complexes ComplexBinOp.Imul d x n u s = writes n d _ _ s refl
  complexes ComplexBinOp.Idiv d x n u s = signed_divisions (is_free_operand d) u.flags n (dividend n s) (read n x s) s

  unaries : (op : UnaryOp) (d : Operand) (n : ℕ) (s : State) → Runs c j (is_free_operand d) s (exec_unary op d n s)
  unaries UnaryOp.Neg d n s = writes n d _ _ s refl
  unaries UnaryOp.Not d n s = moves n d _ s
  unaries UnaryOp.Cdq d n s = still (is_free_operand d) refl refl refl refl
  unaries UnaryOp.Cqo d n s = still (is_free_operand d) refl refl refl refl

  conversions : (op : ConvOp) (r : Register) (n : ℕ) (u : Choice) (s : State) → Runs c j (is_free (number r)) s (exec_convert op r n u s)
  conversions ConvOp.Cvtsd2ss r n u s = lows 4 (Operand.Reg r) _ s
  conversions ConvOp.Cvtsi2sd r n u s = lows 8 (Operand.Reg r) _ s
  conversions ConvOp.Cvtsi2ss r n u s = lows 4 (Operand.Reg r) _ s
  conversions ConvOp.Cvtss2sd r n u s = lows 8 (Operand.Reg r) _ s
  conversions ConvOp.Cvttsd2si r n u s = moves n (Operand.Reg r) _ s
  conversions ConvOp.Cvttss2si r n u s = moves n (Operand.Reg r) _ s

  extensions : (op : ExtendOp) (r : Register) (x : Operand) (z n : ℕ) (s : State) → Runs c j (is_free (number r)) s (exec_extend op r x z n s)
  extensions ExtendOp.Movzx r x z n s = moves n (Operand.Reg r) _ s
  extensions ExtendOp.Movsxd r x z n s = moves n (Operand.Reg r) _ s

  leas : (r : Register) (x : Operand) (n : ℕ) (s : State) → is_memory x ≡ true → Runs c j (is_free (number r)) s (exec_lea r x n s)
  leas r Operand.NoOperand n s h = absurd (false≢true h)
  leas r (Operand.Reg q) n s h = absurd (false≢true h)
  leas r (Operand.Imm v) n s h = absurd (false≢true h)
  leas r (Operand.Sym k) n s h = absurd (false≢true h)
  leas r (Operand.Label l) n s h = absurd (false≢true h)
  leas r (Operand.MemoryAddress a) n s h = moves n (Operand.Reg r) _ s

  jumps : (b : Bool) (t : Operand) (s : State) → j ≡ true → is_label_operand t ≡ true → Runs c j b s (jump c t s)
  jumps b Operand.NoOperand s q h = absurd (false≢true h)
  jumps b (Operand.Reg r) s q h = absurd (false≢true h)
  jumps b (Operand.Imm v) s q h = absurd (false≢true h)
  jumps b (Operand.Sym k) s q h = absurd (false≢true h)
  jumps b (Operand.Label l) s q h = record { sp = λ e. refl; bp = λ e. refl; to = inr (l, refl, q); df = refl }
  jumps b (Operand.MemoryAddress a) s q h = absurd (false≢true h)

  branches : (z b : Bool) (t : Operand) (s : State) → j ≡ true → is_label_operand t ≡ true → Runs c j b s (cond z (jump c t s) (next s))
  branches true b t s q h = jumps b t s q h
  branches false b t s q h = still b refl refl refl refl

  -- one that does not keep them
  freely : {s s' : State} → s'.pos ≡ suc s.pos → s'.flags.df ≡ s.flags.df → Runs c j false s s'
  freely e f = record { sp = λ h. absurd (false≢true h); bp = λ h. absurd (false≢true h); to = inl e; df = f }

  controls : (op : CtrlOp) (t : Operand) (u : Choice) (s : State) → (is_jump_op op ≡ true → j ≡ true) → is_control op t ≡ true → Runs c j (tame_ctrl op t) s (exec_ctrl c op t u s)
  controls CtrlOp.Jmp t u s q h = jumps (is_label_operand t) t s (q refl) h
  controls CtrlOp.Call t u s q h = still true refl refl refl refl
  controls CtrlOp.Ret t u s q h = freely refl refl
  controls (CtrlOp.JmpCC k) t u s q h = branches (holds k s.flags) (is_label_operand t) t s (q refl) h

  stacks : (op : StackOp) (x : Operand) (s : State) → Runs c j false s (exec_stack op x s)
  stacks StackOp.Push x s = freely refl refl
  stacks StackOp.Pop Operand.NoOperand s = freely refl refl
  stacks StackOp.Pop (Operand.Reg r) s = freely refl refl
  stacks StackOp.Pop (Operand.Imm v) s = freely refl refl
  stacks StackOp.Pop (Operand.Sym k) s = freely refl refl
  stacks StackOp.Pop (Operand.Label l) s = freely refl refl
  stacks StackOp.Pop (Operand.MemoryAddress a) s = freely refl refl

  -- ---- all that the manual has

  pub runs : (u : Choice) (i : Instruction) (s : State) → (is_jump i ≡ true → j ≡ true) → known i ≡ true → Runs c j (tame i) s (exec c u i s)
  unfolding exec known
  runs u (Instruction.Binary op d x z) s q h = binaries op d x (bytes z) u s h
  runs u (Instruction.ComplexBinary op d x z) s q h = complexes op d x (bytes z) u s
  runs u (Instruction.Convert op r x z) s q h = conversions op r (bytes z) u s
  runs u (Instruction.Ctrl op t) s q h = controls op t u s q h
  runs u (Instruction.Extend op r x y z) s q h = extensions op r x (bytes y) (bytes z) s
  runs u (Instruction.Lea x r z) s q h = leas r x (bytes z) s (both (is_memory x) (eqb (bytes z) 8) (both (is_general r) (is_memory x && eqb (bytes z) 8) h).1).0
  runs u (Instruction.Label l) s q h = still true refl refl refl refl
  runs u (Instruction.Prefix p op z) s q h = still true refl refl refl refl
  runs u (Instruction.SetCC op d) s q h = moves 1 d _ s
  runs u (Instruction.Shift op d x z) s q h = writes (bytes z) d _ _ s (shift_df u.flags op (bytes z) (read (bytes z) d s)
      (shift_count (bytes z) (read 1 x s)) s.flags)
  runs u (Instruction.Stack op x z) s q h = stacks op x s
  runs u (Instruction.Unary op d z) s q h = unaries op d (bytes z) s
