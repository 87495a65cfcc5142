-- Of every accepted list: a record that the manual does not have only computes.
use Prim.Native.Nat.{ℕ, ◌≤◌}
use mathlib.Core.Path.{◌≡◌, refl, sym, ◌∙◌}
use mathlib.Core.Bool.{true, false, false≢true}
use mathlib.Core.List.{List}
use native.Mathlib.Omega.{arith}
use Rattle.ir.specs.declared.Operand.{Operand as IrOp}
use Rattle.ir.specs.declared.Instr.{Instr}
use Rattle.ir.specs.Function.{Function, Tables}
use Rattle.x86.specs.declared.enums.Operand.{Operand}
use Rattle.x86.specs.declared.enums.BinOp.{BinOp}
use Rattle.x86.specs.declared.enums.CtrlOp.{CtrlOp}
use Rattle.x86.specs.declared.enums.Instruction.{Instruction}
use Rattle.codegen.specs.Instructions.{func_epilogue}
use Rattle.codegen.specs.Frame.{frame}
use Rattle.machine.specs.Encodings.{known, is_control}
use Rattle.machine.specs.Machine.{computes}
use Rattle.machine.specs.Frames.{depth}
use Rattle.machine.proofs.Run.{All, Known, all_map}
use Rattle.machine.proofs.Frame.{frame_is}
use Rattle.machine.proofs.Slots.{frame_le}
use Rattle.machine.proofs.Accepted.{Accepted, code}
use Rattle.machine.proofs.Sound.{tame, tame_ctrl, is_call, is_call_op}
use Rattle.machine.proofs.Generated.{Own, moving}
use Rattle.machine.proofs.Prologue.{entering, frame_known}
use Rattle.machine.proofs.Flow.{add_known}
use Rattle.machine.proofs.Known.{epilogue_known}
use Rattle.machine.proofs.Every.{SmallLines, code_all}

abbrev pub Computing : Instruction → Type 0
Computing i = known i ≡ false → computes i ≡ true

-- one that it has
had : (i : Instruction) → known i ≡ true → Computing i
had i h k = absurd (false≢true (sym k ∙ h))

-- a jump to a label is one that it has
control : (op : CtrlOp) (t : Operand) → tame_ctrl op t ≡ true → is_call_op op ≡ false → is_control op t ≡ true
control CtrlOp.Jmp t h u = h
control CtrlOp.Call t h u = absurd (false≢true (sym u))
control CtrlOp.Ret t h u = absurd (false≢true h)
control (CtrlOp.JmpCC cc) t h u = h

tame_computes : (i : Instruction) → tame i ≡ true → is_call i ≡ false → Computing i
unfolding known
tame_computes (Instruction.Binary op d x z) h u = λ k. h
tame_computes (Instruction.ComplexBinary op d x z) h u = λ k. h
tame_computes (Instruction.Convert op r x z) h u = λ k. h
tame_computes (Instruction.Ctrl op t) h u = had (Instruction.Ctrl op t) (control op t h u)
tame_computes (Instruction.Extend op r x y z) h u = λ k. h
tame_computes (Instruction.Lea x r z) h u = λ k. h
tame_computes (Instruction.Label l) h u = λ k. refl
tame_computes (Instruction.Prefix p op z) h u = λ k. refl
tame_computes (Instruction.SetCC op d) h u = λ k. h
tame_computes (Instruction.Shift op d x z) h u = λ k. h
tame_computes (Instruction.Stack op x z) h u = absurd (false≢true h)
tame_computes (Instruction.Unary op d z) h u = λ k. h

-- a Call of a symbol, and RSP moved by a Call's area
own : (i : Instr) (args : List IrOp) → Own (Unit {0}) Computing i args
unfolding known
own (Instr.Copy d x) args = tt
own (Instr.Unary d op x) args = tt
own (Instr.Binary d op x y) args = tt
own (Instr.Cast d x) args = tt
own (Instr.Zero d) args = tt
own (Instr.Call d f count) args =
    record {
      calls = had (Instruction.Ctrl CtrlOp.Call (Operand.Sym f)) refl;
      lowers = λ n q. let z : n ≤ 1024 = q tt in had (moving BinOp.Sub n) (frame_known n (omega arith));
      raises = λ n q. had (moving BinOp.Add n) (add_known n (q tt));
      puts = λ j k q h. refl;
    }
own (Instr.Label l) args = λ k. refl
own (Instr.Jump l) args = tt
own (Instr.JumpIfNot x l) args = tt
own (Instr.Return x) args = tt
own Instr.Comment args = tt

pub code_computing : (tables : Tables) (F : Function) → depth F.vars ≤ 1048576 → SmallLines F → Accepted tables F → All Computing (code tables F)
unfolding known
code_computing tables F small lines a =
    let n : ℕ = frame F.vars in
    code_all tables F a (Unit {0}) (λ q. lines) Computing (λ N i s. tame_computes i s.kept s.uncalled) (all_map Known Computing func_epilogue had epilogue_known)
    (λ k l r d. own l.instr l.args) (record { by_mov = λ j z h e k. refl; by_movzx = λ j h e k. refl })
    (all_map Known Computing (entering n) had (refl, (refl, (frame_known n (omega (arith, frame_is F.vars, frame_le F.vars small)), tt))))
