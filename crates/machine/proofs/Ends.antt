-- How a run ends: through the epilogue's Ret.
use Prim.Native.Nat.{ℕ, suc, ◌+◌, ◌-◌, ◌%◌, ◌<◌, ◌≤◌}
use mathlib.Core.Path.{◌≡◌, refl, sym, ap, ◌∙◌}
use mathlib.Core.Logic.{⊎_elim}
use mathlib.Core.Bool.{Bool, true, false, cond}
use mathlib.Core.List.{List, ◌∷◌, ◌++◌}
use lib.Dec.{lit<}
use lib.ListN.{length}
use native.Mathlib.Nat.{mod-lt, eq-or-lt_of_le, le_of_suc-le-suc}
use native.Mathlib.Omega.{arith}
use borrow.Author.Tests.{lt-ltb}
use Rattle.ir.specs.declared.Operand.{Operand as IrOp}
use Rattle.ir.specs.declared.Instr.{Instr}
use Rattle.ir.specs.Types.{operand_size}
use Rattle.ir.specs.Function.{Function, Tables}
use Rattle.x86.specs.declared.enums.Size.{Size}
use Rattle.x86.specs.declared.enums.Operand.{Operand}
use Rattle.x86.specs.declared.enums.StackOp.{StackOp}
use Rattle.x86.specs.declared.enums.CtrlOp.{CtrlOp}
use Rattle.x86.specs.declared.enums.Instruction.{Instruction}
use Rattle.x86.specs.Registers.{RBP}
use Rattle.codegen.specs.Instructions.{func_epilogue}
use Rattle.machine.specs.Word.{W, bound, load}
use Rattle.machine.specs.Encodings.{known, bytes}
use Rattle.machine.specs.Machine as x86
use Rattle.machine.specs.Machine.{Choice, State, exec, next, with_reg, with_status, merge}
use Rattle.machine.specs.Steps as steps
use Rattle.machine.specs.Steps.{Values, width, value}
use Rattle.machine.specs.Frames.{frame_size}
use Rattle.machine.specs.Simulation.{base, Outside, Returned, Agrees, behind_ret, place}
use Rattle.machine.proofs.Numbers.{number_cong, above_down}
use Rattle.machine.proofs.Tests.{four_cases}
use Rattle.machine.proofs.Slots.{frame_le}
use Rattle.machine.proofs.Run.{returned_not, then, last, fetch, drop_suc, heads, tails, others_of}
use Rattle.machine.proofs.Accepted.{code, place_suc, drop_less}
use Rattle.machine.proofs.Plainness.{PlainOperand}
use Rattle.machine.proofs.Lowered.{lower}
use Rattle.machine.proofs.Inv.{Inv}
use Rattle.machine.proofs.Moves.{R, Ready, Steady, Land, Here, Path-of, size_bytes, enter, along, steady}
use Rattle.machine.proofs.Blocks.{loads}

-- from record m the run ends within `most` records, as F's state t has ended
pub record Ends (tables : Tables) (F : Function) (o : ℕ → Choice) (s₀ : State) (most m : ℕ) (t : steps.State) : Type 0 where
  pub to : ℕ
  pub later : m ≤ to
  pub few : to ≤ most + m
  pub calm : (j : ℕ) → m ≤ j → j < to → Steady tables F o s₀ j
  pub agrees : Agrees tables F (code tables F) s₀ (R tables F o s₀ to) t
  pub kept : (a : ℕ) → Outside F s₀ a → (R tables F o s₀ to).mem a ≡ s₀.mem a
  pub over : (R tables F o s₀ to).status ≡ x86.running → ⊥

above_base : (r : ℕ) → ((r + (W - 8)) % W + 8) % W % W ≡ r % W
above_base r = omega arith

twice : (r : ℕ) → (r % W + 8) % W % W ≡ (r + 8) % W
twice r = omega arith

-- R12 to R15 of the registers that a callee keeps
four_registers : (s s₀ : State) → others_of s ≡ others_of s₀ → (r : ℕ) → 12 ≤ r → r ≤ 15 → s.regs r ≡ s₀.regs r
four_registers s s₀ e r h k =
    let t = tails e in
    four_cases (λ r. s.regs r ≡ s₀.regs r) 12 r h k (heads t) (heads (tails t)) (heads (tails (tails t))) (heads (tails (tails (tails t))))

own_bytes : (F : Function) (x : IrOp) → PlainOperand F x → bytes (operand_size x) ≡ width x
unfolding operand_size width
own_bytes F (IrOp.Var v) h = ap bytes h.type.elf ∙ size_bytes h.type.width
own_bytes F (IrOp.Int v true unsigned) h = refl
own_bytes F (IrOp.Int v false unsigned) h = refl
own_bytes F (IrOp.Float k) h = absurd h
own_bytes F (IrOp.Bool b) h = refl
own_bytes F (IrOp.Address v) h = absurd h
own_bytes F (IrOp.DataAddress k) h = absurd h
own_bytes F IrOp.Null h = refl

module _ (tables : Tables) (F : Function) (h : Ready tables F) (o : ℕ → Choice) (s₀ : State) where
  abbrev c : List Instruction
  c = code tables F

  -- the return address lies outside the frame
  back_outside : (i : ℕ) → i < 8 → Outside F s₀ ((s₀.regs 4 % W + i) % W)
  back_outside i g =
      let e : (s₀.regs 4 % W + i) % W ≡ (base s₀ + (8 + i)) % W = omega arith in
      let f : frame_size F.vars ≤ 1048591 = frame_le F.vars h.small in
      (mod-lt _ (lit< tt), rw (e, above_down (base s₀) (W - frame_size F.vars) (8 + i) (omega arith) (omega arith)) (omega arith))

  pub leave : {m k m' n v : ℕ} {σ : Values} {s : State} {r : List Instruction} (most p : ℕ) → Land tables F o s₀ m k σ
      → Path-of tables F o s₀ m m' s (func_epilogue ++ r) → 3 + m' ≤ most + m → s.regs 0 % bound n ≡ v → 3 + s.pos ≡ behind_ret tables F c p
      → Ends tables F o s₀ most m (record { next = p; vals = σ; status = steps.returned n v })
  unfolding exec merge known
  leave {m} {k} {m'} {n} {v} {σ} {s} {r} most p l t few e b =
      record {
        to = suc (suc (suc m'));
        later = omega (arith, t.later);
        few = omega arith;
        calm =
            λ j i q.
            ⊎_elim (λ (z : j ≡ suc (suc m')). rw (z, e₂) (t.going, inv.kept)) (λ (z : j < suc (suc m')). steady tables F h o s₀ l t₁ j i z)
            (eq-or-lt_of_le (le_of_suc-le-suc q));
        agrees = record { slots = rw e₃ inv.slots; stands = rw e₃ (back, sym three ∙ b) };
        kept = rw e₃ inv.kept;
        over = rw e₃ (returned_not refl);
      }
    where
      inv : Inv F s₀ s σ
      inv = along tables F h o s₀ l t

      three : 3 + s.pos ≡ suc (suc (suc s.pos))
      three = omega arith

      at_base : s.regs 5 % W % W % W ≡ base s₀
      at_base = omega (arith, inv.bp)

      address_back : load s.mem ((s.regs 5 % W % W % W + 8) % W % W) 8 ≡ load s₀.mem (s₀.regs 4 % W) 8
      address_back =
          ap (λ (b : ℕ). load s.mem ((b + 8) % W % W) 8) at_base ∙ ap (λ (b : ℕ). load s.mem b 8) (above_base (s₀.regs 4))
          ∙ number_cong (λ i. s.mem ((s₀.regs 4 % W + i) % W)) (λ i. s₀.mem ((s₀.regs 4 % W + i) % W)) 8 (λ i g. inv.kept _ (back_outside i g))

      s₁ : State
      s₁ = next (with_reg 4 (s.regs 5 % W % W) s)

      t₁ : Path-of tables F o s₀ m (suc m') s₁ (Instruction.Stack StackOp.Pop (Operand.Reg RBP) Size.NoSize ∷ Instruction.Ctrl CtrlOp.Ret Operand.NoOperand ∷ r)
      t₁ = then c o s₀ t refl (refl, refl, refl, refl, refl)

      s₂ : State
      s₂ = next (with_reg 5 (load s.mem (s.regs 5 % W % W % W) 8 % W) (with_reg 4 ((s.regs 5 % W % W % W + 8) % W) s₁))

      e₂ : R tables F o s₀ (suc (suc m')) ≡ s₂
      e₂ = last c o s₀ t₁

      s₃ : State
      s₃ = with_status (x86.returned (load s.mem ((s.regs 5 % W % W % W + 8) % W % W) 8)) (next (with_reg 4 (((s.regs 5 % W % W % W + 8) % W % W + 8) % W) s₂))

      e₃ : R tables F o s₀ (suc (suc (suc m'))) ≡ s₃
      e₃ = fetch c o s₀ (suc (suc m')) e₂ t.going (drop_suc (suc s.pos) c t₁.left) refl

      back : Returned s₀ s₃ n v
      back =
          record {
            to = ap x86.returned address_back;
            value = e;
            bp = ap (λ (b : ℕ). load s.mem b 8 % W % W) at_base ∙ ap (λ (b : ℕ). b % W % W) inv.saved ∙ omega arith;
            sp = ap (λ (b : ℕ). ((b + 8) % W % W + 8) % W % W) at_base ∙ ap (λ (b : ℕ). (b + 8) % W % W) (above_base (s₀.regs 4)) ∙ twice (s₀.regs 4);
            bx = heads inv.others;
            others = four_registers s₃ s₀ inv.others;
          }

  pub give : {m k : ℕ} {σ : Values} (x : IrOp) → Land tables F o s₀ m k σ → Here tables F k (lower F (Instr.Return x)) → PlainOperand F x
      → Ends tables F o s₀ 5 m (record { next = k; vals = σ; status = steps.returned (width x) (value x σ) })
  give {m} {k} x l e p =
      let t = enter tables F h o s₀ l e in
      let (v, q, vx) = loads tables F h o s₀ l (width x) 0 refl x (operand_size x) p refl (own_bytes F x p) t in
      leave 5 k l (then c o s₀ t q (refl, refl, refl, refl, refl)) (omega arith) vx
      (omega (arith, l.at, place_suc tables F k e.at, ap length e.is)
      ∙ sym (ap (λ (b : Bool). cond b (place tables F (suc k)) (length c)) (lt-ltb k (length F.body) (drop_less k F.body e.at))))
