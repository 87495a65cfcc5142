-- Casts: to no more bytes, a load of the low ones; to more, RAX is widened first, with zeros where the source is unsigned.
use Prim.Native.Nat.{ℕ, suc, ◌+◌, ◌-◌, ◌%◌, ◌<◌, ◌≤◌}
use mathlib.Core.Path.{◌≡◌, refl, sym, ap, ◌∙◌}
use mathlib.Core.Bool.{Bool, true, false, cond, not, ◌&&◌, false≢true}
use mathlib.Core.List.{List, [], ◌∷◌, ◌++◌}
use lib.Dec.{eqb, leb}
use native.Mathlib.Nat.{mod-lt, mod-mod, mod-eq_of_lt, zero-mod}
use native.Mathlib.Omega.{arith}
use borrow.Author.Tests.{leb-true, leb-false}
use Rattle.ir.specs.declared.VarId.{VarId}
use Rattle.ir.specs.declared.Operand.{Operand as IrOp}
use Rattle.ir.specs.declared.Instr.{Instr}
use Rattle.ir.specs.Types as types
use Rattle.ir.specs.Function.{Function, Tables}
use Rattle.x86.specs.declared.enums.Size.{Size}
use Rattle.x86.specs.declared.enums.Operand.{Operand}
use Rattle.x86.specs.declared.enums.ExtendOp.{ExtendOp}
use Rattle.x86.specs.declared.enums.Instruction.{Instruction}
use Rattle.x86.specs.Registers.{RAX}
use Rattle.codegen.specs.Utils.{load_from}
use Rattle.codegen.specs.Instructions.{is_unsigned_short}
use Rattle.codegen.specs.Generation.{ends_in_ret}
use Rattle.machine.specs.Word.{bound, sign, widen}
use Rattle.machine.specs.Machine.{Choice, State, exec, read, merge}
use Rattle.machine.specs.Steps.{Values, width, value, put, is_signed, cast}
use Rattle.machine.proofs.Numbers.{number_mod, bound_mod, bound_pos}
use Rattle.machine.proofs.Run.{then}
use Rattle.machine.proofs.Accepted.{code}
use Rattle.machine.proofs.Plainness.{Width, one, four, eight, Scalar, PlainOperand}
use Rattle.machine.proofs.Lowered as lowered
use Rattle.machine.proofs.Lowered.{slot, convert, size_in, widening, copies, zero_extends, casting, lower, eight_most, short_is, short_width}
use Rattle.machine.proofs.Inv.{load_sound, read_lt, sees, zeros_above}
use Rattle.machine.proofs.Moves.{R, Ready, Land, Moves, Here, size_bytes, enter, finish}
use Rattle.machine.proofs.Blocks.{loads, reads}

low_read : (n' n : ℕ) (a : Operand) (s : State) → n' ≤ n → read n' a s ≡ read n a s % bound n'
low_read n' n Operand.NoOperand s h = sym (zero-mod (bound n'))
low_read n' n (Operand.Reg r) s h = sym (bound_mod n' n _ h)
low_read n' n (Operand.Imm v) s h = sym (bound_mod n' n v h)
low_read n' n (Operand.Sym k) s h = sym (zero-mod (bound n'))
low_read n' n (Operand.Label l) s h = sym (zero-mod (bound n'))
low_read n' n (Operand.MemoryAddress a) s h = sym (number_mod _ n' n h)

-- ---- widths

above_four : {n : ℕ} → Width n → 4 < n → n ≡ 8
above_four one h = omega arith
above_four four h = omega arith
above_four eight h = refl

byte_fits : {n : ℕ} → Width n → bound 1 ≤ bound n
byte_fits one = omega arith
byte_fits four = omega arith
byte_fits eight = omega arith

widen_lt : (a : ℕ) → a < bound 4 → widen 4 8 a < bound 8
widen_lt a h = go (sign 4 a)
  where
    go : (b : Bool) → cond b (a + (bound 8 - bound 4)) a < bound 8
    go true = omega arith
    go false = omega arith

-- four bytes widened to the n bytes of a variable, which are eight
widened : (n a b r : ℕ) → n ≡ 8 → a ≡ b → a < bound 4 → merge 8 r (widen 4 8 a) % bound n ≡ widen 4 n b
unfolding merge
widened n a b r e q h = rw (e, ← q) (mod-mod _ (bound 8) ∙ mod-eq_of_lt (widen_lt a h))

-- .. or with zeros above them, which a four-byte write of a register leaves
cleared : (n a r : ℕ) → n ≡ 8 → a < bound 4 → merge 4 r a % bound n ≡ a
unfolding merge
cleared n a r e h = rw e (ap (λ (v : ℕ). v % bound 8) (mod-eq_of_lt h) ∙ mod-eq_of_lt (omega arith))

-- one byte
filled : (n a r : ℕ) → bound 1 ≤ bound n → a < bound 1 → merge 8 r a % bound n ≡ a
filled n a r h k = ap (λ (v : ℕ). v % bound n) (zeros_above r a k) ∙ mod-eq_of_lt (omega arith)

-- ---- F's step

cast_low : (signed : Bool) (j n a : ℕ) → leb n j ≡ true → cast signed j n a ≡ a % bound n
unfolding cast
cast_low signed j n a g = rw g

-- to more bytes, with zeros where it is an unsigned short
cast_zeros : (signed : Bool) (j n a : ℕ) → leb n j ≡ false → (eqb j 4 && not signed) ≡ true → cast signed j n a ≡ a
unfolding cast
cast_zeros signed j n a g e = rw g (go (eqb j 4) signed e)
  where
    go : (b s : Bool) → (b && not s) ≡ true → cond (b && s) (widen 4 n a) a ≡ a
    go true true e = absurd (false≢true e)
    go true false e = refl
    go false s e = refl

-- .. and with the sign where it has four bytes otherwise
cast_sign : (signed : Bool) (j n a : ℕ) → leb n j ≡ false → (eqb j 4 && not signed) ≡ false → cast signed j n a ≡ cond (eqb j 4) (widen 4 n a) a
unfolding cast
cast_sign signed j n a g e = rw g (go (eqb j 4) signed e)
  where
    go : (b s : Bool) → (b && not s) ≡ false → cond (b && s) (widen 4 n a) a ≡ cond b (widen 4 n a) a
    go true true e = refl
    go true false e = absurd (false≢true (sym e))
    go false s e = refl

-- ---- the records

module _ (tables : Tables) (F : Function) (h : Ready tables F) (o : ℕ → Choice) (s₀ : State) {m k : ℕ} {σ : Values} (l : Land tables F o s₀ m k σ)
    (d : VarId) (sc : Scalar F d) where
  abbrev n : ℕ
  n = types.bytes d.ty

  abbrev c : List Instruction
  c = code tables F

  narrow : (x : IrOp) → Here tables F k (copies F d x) → PlainOperand F x → n ≤ width x → Moves tables F o s₀ m k (suc k) (put σ d.id n (value x σ % bound n))
  unfolding ends_in_ret
  narrow x e p q =
      let s : State = R tables F o s₀ m in
      let t = enter tables F h o s₀ l e in
      let (v, ex, g) = load_sound c (o m) 0 (convert F x) (size_in d) s refl in
      finish tables F h o s₀ d 0 (value x σ % bound n) l e sc (then c o s₀ t ex (refl, refl, refl, refl, refl)) (omega arith) (omega arith) refl
      (ap (λ (n : ℕ). v % bound n) (sym (size_bytes sc.type.width)) ∙ g ∙ ap (λ (n : ℕ). read n (convert F x) s) (size_bytes sc.type.width)
      ∙ low_read n (width x) (convert F x) s q ∙ ap (λ (a : ℕ). a % bound n) (reads tables F h o s₀ l x p t))

  -- what F makes of a number a of j bytes, which are fewer, where it is no unsigned short
  abbrev Widens : ℕ → ℕ → Type 0
  Widens j a = leb n j ≡ false → Moves tables F o s₀ m k (suc k) (put σ d.id n (cond (eqb j 4) (widen 4 n a) a))

  wide_var : (v : VarId) {j : ℕ} → Width j
      → Here tables F k (cond (eqb j 1) (Instruction.Extend ExtendOp.Movzx RAX (slot F v) Size.U8 Size.U64)
      (Instruction.Extend ExtendOp.Movsxd RAX (slot F v) Size.U32 Size.U64) ∷ lowered.store F d RAX ∷ [])
      → (a : ℕ) → read j (slot F v) (R tables F o s₀ m) ≡ a → Widens j a
  unfolding exec ends_in_ret
  wide_var v one e a q g =
      finish tables F h o s₀ d 0 a l e sc (then c o s₀ (enter tables F h o s₀ l e) refl (refl, refl, refl, refl, refl)) (omega arith) (omega arith) refl
      (filled n _ _ (byte_fits sc.type.width) (read_lt 1 (slot F v) (R tables F o s₀ m)) ∙ q)
  wide_var v four e a q g =
      finish tables F h o s₀ d 0 (widen 4 n a) l e sc (then c o s₀ (enter tables F h o s₀ l e) refl (refl, refl, refl, refl, refl)) (omega arith) (omega arith) refl
      (widened n _ a _ (above_four sc.type.width (leb-false n 4 g)) q (read_lt 4 (slot F v) (R tables F o s₀ m)))
  wide_var v eight e a q g = absurd (omega (arith, leb-false n 8 g, eight_most sc.type.width))

  wide : (x : IrOp) → Here tables F k (widening F x ++ lowered.store F d RAX ∷ []) → PlainOperand F x → Widens (width x) (value x σ)
  unfolding exec ends_in_ret width
  wide (IrOp.Var v) e p g = wide_var v p.type.width e (value (IrOp.Var v) σ) (sees F h.small s₀ l.inv (IrOp.Var v) p) g
  wide (IrOp.Int v true unsigned) e p g =
      let t = enter tables F h o s₀ l e in
      let (u, ex, q) = loads tables F h o s₀ l 4 0 refl (IrOp.Int v true unsigned) Size.U32 p refl refl t in
      let t₁ = then c o s₀ t ex (refl, refl, refl, refl, refl) in
      finish tables F h o s₀ d 0 (widen 4 n (v % bound 4)) l e sc (then c o s₀ t₁ refl (refl, refl, refl, refl, refl)) (omega arith) (omega arith) refl
      (widened n (u % bound 4) (v % bound 4) _ (above_four sc.type.width (leb-false n 4 g)) q (mod-lt u (bound_pos 4)))
  wide (IrOp.Int v false unsigned) e p g = absurd (omega (arith, leb-false n 8 g, eight_most sc.type.width))
  wide (IrOp.Float j) e p g = absurd p
  wide (IrOp.Bool b) e p g =
      let t = enter tables F h o s₀ l e in
      let (u, ex, q) = loads tables F h o s₀ l 1 0 refl (IrOp.Bool b) Size.U8 p refl refl t in
      let t₁ = then c o s₀ t ex (refl, refl, refl, refl, refl) in
      finish tables F h o s₀ d 0 (cond b 1 0) l e sc (then c o s₀ t₁ refl (refl, refl, refl, refl, refl)) (omega arith) (omega arith) refl
      (filled n (u % bound 1) _ (byte_fits sc.type.width) (mod-lt u (bound_pos 1)) ∙ q)
  wide (IrOp.Address v) e p g = absurd p
  wide (IrOp.DataAddress j) e p g = absurd p
  wide IrOp.Null e p g = absurd (omega (arith, leb-false n 8 g, eight_most sc.type.width))

  -- an unsigned short
  zeros : (x : IrOp) → Here tables F k (zero_extends F d x) → PlainOperand F x → width x ≡ 4 → 4 < n → Moves tables F o s₀ m k (suc k) (put σ d.id n (value x σ))
  unfolding exec ends_in_ret load_from
  zeros x e p w g =
      let s : State = R tables F o s₀ m in
      let t = enter tables F h o s₀ l e in
      finish tables F h o s₀ d 0 (value x σ) l e sc (then c o s₀ t refl (refl, refl, refl, refl, refl)) (omega arith) (omega arith) refl
      (cleared n _ _ (above_four sc.type.width g) (read_lt 4 (convert F x) s)
      ∙ ap (λ (j : ℕ). read j (convert F x) s) (sym w) ∙ reads tables F h o s₀ l x p t)

  pub casts : (x : IrOp) → Here tables F k (lower F (Instr.Cast d x)) → PlainOperand F x
      → Moves tables F o s₀ m k (suc k) (put σ d.id n (cast (is_signed x) (width x) n (value x σ)))
  casts x e p = go (leb n (width x)) (is_unsigned_short x) refl refl e
    where
      go : (b z : Bool) → leb n (width x) ≡ b → is_unsigned_short x ≡ z → Here tables F k (casting F d x b z)
          → Moves tables F o s₀ m k (suc k) (put σ d.id n (cast (is_signed x) (width x) n (value x σ)))
      go true z q r e = rw (cast_low (is_signed x) (width x) n (value x σ) q) (narrow x e p (leb-true n (width x) q))
      go false true q r e =
          let w : width x ≡ 4 = short_width F x p r in
          rw (cast_zeros (is_signed x) (width x) n (value x σ) q (sym (short_is F x p) ∙ r)) (zeros x e p w (omega (arith, leb-false n (width x) q)))
      go false false q r e = rw (cast_sign (is_signed x) (width x) n (value x σ) q (sym (short_is F x p) ∙ r)) (wide x e p q)
