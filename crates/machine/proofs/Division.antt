-- Division: the records of Div and Rem go on with F's quotient and remainder, signed or not, or fault where F does.
use Prim.Native.Nat.{ℕ, suc, ◌+◌, ◌*◌, ◌-◌, ◌/◌, ◌%◌, ◌<◌}
use mathlib.Core.Path.{◌≡◌, refl, sym, ap, ap₂, ◌∙◌, subst}
use mathlib.Core.Bool.{Bool, true, false, cond, not, ◌||◌, false≢true}
use mathlib.Core.List.{List, ◌∷◌, ◌++◌}
use lib.Dec.{eqb, ltb}
use lib.ListN.{length, drop}
use native.Mathlib.Nat.{mod-lt, mod-le, mod-eq_of_lt, div-le_self, zero-mod}
use native.Mathlib.Omega.{arith}
use borrow.Author.Tests.{eqb-true, lt-leb, ne_eqb}
use Rattle.ir.specs.declared.VarId.{VarId}
use Rattle.ir.specs.declared.Operand.{Operand as IrOp}
use Rattle.ir.specs.Types as types
use Rattle.ir.specs.Types.{element_size}
use Rattle.ir.specs.Function.{Function, Line, Tables}
use Rattle.x86.specs.declared.enums.Size.{Size}
use Rattle.x86.specs.declared.enums.Operand.{Operand}
use Rattle.x86.specs.declared.enums.BinOp.{BinOp}
use Rattle.x86.specs.declared.enums.ComplexBinOp.{ComplexBinOp}
use Rattle.x86.specs.declared.enums.ExtendOp.{ExtendOp}
use Rattle.x86.specs.declared.enums.Instruction.{Instruction}
use Rattle.x86.specs.Registers.{gpr, RAX, RCX, RDX}
use Rattle.codegen.specs.Utils.{is_one_byte, is_constant, load_from}
use Rattle.codegen.specs.Arithmetic.{sign_into, dividing}
use Rattle.codegen.specs.Generation.{ends_in_ret}
use Rattle.machine.specs.Word.{bound, sign, differ, magnitude, negated, bit_xor}
use Rattle.machine.specs.Machine as x86
use Rattle.machine.specs.Machine.{Choice, State, exec, exec_binary, exec_complex, sign_extended, divide_by, divide_signed, dividend, quotient_to, undefined_flags, next, with_reg, with_flags, with_status, merge, read, is_dividing}
use Rattle.machine.specs.Steps as steps
use Rattle.machine.specs.Steps.{Values, width, value, put, is_bad, binary}
use Rattle.machine.specs.Simulation.{place, find_division}
use Rattle.machine.proofs.Numbers.{bound_pos, merge_low, xor_self}
use Rattle.machine.proofs.Quotients.{extended_by, extended, too_far, magnitude_lt}
use Rattle.machine.proofs.Run.{saved_of, faulted_not, then, last}
use Rattle.machine.proofs.Accepted.{code, place_suc, records_at}
use Rattle.machine.proofs.Plainness.{Width, one, four, eight, Scalar, PlainOperand}
use Rattle.machine.proofs.Lowered as lowered
use Rattle.machine.proofs.Lowered.{slot, convert, size_in, load, general_load_lem, two}
use Rattle.machine.proofs.Inv.{Inv, read_lt, zeros_above}
use Rattle.machine.proofs.Moves.{R, Ready, Land, Moves, Here, Path-of, size_bytes, exec_binary_lem, behind, enter, along, steady, finish}
use Rattle.machine.proofs.Blocks.{loads, reads}
use Rattle.machine.proofs.Operations.{value_lt}
use Rattle.machine.proofs.Ends.{Ends}
use Rattle.ir.specs.declared.BinaryOp.{BinaryOp}

-- ---- the records Div and Idiv

-- a quotient that fits goes to the low bytes of RAX, and the remainder, but for one byte, to those of RDX
record Divided (n q r : ℕ) (s s' : State) : Type 0 where
  status : s'.status ≡ s.status
  mem : s'.mem ≡ s.mem
  saved : saved_of s' ≡ saved_of s
  pos : s'.pos ≡ s.pos
  ax : s'.regs 0 % bound n ≡ q
  dx : (n ≡ 1 → ⊥) → s'.regs 2 % bound n ≡ r

low_of_two : (a q r : ℕ) → q < 256 → merge 2 a (q + 256 * r) % bound 1 ≡ q
unfolding merge
low_of_two a q r h = omega arith

quotient_fits : (n q r : ℕ) (s : State) → q < bound n → r < bound n → Divided n q r s (quotient_to n q r s)
quotient_fits n q r s h h₂ = go (eqb n 1) refl
  where
    go : (b : Bool) → eqb n 1 ≡ b → Divided n q r s (quotient_to n q r s)
    go true e =
        let z : n ≡ 1 = eqb-true n 1 e in
        let k : q < 256 = subst (λ (n : ℕ). q < bound n) z h in
        rw e
        (record {
          status = refl;
          mem = refl;
          saved = refl;
          pos = refl;
          ax = ap (λ (n : ℕ). merge 2 (s.regs 0) (q + 256 * r) % bound n) z ∙ low_of_two (s.regs 0) q r k;
          dx = λ ne. absurd (ne z);
        })
    go false e =
        rw e
        (record {
          status = refl;
          mem = refl;
          saved = refl;
          pos = refl;
          ax = merge_low n (s.regs 0) q ∙ mod-eq_of_lt h;
          dx = λ ne. merge_low n (s.regs 2) r ∙ mod-eq_of_lt h₂;
        })

-- a dividend that is zero-extended
dividend_is : (n v : ℕ) (s : State) → s.regs 2 % bound n ≡ 0 → s.regs 0 % bound n ≡ v → (eqb n 1 ≡ true → s.regs 0 % bound 2 ≡ v) → dividend n s ≡ v
dividend_is n v s z e f = go (eqb n 1) refl
  where
    go : (b : Bool) → eqb n 1 ≡ b → dividend n s ≡ v
    go true q = rw q (f q)
    go false q = rw (q, z, e) (omega arith)

-- RAX's sign is in RDX
signed_dividend : (n a : ℕ) (s : State) → (n ≡ 1 → ⊥) → s.regs 0 % bound n ≡ a → dividend n (sign_extended n s) ≡ extended_by n a
signed_dividend n a s wide e =
    rw (ne_eqb n 1 wide, e) (ap (λ (v : ℕ). v * bound n + a) (merge_low n (s.regs 2) _ ∙ mod-eq_of_lt (fills (sign n a))))
  where
    fills : (b : Bool) → cond b (bound n - 1) 0 < bound n
    fills true = omega (arith, bound_pos n)
    fills false = bound_pos n

abbrev divider : Bool → ComplexBinOp
divider true = ComplexBinOp.Idiv
divider false = ComplexBinOp.Div

-- the record that divides, and the dividend that it finds, by whether dest is signed
abbrev DivideBy : Bool → ℕ → Instruction
DivideBy signed n = Instruction.ComplexBinary (divider signed) Operand.NoOperand (Operand.Reg RCX) (element_size n)

abbrev Extended : Bool → ℕ → ℕ → State → Type 0
Extended true n a s = dividend n s ≡ extended_by n a
Extended false n a s = dividend n s ≡ a

-- the state behind it, where it goes on with F's quotient and remainder, and where it faults if F does
abbrev Quoted : Choice → Bool → ℕ → ℕ → ℕ → State → State
Quoted u signed n a b s =
    next (with_flags (undefined_flags u.flags s.flags) (quotient_to n (steps.quotient signed n a b) (steps.remainder signed n a b) s))

abbrev Answer : Choice → Bool → ℕ → ℕ → ℕ → State → Bool → State
Answer u signed n a b s bad = cond bad (with_status x86.faulted (next s)) (Quoted u signed n a b s)

module _ (c : List Instruction) (u : Choice) (n a b : ℕ) (s : State) (w : Width n) (db : s.regs 1 % bound n ≡ b) (ha : a < bound n) (hb : b < bound n) where
  at_width : (signed : Bool) → exec c u (DivideBy signed n) s ≡ exec_complex (divider signed) Operand.NoOperand (Operand.Reg RCX) n u s
  unfolding exec
  at_width signed = ap (λ (k : ℕ). exec_complex (divider signed) Operand.NoOperand (Operand.Reg RCX) k u s) (size_bytes w)

  unsigned_is : divide_by u.flags n a b s ≡ Answer u false n a b s (is_bad false n a b)
  unsigned_is = rw (lt-leb (bound n) (a / b) (omega (arith, div-le_self a b)))

  signed_is : divide_signed u.flags n (extended_by n a) b s ≡ Answer u true n a b s (is_bad true n a b)
  signed_is = let (p, q) = extended a w in ap₂ (λ (t : Bool) (m : ℕ). quotes t m) p q ∙ ap (Answer u true n a b s) (too_far a b w ha hb)
    where
      -- IDIV's text, by the dividend's sign and size
      quotes : Bool → ℕ → State
      quotes t m =
          cond (eqb b 0 || ltb (cond (differ t (sign n b)) (bound n / 2) (bound n / 2 - 1)) (m / magnitude n b)) (with_status x86.faulted (next s))
          (next
          (with_flags (undefined_flags u.flags s.flags)
          (quotient_to n (negated (differ t (sign n b)) n (m / magnitude n b)) (negated t n (m % magnitude n b)) s)))

  divides_is : (signed : Bool) → Extended signed n a s → exec c u (DivideBy signed n) s ≡ Answer u signed n a b s (is_bad signed n a b)
  divides_is true e = at_width true ∙ ap₂ (λ (a b : ℕ). divide_signed u.flags n a b s) e db ∙ signed_is
  divides_is false e = at_width false ∙ ap₂ (λ (a b : ℕ). divide_by u.flags n a b s) e db ∙ unsigned_is

-- both results fit n bytes
results_lt : {n : ℕ} (a b : ℕ) → Width n → a < bound n → (signed : Bool) → (steps.quotient signed n a b < bound n) × (steps.remainder signed n a b < bound n)
results_lt {n} a b w h true = (
  at (differ (sign n a) (sign n b)) (omega (arith, div-le_self (magnitude n a) (magnitude n b), magnitude_lt a w h)),
  at (sign n a) (omega (arith, mod-le (magnitude n a) (magnitude n b), magnitude_lt a w h)),
)
  where
    at : (t : Bool) {v : ℕ} → v < bound n → negated t n v < bound n
    at true h = mod-lt _ (bound_pos n)
    at false h = h
results_lt a b w h false = (omega (arith, div-le_self a b), omega (arith, mod-le a b))

-- ---- the instruction

-- a load is no division
load_divides : (q : ℕ) (a : Operand) (z : Size) → ltb q 16 ≡ true → is_dividing (load_from (gpr q) a z) ≡ false
load_divides q a z h = ap is_dividing (general_load_lem q a z h) ∙ go (is_one_byte z) (is_constant a)
  where
    go : (u v : Bool)
        → is_dividing (cond u (cond v (Instruction.Binary BinOp.Mov (Operand.Reg (gpr q)) a Size.U32) (Instruction.Extend ExtendOp.Movzx (gpr q) a Size.U8 Size.U64))
        (Instruction.Binary BinOp.Mov (Operand.Reg (gpr q)) a z)) ≡ false
    go true true = refl
    go true false = refl
    go false v = refl

-- a quotient comes in RAX, a remainder in RDX
pub data Divides : BinaryOp → ℕ → Type 0 where
  quotient : Divides BinaryOp.Div 0
  remainder : Divides BinaryOp.Rem 2

-- a remainder is not one byte wide
abbrev Wide : BinaryOp → ℕ → Type 0
Wide op n = op ≡ BinaryOp.Rem → n ≡ 1 → ⊥

xor_clears : (n a : ℕ) → merge n a (bit_xor n (a % bound n) (a % bound n)) % bound n ≡ 0
xor_clears n a = merge_low n a (bit_xor n (a % bound n) (a % bound n)) ∙ ap (λ (a : ℕ). a % bound n) (xor_self (8 * n) (a % bound n)) ∙ zero-mod (bound n)

result : {op : BinaryOp} {j n : ℕ} {s s' : State} (i r : ℕ) → Divides op j → Wide op n → (left dest : Bool)
    → Divided n (steps.quotient dest n i r) (steps.remainder dest n i r) s s' → s'.regs j % bound n ≡ binary op left dest n i r
unfolding binary
result i r quotient ne left dest f = f.ax
result i r remainder ne left dest f = f.dx (ne refl)

-- Cdq or Cqo, by the width
sign_exec : (c : List Instruction) (u : Choice) {n : ℕ} (s : State) → Width n → (n ≡ 1 → ⊥)
    → exec c u (Instruction.Unary (sign_into (element_size n)) Operand.NoOperand (element_size n)) s ≡ sign_extended n s
unfolding exec
sign_exec c u s one wide = absurd (wide refl)
sign_exec c u s four wide = refl
sign_exec c u s eight wide = refl

module _ (tables : Tables) (F : Function) (h : Ready tables F) (o : ℕ → Choice) (s₀ : State) {m k : ℕ} {σ : Values} (l : Land tables F o s₀ m k σ) where
  abbrev c : List Instruction
  c = code tables F

  -- a load of one byte clears what lies above it
  byte_wide : (x : IrOp) {m' : ℕ} {s : State} {r : List Instruction} → PlainOperand F x → width x ≡ 1
      → Path-of tables F o s₀ m m' s (load F RAX x (element_size 1) ∷ r)
      → (v : ℕ) × (exec c (o m') (load F RAX x (element_size 1)) s ≡ with_reg 0 v (next s)) × (v ≡ value x σ)
  unfolding exec merge width load_from
  byte_wide (IrOp.Var v) {m'} {s} p e t =
      (_, refl, zeros_above (s.regs 0) _ (read_lt 1 (slot F v) s) ∙ ap (λ (n : ℕ). read n (slot F v) s) (sym e) ∙ reads tables F h o s₀ l (IrOp.Var v) p t)
  byte_wide (IrOp.Int v true unsigned) p e t = absurd (omega arith)
  byte_wide (IrOp.Int v false unsigned) p e t = absurd (omega arith)
  byte_wide (IrOp.Float j) p e t = absurd p
  byte_wide (IrOp.Bool true) p e t = (1, refl, refl)
  byte_wide (IrOp.Bool false) p e t = (0, refl, refl)
  byte_wide (IrOp.Address v) p e t = absurd p
  byte_wide (IrOp.DataAddress j) p e t = absurd p
  byte_wide IrOp.Null p e t = absurd (omega arith)

  loads_wide : {n : ℕ} (x : IrOp) {m' : ℕ} {s : State} {r : List Instruction} → Width n → PlainOperand F x → width x ≡ n
      → Path-of tables F o s₀ m m' s (load F RAX x (element_size n) ∷ r)
      → (v : ℕ) × (exec c (o m') (load F RAX x (element_size n)) s ≡ with_reg 0 v (next s)) × (v % bound n ≡ value x σ)
      × (eqb n 1 ≡ true → v % bound 2 ≡ value x σ)
  loads_wide x one p e t =
      let (v, ex, g) = byte_wide x p e t in
      let lt : value x σ < 256 = subst (λ (n : ℕ). value x σ < bound n) e (value_lt F x σ p) in
      (v, ex, ap (λ (a : ℕ). a % bound 1) g ∙ mod-eq_of_lt lt, λ z. ap (λ (a : ℕ). a % bound 2) g ∙ mod-eq_of_lt (omega arith))
  loads_wide x four p e t = let (v, ex, g) = loads tables F h o s₀ l 4 0 refl x (element_size 4) p e refl t in (v, ex, g, λ z. absurd (false≢true z))
  loads_wide x eight p e t = let (v, ex, g) = loads tables F h o s₀ l 8 0 refl x (element_size 8) p e refl t in (v, ex, g, λ z. absurd (false≢true z))

  module _ {op : BinaryOp} {j : ℕ} (a : Divides op j) (d : VarId) (x y : IrOp) (sc : Scalar F d) (px : PlainOperand F x) (py : PlainOperand F y)
      (wx : width x ≡ types.bytes d.ty) (wy : width y ≡ types.bytes d.ty) where
    abbrev n : ℕ
    n = types.bytes d.ty

    x_lt : value x σ < bound n
    x_lt = subst (λ (n : ℕ). value x σ < bound n) wx (value_lt F x σ px)

    y_lt : value y σ < bound n
    y_lt = subst (λ (n : ℕ). value y σ < bound n) wy (value_lt F y σ py)

    abbrev Block : Bool → List Instruction
    Block signed = two F d x y (dividing (not signed) (size_in d)) (gpr j)

    -- the three records before the one that divides
    abbrev Reached : Bool → List Line → Type 0
    Reached signed rest =
        (s : State) × Path-of tables F o s₀ m (suc (suc (suc m))) s (DivideBy signed n ∷ lowered.store F d (gpr j) ∷ behind tables F rest)
        × Extended signed n (value x σ) s × (s.regs 1 % bound n ≡ value y σ)

    reach : (signed : Bool) → (signed ≡ true → n ≡ 1 → ⊥) → (e : Here tables F k (Block signed)) → Reached signed e.rest
    reach false wide e =
        let w : Width n = sc.type.width in
        let t = enter tables F h o s₀ l e in
        let (v, q, vx, whole) = loads_wide x w px wx t in
        let t₁ = then c o s₀ t q (refl, refl, refl, refl, refl) in
        let (u, q₂, vy) = loads tables F h o s₀ l n 1 refl y (size_in d) py wy (size_bytes w) t₁ in
        let t₂ = then c o s₀ t₁ q₂ (refl, refl, refl, refl, refl) in
        let s₂ : State = with_reg 1 u (next (with_reg 0 v (next (R tables F o s₀ m)))) in
        let s₃ : State = exec_binary BinOp.Xor (Operand.Reg RDX) (Operand.Reg RDX) n (o (suc (suc m))) s₂ in
        let t₃ = then c o s₀ t₂ (exec_binary_lem c (o (suc (suc m))) BinOp.Xor (Operand.Reg RDX) (Operand.Reg RDX) s₂ w) (refl, refl, refl, refl, refl) in
        (s₃, t₃, dividend_is n (value x σ) s₃ (xor_clears n (s₂.regs 2)) vx whole, vy)
    reach true wide e =
        let w : Width n = sc.type.width in
        let t = enter tables F h o s₀ l e in
        let (v, q, vx) = loads tables F h o s₀ l n 0 refl x (size_in d) px wx (size_bytes w) t in
        let t₁ = then c o s₀ t q (refl, refl, refl, refl, refl) in
        let (u, q₂, vy) = loads tables F h o s₀ l n 1 refl y (size_in d) py wy (size_bytes w) t₁ in
        let t₂ = then c o s₀ t₁ q₂ (refl, refl, refl, refl, refl) in
        let s₂ : State = with_reg 1 u (next (with_reg 0 v (next (R tables F o s₀ m)))) in
        let s₃ : State = sign_extended n s₂ in
        let t₃ = then c o s₀ t₂ (sign_exec c (o (suc (suc m))) s₂ w (wide refl)) (refl, refl, refl, refl, refl) in
        (s₃, t₃, signed_dividend n (value x σ) s₂ (wide refl) vx, vy)

    -- the record that divides, where F's test says `bad`
    fourth : (signed bad : Bool) (rest : List Line) (z : Reached signed rest) → is_bad signed n (value x σ) (value y σ) ≡ bad
        → exec c (o (suc (suc (suc m)))) (DivideBy signed n) z.0 ≡ Answer (o (suc (suc (suc m)))) signed n (value x σ) (value y σ) z.0 bad
    fourth signed bad rest z b =
        let u : Choice = o (suc (suc (suc m))) in
        divides_is c u n (value x σ) (value y σ) z.0 sc.type.width z.3 x_lt y_lt signed z.2
        ∙ ap (Answer u signed n (value x σ) (value y σ) z.0) b

    abbrev Behind : Bool → List Line → Type 0
    Behind signed rest =
        (s : State) × Path-of tables F o s₀ m (suc (suc (suc (suc m)))) s (lowered.store F d (gpr j) ∷ behind tables F rest)
        × ((left : Bool) → s.regs j % bound n ≡ binary op left signed n (value x σ) (value y σ))

    divided : (signed : Bool) (rest : List Line) → Wide op n → is_bad signed n (value x σ) (value y σ) ≡ false → Reached signed rest → Behind signed rest
    divided signed rest ne b z =
        let q : ℕ = steps.quotient signed n (value x σ) (value y σ) in
        let r : ℕ = steps.remainder signed n (value x σ) (value y σ) in
        let lt = results_lt (value x σ) (value y σ) sc.type.width x_lt signed in
        let f : Divided n q r z.0 (quotient_to n q r z.0) = quotient_fits n q r z.0 lt.0 lt.1 in (
          Quoted (o (suc (suc (suc m)))) signed n (value x σ) (value y σ) z.0,
          then c o s₀ z.1 (fourth signed false rest z b) (f.status, f.mem, f.saved, refl, ap suc f.pos),
          λ left. result (value x σ) (value y σ) a ne left signed f,
        )

    pub goes_on : (signed : Bool) → (signed ≡ true → n ≡ 1 → ⊥) → (e : Here tables F k (Block signed)) → Wide op n
        → is_bad signed n (value x σ) (value y σ) ≡ false → (left : Bool)
        → Moves tables F o s₀ m k (suc k) (put σ d.id n (binary op left signed n (value x σ) (value y σ)))
    unfolding ends_in_ret
    goes_on true wide e ne b left =
        let (s, t, v) = divided true e.rest ne b (reach true wide e) in
        finish tables F h o s₀ d j _ l e sc t (omega arith) (omega arith) refl (v left)
    goes_on false wide e ne b left =
        let (s, t, v) = divided false e.rest ne b (reach false wide e) in
        finish tables F h o s₀ d j _ l e sc t (omega arith) (omega arith) refl (v left)

    -- the record that divides is the fourth of five
    five : (signed : Bool) → length (Block signed) ≡ 5
    five true = refl
    five false = refl

    division_at : (signed : Bool) (e : Here tables F k (Block signed)) → find_division (drop (place tables F k) c) ≡ 3
    unfolding find_division
    division_at signed e =
        ap find_division (records_at tables F k e.at ∙ ap (λ (b : List Instruction). b ++ behind tables F e.rest) e.is) ∙ third signed (behind tables F e.rest)
      where
        third : (signed : Bool) (rest : List Instruction) → find_division (Block signed ++ rest) ≡ 3
        third true rest = rw (load_divides 0 (convert F x) (size_in d) refl, load_divides 1 (convert F y) (size_in d) refl)
        third false rest = rw (load_divides 0 (convert F x) (size_in d) refl, load_divides 1 (convert F y) (size_in d) refl)

    pub faults : (signed : Bool) → (signed ≡ true → n ≡ 1 → ⊥) → (e : Here tables F k (Block signed)) → is_bad signed n (value x σ) (value y σ) ≡ true
        → Ends tables F o s₀ 5 m (record { next = k; vals = σ; status = steps.faulted })
    faults signed wide e b =
        let z = reach signed wide e in
        let t = z.1 in
        let inv : Inv F s₀ z.0 σ = along tables F h o s₀ l t in
        let q : R tables F o s₀ (suc (suc (suc (suc m)))) ≡ with_status x86.faulted (next z.0) = last c o s₀ t ∙ fourth signed true e.rest z b in
        record {
          to = suc (suc (suc (suc m)));
          later = omega arith;
          few = omega arith;
          calm = steady tables F h o s₀ l t;
          agrees =
              record {
                slots = rw q inv.slots;
                stands = rw q (
                  refl,
                  omega (arith, t.count, l.at, division_at signed e),
                  omega (arith, t.count, l.at, place_suc tables F k e.at, ap length e.is, five signed),
                );
              };
          kept = rw q inv.kept;
          over = rw q (faulted_not refl);
        }
