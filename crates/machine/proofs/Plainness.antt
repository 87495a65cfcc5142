-- What the plain test's yes says of a function: of its types, operands and instructions, as facts that proofs use.
use Prim.Native.Nat.{ℕ, zero, suc, ◌+◌, ◌%◌, ◌^◌, ◌<◌, ◌≤◌}
use mathlib.Core.Path.{◌≡◌, refl, sym, ap, ◌∙◌, subst}
use mathlib.Core.Bool.{Bool, true, false, cond, not, ◌&&◌, ◌||◌, false≢true}
use mathlib.Core.List.{List, [], ◌∷◌}
use lib.Dec.{ltb, leb, eqb}
use lib.ListN.{length, get_or, drop}
use native.Mathlib.Omega.{arith}
use borrow.Author.Tests.{ltb-true, leb-true, eqb-true, eqb-false}
use Rattle.cells.specs.Refusals.{no_width}
use Rattle.ir.specs.declared.«Type».{«Type» as IrType}
use Rattle.ir.specs.declared.VarId.{VarId}
use Rattle.ir.specs.declared.Operand.{Operand as IrOp}
use Rattle.ir.specs.declared.Instr.{Instr}
use Rattle.ir.specs.Types as types
use Rattle.ir.specs.Types.{ok, no_array, is_scalar, element_width, bytes, type_size, is_float, is_unsigned, element_size, elf_size}
use Rattle.ir.specs.Function.{Function, Line}
use Rattle.machine.specs.Word.{W}
use Rattle.machine.specs.Steps as steps
use Rattle.machine.specs.Steps.{width, is_signed_type, is_label, is_logical}
use Rattle.machine.specs.Plain.{every, is_plain_code, is_plain_return, same_type, no_type, is_entry, is_scalar_var, is_plain_head, is_short, is_small, is_plain_operand, long_constant, is_bool_type, is_bool, is_one_byte, is_plain_binary, is_plain_cast, label_count, is_plain_instr, is_plain_line, is_plain_at, are_distinct}
use Rattle.machine.specs.Frames.{size_of}
use Rattle.machine.proofs.Tests.{both, not-true, four_cases}
use Rattle.machine.proofs.Run.{cons_not_nil}
use Rattle.ir.specs.declared.BinaryOp.{BinaryOp}

-- ---- types

pub data Width : ℕ → Type 0 where
  one : Width 1
  four : Width 4
  eight : Width 8

-- the codes of a plain function
plain_code : (P : ℕ → Type 0) (k : ℕ) → is_plain_code k ≡ true → P 1 → P 2 → P 3 → P 4 → P 7 → P 8 → P 9 → P 10 → P k
plain_code P k e p₁ p₂ p₃ p₄ p₇ p₈ p₉ p₁₀ =
    let h = both (leb 1 k) (leb k 4 || (leb 7 k && leb k 10)) e in
    go (leb k 4) refl (leb-true 1 k h.0) h.1
  where
    go : (b : Bool) → leb k 4 ≡ b → 1 ≤ k → (b || (leb 7 k && leb k 10)) ≡ true → P k
    go true q h t = four_cases P 1 k h (leb-true k 4 q) p₁ p₂ p₃ p₄
    go false q h t =
        let u = both (leb 7 k) (leb k 10) t in
        four_cases P 7 k (leb-true 7 k u.0) (leb-true k 10 u.1) p₇ p₈ p₉ p₁₀

-- what the lowering asks of a type that is no array
pub record ScalarType (ty : IrType) : Type 0 where
  pub scalar : is_scalar ty ≡ true
  pub width : Width (bytes ty)
  pub sized : type_size ty ≡ ok (bytes ty)
  pub whole : is_float ty ≡ false
  pub elf : elf_size ty ≡ element_size (bytes ty)
  pub sign : is_unsigned ty ≡ not (is_signed_type ty)
  pub short : (is_scalar ty && eqb ty.code 4) ≡ (eqb (bytes ty) 4 && not (is_signed_type ty))
  pub wide : is_signed_type ty ≡ true → bytes ty ≡ 1 → ⊥

abbrev scalar : ℕ → IrType
scalar k = record { code = k; count = no_array }

pub scalar_type : (ty : IrType) → is_scalar ty ≡ true → is_plain_code ty.code ≡ true → ScalarType ty
unfolding bytes type_size element_width is_float elf_size is_unsigned
scalar_type ty e f =
    let z : scalar ty.code ≡ ty = λ i. record { code = ty.code; count = sym (eqb-true ty.count no_array e) i } in
    subst ScalarType z
    (plain_code (λ k. ScalarType (scalar k)) ty.code f
    (record { scalar = refl; width = eight; sized = refl; whole = refl; elf = refl; sign = refl; short = refl; wide = λ h k. omega arith })
    (record { scalar = refl; width = eight; sized = refl; whole = refl; elf = refl; sign = refl; short = refl; wide = λ h. absurd (false≢true h) })
    (record { scalar = refl; width = four; sized = refl; whole = refl; elf = refl; sign = refl; short = refl; wide = λ h k. omega arith })
    (record { scalar = refl; width = four; sized = refl; whole = refl; elf = refl; sign = refl; short = refl; wide = λ h. absurd (false≢true h) })
    (record { scalar = refl; width = one; sized = refl; whole = refl; elf = refl; sign = refl; short = refl; wide = λ h. absurd (false≢true h) })
    (record { scalar = refl; width = one; sized = refl; whole = refl; elf = refl; sign = refl; short = refl; wide = λ h. absurd (false≢true h) })
    (record { scalar = refl; width = one; sized = refl; whole = refl; elf = refl; sign = refl; short = refl; wide = λ h. absurd (false≢true h) })
    (record { scalar = refl; width = eight; sized = refl; whole = refl; elf = refl; sign = refl; short = refl; wide = λ h. absurd (false≢true h) }))

-- every plain type has a width
plain_size : (ty : IrType) → is_plain_code ty.code ≡ true → type_size ty ≡ ok (bytes ty)
unfolding type_size element_width
plain_size ty f =
    ap (λ (b : Bool). cond b (types.refused no_width) (ok (bytes ty)))
    (plain_code (λ k. eqb (element_width k) 0 ≡ false) ty.code f refl refl refl refl refl refl refl refl)

same_type_lem : (a b : IrType) → same_type a b ≡ true → a ≡ b
same_type_lem a b e =
    let h = both (eqb a.code b.code) (eqb a.count b.count) e in
    λ i. record { code = eqb-true a.code b.code h.0 i; count = eqb-true a.count b.count h.1 i }

-- ---- variables and operands

-- a variable with its entry's type
pub record Entry (F : Function) (v : VarId) : Type 0 where
  pub there : v.id < length F.vars
  pub entry : size_of F.vars v.id ≡ bytes v.ty
  pub sized : type_size v.ty ≡ ok (bytes v.ty)

-- .. that is no array
pub record Scalar (F : Function) (v : VarId) : Type 0 where
  pub at : Entry F v
  pub type : ScalarType v.ty

-- the pattern of a number in -2^31 to 2^32 - 1
abbrev pub FourBytes : ℕ → Type 0
FourBytes v = (v + 2 ^ 31) % W < 2 ^ 32 + 2 ^ 31

abbrev pub PlainOperand : Function → IrOp → Type 0
PlainOperand F (IrOp.Var v) = Scalar F v
PlainOperand F (IrOp.Int v true unsigned) = FourBytes v
PlainOperand F (IrOp.Int v false unsigned) = Unit {0}
PlainOperand F (IrOp.Float k) = ⊥
PlainOperand F (IrOp.Bool b) = Unit {0}
PlainOperand F (IrOp.Address v) = ⊥
PlainOperand F (IrOp.DataAddress k) = ⊥
PlainOperand F IrOp.Null = Unit {0}

-- of a long constant: P
abbrev pub Long : (ℕ → Type 0) → IrOp → Type 0
Long P (IrOp.Var v) = Unit {0}
Long P (IrOp.Int v true unsigned) = Unit {0}
Long P (IrOp.Int v false unsigned) = P v
Long P (IrOp.Float k) = Unit {0}
Long P (IrOp.Bool b) = Unit {0}
Long P (IrOp.Address v) = Unit {0}
Long P (IrOp.DataAddress k) = Unit {0}
Long P IrOp.Null = Unit {0}

-- in -2^31 to 2^31 - 1
abbrev pub Near : ℕ → Type 0
Near v = (v + 2 ^ 31) % W < 2 ^ 32

-- ---- instructions

abbrev pub PlainBinary : BinaryOp → VarId → IrOp → IrOp → Type 0
PlainBinary BinaryOp.Or d x y = ⊥
PlainBinary BinaryOp.And d x y = ⊥
PlainBinary BinaryOp.BitOr d x y = (width x ≡ bytes d.ty) × Long Near y
PlainBinary BinaryOp.BitXor d x y = (width x ≡ bytes d.ty) × Long Near y
PlainBinary BinaryOp.BitAnd d x y = (width x ≡ bytes d.ty) × Long Near y
PlainBinary BinaryOp.Eq d x y = bytes d.ty ≡ 1
PlainBinary BinaryOp.NotEq d x y = bytes d.ty ≡ 1
PlainBinary BinaryOp.Lt d x y = bytes d.ty ≡ 1
PlainBinary BinaryOp.Le d x y = bytes d.ty ≡ 1
PlainBinary BinaryOp.Gt d x y = bytes d.ty ≡ 1
PlainBinary BinaryOp.Ge d x y = bytes d.ty ≡ 1
PlainBinary BinaryOp.Shl d x y = width x ≡ bytes d.ty
PlainBinary BinaryOp.Shr d x y = width x ≡ bytes d.ty
PlainBinary BinaryOp.Add d x y = (width x ≡ bytes d.ty) × Long Near y
PlainBinary BinaryOp.Sub d x y = (width x ≡ bytes d.ty) × Long Near y
PlainBinary BinaryOp.Mul d x y = (width x ≡ bytes d.ty) × (bytes d.ty ≡ 1 → ⊥)
PlainBinary BinaryOp.Div d x y = width x ≡ bytes d.ty
PlainBinary BinaryOp.Rem d x y = (width x ≡ bytes d.ty) × (bytes d.ty ≡ 1 → ⊥)

-- a jump's label stands in the body
abbrev pub Stands : Function → ℕ → Type 0
Stands F l = steps.find l F.body < length F.body

abbrev pub PlainInstr : Function → Instr → Type 0
PlainInstr F (Instr.Copy d x) = Scalar F d × PlainOperand F x × (width x ≡ bytes d.ty)
PlainInstr F (Instr.Unary d op x) = Scalar F d × PlainOperand F x × (width x ≡ bytes d.ty)
PlainInstr F (Instr.Binary d op x y) =
    Scalar F d × PlainOperand F x × PlainOperand F y × (width x ≡ width y) × PlainBinary op d x y
PlainInstr F (Instr.Cast d x) = Scalar F d × PlainOperand F x × (bytes d.ty < 8 → Long FourBytes x)
PlainInstr F (Instr.Zero d) = Entry F d
PlainInstr F (Instr.Call d f count) = ⊥
PlainInstr F (Instr.Label l) = Unit {0}
PlainInstr F (Instr.Jump l) = Stands F l
PlainInstr F (Instr.JumpIfNot x l) = PlainOperand F x × (width x ≡ 1) × Stands F l
PlainInstr F (Instr.Return x) = PlainOperand F x
PlainInstr F Instr.Comment = Unit {0}

-- ---- from the test

plain_entry : (F : Function) (v : VarId) → is_entry F v ≡ true → Entry F v
plain_entry F v e =
    let h = both (ltb v.id (length F.vars)) (same_type v.ty (get_or F.vars v.id no_type) && is_plain_code v.ty.code) e in
    let g = both (same_type v.ty (get_or F.vars v.id no_type)) (is_plain_code v.ty.code) h.1 in
    record {
      there = ltb-true v.id (length F.vars) h.0;
      entry = ap bytes (sym (same_type_lem v.ty (get_or F.vars v.id no_type) g.0));
      sized = plain_size v.ty g.1;
    }

pub plain_scalar : (F : Function) (v : VarId) → is_scalar_var F v ≡ true → Scalar F v
plain_scalar F v e =
    let h = both (is_entry F v) (is_scalar v.ty) e in
    let g = both (ltb v.id (length F.vars)) (same_type v.ty (get_or F.vars v.id no_type) && is_plain_code v.ty.code) h.0 in
    record {
      at = plain_entry F v h.0;
      type = scalar_type v.ty h.1 (both (same_type v.ty (get_or F.vars v.id no_type)) (is_plain_code v.ty.code) g.1).1;
    }

plain_operand : (F : Function) (x : IrOp) → is_plain_operand F x ≡ true → PlainOperand F x
plain_operand F (IrOp.Var v) e = plain_scalar F v e
plain_operand F (IrOp.Int v true unsigned) e = ltb-true _ _ e
plain_operand F (IrOp.Int v false unsigned) e = tt
plain_operand F (IrOp.Float k) e = absurd (false≢true e)
plain_operand F (IrOp.Bool b) e = tt
plain_operand F (IrOp.Address v) e = absurd (false≢true e)
plain_operand F (IrOp.DataAddress k) e = absurd (false≢true e)
plain_operand F IrOp.Null e = tt

long : (f : ℕ → Bool) (P : ℕ → Type 0) → ((v : ℕ) → f v ≡ true → P v) → (x : IrOp) → long_constant f x ≡ true → Long P x
long f P h (IrOp.Var v) e = tt
long f P h (IrOp.Int v true unsigned) e = tt
long f P h (IrOp.Int v false unsigned) e = h v e
long f P h (IrOp.Float k) e = tt
long f P h (IrOp.Bool b) e = tt
long f P h (IrOp.Address v) e = tt
long f P h (IrOp.DataAddress k) e = tt
long f P h IrOp.Null e = tt

near : (y : IrOp) → long_constant is_small y ≡ true → Long Near y
near y e = long is_small Near (λ v q. ltb-true _ _ q) y e

bool_bytes : (ty : IrType) → is_bool_type ty ≡ true → bytes ty ≡ 1
unfolding bytes element_width
bool_bytes ty e =
    let h = both (eqb ty.code 7) (is_scalar ty) e in
    rw (h.1, eqb-true ty.code 7 h.0)

bool_width : (x : IrOp) → is_bool x ≡ true → width x ≡ 1
unfolding width
bool_width (IrOp.Var v) e = bool_bytes v.ty e
bool_width (IrOp.Int v short unsigned) e = absurd (false≢true e)
bool_width (IrOp.Float k) e = absurd (false≢true e)
bool_width (IrOp.Bool b) e = refl
bool_width (IrOp.Address v) e = absurd (false≢true e)
bool_width (IrOp.DataAddress k) e = absurd (false≢true e)
bool_width IrOp.Null e = absurd (false≢true e)

wide : (d : VarId) → not (is_one_byte d) ≡ true → bytes d.ty ≡ 1 → ⊥
wide d e = eqb-false (bytes d.ty) 1 (not-true _ e)

plain_binary : (op : BinaryOp) (d : VarId) (x y : IrOp) → is_plain_binary op d x y ≡ true → PlainBinary op d x y
unfolding is_plain_binary
plain_binary op d x y = go op
  where
    same : eqb (width x) (bytes d.ty) ≡ true → width x ≡ bytes d.ty
    same e = eqb-true (width x) (bytes d.ty) e

    small : (eqb (width x) (bytes d.ty) && long_constant is_small y) ≡ true → (width x ≡ bytes d.ty) × Long Near y
    small e = let h = both (eqb (width x) (bytes d.ty)) (long_constant is_small y) e in (same h.0, near y h.1)

    go : (op : BinaryOp) → is_plain_binary op d x y ≡ true → PlainBinary op d x y
    go BinaryOp.Or e = absurd (false≢true e)
    go BinaryOp.And e = absurd (false≢true e)
    go BinaryOp.BitOr e = small e
    go BinaryOp.BitXor e = small e
    go BinaryOp.BitAnd e = small e
    go BinaryOp.Eq e = bool_bytes d.ty e
    go BinaryOp.NotEq e = bool_bytes d.ty e
    go BinaryOp.Lt e = bool_bytes d.ty e
    go BinaryOp.Le e = bool_bytes d.ty e
    go BinaryOp.Gt e = bool_bytes d.ty e
    go BinaryOp.Ge e = bool_bytes d.ty e
    go BinaryOp.Shl e = same e
    go BinaryOp.Shr e = same e
    go BinaryOp.Add e = small e
    go BinaryOp.Sub e = small e
    go BinaryOp.Mul e = let h = both (eqb (width x) (bytes d.ty)) (not (is_one_byte d)) e in (same h.0, wide d h.1)
    go BinaryOp.Div e = same e
    go BinaryOp.Rem e = let h = both (eqb (width x) (bytes d.ty)) (not (is_one_byte d)) e in (same h.0, wide d h.1)

-- the logical pair is not plain
pub not_logical : (op : BinaryOp) (d : VarId) (x y : IrOp) → PlainBinary op d x y → is_logical op ≡ false
not_logical BinaryOp.Or d x y h = absurd h
not_logical BinaryOp.And d x y h = absurd h
not_logical BinaryOp.BitOr d x y h = refl
not_logical BinaryOp.BitXor d x y h = refl
not_logical BinaryOp.BitAnd d x y h = refl
not_logical BinaryOp.Eq d x y h = refl
not_logical BinaryOp.NotEq d x y h = refl
not_logical BinaryOp.Lt d x y h = refl
not_logical BinaryOp.Le d x y h = refl
not_logical BinaryOp.Gt d x y h = refl
not_logical BinaryOp.Ge d x y h = refl
not_logical BinaryOp.Shl d x y h = refl
not_logical BinaryOp.Shr d x y h = refl
not_logical BinaryOp.Add d x y h = refl
not_logical BinaryOp.Sub d x y h = refl
not_logical BinaryOp.Mul d x y h = refl
not_logical BinaryOp.Div d x y h = refl
not_logical BinaryOp.Rem d x y h = refl

stands : (l : ℕ) (ls : List Line) → 1 ≤ label_count l ls → steps.find l ls < length ls
unfolding label_count steps.find
stands l [] h = absurd (omega arith)
stands l (i ∷ is) h = go (is_label l i.instr) h (stands l is)
  where
    go : (b : Bool) → 1 ≤ cond b (suc (label_count l is)) (label_count l is) → (1 ≤ label_count l is → steps.find l is < length is)
        → cond b 0 (suc (steps.find l is)) < suc (length is)
    go true h f = omega arith
    go false h f = omega (arith, f h)

narrow : (d : VarId) (x : IrOp) → (leb 8 (bytes d.ty) || long_constant is_short x) ≡ true → bytes d.ty < 8 → Long FourBytes x
narrow d x e h = long is_short FourBytes (λ v q. ltb-true _ _ q) x (go (leb 8 (bytes d.ty)) refl e)
  where
    go : (b : Bool) → leb 8 (bytes d.ty) ≡ b → (b || long_constant is_short x) ≡ true → long_constant is_short x ≡ true
    go true q t = absurd (omega (arith, leb-true 8 (bytes d.ty) q))
    go false q t = t

-- an operand of dest's width
plain_move : (F : Function) (d : VarId) (x : IrOp) → (is_scalar_var F d && (is_plain_operand F x && eqb (width x) (bytes d.ty))) ≡ true
    → Scalar F d × PlainOperand F x × (width x ≡ bytes d.ty)
plain_move F d x e =
    let h = both (is_scalar_var F d) (is_plain_operand F x && eqb (width x) (bytes d.ty)) e in
    let g = both (is_plain_operand F x) (eqb (width x) (bytes d.ty)) h.1 in
    (plain_scalar F d h.0, plain_operand F x g.0, eqb-true (width x) (bytes d.ty) g.1)

pub plain_instr : (F : Function) (before : List Line) (i : Instr) → is_plain_instr F before i ≡ true → PlainInstr F i
unfolding is_plain_instr
plain_instr F before (Instr.Copy d x) e = plain_move F d x e
plain_instr F before (Instr.Unary d op x) e = plain_move F d x e
plain_instr F before (Instr.Binary d op x y) e =
    let h = both (is_scalar_var F d) (is_plain_operand F x && (is_plain_operand F y && (eqb (width x) (width y) && is_plain_binary op d x y))) e in
    let g = both (is_plain_operand F x) (is_plain_operand F y && (eqb (width x) (width y) && is_plain_binary op d x y)) h.1 in
    let f = both (is_plain_operand F y) (eqb (width x) (width y) && is_plain_binary op d x y) g.1 in
    let t = both (eqb (width x) (width y)) (is_plain_binary op d x y) f.1 in
    let b : PlainBinary op d x y = plain_binary op d x y t.1 in
    (plain_scalar F d h.0, plain_operand F x g.0, plain_operand F y f.0, eqb-true (width x) (width y) t.0, b)
plain_instr F before (Instr.Cast d x) e =
    let h = both (is_scalar_var F d) (is_plain_operand F x && is_plain_cast d x) e in
    let g = both (is_plain_operand F x) (is_plain_cast d x) h.1 in (
      plain_scalar F d h.0,
      plain_operand F x g.0,
      narrow d x (both
          (not (eqb (width x) 4 && eqb (bytes d.ty) 8) || (eqb d.ty.code 1 || eqb d.ty.code 2)) _ g.1).1,
    )
plain_instr F before (Instr.Zero d) e = plain_entry F d e
plain_instr F before (Instr.Call d f count) e = absurd (false≢true e)
plain_instr F before (Instr.Label l) e = tt
plain_instr F before (Instr.Jump l) e = stands l F.body (leb-true 1 (label_count l F.body) e)
plain_instr F before (Instr.JumpIfNot x l) e =
    let h = both (is_plain_operand F x) (is_bool x && leb 1 (label_count l F.body)) e in
    let g = both (is_bool x) (leb 1 (label_count l F.body)) h.1 in
    (plain_operand F x h.0, bool_width x g.0, stands l F.body (leb-true 1 (label_count l F.body) g.1))
plain_instr F before (Instr.Return x) e = plain_operand F x e
plain_instr F before Instr.Comment e = tt

-- ---- the whole function

abbrev pub Scalars : Function → List VarId → Type 0
Scalars F [] = Unit {0}
Scalars F (p ∷ ps) = Scalar F p × Scalars F ps

pub record Meant (F : Function) : Type 0 where
  pub params : Scalars F F.params
  pub ret : is_float F.ret ≡ false
  pub lines : (k : ℕ) (l : Line) (r : List Line) → drop k F.body ≡ l ∷ r → PlainInstr F l.instr

plain_params : (F : Function) (ps : List VarId) → every (is_scalar_var F) ps ≡ true → Scalars F ps
unfolding every
plain_params F [] e = tt
plain_params F (p ∷ ps) e = let h = both (is_scalar_var F p) (every (is_scalar_var F) ps) e in (plain_scalar F p h.0, plain_params F ps h.1)

plain_return : (ty : IrType) → is_plain_return ty ≡ true → is_float ty ≡ false
unfolding is_float
plain_return ty e =
    let h = both (is_scalar ty) (eqb ty.code 0 || (is_plain_code ty.code || eqb ty.code 12)) e in
    rw h.0 (go (eqb ty.code 0) refl h.1)
  where
    at : (k : ℕ) → eqb ty.code k ≡ true → (eqb k 5 || eqb k 6) ≡ false → (eqb ty.code 5 || eqb ty.code 6) ≡ false
    at k q t = ap (λ (c : ℕ). eqb c 5 || eqb c 6) (eqb-true ty.code k q) ∙ t

    more : (b : Bool) → is_plain_code ty.code ≡ b → (b || eqb ty.code 12) ≡ true → (eqb ty.code 5 || eqb ty.code 6) ≡ false
    more true q t = plain_code (λ k. (eqb k 5 || eqb k 6) ≡ false) ty.code q refl refl refl refl refl refl refl refl
    more false q t = at 12 t refl

    go : (b : Bool) → eqb ty.code 0 ≡ b → (b || (is_plain_code ty.code || eqb ty.code 12)) ≡ true → (eqb ty.code 5 || eqb ty.code 6) ≡ false
    go true q t = at 0 q refl
    go false q t = more (is_plain_code ty.code) refl t

plain_line : (F : Function) (before ls : List Line) (k : ℕ) (l : Line) (r : List Line) → is_plain_line F before ls k ≡ true → drop k ls ≡ l ∷ r
    → PlainInstr F l.instr
plain_line F before [] zero l r e d = absurd (cons_not_nil (sym d))
plain_line F before [] (suc k) l r e d = absurd (cons_not_nil (sym d))
plain_line F before (i ∷ is) zero l r e d =
    let h : i ≡ l = cc in
    subst (λ (j : Line). PlainInstr F j.instr) h (plain_instr F before i.instr e)
plain_line F before (i ∷ is) (suc k) l r e d = plain_line F (i ∷ before) is k l r e d

pub meant : (F : Function) → ((k : ℕ) → is_plain_at F k ≡ true) → Meant F
unfolding is_plain_at is_plain_head
meant F h =
    let a = both (every (λ t. is_plain_code t.code) F.vars) _ (h 0) in
    let b = both (is_plain_return F.ret) _ a.1 in
    record {
      params = plain_params F F.params (both (are_distinct F.params) _ b.1).1;
      ret = plain_return F.ret b.0;
      lines = λ k l r d. plain_line F [] F.body k l r (h (suc k)) d;
    }
