-- A load is made from its source, so that an instruction's list is made from what its look-ups find.
use Prim.Native.Nat.{ℕ}
use mathlib.Core.Path.{◌≡◌, refl}
use mathlib.Core.Bool.{Bool, true, false, cond}
use mathlib.Core.List.{List, [], ◌∷◌}
use denote.Enum.Declared.{tag_of}
use types.Run.{OneOf, miss}
use lib.Dec.{eqb, ltb}
use Rattle.cells.specs.Refusals.{no_entry, odd_width}
use Rattle.ir.specs.contracts.Operand as ir_operand
use Rattle.ir.specs.declared.VarId.{VarId}
use Rattle.ir.specs.declared.Operand.{Operand as IrOp}
use Rattle.ir.specs.Types.{Result, ok, refused, ◌>>=◌, type_size, operand_size}
use Rattle.x86.specs.declared.register.Register.{Register}
use Rattle.x86.specs.declared.enums.Size.{Size}
use Rattle.x86.specs.declared.enums.Operand.{Operand}
use Rattle.x86.specs.declared.enums.Instruction.{Instruction}
use Rattle.x86.specs.Registers.{rbp_plus, rip_string, rip_float}
use Rattle.codegen.specs.Context.{Context, displacement, string_at, float_at, float_short}
use Rattle.codegen.specs.Utils.{size_from, var_size, convert_var, convert_operand, size_or, own_size, load_from, load_string, load_value, load_operand}
use Rattle.codegen.proofs.Results.{Yields, never, yields, refuses, bind, any}
use Rattle.utils.specs.Sources.{source_of, float_size_of, own_size_of, is_string, load_of}
use Rattle.utils.specs.Makes.{listed, alone}

-- of an operand that is no string's address
pub not_data : (ctx : Context) (x : IrOp) → OneOf (0 ∷ 1 ∷ 2 ∷ 3 ∷ 4 ∷ 6 ∷ []) (tag_of ir_operand.the_type x) → convert_operand ctx x ≡ source_of ctx x
not_data ctx (IrOp.Var v) h = refl
not_data ctx (IrOp.Int n s u) h = refl
not_data ctx (IrOp.Float k) h = refl
not_data ctx (IrOp.Bool b) h = refl
not_data ctx (IrOp.Address v) h = refl
not_data ctx (IrOp.DataAddress k) h = absurd (miss (0 ∷ 1 ∷ 2 ∷ 3 ∷ 4 ∷ 6 ∷ []) 5 tt h)
not_data ctx IrOp.Null h = refl

-- ---- an operand's own size

-- of an operand that is no float constant
pub not_float : (ctx : Context) (x : IrOp) → OneOf (0 ∷ 1 ∷ 3 ∷ 4 ∷ 5 ∷ 6 ∷ []) (tag_of ir_operand.the_type x) → operand_size x ≡ own_size_of ctx x
not_float ctx (IrOp.Var v) h = refl
not_float ctx (IrOp.Int n s u) h = refl
not_float ctx (IrOp.Float k) h = absurd (miss (0 ∷ 1 ∷ 3 ∷ 4 ∷ 5 ∷ 6 ∷ []) 2 tt h)
not_float ctx (IrOp.Bool b) h = refl
not_float ctx (IrOp.Address v) h = refl
not_float ctx (IrOp.DataAddress k) h = refl
not_float ctx IrOp.Null h = refl

-- of an operand that has a source
pub own_found : (ctx : Context) (x : IrOp) {src : Operand} → source_of ctx x ≡ ok src → own_size_of ctx x ≡ own_size ctx x
unfolding own_size convert_operand float_at float_short
own_found ctx (IrOp.Var v) h = refl
own_found ctx (IrOp.Int n s u) h = refl
own_found ctx (IrOp.Float k) {src} h = go (ltb k ctx.tables.floats) h
  where
    go : (b : Bool) → (cond b (ok k) (refused no_entry) >>= λ f. ok (rip_float f)) ≡ ok src
        → float_size_of (cond b (ok (ctx.tables.short k)) (refused no_entry)) ≡ cond (ctx.tables.short k) Size.U32 Size.U64
    go true h = refl
    go false h = absurd (never h)
own_found ctx (IrOp.Bool b) h = refl
own_found ctx (IrOp.Address v) h = refl
own_found ctx (IrOp.DataAddress k) h = refl
own_found ctx IrOp.Null h = refl

-- ---- THE LADDER: a list that is made behind look-ups is made of what they find. A rung for each look-up, in the Rust's order

pub rung : {A B : Type 0} (r : Result A) (f : A → Result (List Instruction)) (g : A → Result B) (h : B → List Instruction)
    → ((a : A) → f a ≡ listed (g a) h) → (r >>= f) ≡ listed (r >>= g) h
rung (ok a) f g h e = e a
rung (refused n) f g h e = refl

-- .. of which something is known
pub rung_of : {A B : Type 0} {P : A → Type 0} (r : Result A) (f : A → Result (List Instruction)) (g : A → Result B) (h : B → List Instruction)
    → Yields r P → ((a : A) → P a → f a ≡ listed (g a) h) → (r >>= f) ≡ listed (r >>= g) h
rung_of (ok a) f g h y e = e a (y.of a refl)
rung_of (refused n) f g h y e = refl

-- the last rung, and one that is a load
pub last : {A : Type 0} (r : Result A) (h : A → List Instruction) → (r >>= λ a. ok (h a)) ≡ listed r h
last (ok a) h = refl
last (refused n) h = refl

pub last_load : (r : Result Operand) (load : Operand → Instruction) (h : Instruction → List Instruction)
    → ((r >>= λ src. ok (load src)) >>= λ i. ok (h i)) ≡ listed r (λ src. h (load src))
last_load (ok src) load h = refl
last_load (refused n) load h = refl

-- ---- a load's source

-- a size that is given
abbrev pub Given : Size → Type 0
Given z = (b : Size) → size_or z b ≡ z

pub sizes_given : (n : ℕ) → Yields (size_from n) Given
unfolding size_from
sizes_given n = go (eqb n 1) (eqb n 2) (eqb n 4) (eqb n 8)
  where
    go : (a b c d : Bool) → Yields (cond a (ok Size.U8) (cond b (ok Size.U16) (cond c (ok Size.U32) (cond d (ok Size.U64) (refused odd_width))))) Given
    go true b c d = yields (λ z. refl)
    go false true c d = yields (λ z. refl)
    go false false true d = yields (λ z. refl)
    go false false false true = yields (λ z. refl)
    go false false false false = refuses 6

pub var_given : (v : VarId) → Yields (var_size v) Given
unfolding var_size
var_given v = bind (any (type_size v.ty)) (λ n u. sizes_given n)

-- by the operand's own size where none is given
module _ (reg : Register) (z : Size) where
  no_string : (h : ℕ → Operand) → ((k : ℕ) → is_string (h k) ≡ false) → (r : Result ℕ)
      → ((r >>= λ k. ok (h k)) >>= λ src. ok (load_from reg src z)) ≡ ((r >>= λ k. ok (h k)) >>= λ src. ok (load_of reg src z))
  no_string h e (ok k) = rw (e k)
  no_string h e (refused n) = refl

  a_string : (r : Result ℕ) → (r >>= λ k. ok (Instruction.Lea (rip_string k) reg Size.NoSize)) ≡ ((r >>= λ k. ok (rip_string k)) >>= λ src. ok (load_of reg src z))
  a_string (ok k) = refl
  a_string (refused n) = refl

pub sourced : (ctx : Context) (reg : Register) (op : IrOp) (size : Size) → load_operand ctx reg op size ≡ (source_of ctx op >>= λ src. ok (load_of reg src (size_or size (own_size ctx op))))
unfolding load_operand load_value load_string convert_operand convert_var
sourced ctx reg (IrOp.Var v) size = no_string reg (size_or size (own_size ctx (IrOp.Var v))) rbp_plus (λ k. refl) (displacement ctx v.id)
sourced ctx reg (IrOp.Int n s u) size = refl
sourced ctx reg (IrOp.Float k) size = no_string reg (size_or size (own_size ctx (IrOp.Float k))) rip_float (λ k. refl) (float_at ctx k)
sourced ctx reg (IrOp.Bool b) size = refl
sourced ctx reg (IrOp.Address v) size = refl
sourced ctx reg (IrOp.DataAddress k) size = a_string reg (size_or size (own_size ctx (IrOp.DataAddress k))) (string_at ctx k)
sourced ctx reg IrOp.Null size = refl

pub sized : (ctx : Context) (reg : Register) (op : IrOp) (size : Size) → Given size → load_operand ctx reg op size ≡ (source_of ctx op >>= λ src. ok (load_of reg src size))
sized ctx reg op size h = rw (h (own_size ctx op)) at (sourced ctx reg op size)

-- .. that is a load of a size that is given
pub rung_load : {B : Type 0} (ctx : Context) (reg : Register) (op : IrOp) (z : Size) (f : Instruction → Result (List Instruction)) (g : Operand → Result B) (h : B → List Instruction)
    → Given z → ((x : Operand) → f (load_of reg x z) ≡ listed (g x) h) → (load_operand ctx reg op z >>= f) ≡ listed (source_of ctx op >>= g) h
rung_load ctx reg op z f g h s e = rw (sized ctx reg op z s) (go (source_of ctx op))
  where
    go : (r : Result Operand) → ((r >>= λ x. ok (load_of reg x z)) >>= f) ≡ listed (r >>= g) h
    go (ok x) = e x
    go (refused n) = refl

-- ---- a load alone, at the operand's own size

pub load_looked : (ctx : Context) (reg : Register) (op : IrOp) → alone (load_operand ctx reg op Size.NoSize) ≡ listed (source_of ctx op) (λ src. load_of reg src (own_size ctx op) ∷ [])
load_looked ctx reg op = rw (sourced ctx reg op Size.NoSize) (go (source_of ctx op))
  where
    go : (r : Result Operand) → alone (r >>= λ src. ok (load_of reg src (own_size ctx op))) ≡ listed r (λ src. load_of reg src (own_size ctx op) ∷ [])
    go (ok src) = refl
    go (refused n) = refl
