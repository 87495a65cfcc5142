-- A cast's parts, as the code holds them, are those of codegen's definitions.
use Prim.Native.Nat.{ℕ, ◌+◌, ◌≤◌}
use mathlib.Core.Path.{◌≡◌, refl, sym, ap, ◌∙◌}
use mathlib.Core.Bool.{Bool, true, false, cond, not, ◌&&◌}
use mathlib.Core.List.{List, [], ◌∷◌, ◌++◌, append_assoc}
use native.Mathlib.Omega.{arith}
use lib.Dec.{eqb}
use lib.ListN.{length, length-append}
use Rattle.std.specs.Prelude.{Option, Some, None, is_some}
use Rattle.std.specs.Int.{from_bool}
use Rattle.ir.specs.declared.VarId.{VarId}
use Rattle.ir.specs.declared.Operand.{Operand as IrOp}
use Rattle.ir.specs.Types.{Result, ok, refused, ◌>>=◌, type_size, is_float, is_unsigned, operand_size}
use Rattle.x86.specs.declared.enums.Size.{Size}
use Rattle.x86.specs.declared.enums.Operand.{Operand}
use Rattle.x86.specs.declared.enums.Instruction.{Instruction}
use Rattle.x86.specs.Registers.{RAX}
use Rattle.codegen.specs.Context.{Context}
use Rattle.codegen.specs.Utils.{size_from, convert_var, var_size, convert_operand, load_operand, load_value}
use Rattle.codegen.specs.Instructions as spec
use Rattle.codegen.specs.Instructions.{source, operand_kind, generate_copy, cast_operand, widened, cast_between, zero_extended, is_unsigned_short, is_copy, generate_cast}
use Rattle.utils.specs.declared.kinds.Kind.{Kind}
use Rattle.utils.specs.declared.slots.Slot.{Slot}
use Rattle.utils.specs.Slots.{look_slot, moved_of}
use Rattle.utils.specs.Sources.{source_of}
use Rattle.utils.proofs.Sources.{sized, last}
use Rattle.utils.proofs.Looked.{slot_looked}
use Rattle.instructions.proofs.Looked.{made_of}
use Rattle.casts.specs.declared.Source.{Source}
use Rattle.casts.specs.Casts.{is_byte, movzx, load_records, loaded, source_records, source_says, source_from, conversion_of, perhaps, store, is_copied, cast_of, cast_made}

-- ---- how many records they are

pub source_count : (s : Source)
    → (from_bool (is_some s.constant) + from_bool (is_byte s.kind) ≡ length (source_records s)) × (from_bool (is_some s.constant) + from_bool (is_byte s.kind) ≤ 2)
unfolding source_records
source_count s = go s.constant (is_byte s.kind) s.operand (movzx (loaded s.constant s.operand))
  where
    go : (z : Option Size) (b : Bool) (x : Operand) (i : Instruction)
        → (from_bool (is_some z) + from_bool b ≡ length (load_records z x ++ cond b (i ∷ []) [])) × (from_bool (is_some z) + from_bool b ≤ 2)
    go None true x i = (refl, omega arith)
    go None false x i = (refl, omega arith)
    go (Some z) true x i = (refl, omega arith)
    go (Some z) false x i = (refl, omega arith)

pub cast_length : (s : Source) (conversion : Option Instruction) (last : Instruction)
    → length (cast_of s conversion last) ≡ length (source_records s) + from_bool (is_some conversion) + 1
unfolding cast_of
cast_length s None last = length-append (source_records s) (last ∷ []) ∙ omega arith
cast_length s (Some i) last = length-append (source_records s) (i ∷ last ∷ []) ∙ omega arith

-- ---- codegen's lists by their look-ups

each : {A B : Type 0} (r : Result A) (f g : A → Result B) → ((a : A) → f a ≡ g a) → (r >>= f) ≡ (r >>= g)
each (ok a) f g e = e a
each (refused n) f g e = refl

-- what is stored to dest
slot_found : (ctx : Context) (dest : VarId) (f : Slot → List Instruction)
    → (convert_var ctx dest >>= λ var. var_size dest >>= λ size. ok (f (record { var = var; size = size }))) ≡ (look_slot ctx dest >>= λ t. ok (f t))
slot_found ctx dest f = slot_looked ctx dest f ∙ sym (last (look_slot ctx dest) f)

pub zero_extended_looked : (ctx : Context) (dest : VarId) (src : IrOp)
    → zero_extended ctx dest src ≡ (source_of ctx src >>= λ x. look_slot ctx dest >>= λ t. ok (moved_of x Size.U32 t))
unfolding zero_extended
zero_extended_looked ctx dest src =
    rw (sized ctx RAX src Size.U32 (λ z. refl)) (made_of (source_of ctx src) _ _ _ (λ x. slot_found ctx dest (moved_of x Size.U32)))

-- ---- the source

-- a kind as the code holds it
abbrev pub kind_of : spec.Kind → Kind
kind_of k = record { size = k.size; float = k.float; unsigned = k.unsigned }

-- an operand that is converted where it stands
in_place : (k : spec.Kind) (x : Operand) → widened k.float (source [] x k.size) ≡ source_says (record { operand = x; constant = None; kind = kind_of k })
unfolding source_records
in_place k x = go (not k.float && eqb k.size 1)
  where
    go : (b : Bool) → cond b (source (movzx x ∷ []) (Operand.Reg RAX) 8) (source [] x k.size)
        ≡ source (cond b (movzx x ∷ []) []) (cond b (Operand.Reg RAX) x) (cond b 8 k.size)
    go true = refl
    go false = refl

same_kind : {k q : spec.Kind} → ok q ≡ ok k → k ≡ q
same_kind e = let z = e in cc

source_found : (ctx : Context) (op : IrOp) (k : spec.Kind) (f : spec.Source → Result (List Instruction)) → operand_kind ctx op ≡ ok k
    → (cast_operand ctx op k.size >>= λ s. f (widened k.float s)) ≡ (convert_operand ctx op >>= λ x. f (source_says (source_from op (kind_of k) x)))
unfolding operand_kind operand_size cast_operand convert_operand load_operand load_value source_records
source_found ctx (IrOp.Var v) k f e = made_of (convert_var ctx v) _ _ _ (λ x. ap f (in_place k x))
source_found ctx (IrOp.Int n true unsigned) k f e = rw (same_kind e)
source_found ctx (IrOp.Int n false unsigned) k f e = rw (same_kind e)
source_found ctx (IrOp.Float i) k f e = made_of (convert_operand ctx (IrOp.Float i)) _ _ _ (λ x. ap f (in_place k x))
source_found ctx (IrOp.Bool b) k f e = rw (same_kind e)
source_found ctx (IrOp.Address v) k f e = refl
source_found ctx (IrOp.DataAddress d) k f e = refl
source_found ctx IrOp.Null k f e = ap f (in_place k (Operand.Imm 0))

-- ---- between the kinds

-- between integers there is a conversion or none
widened_by : (b : Bool) (is : List Instruction) (i j : Instruction) → (is ++ cond b [] (i ∷ []) ++ j ∷ []) ≡ is ++ (perhaps (cond b None (Some i)) ++ j ∷ [])
widened_by true is i j = append_assoc is [] (j ∷ [])
widened_by false is i j = append_assoc is (i ∷ []) (j ∷ [])

between_found : (ctx : Context) (dest : VarId) (s : Source) (n : ℕ) (unsigned : Bool)
    → cast_between ctx dest (source_says s) s.kind.float (is_float dest.ty) n
    ≡ (conversion_of s (kind_of (spec.kind n (is_float dest.ty) unsigned)) dest >>= λ conversion. look_slot ctx dest >>= λ t. ok (cast_of s conversion (store (is_float dest.ty) t)))
unfolding cast_between cast_of
between_found ctx dest s n unsigned = go s.kind.float (is_float dest.ty) refl refl
  where
    go : (a b : Bool) → s.kind.float ≡ a → is_float dest.ty ≡ b
        → cast_between ctx dest (source_says s) s.kind.float (is_float dest.ty) n
        ≡ (conversion_of s (kind_of (spec.kind n (is_float dest.ty) unsigned)) dest >>= λ conversion. look_slot ctx dest >>= λ t. ok (cast_of s conversion (store (is_float dest.ty) t)))
    go true true e f = rw (e, f) (rw f (slot_found ctx dest _))
    go false true e f = rw (e, f) (rw f (sym (made_of (size_from _) _ _ _ (λ z. sym (slot_found ctx dest _)))))
    go true false e f = rw (e, f) (rw f (sym (made_of (var_size dest) _ _ _ (λ z. sym (slot_found ctx dest _)))))
    go false false e f = rw (e, f) (slot_found ctx dest _ ∙ each (look_slot ctx dest) _ _ (λ t. ap ok (widened_by _ _ _ _)))

-- ---- the cast

pub cast_looked : (ctx : Context) (dest : VarId) (src : IrOp)
    → generate_cast ctx dest src
    ≡ (operand_kind ctx src >>= λ k. operand_kind ctx (IrOp.Var dest) >>= λ to.
    cond (is_copied (kind_of k) (kind_of to)) (generate_copy ctx dest src)
    (cond (not to.float && is_unsigned_short src) (zero_extended ctx dest src) (cast_made ctx dest src (kind_of k) (kind_of to))))
unfolding generate_cast is_copied operand_kind cast_made
cast_looked ctx dest src = go (operand_kind ctx src) refl (type_size dest.ty)
  where
    go : (r : Result spec.Kind) → operand_kind ctx src ≡ r → (z : Result ℕ)
        → (r >>= λ k. z >>= λ n. cond (is_copy k (is_float dest.ty) n) (generate_copy ctx dest src)
        (cond (not (is_float dest.ty) && is_unsigned_short src) (zero_extended ctx dest src)
        (cast_operand ctx src k.size >>= λ s. cast_between ctx dest (widened k.float s) k.float (is_float dest.ty) n)))
        ≡ (r >>= λ k. (z >>= λ n. ok (spec.kind n (is_float dest.ty) (is_unsigned dest.ty))) >>= λ to.
        cond (is_copy k to.float to.size) (generate_copy ctx dest src)
        (cond (not to.float && is_unsigned_short src) (zero_extended ctx dest src) (cast_made ctx dest src (kind_of k) (kind_of to))))
    go (ok k) e (ok n) =
        ap (λ (x : Result (List Instruction)). cond (is_copy k (is_float dest.ty) n) (generate_copy ctx dest src) (cond (not (is_float dest.ty) && is_unsigned_short src) (zero_extended ctx dest src) x))
        (source_found ctx src k (λ s. cast_between ctx dest s k.float (is_float dest.ty) n) e
        ∙ each (convert_operand ctx src) _ _ (λ x. between_found ctx dest (source_from src (kind_of k) x) n (is_unsigned dest.ty)))
    go (ok k) e (refused m) = refl
    go (refused m) e z = refl

-- ---- a cast of an unsigned short to eight bytes (M-105)

module _ (ctx : Context) (dest : VarId) (src : IrOp) where
  pub no_load : {n : ℕ} → source_of ctx src ≡ refused n → zero_extended ctx dest src ≡ refused n
  unfolding zero_extended
  no_load e = rw (sized ctx RAX src Size.U32 (λ z. refl), e)

  module _ {k : spec.Kind} (e : operand_kind ctx src ≡ ok k) {n : ℕ} (f : type_size dest.ty ≡ ok n) (g : is_copy k (is_float dest.ty) n ≡ false) where
    pub is_zero_extended : (not (is_float dest.ty) && is_unsigned_short src) ≡ true → generate_cast ctx dest src ≡ zero_extended ctx dest src
    unfolding generate_cast
    is_zero_extended z = rw (e, f, g, z)
