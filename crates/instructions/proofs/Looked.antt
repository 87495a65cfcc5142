-- Each instruction's list, as codegen defines it, is made of what its look-ups find.
use Prim.Native.Nat.{ℕ}
use mathlib.Core.Path.{◌≡◌, refl}
use mathlib.Core.List.{[], ◌∷◌}
use Rattle.ir.specs.declared.«Type».{«Type» as IrType}
use Rattle.ir.specs.declared.VarId.{VarId}
use Rattle.ir.specs.declared.Operand.{Operand as IrOp}
use Rattle.ir.specs.Types.{Result, ok, refused, ◌>>=◌}
use Rattle.x86.specs.declared.enums.Size.{Size}
use Rattle.x86.specs.declared.enums.Operand.{Operand}
use Rattle.x86.specs.Registers.{RAX}
use Rattle.codegen.specs.Context.{Context, label_at}
use Rattle.codegen.specs.Utils.{convert_var, var_size, own_size, load_operand}
use Rattle.codegen.specs.Instructions.{move, func_epilogue, generate_return, generate_copy, generate_jmp_if_not}
use Rattle.codegen.proofs.Results.{Yields}
use Rattle.utils.specs.Slots.{look_slot, moved_of}
use Rattle.utils.specs.Sources.{source_of, own_size_of, load_of}
use Rattle.utils.proofs.Sources.{own_found, sourced, sized, var_given, Given}
use Rattle.instructions.specs.Looks.{return_register, return_of, branch_of}

-- what follows a value that is made of another follows that other
pub made_of : {A B C : Type 0} (r : Result A) (g : A → B) (f : B → Result C) (h : A → Result C) → ((a : A) → f (g a) ≡ h a)
    → ((r >>= λ a. ok (g a)) >>= f) ≡ (r >>= h)
made_of (ok a) g f h e = e a
made_of (refused n) g f h e = refl

pub return_looked : (ctx : Context) (ret : IrType) (op : IrOp)
    → generate_return ctx ret op ≡ (source_of ctx op >>= λ src. ok (return_of (return_register ret) src (own_size_of ctx op)))
unfolding generate_return
return_looked ctx ret op = rw (sourced ctx (return_register ret) op Size.NoSize) (go (source_of ctx op) refl)
  where
    go : (r : Result Operand) → source_of ctx op ≡ r
        → ((r >>= λ src. ok (load_of (return_register ret) src (own_size ctx op))) >>= λ load. ok (load ∷ func_epilogue))
        ≡ (r >>= λ src. ok (return_of (return_register ret) src (own_size_of ctx op)))
    go (ok src) e = rw (own_found ctx op e)
    go (refused n) e = refl

pub copy_looked : (ctx : Context) (dest : VarId) (src : IrOp)
    → generate_copy ctx dest src ≡ (look_slot ctx dest >>= λ t. source_of ctx src >>= λ x. ok (moved_of x t.size t))
unfolding generate_copy
copy_looked ctx dest src = go (convert_var ctx dest) (var_size dest) (var_given dest)
  where
    go : (v : Result Operand) (z : Result Size) → Yields z Given
        → (v >>= λ var. z >>= λ size. load_operand ctx RAX src size >>= λ load. ok (load ∷ move var (Operand.Reg RAX) size ∷ []))
        ≡ ((v >>= λ var. z >>= λ size. ok (record { var = var; size = size })) >>= λ t. source_of ctx src >>= λ x. ok (moved_of x t.size t))
    go (ok var) (ok size) y = rw (sized ctx RAX src size (y.of size refl)) (made_of (source_of ctx src) _ _ _ (λ x. refl))
    go (ok var) (refused n) y = refl
    go (refused n) z y = refl

pub branch_looked : (ctx : Context) (labels : ℕ) (condition : IrOp) (target : ℕ)
    → generate_jmp_if_not ctx labels condition target ≡ (source_of ctx condition >>= λ src. label_at labels target >>= λ label. ok (branch_of src label))
unfolding generate_jmp_if_not
branch_looked ctx labels condition target = rw (sized ctx RAX condition Size.U8 (λ z. refl)) (made_of (source_of ctx condition) _ _ _ (λ x. refl))
