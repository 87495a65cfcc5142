-- The list of `generate_unary`, made of what its look-ups find.
use mathlib.Core.Path.{◌≡◌, refl, sym, ◌∙◌}
use mathlib.Core.List.{[], ◌∷◌}
use mathlib.Core.Bool.{Bool, true, false, cond}
use Prim.Native.Nat.{ℕ}
use Rattle.ir.specs.declared.VarId.{VarId}
use Rattle.ir.specs.declared.Operand.{Operand as IrOp}
use Rattle.ir.specs.declared.UnaryOp.{UnaryOp as IrUnary}
use Rattle.ir.specs.Types.{refused, is_float}
use Rattle.x86.specs.declared.enums.Size.{Size}
use Rattle.x86.specs.Registers.{RAX}
use Rattle.codegen.specs.Context.{Context}
use Rattle.codegen.specs.Utils.{var_size, convert_var}
use Rattle.codegen.specs.Arithmetic.{unary_records, generate_unary}
use Rattle.utils.specs.Makes.{listed}
use Rattle.utils.proofs.Sources.{rung, rung_of, rung_load, var_given}
use Rattle.arithmetic.specs.Unary.{look_unary, is_negation, flips_sign, unary_record, changed_of, sign_of}

-- where a sign bit is flipped, and where not
flips : (op : IrUnary) (float : Bool) (z : Size) → cond (is_negation op) float false ≡ true → unary_records op float z ≡ unary_records IrUnary.Neg true z
flips IrUnary.Neg true z e = refl
flips IrUnary.Neg false z e = cc
flips IrUnary.BitNot float z e = cc
flips IrUnary.Not float z e = cc

keeps : (op : IrUnary) (float : Bool) (z : Size) → cond (is_negation op) float false ≡ false → unary_records op float z ≡ unary_record op z ∷ []
keeps IrUnary.Neg true z e = cc
keeps IrUnary.Neg false z e = refl
keeps IrUnary.BitNot float z e = refl
keeps IrUnary.Not float z e = refl

-- `b` is what the code found
module _ (ctx : Context) (dest : VarId) (op : IrUnary) (src : IrOp) {b : Bool} (f : b ≡ flips_sign op dest.ty) where
  pub sign_looked : b ≡ true → generate_unary ctx dest op src ≡ listed (look_unary ctx dest src) sign_of
  unfolding generate_unary
  sign_looked e =
      rung_of (var_size dest) _ _ _ (var_given dest)
      (λ z s. rung_load ctx RAX src z _ _ _ s (λ x. rung (convert_var ctx dest) _ _ _ (λ v. rw (flips op (is_float dest.ty) z (sym f ∙ e)))))

  pub unary_looked : b ≡ false → generate_unary ctx dest op src ≡ listed (look_unary ctx dest src) (λ t. changed_of (unary_record op t.dest.size) t)
  unfolding generate_unary
  unary_looked e =
      rung_of (var_size dest) _ _ _ (var_given dest)
      (λ z s. rung_load ctx RAX src z _ _ _ s (λ x. rung (convert_var ctx dest) _ _ _ (λ v. rw (keeps op (is_float dest.ty) z (sym f ∙ e)))))

pub refused_unary : (ctx : Context) (dest : VarId) (op : IrUnary) (src : IrOp) {n : ℕ} → look_unary ctx dest src ≡ refused n → generate_unary ctx dest op src ≡ refused n
refused_unary ctx dest op src {n} e = go (flips_sign op dest.ty) refl
  where
    go : (b : Bool) → b ≡ flips_sign op dest.ty → generate_unary ctx dest op src ≡ refused n
    go true f = rw e at (sign_looked ctx dest op src f refl)
    go false f = rw e at (unary_looked ctx dest op src f refl)
