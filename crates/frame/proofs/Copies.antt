-- The loop over the parameters that are in excess: the copies of each.
use Prim.Native.Nat.{ℕ, suc, ◌≤◌}
use mathlib.Core.Path.{◌≡◌, refl, ap, ◌∙◌}
use mathlib.Core.List.{List, [], ◌∷◌, ◌++◌}
use native.Mathlib.Omega.{arith}
use lib.ListN.{length}
use Rattle.ir.specs.declared.VarId.{VarId}
use Rattle.ir.specs.Types.{Result, ok, refused, ◌>>=◌}
use Rattle.ir.specs.Function.{var_at, vars_at}
use Rattle.ir.proofs.Sheet.{vars_length}
use Rattle.x86.specs.declared.enums.Size.{Size}
use Rattle.x86.specs.declared.enums.Operand.{Operand}
use Rattle.x86.specs.declared.enums.Instruction.{Instruction}
use Rattle.codegen.specs.Context.{Context}
use Rattle.codegen.specs.Utils.{var_size, convert_var}
use Rattle.codegen.specs.Instructions.{excess}
use Rattle.codegen.specs.Frame.{copy_params, is_float_param}
use Rattle.codegen.proofs.Results.{Yields, yields, any, bind}
use Rattle.utils.specs.Makes.{listed, then}
use Rattle.utils.proofs.Sources.{rung}
use Rattle.codegen.proofs.Taken.{few_fit}
use Rattle.utils.proofs.Beyond.{Row}
use Rattle.frame.specs.Stores.{look_copied, copied_of, copy_one}
use Rattle.frame.proofs.Stores.{vars_placed}

-- ---- one parameter

pub copy_looked : (ctx : Context) (j : ℕ) (p : VarId) → copy_one ctx j p ≡ listed (look_copied ctx p) (copied_of j)
unfolding copy_one
copy_looked ctx j p = rung (var_size p) _ _ (copied_of j) (λ (size : Size). rung (convert_var ctx p) _ _ (copied_of j) (λ (var : Operand). refl))

-- ---- the parameters one after the other

module _ (ctx : Context) where
  no_more : (j : ℕ) → copy_params ctx j [] ≡ ok []
  unfolding copy_params
  no_more j = refl

  one_more_lem : (j : ℕ) (p : VarId) (ps : List VarId) → copy_params ctx j (p ∷ ps) ≡ then (copy_one ctx j p) (copy_params ctx (suc j) ps)
  unfolding copy_params copy_one
  one_more_lem j p ps = go (var_size p) (convert_var ctx p) (copy_params ctx (suc j) ps)
    where
      copies : Operand → Size → List Instruction
      copies var size = copied_of j (record { var = var; size = size })

      go : (a : Result Size) (b : Result Operand) (r : Result (List Instruction)) → (a >>= λ size. b >>= λ var. r >>= λ rest. ok (copies var size ++ rest))
          ≡ then (a >>= λ size. b >>= λ var. ok (copies var size)) r
      go (ok size) (ok var) (ok rest) = refl
      go (ok size) (ok var) (refused n) = refl
      go (ok size) (refused n) r = refl
      go (refused n) b r = refl

  two_records : (j : ℕ) (p : VarId) → Yields (copy_one ctx j p) (λ is. length is ≡ 2)
  unfolding copy_one
  two_records j p = bind (any (var_size p)) (λ size a. bind (any (convert_var ctx p)) (λ var b. yields refl))

  pub copying : (s : List ℕ) → Row is_float_param (copy_one ctx) (copy_params ctx) (var_at s) (vars_at s) 3
  copying s = record { none = no_more; more = one_more_lem; two = two_records; placed = vars_placed s }

  -- six come in registers
  pub none_copied : (s : List ℕ) (n from : ℕ) → n ≤ 6 → copy_params ctx 0 (excess is_float_param 0 0 (vars_at s n from)) ≡ ok []
  none_copied s n from h = ap (copy_params ctx 0) (few_fit is_float_param (vars_at s n from) (omega (arith, vars_length s n from))) ∙ no_more 0
