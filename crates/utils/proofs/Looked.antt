-- THE LAWS of a slot's look-up: a list that is made behind it is made of what it finds.
use Prim.Native.Nat.{ℕ}
use mathlib.Core.Path.{◌≡◌, refl, sym}
use mathlib.Core.List.{List}
use Rattle.ir.specs.declared.VarId.{VarId}
use Rattle.ir.specs.Types.{Result, ok, refused, ◌>>=◌}
use Rattle.x86.specs.declared.enums.Size.{Size}
use Rattle.x86.specs.declared.enums.Operand.{Operand}
use Rattle.x86.specs.declared.enums.Instruction.{Instruction}
use Rattle.codegen.proofs.Results.{never}
use Rattle.codegen.specs.Context.{Context}
use Rattle.codegen.specs.Utils.{var_size, convert_var}
use Rattle.utils.specs.declared.slots.Slot.{Slot}
use Rattle.utils.specs.Slots.{look_slot}
use Rattle.utils.specs.Makes.{listed}
use Rattle.utils.proofs.Sources.{rung}

pub slot_looked : (ctx : Context) (v : VarId) (f : Slot → List Instruction)
    → (convert_var ctx v >>= λ var. var_size v >>= λ size. ok (f (record { var = var; size = size }))) ≡ listed (look_slot ctx v) f
slot_looked ctx v f = rung (convert_var ctx v) _ _ f (λ (var : Operand). rung (var_size v) _ _ f (λ (size : Size). refl))

-- .. where the slot is known before the rest is looked up
abbrev found : Operand → Size → Result Slot
found var size = ok (record { var = var; size = size })

module _ (ctx : Context) (v : VarId) where
  pub slot_var : {t : Slot} → look_slot ctx v ≡ ok t → convert_var ctx v ≡ ok t.var
  slot_var {t} e = go (convert_var ctx v) (var_size v) e
    where
      go : (r : Result Operand) (z : Result Size) → (r >>= λ var. z >>= found var) ≡ ok t → r ≡ ok t.var
      go (ok var) (ok size) e = cc
      go (ok var) (refused n) e = absurd (never e)
      go (refused n) z e = absurd (never e)

  pub slot_size : {t : Slot} → look_slot ctx v ≡ ok t → var_size v ≡ ok t.size
  slot_size {t} e = go (var_size v) (rw (slot_var e) at e)
    where
      go : (z : Result Size) → (z >>= found t.var) ≡ ok t → z ≡ ok t.size
      go (ok size) e = cc
      go (refused n) e = absurd (never e)

  pub slot_refused : {n : ℕ} (f : Operand → Size → Result (List Instruction)) → look_slot ctx v ≡ refused n → (convert_var ctx v >>= λ var. var_size v >>= f var) ≡ refused n
  slot_refused {n} f e = go (convert_var ctx v) (var_size v) e
    where
      go : (r : Result Operand) (z : Result Size) → (r >>= λ var. z >>= found var) ≡ refused n → (r >>= λ var. z >>= f var) ≡ refused n
      go (ok var) (ok size) e = absurd (never (sym e))
      go (ok var) (refused m) e = cc
      go (refused m) z e = cc
