-- The operations' lists, made of what their look-ups find; and the records of two loads, put around what stands between them and the store.
use Prim.Native.Nat.{ℕ, ◌+◌, ◌*◌, ◌≤◌}
use mathlib.Core.Path.{◌≡◌, refl}
use mathlib.Core.List.{List, [], ◌∷◌, ◌++◌}
use mathlib.Core.Bool.{true, false}
use native.Mathlib.Omega.{arith}
use lib.ListN.{length, length-append}
use Rattle.cells.specs.Cells.{write}
use Rattle.ir.specs.declared.VarId.{VarId}
use Rattle.ir.specs.declared.Operand.{Operand as IrOp}
use Rattle.x86.specs.declared.register.Register.{Register}
use Rattle.x86.specs.declared.enums.Size.{Size}
use Rattle.x86.specs.declared.enums.Operand.{Operand}
use Rattle.x86.specs.declared.enums.BinOp.{BinOp}
use Rattle.x86.specs.declared.enums.Instruction.{Instruction}
use Rattle.x86.specs.Registers.{RAX, RCX}
use Rattle.x86.specs.Records.{record_of, record_bytes, list_bytes}
use Rattle.x86.proofs.Lists.{Puts, done, first, puts, both, wrote_length}
use Rattle.codegen.specs.Context.{Context}
use Rattle.codegen.specs.Utils.{var_size, convert_var, convert_operand}
use Rattle.codegen.specs.Instructions.{move}
use Rattle.codegen.specs.Arithmetic.{two_loads}
use Rattle.utils.specs.declared.slots.Sides.{Sides}
use Rattle.utils.specs.Makes.{listed}
use Rattle.utils.specs.Sources.{source_of}
use Rattle.utils.proofs.Sources.{rung, rung_of, rung_load, var_given}
use Rattle.operations.specs.declared.Middle.{Middle}
use Rattle.operations.specs.Loads.{one_load, look_sides, one_load_of, middle_of, middle_count, two_loads_of}

module _ (ctx : Context) (dest : VarId) (left right : IrOp) where
  pub one_looked : (reg : Register) (op storing : BinOp)
      → one_load ctx dest left right reg op storing ≡ listed (look_sides ctx dest left (convert_operand ctx right)) (one_load_of reg op storing)
  one_looked reg op storing =
      rung_of (var_size dest) _ _ _ (var_given dest)
      (λ z s. rung_load ctx reg left z _ _ _ s (λ x. rung (convert_operand ctx right) _ _ _ (λ y. rung (convert_var ctx dest) _ _ _ (λ v. refl))))

  pub two_looked : (operation : Size → List Instruction) (result : Register)
      → two_loads ctx dest left right operation result ≡ listed (look_sides ctx dest left (source_of ctx right)) (two_loads_of operation result)
  unfolding two_loads
  two_looked operation result =
      rung_of (var_size dest) _ _ _ (var_given dest)
      (λ z s. rung_load ctx RAX left z _ _ _ s (λ x. rung_load ctx RCX right z _ _ _ s (λ y. rung (convert_var ctx dest) _ _ _ (λ v. refl))))

-- ---- two loads, what stands between them and the store, and the store

middle_number : (middle : Middle) (size : Size) → length (middle_of middle size) ≡ middle_count middle
middle_number Middle.Multiply size = refl
middle_number (Middle.Shift op) size = refl
middle_number (Middle.Divide true) size = refl
middle_number (Middle.Divide false) size = refl

pub number : (middle : Middle) (result : Register) (t : Sides) → middle_count middle + 3 ≡ length (two_loads_of (middle_of middle) result t)
number middle result t =
    omega (arith, middle_number middle t.dest.size, length-append (middle_of middle t.dest.size) (move t.dest.var (Operand.Reg result) t.dest.size ∷ []))

-- the two loads are put, what stands between from their end on, and a record from the end of that on
pub between : (middle : Middle) (size : Size) (m : Instruction) {at behind : ℕ} {s t u v : List ℕ} {a b : Instruction} → Puts at 0 s (a ∷ b ∷ []) t
    → u ≡ write t (at + 128) (list_bytes (middle_of middle size)) → v ≡ write u (at + behind) (record_bytes (record_of m)) → behind ≡ 128 + 64 * middle_count middle
    → at + 64 * (middle_count middle + 3) ≤ length s → v ≡ write s at (list_bytes (a ∷ b ∷ middle_of middle size ++ m ∷ []))
between middle size m {at} {behind} {s} {t} {u} {v} {a} {b} p e f q h =
    let n = middle_number middle size in
    let x = puts p (omega arith) in
    let l = wrote_length s t at (a ∷ b ∷ []) x (omega arith) in
    let k = wrote_length t u (at + 128) (middle_of middle size) e (omega arith) in
    both s t v at (at + 128) (a ∷ b ∷ []) (middle_of middle size ++ m ∷ []) x
    (both t u v (at + 128) (at + behind) (middle_of middle size) (m ∷ []) e (puts (first f done) (omega arith)) (omega arith) (omega arith))
    (omega arith) (omega (arith, length-append (middle_of middle size) (m ∷ [])))
