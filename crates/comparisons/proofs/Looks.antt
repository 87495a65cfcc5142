-- A comparison's list, made of what its look-ups find.
use Prim.Native.Nat.{◌+◌}
use mathlib.Core.Path.{◌≡◌, refl, ◌∙◌}
use mathlib.Core.List.{List, [], ◌∷◌}
use mathlib.Core.Bool.{Bool, true, false, cond}
use native.Mathlib.Omega.{arith}
use lib.Dec.{eqb}
use lib.ListN.{length, length-append}
use Rattle.std.specs.Prelude.{Some, None}
use Rattle.ir.specs.declared.VarId.{VarId}
use Rattle.ir.specs.declared.Operand.{Operand as IrOp}
use Rattle.ir.specs.Types.{Result, ok, refused, ◌>>=◌}
use Rattle.x86.specs.declared.enums.Size.{Size}
use Rattle.x86.specs.declared.enums.Operand.{Operand}
use Rattle.x86.specs.declared.enums.BinOp.{BinOp}
use Rattle.x86.specs.declared.enums.ConditionCode.{ConditionCode}
use Rattle.x86.specs.declared.enums.Instruction.{Instruction}
use Rattle.x86.specs.Registers.{xmm, RAX, RCX}
use Rattle.x86.specs.Records.{condition_code}
use Rattle.codegen.specs.Context.{Context}
use Rattle.codegen.specs.Utils.{size_from, var_size, convert_var}
use Rattle.codegen.specs.Instructions.{move, operand_kind}
use Rattle.codegen.specs.Arithmetic.{unsigned_code, is_swapped, float_code, parity, ordered, compared, float_comparison, comparison}
use Rattle.utils.specs.declared.slots.Slot.{Slot}
use Rattle.utils.specs.Slots.{look_slot}
use Rattle.utils.specs.Makes.{listed}
use Rattle.utils.proofs.Sources.{rung, rung_of, rung_load, sizes_given}
use Rattle.utils.proofs.Looked.{slot_looked}
use Rattle.comparisons.specs.declared.Choice.{Choice}
use Rattle.comparisons.specs.declared.Compared.{Compared}
use Rattle.comparisons.specs.Looks.{parity_of, parity_for, float_choice, chosen, look_compared, compared_of}

-- the number of the records
pub number : (t : Compared) → length (parity_of t.choice.parity) + 5 ≡ length (compared_of t)
number t = omega (arith, length-append (parity_of t.choice.parity) (move t.sides.dest.var (Operand.Reg RAX) t.sides.dest.size ∷ []))

parity_for_lem : (cc : ConditionCode) → parity_of (parity_for cc) ≡ ordered cc
parity_for_lem cc = go (eqb (condition_code cc) 0) (eqb (condition_code cc) 1)
  where
    go : (a b : Bool)
        → parity_of (cond a (Some (record { second = ConditionCode.NP; join = BinOp.And })) (cond b (Some (record { second = ConditionCode.P; join = BinOp.Or })) None))
        ≡ cond a (parity ConditionCode.NP BinOp.And) (cond b (parity ConditionCode.P BinOp.Or) [])
    go true b = refl
    go false true = refl
    go false false = refl

-- codegen's `compared` as it was chosen
abbrev compared_by : Context → VarId → Size → Choice → Result (List Instruction)
compared_by ctx dest size t = compared ctx dest t.left_register t.left t.right_register t.right size t.op t.cc (parity_of t.parity)

module _ (ctx : Context) (dest : VarId) (left right : IrOp) (cc : ConditionCode) where
  by_kind : (size : Size) (f u : Bool)
      → cond f (float_comparison ctx dest left right size cc) (compared ctx dest RAX left RCX right size BinOp.Cmp (cond u (unsigned_code cc) cc) [])
      ≡ compared_by ctx dest size (chosen left right f u cc)
  unfolding float_comparison chosen
  by_kind size false u = refl
  by_kind size true u = rw (← parity_for_lem cc) (go (is_swapped cc))
    where
      go : (b : Bool)
          → cond b (compared ctx dest (xmm 0) right (xmm 1) left size BinOp.UcomiF (float_code cc) [])
          (compared ctx dest (xmm 0) left (xmm 1) right size BinOp.UcomiF (float_code cc) (parity_of (parity_for cc)))
          ≡ compared_by ctx dest size (cond b (float_choice right left (float_code cc) None) (float_choice left right (float_code cc) (parity_for cc)))
      go true = refl
      go false = refl

-- dest's slot is looked up last
rung_slot : {B : Type 0} (ctx : Context) (v : VarId) (g : Slot → B) (h : B → List Instruction)
    → (convert_var ctx v >>= λ var. var_size v >>= λ size. ok (h (g (record { var = var; size = size })))) ≡ listed (look_slot ctx v >>= λ t. ok (g t)) h
rung_slot {B} ctx v g h = slot_looked ctx v (λ t. h (g t)) ∙ go (look_slot ctx v)
  where
    go : (r : Result Slot) → listed r (λ t. h (g t)) ≡ listed (r >>= λ t. ok (g t)) h
    go (ok t) = refl
    go (refused n) = refl

pub looked : (ctx : Context) (dest : VarId) (left right : IrOp) (cc : ConditionCode)
    → comparison ctx dest left right cc ≡ listed (look_compared ctx dest left right cc) compared_of
unfolding comparison compared
looked ctx dest left right cc =
    rung (operand_kind ctx left) _ _ _ (λ k. rung_of (size_from k.size) _ _ _ (sizes_given k.size) (λ size g.
    let t = chosen left right k.float k.unsigned cc in
    by_kind ctx dest left right cc size k.float k.unsigned
    ∙ rung_load ctx t.left_register t.left size _ _ _ g (λ x. rung_load ctx t.right_register t.right size _ _ _ g (λ y.
    rung_slot ctx dest (λ slot. record { choice = t; size = size; sides = record { left = x; right = y; dest = slot } }) compared_of))))
