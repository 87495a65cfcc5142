-- Auxiliary: how two operands are compared, what the look-ups find, and the records that are made of it. codegen's `comparison` is these, by
-- `looked` (proofs/Looks).
use Rattle.std.specs.Prelude.{Bool, true, false, cond, List, [], ◌∷◌, ◌++◌, eqb, Option, Some, None}
use Rattle.ir.specs.declared.VarId.{VarId}
use Rattle.ir.specs.declared.Operand.{Operand as IrOp}
use Rattle.ir.specs.Types.{Result, ok, ◌>>=◌}
use Rattle.x86.specs.declared.register.Register.{Register}
use Rattle.x86.specs.declared.enums.Operand.{Operand}
use Rattle.x86.specs.declared.enums.BinOp.{BinOp}
use Rattle.x86.specs.declared.enums.ConditionCode.{ConditionCode}
use Rattle.x86.specs.declared.enums.Instruction.{Instruction}
use Rattle.x86.specs.Registers.{xmm, RAX, RCX}
use Rattle.x86.specs.Records.{condition_code}
use Rattle.codegen.specs.Context.{Context}
use Rattle.codegen.specs.Utils.{size_from}
use Rattle.codegen.specs.Instructions.{move, operand_kind}
use Rattle.codegen.specs.Arithmetic.{unsigned_code, is_swapped, float_code, parity}
use Rattle.utils.specs.Slots.{look_slot}
use Rattle.utils.specs.Sources.{source_of, load_of}
use Rattle.comparisons.specs.declared.Parity.{Parity}
use Rattle.comparisons.specs.declared.Choice.{Choice}
use Rattle.comparisons.specs.declared.Compared.{Compared}

-- the parity flag, where it is asked, as records
abbrev pub parity_of : Option Parity → List Instruction
parity_of None = []
parity_of (Some p) = parity p.second p.join

-- equality of floats asks the parity flag too: codegen's `ordered`, by `parity_for_lem` (proofs/Looks)
abbrev pub parity_for : ConditionCode → Option Parity
parity_for cc =
    cond (eqb (condition_code cc) 0) (Some (record { second = ConditionCode.NP; join = BinOp.And }))
    (cond (eqb (condition_code cc) 1) (Some (record { second = ConditionCode.P; join = BinOp.Or })) None)

-- ---- how two operands are compared

-- a choice by its parts
abbrev pub choice : Register → IrOp → Register → IrOp → BinOp → ConditionCode → Option Parity → Choice
choice a left b right op cc more =
    record { left = left; left_register = a; right = right; right_register = b; op = op; cc = cc; parity = more }

-- two floats, in XMM0 and XMM1
abbrev pub float_choice : IrOp → IrOp → ConditionCode → Option Parity → Choice
float_choice left right cc more = choice (xmm 0) left (xmm 1) right BinOp.UcomiF cc more

-- by left's kind, a float or not, unsigned or not
unfoldable pub chosen : IrOp → IrOp → Bool → Bool → ConditionCode → Choice
chosen left right true unsigned cc = cond (is_swapped cc) (float_choice right left (float_code cc) None) (float_choice left right (float_code cc) (parity_for cc))
chosen left right false unsigned cc = choice RAX left RCX right BinOp.Cmp (cond unsigned (unsigned_code cc) cc) None

-- ---- look-ups and records

-- the look-ups, in the Rust's order: both sides as they were chosen, and dest last
abbrev pub look_compared : Context → VarId → IrOp → IrOp → ConditionCode → Result Compared
look_compared ctx dest left right cc = do
  k ← operand_kind ctx left
  size ← size_from k.size
  x ← source_of ctx (chosen left right k.float k.unsigned cc).left
  y ← source_of ctx (chosen left right k.float k.unsigned cc).right
  slot ← look_slot ctx dest
  ok (record { choice = chosen left right k.float k.unsigned cc; size = size; sides = record { left = x; right = y; dest = slot } })

-- both sides, the comparison, the flag, what the parity flag asks, and the store to dest
abbrev pub compared_of : Compared → List Instruction
compared_of t =
    load_of t.choice.left_register t.sides.left t.size ∷ load_of t.choice.right_register t.sides.right t.size
    ∷ Instruction.Binary t.choice.op (Operand.Reg t.choice.left_register) (Operand.Reg t.choice.right_register) t.size ∷ Instruction.SetCC t.choice.cc (Operand.Reg RAX)
    ∷ parity_of t.choice.parity ++ move t.sides.dest.var (Operand.Reg RAX) t.sides.dest.size ∷ []
