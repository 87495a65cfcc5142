-- Auxiliary: a variable that is stored to. What its look-ups find is made into codegen's lists by `slot_looked` (proofs/Looked).
use Rattle.std.specs.Prelude.{List, [], ◌∷◌}
use Rattle.ir.specs.declared.VarId.{VarId}
use Rattle.ir.specs.Types.{Result, ok, ◌>>=◌}
use Rattle.x86.specs.declared.enums.Size.{Size}
use Rattle.x86.specs.declared.enums.Operand.{Operand}
use Rattle.x86.specs.declared.enums.Instruction.{Instruction}
use Rattle.x86.specs.Registers.{RAX}
use Rattle.codegen.specs.Context.{Context}
use Rattle.codegen.specs.Utils.{var_size, convert_var}
use Rattle.codegen.specs.Instructions.{move}
use Rattle.utils.specs.declared.slots.Slot.{Slot}
use Rattle.utils.specs.Sources.{load_of}

-- its slot, then its size
abbrev pub look_slot : Context → VarId → Result Slot
look_slot ctx v = do
  var ← convert_var ctx v
  size ← var_size v
  ok (record { var = var; size = size })

-- a source is loaded by a size, and RAX is stored to a slot
abbrev pub moved_of : Operand → Size → Slot → List Instruction
moved_of src by t = load_of RAX src by ∷ move t.var (Operand.Reg RAX) t.size ∷ []
