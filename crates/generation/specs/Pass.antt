-- Auxiliary: the list of a function, part by part, of the offsets and the frame that are lent; equal to codegen's `generate` by `generated` (proofs/Lowering).
use Rattle.std.specs.Prelude.{ℕ, List, [], ◌++◌, Bool, true, false}
use Rattle.cells.specs.Cells.{cell_at}
use Rattle.ir.specs.Function.{vars_at, params_from}
use Rattle.x86.specs.declared.enums.Instruction.{Instruction}
use Rattle.codegen.specs.Instructions.{func_epilogue}
use Rattle.codegen.specs.Frame.{func_prologue}
use Rattle.codegen.specs.Generation.{Outcome, accepted, ◌>>=◌, at, with_epilogue}
use Rattle.codegen.specs.Context.{Context}
use Rattle.body.specs.Body.{body_of}

-- It is the prologue, the body, and the epilogue unless the last record is Ret.
unfoldable pub list_of : Context → ℕ → List ℕ → Outcome (List Instruction)
list_of ctx bytes s = do
  prologue ← at 0 (func_prologue ctx bytes (vars_at s (cell_at s 1) (params_from s)))
  body ← body_of ctx s
  accepted (with_epilogue (prologue ++ body))

-- This is the epilogue, which is left out where the last record is Ret.
abbrev pub ending : Bool → List Instruction
ending true = []
ending false = func_epilogue
