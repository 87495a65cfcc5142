-- Auxiliary: the parts of an instruction that the code holds by its first cell (docs/FORMAT.md, "Instructions").
use Rattle.std.specs.Prelude.{ℕ, ◌+◌}
use Rattle.cells.specs.Cells.{cell_at}
use Rattle.ir.specs.declared.VarId.{VarId}
use Rattle.ir.specs.declared.Operand.{Operand}
use Rattle.ir.specs.declared.lines.Line.{Line}
use Rattle.ir.specs.Function.{var_at, operand_at}

abbrev pub kind_of : Line → ℕ
kind_of l = cell_at l.sheet.now l.at

abbrev pub operation_of : Line → ℕ
operation_of l = cell_at l.sheet.now (l.at + 1)

abbrev pub dest_of : Line → VarId
dest_of l = var_at l.sheet.now (l.at + 2)

abbrev pub left_of : Line → Operand
left_of l = operand_at l.sheet.now (l.at + 5)

abbrev pub right_of : Line → Operand
right_of l = operand_at l.sheet.now (l.at + 9)
