use mathlib.Core.Path.{sym}
use native.Mathlib.Omega.{arith}
use Rattle.layout.proofs.Laws.{head_header, head_vars, head_types}
use Rattle.generation.proofs.pass.open_sheet.Goals as goal

pub cell_at-requires : goal.cell_at-requires
cell_at-requires c = omega (arith, head_header _ (sym c.in_ok-from.ensures))

pub var_offsets-total-requires-clause-n_le_most_variables : goal.var_offsets-total-requires-clause-n_le_most_variables
var_offsets-total-requires-clause-n_le_most_variables c = rw c.cell_at.ensures (head_vars _ (sym c.in_ok-from.ensures))

pub var_offsets-total-requires-clause-from_value : goal.var_offsets-total-requires-clause-from_value
var_offsets-total-requires-clause-from_value c = rw c.cell_at.ensures (head_types _ (sym c.in_ok-from.ensures))
