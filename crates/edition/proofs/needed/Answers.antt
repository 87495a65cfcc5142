use Rattle.std.proofs.Common.{arith}
use Rattle.layout.proofs.Walk.{has_head, has_header}
use Rattle.edition.proofs.Sheets.{cells_is}
use Rattle.edition.proofs.needed.Goals as goal

pub cell_at-params-requires : goal.cell_at-params-requires
cell_at-params-requires c = omega (arith, has_header c.requires)

pub overflow_mul-result : goal.overflow_mul-result
overflow_mul-result c = omega (arith, c.cell_at-params.ensures, (has_head c.requires).params)

pub overflow_sub-result : goal.overflow_sub-result
overflow_sub-result c =
    let a = c.args in
    omega (arith, rw c.in-First.is at (cells_is a.e a.e a.s.now c.requires), c.cell_at-params.ensures)

pub overflow_mul-result-in-Second : goal.overflow_mul-result-in-Second
overflow_mul-result-in-Second c = omega (arith, c.cell_at-params.ensures, (has_head c.requires).params)

pub overflow_add-result : goal.overflow_add-result
overflow_add-result c = omega (arith, c.cell_at-params.ensures, (has_head c.requires).params)
