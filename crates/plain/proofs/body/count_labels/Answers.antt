use Rattle.layout.proofs.Walk.{has_header, has_params}
use Rattle.plain.proofs.Counting.{line_there, room_left, none_counted, one_counted, all_counted}
use Rattle.std.proofs.Common.{arith}
use Rattle.plain.proofs.body.count_labels.Goals as goal

pub body_from-cell-requires : goal.body_from-cell-requires
body_from-cell-requires c = has_params c.requires

pub cell_at-end-requires : goal.cell_at-end-requires
cell_at-end-requires c = omega (arith, has_header c.requires)

pub loop-init : goal.loop-init
loop-init c = rw c.body_from-cell.ensures (none_counted c.requires)

pub instr_at-requires : goal.instr_at-requires
instr_at-requires c = (line_there c.loop.invariant.walked (omega arith)).0

pub count_label-requires : goal.count_label-requires
count_label-requires c = room_left c.loop.invariant.walked (omega arith) c.requires

pub behind-cell-requires : goal.behind-cell-requires
behind-cell-requires c = (line_there c.loop.invariant.walked (omega arith)).1

pub loop-preserved : goal.loop-preserved
loop-preserved c = rw (c.behind-cell.ensures, c.count_label.ensures, c.instr_at.ensures) (one_counted c.loop.invariant (omega arith))

pub returns : goal.returns
returns c = all_counted c.loop.invariant (omega arith)
