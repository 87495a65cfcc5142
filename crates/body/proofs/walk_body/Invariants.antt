use Prim.Native.Nat.{◌+◌, ◌-◌, ◌*◌}
use Rattle.cells.specs.Cells.{cell_at}
use Rattle.layout.specs.Layout.{instrs_check}
use Rattle.utils.specs.Answers.{held}
use Rattle.body.specs.Body.{body_of}
use Rattle.body.proofs.Running.{Walking}
use Rattle.body.proofs.walk_body.Given as goal

abbrev pub invariant-loop-i : goal.invariant-loop-i
invariant-loop-i l =
    Walking (held l.context) l.labels l.ret l.sheet (body_of (held l.context) l.sheet) (instrs_check l.sheet (cell_at l.sheet 5) l.initial.here) l.write (64 * l.first) l.initial.out
    (l.count - l.i) l.here (l.i + 1) l.made.records l.made.ret l.out
