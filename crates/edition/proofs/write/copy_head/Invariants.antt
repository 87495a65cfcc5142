use Rattle.std.proofs.Common.{◌*◌, []}
use Rattle.cells.specs.Cells.{cells_from}
use Rattle.edition.proofs.Written.{Writing}
use Rattle.edition.proofs.write.copy_head.Given as goal

abbrev pub invariant-loop-i : goal.invariant-loop-i
invariant-loop-i l = Writing l.s (λ m k. []) (λ m k. cells_from l.s k m) l.n 0 l.i l.i (8 * l.i) l.out
