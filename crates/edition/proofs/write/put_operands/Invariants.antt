use Rattle.std.proofs.Common.{◌+◌, ◌*◌}
use Rattle.edition.specs.Editions.{operand_ids, operands_cells}
use Rattle.edition.proofs.Written.{Writing}
use Rattle.edition.proofs.write.put_operands.Given as goal

abbrev pub invariant-loop-i : goal.invariant-loop-i
invariant-loop-i l =
    let s = l.sheet.bytes.now in
    Writing s (operand_ids s) (operands_cells l.f s) l.n l.k l.i (l.k + 4 * l.i) (32 * l.i) l.out
