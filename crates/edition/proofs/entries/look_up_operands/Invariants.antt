use Rattle.std.proofs.Common.{◌≡◌, ◌+◌, ◌-◌, ◌*◌}
use Rattle.edition.specs.Editions.{operand_ids}
use Rattle.edition.specs.Answers.{looked_up}
use Rattle.edition.proofs.entries.look_up_operands.Given as goal

abbrev pub invariant-loop-i : goal.invariant-loop-i
invariant-loop-i l =
    looked_up l.e l.sheet.bytes.now (operand_ids l.sheet.bytes.now (l.n - l.i) (l.k + 4 * l.i))
    ≡ looked_up l.e l.sheet.bytes.now (operand_ids l.sheet.bytes.now l.n l.k)
